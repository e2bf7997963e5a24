use Rattle.std.proofs.Common.{false, refl, sym, true, ◌∙◌}
use Rattle.mc_boot.specs.Plan.{opening_writes, preparation_writes, resumed_list, swap_list}
use Rattle.mc_flash.specs.declared.op.Slot.TheVariants.{Primary, Secondary}
use Rattle.mc_boot.proofs.{CourseJoins.{opening_harmless, writes_opening, writes_preparation}, Sections.{opening_is, preparation_is}}
use Rattle.mc_boot.proofs.kept_operations.harmless_opening_len.Goals as goal

pub returns-then-is_revert : goal.returns-then-is_revert
returns-then-is_revert c =
    let s = c.args.course.now in
    let ok = c.unit-unit.ensures.valid in
    opening_harmless s c.args.kind c.args.size _ Secondary (preparation_writes s.grain s.layout c.args.size) (swap_list s.grain s.layout c.args.kind c.args.size s.sectors) ok c.requires
    (rw (sym c.is_revert.ensures ∙ c.if-is_revert.true) refl) (writes_preparation s.grain s.layout c.args.size ok)
    (rw (c.len_of.ensures, c.preparation.ensures) (rw (preparation_is s.grain s.layout s.sectors c.args.size) refl))

pub returns-else-is_revert : goal.returns-else-is_revert
returns-else-is_revert c =
    let s = c.args.course.now in
    let ok = c.unit-unit.ensures.valid in
    opening_harmless s c.args.kind c.args.size _ Primary (opening_writes s.grain s.layout c.args.kind c.args.size) (resumed_list s.layout s.sectors 0 true false) ok c.requires
    (rw (sym c.is_revert.ensures ∙ c.if-is_revert.false) refl) (writes_opening s.grain s.layout c.args.kind c.args.size ok)
    (rw (c.len_of-else-is_revert.ensures, c.swap.ensures) (rw (opening_is s.grain s.layout s.sectors c.args.kind c.args.size) refl))
