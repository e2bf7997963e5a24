use Rattle.std.proofs.Common.{Some, slice_get, subst, sym, true, ◌<◌, ◌≡◌, ◌∙◌}
use Rattle.mc_boot.proofs.Twins.{copy_twin, erase_twin}
use Rattle.mc_boot.specs.{Boot.{Progress, progress, to_come}, Twins.{ErasesFirst}, inner.Idle.{changes_nothing}}
use Rattle.mc_flash.specs.{Flash.{sectors_of}, Geometry.{Geometry, IsLayout}, declared.op.Op.TheVariants.{Copy, Erase}}
use Rattle.mc_boot.proofs.twin.has_twin.Goals as goal

pub returns-in-Some-Copy : goal.returns-in-Some-Copy
returns-in-Some-Copy g c = λ x layout sized come early start is.
    let a = c.in-Some-Copy in
    let here = c.layout-layout.ensures ∙ sym layout in
    let ok : IsLayout x.geometry = subst IsLayout here c.unit-unit.ensures.valid in
    let next : slice_get (to_come c.args.cut.now) 0 ≡ Some (Copy a.field-0-0 a.field-0-1 a.to a.offset a.len) = cc in
    let erases = subst (λ (p : Progress). ErasesFirst x.geometry p.to_come a.to a.offset a.len) start
    (subst (λ (y : Geometry). ErasesFirst y (to_come c.args.next.now) a.to a.offset a.len) here (c.erases_first.ensures is)) in
    copy_twin x (progress c.args.cut.now) _ ok sized come early a.field-0-0 a.to a.field-0-1 a.offset a.len next erases

pub returns-then-sector-sectors : goal.returns-then-sector-sectors
returns-then-sector-sectors g c = λ x layout sized come early start is.
    let a = c.in-Some-Erase in
    let here = c.layout-layout.ensures ∙ sym layout in
    let ok : IsLayout x.geometry = subst IsLayout here c.unit-unit.ensures.valid in
    let next : slice_get (to_come c.args.cut.now) 0 ≡ Some (Erase a.slot a.sector) = cc in
    erase_twin x (progress c.args.cut.now) _ ok sized come a.slot a.sector next
    (subst (λ (y : Geometry). a.sector < sectors_of y a.slot) here (rw c.sectors.ensures.value at c.if-sector-sectors.true))
    (subst (λ (y : Geometry). changes_nothing y (g.F.Flash.seen c.args.flash.now).content (Erase a.slot a.sector) ≡ true) (sym layout) (c.is_erased.ensures is))
