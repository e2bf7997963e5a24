use Rattle.std.proofs.Common.{◌≡◌, List, ℕ, ap, subst, ◌∙◌}
use Rattle.mc_flash.specs.{facts.Done.{does_keep}, Geometry.{Geometry}, Usage.{Does}}
use Rattle.mc_flash.specs.{declared.op.Op.TheVariants.{Program}, declared.op.Slot.TheVariants.{Secondary}}
use Rattle.mc_life.specs.Device.{padded}
use Rattle.mc_life.proofs.Writing.{part_free, part_left, part_range, part_refused, some_bytes}
use Rattle.mc_life.proofs.work.write.Goals as goal

pub program-requires : goal.program-requires
program-requires g c =
    let f = g.F.Flash.seen c.args.flash.now in
    let b = c.in_ok-bytes.ensures in
    rw c.deref.ensures.value (part_range f.geometry c.args.at c.args.part.now c.in_ok-bytes.bytes.items (rw c.layout.ensures at c.unit-unit.ensures.valid)
    c.requires.inside c.requires.aligned (some_bytes _ _ c.is_empty.ensures c.if-is_empty.false)
    (rw c.layout-2.ensures at b.whole) b.at_least (rw c.layout-2.ensures at b.less))

pub returns-clause-content : goal.returns-clause-content
returns-clause-content g c =
    let f = g.F.Flash.seen c.args.flash.now in
    let h = g.F.Flash.seen c.program.new.self in
    let bytes = padded f.geometry.unit c.args.part.now in
    let same : c.deref.result.now ≡ bytes =
    c.deref.ensures.value ∙ c.in_ok-bytes.ensures.value ∙ ap (λ (x : Geometry). padded x.unit c.args.part.now) c.layout-2.ensures in
    part_left f h c.args.at bytes c.program.result (subst (λ (z : List ℕ). Does (Program Secondary c.args.at z) f c.program.result h) same c.program.ensures)

pub returns-clause-free : goal.returns-clause-free
returns-clause-free g c =
    let f = g.F.Flash.seen c.args.flash.now in
    let h = g.F.Flash.seen c.program.new.self in
    let bytes = padded f.geometry.unit c.args.part.now in
    let same : c.deref.result.now ≡ bytes =
    c.deref.ensures.value ∙ c.in_ok-bytes.ensures.value ∙ ap (λ (x : Geometry). padded x.unit c.args.part.now) c.layout-2.ensures in
    part_free f h c.args.at bytes c.program.result (subst (λ (z : List ℕ). Does (Program Secondary c.args.at z) f c.program.result h) same c.program.ensures)

pub returns-clause-layout : goal.returns-clause-layout
returns-clause-layout g c = (does_keep _ _ _ _ c.program.ensures).geometry

pub returns-clause-refused : goal.returns-clause-refused
returns-clause-refused g c =
    let f = g.F.Flash.seen c.args.flash.now in
    let h = g.F.Flash.seen c.program.new.self in
    let bytes = padded f.geometry.unit c.args.part.now in
    let same : c.deref.result.now ≡ bytes =
    c.deref.ensures.value ∙ c.in_ok-bytes.ensures.value ∙ ap (λ (x : Geometry). padded x.unit c.args.part.now) c.layout-2.ensures in
    part_refused f h c.args.at bytes c.program.result (subst (λ (z : List ℕ). Does (Program Secondary c.args.at z) f c.program.result h) same c.program.ensures)
