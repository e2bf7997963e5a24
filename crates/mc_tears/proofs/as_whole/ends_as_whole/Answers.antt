use Rattle.std.proofs.Common.{arith, ap, sym, ◌∙◌}
use Rattle.std.specs.Prelude.{refl, ◌≡◌}
use Rattle.mc_explore.specs.inner.OneRound.{begins}
use Rattle.mc_flash.specs.declared.op.Op.TheVariants.{Program}
use Rattle.mc_tears.proofs.AsWhole.{entry_ends_as}
use Rattle.mc_tears.proofs.as_whole.ends_as_whole.Goals as goal

pub returns-then-is_inside : goal.returns-then-is_inside
returns-then-is_inside g c = λ is.
    let f = g.F.Flash.seen c.args.flash.now in
    let x = begins c.args.rounds.now in
    let op = c.in-Program in
    let layout : c.layout-layout.result.now ≡ x.geometry = c.layout-layout.ensures ∙ c.requires.layout in
    let entry = c.if-not-is_entry_place.ensures refl in
    let p = c.if-is_inside.ensures refl in
    let q = c.is_inside-then-is_inside.ensures is in
    let is_op = op.is ∙ ap (λ s. Program s op.at op.written) c.in-Primary.is in
    let differ = rw c.bytes-else-bytes-unit.ensures.value at (c.if-not-differ_first.ensures refl) in
    let resumed = rw c.requires.layout at (sym c.if-not-goes_on.ensures) in
    entry_ends_as c.same_prefix.ensures.id x f c.args.op.now op.at op.written c.args.bytes.now c.args.after.now (rw layout at c.unit.ensures.valid) c.requires.layout is_op
    c.requires.applies c.requires.after entry.0 (rw layout at entry.1) (rw layout at entry.2) (grind arith) differ resumed p.0 q.0 p.1 q.1
    (rw layout at p.2) (rw layout at q.2)
