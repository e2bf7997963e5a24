use Rattle.std.proofs.Common.{ap, arith, refl, subst, ◌∙◌}
use Rattle.std.specs.Vec.{vec_capacity}
use Rattle.mc_explore.specs.inner.OneRound.{begins}
use Rattle.mc_flash.specs.{Usage.{Limits, Loads}}
use Rattle.mc_flash.specs.{declared.op.Slot.TheVariants.{Primary, Secondary}}
use Rattle.mc_tears.proofs.Loads.{marks_loaded, room_loaded, stands_loaded}
use Rattle.mc_tears.proofs.Standing.{stands_back}
use Rattle.mc_tears.specs.inner.Standing.{HoldsSlot, IsWhole}
use Rattle.mc_tears.proofs.loading.load.Given.{Over}
use Rattle.mc_tears.proofs.loading.load.Goals as goal
use Rattle.mc_tears.proofs.loading.load.Goals.{In_ok-buffer, In_ok-flash}

loads : (g : Over) (c : In_ok-flash g) → let x = begins c.args.rounds.now in
    Loads g.F.Flash.counted x.geometry x.content.primary x.content.secondary x.rules.grain 3 (g.F.Flash.seen c.in_ok-flash.flash)
loads g c = rw (c.rules.ensures, c.layout.ensures.value, c.primary.ensures.value, c.secondary.ensures.value) at c.in_ok-flash.ensures.loads

pub run_and_return-requires-clause-room : goal.run_and_return-requires-clause-room
run_and_return-requires-clause-room g c =
    let x = begins c.args.rounds.now in
    room_loaded g.F.Flash.counted x x.content.primary x.content.secondary (g.F.Flash.seen c.in_ok-flash.flash) (loads g (goal.at.run_and_return-requires-clause-room g c).In_ok-flash)

holds : (g : Over) (c : In_ok-buffer g) → HoldsSlot (begins c.args.rounds.now).geometry (vec_capacity c.in_ok-buffer.buffer)
holds g c Primary = omega (arith, c.in_ok-buffer.ensures.capacity, c.max-most.ensures, c.size-2.ensures.value, rw c.layout.ensures.value at c.size.ensures.value)
holds g c Secondary = omega (arith, c.in_ok-buffer.ensures.capacity, c.max-most.ensures, c.size.ensures.value, rw c.layout.ensures.value at c.size-2.ensures.value)

pub returns : goal.returns
returns g c =
    let x = begins c.args.rounds.now in
    let f = g.F.Flash.seen c.in_ok-flash.flash in
    let h = g.F.Flash.seen c.run_and_return.new.flash in
    let at = goal.at.returns g c in
    let l = loads g at.In_ok-flash in
    let back = c.in_ok-whole.ensures.returns in
    let whole = subst (λ s. IsWhole (record { rules = x.rules; geometry = x.geometry; content = s }) c.in_ok-whole.whole) l.content_is c.in_ok-whole.ensures.whole in
    record {
      is_whole = whole;
      stands = stands_back x c.in_ok-whole.whole.summary.boot f
          (stands_loaded g.F.Flash.counted x x.content.primary x.content.secondary f l c.in_ok-whole.whole.summary c.layout.ensures.valid refl whole.summary l.content_is) h back;
      marks = rw (back.stays.checkpoints, back.limits) (marks_loaded g.F.Flash.counted x x.content.primary x.content.secondary f l);
      buffer = rw (back.stays.geometry, l.geometry_is) (holds g at.In_ok-buffer);
      counted = ap (λ (m : Limits). m.counted) back.limits ∙ l.counted_is;
    }
