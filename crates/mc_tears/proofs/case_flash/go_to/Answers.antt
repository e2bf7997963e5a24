use Rattle.std.proofs.Common.{arith}
use Rattle.std.specs.Prelude.{length, ◌<◌}
use Rattle.mc_boot.specs.Outcome.{ops_of}
use Rattle.mc_explore.specs.inner.OneRound.{begins}
use Rattle.mc_tears.proofs.{Ending.{none_made}, Standing.{can_pass, stands_next}}
use Rattle.mc_tears.proofs.case_flash.go_to.Given.{Over}
use Rattle.mc_tears.proofs.case_flash.go_to.Goals as goal
use Rattle.mc_tears.proofs.case_flash.go_to.Goals.{In-loop-number}

pub loop-number-init : goal.loop-number-init
loop-number-init g c = record {
  stands = c.requires.stands;
  number = none_made (begins c.args.rounds.now) c.args.whole.now.summary c.requires.whole.summary;
  marks = c.requires.marks;
}

early : (g : Over) (c : In-loop-number g) → c.loop-number.at.done < length (ops_of (begins c.args.rounds.now))
early g c = omega (arith, c.loop-number.invariant.number, c.loop-number-test.true, c.requires.early)

pub pass-requires : goal.pass-requires
pass-requires g c =
    can_pass (begins c.args.rounds.now) c.loop-number.at (g.F.Flash.seen c.loop-number.flash) c.loop-number.invariant.stands (early g (goal.at.pass-requires g c).In-loop-number)

pub loop-number-preserved : goal.loop-number-preserved
loop-number-preserved g c =
    let i = c.loop-number.invariant in
    let e = c.in_ok-pass.ensures in
    let next = stands_next (begins c.args.rounds.now) c.loop-number.at (g.F.Flash.seen c.loop-number.flash) i.stands (early g (goal.at.loop-number-preserved g c).In-loop-number)
    c.pass.new.at (g.F.Flash.seen c.pass.new.flash) e.passes.0 e.passes.1 e.spends.limits in
    record { stands = next.0; number = omega (arith, next.1, i.number); marks = rw (e.keeps.checkpoints, e.spends.limits) i.marks }
