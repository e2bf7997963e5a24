use Rattle.std.specs.Prelude.{◌≡◌, ◌<◌, Some, is_some, length, slice_get, ℕ}
use Rattle.std.proofs.Common.{ap, refl, sym, subst, ◌∙◌}
use Rattle.mc_boot.specs.{Boot.{progress, to_come}, Outcome.{ops_of, outcome_of}, Plan.{again}, facts.Steps.{none_first}}
use Rattle.mc_flash.specs.Flash.{Content}
use Rattle.mc_explore.specs.{facts.Children.{child_here}, inner.LastCuts.{boot_at}, inner.OneRound.{begun_of, one_round_is, round_model}}
use Rattle.mc_explore.specs.Boots.{at_cut}
use Rattle.mc_trace.proofs.BootFrames.{one_to_come, op_here}
use Rattle.mc_trace.proofs.boot_frames.frame_here.Goals as goal

pub unreachable-requires-in_default-peek : goal.unreachable-requires-in_default-peek
unreachable-requires-in_default-peek g c =
    let step = rw (one_round_is (begun_of c.args.walk.now)) at c.in-Some.ensures.step in
    let at = c.in-Some.step.now.at in
    let x = boot_at (begun_of c.args.walk.now) step.before in
    let on = step.at_is.on_is.1 in
    one_to_come x (progress at) (at_cut x c.in-Some.step.now.number) on.come (subst (λ (n : ℕ). n < length (ops_of x)) (sym on.count_is) step.some)
    (none_first (to_come at) c.peek.result c.peek.ensures.first (ap is_some c.in_default-peek.is))

pub returns-clause-frame : goal.returns-clause-frame
returns-clause-frame g c =
    let w = c.args.walk.now in
    let f = c.in-Some.step.now in
    let step = rw (one_round_is (begun_of w)) at c.in-Some.ensures.step in
    let x = boot_at (begun_of w) step.before in
    let on = step.at_is.on_is.1 in
    let child = child_here (round_model (begun_of w)) w f c.summary.result.now (rw (one_round_is (begun_of w)) at c.summary.ensures) step in
    let more = subst (λ (n : ℕ). n < length (ops_of x)) (sym on.count_is) step.some in (
      step.before,
      step.path_is,
      record {
        boot_is = refl;
        cut_is = c.is_target.ensures;
        content_is = step.at_is.content_is;
        op_is = subst (λ (n : ℕ). slice_get (ops_of x) n ≡ Some c.in-Some-peek.op) on.count_is
            (op_here x (progress f.at) (at_cut x f.number) on.come more c.in-Some-peek.op (sym c.peek.ensures.first ∙ c.in-Some-peek.is));
        outcome_is = ap (λ (t : Content). outcome_of (again x t)) step.at_is.content_is ∙ child.child_is.1.outcome_is;
      },
    )

pub returns-clause-layout : goal.returns-clause-layout
returns-clause-layout g c = rw (one_round_is (begun_of c.args.walk.now)) at c.summary.ensures.layout_is
