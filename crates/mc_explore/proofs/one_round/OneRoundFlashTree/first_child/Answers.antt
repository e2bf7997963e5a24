use Rattle.std.proofs.Common.{subst, ◌∙◌}
use Rattle.mc_boot.specs.{Boot.{left_of, progress}, Plan.{PowerOn}}
use Rattle.mc_flash.specs.Usage.{LeaveRoom, plus}
use Rattle.mc_explore.specs.{facts.Occurring.{at_zero}, facts.Summaries.{first_left, first_on}, inner.OneRound.{most_of, one_round}}
use Rattle.mc_explore.proofs.one_round.OneRoundFlashTree.first_child.Goals as goal

pub returns-clause-reaches : goal.returns-clause-reaches
returns-clause-reaches g c = unfold one_round in λ x node some.
    let summary = c.args.summary.now in
    let counts = (g.F.Flash.seen c.args._flash.now).usage.counts in
    let P : PowerOn → Type 0 = λ y. LeaveRoom counts (left_of y.geometry (progress summary.boot)) (plus counts (most_of y)) in (
      record {
        on_is = (node.summary_is.0, first_on x summary node.summary_is.1);
        content_is = node.content_is ∙ at_zero x;
        layout_is = node.layout_is;
      },
      subst P node.summary_is.0 (first_left x summary node.summary_is.1 counts),
    )
