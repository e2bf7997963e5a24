use Rattle.std.proofs.Common.{sym, ◌∙◌, ◌≡◌}
use Rattle.mc_boot.specs.Plan.{PowerOn}
use Rattle.mc_explore.specs.{declared.rounds.Both.{Both}, declared.rounds.Rounds.{Rounds}, facts.Summaries.{width_is}, inner.BootTree.{AreSummaries, first_width}}
use Rattle.mc_tree.specs.Tree.{RoundNode, round_one, round_two}
use Rattle.mc_explore.specs.declared.rounds.Round.TheVariants as rounds_of
use Rattle.mc_explore.proofs.rounds.Both.first_width.Goals as goal

of_first : (start : PowerOn) (rounds : Rounds) (p : RoundNode PowerOn) (both : Both) → AreSummaries start rounds p both → both.round ≡ rounds_of.First → both.first.outcome.ops ≡ first_width p
of_first start rounds (round_one x) both are is = width_is x both.first are.first_is.1
of_first start rounds (round_two began x) both are is = absurd (let no = sym is ∙ are.round_is in cc)

pub returns-in-First : goal.returns-in-First
returns-in-First c = λ start rounds p are. of_first start rounds p c.args.self.now are c.in-First.is
