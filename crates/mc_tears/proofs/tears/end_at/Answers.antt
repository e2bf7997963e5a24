use Rattle.std.proofs.Common.{ap, arith, ◌∙◌}
use Rattle.std.specs.Prelude.{length, ◌<◌}
use Rattle.mc_boot.specs.{Outcome.{ops_of}, Plan.{again}}
use Rattle.mc_explore.specs.{facts.Summaries.{width_is}, inner.OneRound.{begins}}
use Rattle.mc_tears.proofs.Ending.{derived_bytes, derived_end, whole_end}
use Rattle.mc_tears.specs.Ends.{end_of, shown_end}
use Rattle.mc_tears.proofs.tears.end_at.Given.{Over}
use Rattle.mc_tears.proofs.tears.end_at.Goals as goal
use Rattle.mc_tears.proofs.tears.end_at.Goals.{Then-count-whole}

-- That boot has not made all.
early : (g : Over) (c : Then-count-whole g) → c.args.at.now.done < length (ops_of (begins c.args.rounds.now))
early g c = omega (arith, c.if-count-whole.true, c.count.ensures, width_is (begins c.args.rounds.now) c.args.whole.now.summary c.requires.whole.summary)

pub derive-requires : goal.derive-requires
derive-requires g c =
    let at = (goal.at.derive-requires g c).Then-count-whole in
    (begins c.args.rounds.now, c.args.at.now.done, c.requires.stands.at_is, early g at, (c.requires.stands.at_is.on_is.0, c.requires.whole.summary))

pub returns-in-Ok-clause-end : goal.returns-in-Ok-clause-end
returns-in-Ok-clause-end g c =
    let x = begins c.args.rounds.now in
    let at = (goal.at.returns-in-Ok-clause-end g c).Then-count-whole in
    let stands = c.requires.stands in
    let n = c.args.at.now.done in
    let child = c.in-Ok.ensures.summary x n stands.at_is (early g at) (stands.at_is.on_is.0, c.requires.whole.summary) in
    derived_end x n c.args.whole.now c.in-Ok.summary c.requires.whole child.1 (c.in-Ok.ensures.left x n stands.at_is (early g at) c.requires.whole.summary)

pub returns-clause-end : goal.returns-clause-end
returns-clause-end g c =
    let x = begins c.args.rounds.now in
    let f = g.F.Flash.seen c.args.flash.now in
    ap shown_end c.end.ensures ∙ whole_end (again x f.content) c.in_ok-run_and_return.field-0 c.in_ok-run_and_return.ensures.whole
    ∙ ap (λ s. end_of (again x s)) c.requires.stands.at_is.content_is

pub returns-in-Ok-clause-bytes : goal.returns-in-Ok-clause-bytes
returns-in-Ok-clause-bytes g c =
    let x = begins c.args.rounds.now in
    let at = (goal.at.returns-in-Ok-clause-bytes g c).Then-count-whole in
    let stands = c.requires.stands in
    let n = c.args.at.now.done in
    derived_bytes x n (c.in-Ok.ensures.left x n stands.at_is (early g at) c.requires.whole.summary) c.requires.whole.bytes

pub returns-clause-bytes : goal.returns-clause-bytes
returns-clause-bytes g c = rw c.requires.stands.at_is.content_is at c.in_ok-run_and_return.ensures.whole.bytes
