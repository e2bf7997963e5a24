use Rattle.std.specs.Prelude.{refl, true}
use Rattle.std.proofs.Common.{subst, ◌∙◌}
use Rattle.mc_boot.specs.Plan.{PowerOn}
use Rattle.mc_start.specs.Start.{begun}
use Rattle.mc_vectors.specs.{declared.case.Case.{Case}, inner.Searching.{GoesOnAt}}
use Rattle.mc_vectors.proofs.Visited.{ends_with, joined, joined_case, own_here, stands_at}
use Rattle.mc_vectors.proofs.search.case_here.Goals as goal

pub returns-then-joins-clause-case : goal.returns-then-joins-clause-case
returns-then-joins-clause-case g c =
    let x = begun c.args.start.now in
    let w = c.args.walk.now in
    let p : Case = c.args.parent.now in
    let at = c.requires.at in
    let is = stands_at x w.path w at c.summary.result.now c.summary.ensures in
    let ends = ends_with x w.path w at c.summary.result.now c.summary.ensures in
    let schedule = c.of-schedule.ensures ∙ c.deref.ensures.0 ∙ c.path.ensures in
    let goes : GoesOnAt x w = subst (λ (y : PowerOn). GoesOnAt y w) at.begun_is (c.joins.ensures c.if-joins.true) in
    let n : Case = record { schedule = c.of-schedule.result; digest = c.args.digest; outcome = c.summary.result.now.outcome; left = p.left; joins = true } in
    record {
      schedule_is = schedule;
      digest_is = refl;
      is_case = λ bound cases index number e path of. (
        joined_case x bound cases index number p e w.path w.seen.content path is w refl goes n schedule of ends refl,
        λ _. joined x bound cases index number p e w.path w.seen.content path is w refl goes n schedule,
      );
    }

pub returns-clause-case : goal.returns-clause-case
returns-clause-case g c =
    let x = begun c.args.start.now in
    let w = c.args.walk.now in
    own_here x w c.args.parent.now c.of-schedule.result c.args.digest (c.of-schedule.ensures ∙ c.deref.ensures.0 ∙ c.path.ensures)
    (stands_at x w.path w c.requires.at c.summary.result.now c.summary.ensures) c.own_case.result c.own_case.ensures.case
