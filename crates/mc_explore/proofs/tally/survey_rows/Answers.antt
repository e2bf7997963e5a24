use Rattle.std.proofs.Common.{◌≡◌, ◌+◌, ◌-◌, ◌*◌, ◌<◌, ◌≤◌, suc, Ok, Err, refl, sym, ap, subst, arith}
use Rattle.mc_tree.specs.Tree.{Lost, After}
use Rattle.mc_explore.specs.declared.error.ExploreError.TheVariants as errors
use Rattle.mc_explore.specs.declared.tally.TallyOf.{TallyOf}
use Rattle.mc_explore.proofs.{Counted.{count_begin, count_on, counted_full, counted_short, counted_within, last_counted}, PageRows.{row_paid}}
use Rattle.mc_explore.proofs.tally.survey_rows.Given.{Over}
use Rattle.mc_explore.proofs.tally.survey_rows.Goals as goal
use Rattle.mc_explore.proofs.tally.survey_rows.Goals.{After-add}

pub rows-init : goal.rows-init
rows-init g c =
    let x = g.X.Subject.subject in
    let start = c.args.explorer.now.state.start in
    let none : c.new-tally.result.rows ≡ 0 = ap (λ (t : TallyOf g.row.X-Cursor.Denot). t.rows) c.new-tally.ensures in
    let room : c.new-tally.result.rows < c.args.limit = omega (arith, none, c.requires) in
    let all : c.args.limit - c.new-tally.result.rows ≡ c.args.limit = omega (arith, none) in
    let cost = x.most_for_row start.rules start.geometry in
    record {
      counted = rw (c.new-tally.ensures, c.new-rights.ensures) (count_begin _ _ _ _ _ _);
      not_lost = λ e. e;
      stuck = λ e. (e, room);
      still = λ e. refl;
      start = refl;
      limits = refl;
      applied = subst (λ n. c.args.explorer.now.usage.applied + n * cost ≤ c.args.explorer.now.usage.applied + c.args.limit * cost) (sym all) (omega arith);
    }

pub add-requires-clause-within : goal.add-requires-clause-within
add-requires-clause-within g c = counted_within c.rows.invariant.counted

-- One row more is counted.
more : (g : Over) (c : After-add g) → c.add.new.self.rows ≡ c.rows.tally.rows + 1
more g c = ap (λ (t : TallyOf g.row.X-Cursor.Denot). t.rows) c.add.ensures

pub rows-smaller : goal.rows-smaller
rows-smaller g c = let n = more g (goal.at.rows-smaller g c).After-add in omega (arith, n, c.rows-test.true)

-- After a row an explorer has not failed.
not_lost : {P K : Type 0} (k : K) → Lost ≡ After k → P
not_lost k is = absurd cc

not_failed : {P A : Type 0} (a : A) → Ok a ≡ Err errors.Failed → P
not_failed a is = absurd cc

pub rows-preserved : goal.rows-preserved
rows-preserved g c = grind (arith, more, count_on, not_lost, not_failed, row_paid)

pub returns-in-None-clause-surveys : goal.returns-in-None-clause-surveys
returns-in-None-clause-surveys g c =
    let found = rw c.in-None.is at c.in_ok-row.ensures.found in
    let room : c.args.limit - c.rows.tally.rows ≡ suc (c.args.limit - c.rows.tally.rows - 1) = omega (arith, c.rows-test.true) in
    counted_short c.rows.invariant.counted _ (c.args.limit - c.rows.tally.rows - 1) room found

pub returns-clause-surveys : goal.returns-clause-surveys
returns-clause-surveys g c =
    let none : c.args.limit - c.rows.tally.rows ≡ 0 = omega (arith, c.rows-test.false) in
    let p = c.rows.invariant.counted in
    counted_full p c.cursor.result none (c.cursor.ensures _ (last_counted p c.requires none))
