use Rattle.std.proofs.Common.{ℕ, Some, sym, ap, ◌∙◌}
use Rattle.mc_boot.specs.Outcome.{Report, shown}
use Rattle.mc_boot.proofs.CourseJoins.{left_follows, outcome_follows}
use Rattle.mc_boot.proofs.boot.outcome_after.Goals as goal

pub returns-clause-outcome : goal.returns-clause-outcome
returns-clause-outcome c x u is of start =
    let whole : Report = shown c.args.whole.now in
    let with_ops : ℕ → Report = λ n. record { result = whole.result; kind = c.args.next.now.kind; ops = n; primary = whole.primary; secondary = whole.secondary; next = whole.next } in
    outcome_follows x u c.args.cut.now c.args.next.now c.in-Some.course c.in-Some-course.following whole c.in_ok-kept.kept is c.in-Some.is c.in-Some-course.is of start
    c.in_ok-kept.ensures.meets
    ∙ ap (λ (n : ℕ). Some (with_ops n)) (sym c.saturating_sub.ensures)

pub returns-clause-left : goal.returns-clause-left
returns-clause-left c x u is of start =
    left_follows x u c.args.cut.now c.args.next.now c.in-Some.course c.in-Some-course.following (shown c.args.whole.now) c.in_ok-kept.kept is c.in-Some.is c.in-Some-course.is of start
    c.in_ok-kept.ensures.meets
