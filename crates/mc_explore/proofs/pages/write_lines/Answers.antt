use Rattle.std.proofs.{Common.{◌≡◌, ◌-◌, ap, sym, arith, ◌∙◌}, lemmas.Result.{err_from_is_err_and}}
use Rattle.mc_explore.proofs.{PageRows.{row_paid}, PageText.{end_began, end_out, full_began, full_out, last_index, page_written, row_began}}
use Rattle.mc_explore.specs.Subject.{State, rows_of}
use Rattle.mc_output.specs.facts.Results.{on_err, on_ok}
use Rattle.mc_explore.proofs.pages.write_lines.Goals as goal

pub returns-in_err-write_next_row-clause-began : goal.returns-in_err-write_next_row-clause-began
returns-in_err-write_next_row-clause-began g c =
    let p = err_from_is_err_and c.from_residual.result c.from_residual.ensures.1 in
    rw p.1 (row_began c.fill.invariant.page (c.fill.room - 1) (omega arith) c.restarts.ensures _ c.in_err-write_next_row.ensures.began)

pub returns-then-not-branch-clause-page : goal.returns-then-not-branch-clause-page
returns-then-not-branch-clause-page g c =
    let none = rw c.if-not-branch.true at c.in_ok-write_next_row.ensures.writes in
    on_ok c.write_text.result _ _ (end_out c.fill.invariant.page (c.fill.room - 1) (omega arith) c.restarts.ensures _ none.0 _) (rw none.1 at c.write_text.ensures.whole)

pub returns-then-not-branch-clause-began : goal.returns-then-not-branch-clause-began
returns-then-not-branch-clause-began g c =
    let none = rw c.if-not-branch.true at c.in_ok-write_next_row.ensures.writes in
    on_err c.write_text.result _ _ (end_began c.fill.invariant.page (c.fill.room - 1) (omega arith) c.restarts.ensures _ none.0 _) (rw none.1 at c.write_text.ensures.prefix)

pub fill-preserved : goal.fill-preserved
fill-preserved g c =
    let one = rw c.if-not-branch.false at c.in_ok-write_next_row.ensures.writes in
    let goes = c.in_ok-write_next_row.ensures.leaves in
    let inv = c.fill.invariant in
    let moved = one.1.2 in
    let there = ap (rows_of g.X.Subject.subject).position moved in
    record {
      page = page_written inv.page (c.fill.room - 1) (omega arith) _ _ one;
      not_lost = λ lost. absurd (let no = sym there ∙ lost in cc);
      stuck = λ lost. absurd (let no = goes.stays_lost (inv.stuck lost).0 in cc);
      unwritten = λ lost. absurd (let no = sym there ∙ lost in cc);
      start = ap (λ (s : State g.row.X-Choice.Denot g.row.X-Key.Denot). s.start) moved ∙ inv.start;
      limits = goes.limits ∙ inv.limits;
      applied = row_paid _ _ c.fill.room (c.fill.room - 1) _ _ (omega arith) (rw inv.start at c.in_ok-write_next_row.ensures.applied) inv.applied;
    }

pub returns-clause-page : goal.returns-clause-page
returns-clause-page g c =
    let none : c.fill.room ≡ 0 = omega arith in
    on_ok c.write_next.result _ _ (full_out c.fill.invariant.page none c.restarts.ensures _) (c.write_next.ensures.whole _ (last_index c.fill.invariant.page none c.requires))

pub returns-clause-began : goal.returns-clause-began
returns-clause-began g c =
    let none : c.fill.room ≡ 0 = omega arith in
    on_err c.write_next.result _ _ (full_began c.fill.invariant.page none c.restarts.ensures _) (c.write_next.ensures.prefix _ (last_index c.fill.invariant.page none c.requires))
