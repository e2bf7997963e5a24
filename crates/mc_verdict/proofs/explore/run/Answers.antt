use Rattle.std.proofs.Common.{ap, sym, ◌∙◌}
use Rattle.std.proofs.lemmas.Result.{err_from_is_err_and}
use Rattle.mc_explore.specs.Subject.{are_lawful}
use Rattle.mc_options.specs.declared.refusal.Refusal.TheVariants as refusals
use Rattle.mc_verdict.proofs.Paging.{alone, broken, judged, lines_broken, refused, unflushed}
use Rattle.mc_verdict.proofs.explore.run.Goals as goal

pub returns-in_err-print : goal.returns-in_err-print
returns-in_err-print g c =
    let x = g.X.Subject.subject in
    let lawful = are_lawful x g.met.X.Subject.laws.order g.met.X.Subject.laws.some_rest in
    let e = err_from_is_err_and c.from_residual-in_err-print.result c.from_residual-in_err-print.ensures.1 in
    refused x lawful g.X.Subject.fields _ _ _ _ c.in_ok-wanted.ensures _ _ e.0 e.1 (rw e.2 c.in_err-print.ensures.began)

pub returns-in_err-flush_page : goal.returns-in_err-flush_page
returns-in_err-flush_page g c =
    let x = g.X.Subject.subject in
    let lawful = are_lawful x g.met.X.Subject.laws.order g.met.X.Subject.laws.some_rest in
    let e = err_from_is_err_and c.from_residual-in_err-flush_page.result c.from_residual-in_err-flush_page.ensures.1 in
    unflushed x lawful g.X.Subject.fields _ _ _ _ c.in_ok-wanted.ensures _ c.in_ok-print.ensures.whole _ _ e.0 c.in_err-flush_page.ensures.keeps e.1
    (e.2 ∙ ap refusals.Explore c.in_err-flush_page.ensures.err)

pub returns-then-not-is_any : goal.returns-then-not-is_any
returns-then-not-is_any g c =
    let x = g.X.Subject.subject in
    let lawful = are_lawful x g.met.X.Subject.laws.order g.met.X.Subject.laws.some_rest in
    alone x lawful g.X.Subject.fields _ _ _ _ c.in_ok-wanted.ensures _ c.in_ok-print.ensures.whole _ c.in_ok-flush_page.ensures.keeps
    (sym c.is_any.ensures ∙ c.if-not-is_any.true)

pub returns-in_err-tally : goal.returns-in_err-tally
returns-in_err-tally g c =
    let x = g.X.Subject.subject in
    let lawful = are_lawful x g.met.X.Subject.laws.order g.met.X.Subject.laws.some_rest in
    let e = err_from_is_err_and c.from_residual-in_err-tally.result c.from_residual-in_err-tally.ensures.1 in
    broken x lawful g.X.Subject.fields _ _ _ _ c.in_ok-wanted.ensures _ c.in_ok-print.ensures.whole _ c.in_ok-flush_page.ensures.keeps _ e.0 e.1
    (rw e.2 c.in_err-tally.ensures.err)

pub returns-in_err-write_lines : goal.returns-in_err-write_lines
returns-in_err-write_lines g c =
    let x = g.X.Subject.subject in
    let lawful = are_lawful x g.met.X.Subject.laws.order g.met.X.Subject.laws.some_rest in
    let e = err_from_is_err_and c.from_residual-in_err-write_lines.result c.from_residual-in_err-write_lines.ensures.1 in
    lines_broken x lawful g.X.Subject.fields _ _ _ _ c.in_ok-wanted.ensures _ c.in_ok-print.ensures.whole _ c.in_ok-flush_page.ensures.keeps _ _
    c.in_ok-tally.ensures.counts _ _ e.0 e.1 e.2 c.in_err-write_lines.ensures.prefix

pub returns : goal.returns
returns g c =
    let x = g.X.Subject.subject in
    let lawful = are_lawful x g.met.X.Subject.laws.order g.met.X.Subject.laws.some_rest in
    judged x lawful g.X.Subject.fields _ _ _ _ c.in_ok-wanted.ensures _ c.in_ok-print.ensures.whole _ c.in_ok-flush_page.ensures.keeps _ _
    c.in_ok-tally.ensures.counts _ _ c.in_ok-write_lines.ensures.whole c.judge.ensures
