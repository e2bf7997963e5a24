use Rattle.std.proofs.{Common.{arith}, lemmas.Bool.Decides.{nat_tests}, lemmas.Result.{err_from_is_err_and}}
use Rattle.std.specs.Prelude.{codes, ◌++◌}
use Rattle.mc_trace.proofs.TornLines.{row_is}
use Rattle.mc_trace.proofs.Writing.{first_begun, then_begun, written, writes_then}
use Rattle.mc_trace.proofs.boot_frames.write_torn.Goals as goal

pub returns-in_err-write_text : goal.returns-in_err-write_text
returns-in_err-write_text g c =
    let lines = c.args.lines.now in
    let failed = err_from_is_err_and c.from_residual.result c.from_residual.ensures.1 in
    rw (failed.1, row_is lines (grind (arith, nat_tests))) (first_begun _ _ (codes "<pre class=\"t\">") (lines ++ codes "</pre>\n") c.in_err-write_text.ensures.prefix)

pub returns-in_err-write_text-2 : goal.returns-in_err-write_text-2
returns-in_err-write_text-2 g c =
    let lines = c.args.lines.now in
    let failed = err_from_is_err_and c.from_residual-in_err-write_text-2.result c.from_residual-in_err-write_text-2.ensures.1 in
    rw (failed.1, row_is lines (grind (arith, nat_tests))) (then_begun _ _ _ (codes "<pre class=\"t\">") _ c.in_ok-write_text.ensures.whole
    (first_begun _ _ lines (codes "</pre>\n") c.in_err-write_text-2.ensures.prefix))

pub returns : goal.returns
returns g c =
    let lines = c.args.lines.now in
    let last = c.write_text-3.ensures in
    rw (row_is lines (grind (arith, nat_tests))) (writes_then _ _ _ (codes "<pre class=\"t\">") _ c.write_text-3.result c.in_ok-write_text.ensures.whole
    (writes_then _ _ _ lines (codes "</pre>\n") c.write_text-3.result c.in_ok-write_text-2.ensures.whole (written c.write_text-3.result _ _ _ last.whole last.prefix)))
