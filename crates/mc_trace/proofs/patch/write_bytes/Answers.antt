use Rattle.std.proofs.lemmas.Result.{err_from_is_err_and}
use Rattle.mc_trace.proofs.Writing.{first_begun, then_begun}
use Rattle.mc_trace.proofs.patch.write_bytes.Goals as goal

pub returns-in_err-write_line-clause-written : goal.returns-in_err-write_line-clause-written
returns-in_err-write_line-clause-written g c =
    let failed = err_from_is_err_and c.from_residual.result c.from_residual.ensures.1 in
    rw failed.1 (first_begun _ _ _ _ c.in_err-write_line.ensures.prefix)

pub returns-in_err-write_hex-clause-written : goal.returns-in_err-write_hex-clause-written
returns-in_err-write_hex-clause-written g c =
    let failed = err_from_is_err_and c.from_residual-in_err-write_hex.result c.from_residual-in_err-write_hex.ensures.1 in
    rw failed.1 (then_begun _ _ _ _ _ c.in_ok-write_line.ensures.whole (first_begun _ _ _ _ c.in_err-write_hex.ensures.written))

pub returns-in_err-write_text-clause-written : goal.returns-in_err-write_text-clause-written
returns-in_err-write_text-clause-written g c =
    let failed = err_from_is_err_and c.from_residual-in_err-write_text.result c.from_residual-in_err-write_text.ensures.1 in
    rw failed.1 (then_begun _ _ _ _ _ c.in_ok-write_line.ensures.whole
    (then_begun _ _ _ _ _ c.in_ok-write_hex.ensures.written c.in_err-write_text.ensures.prefix))
