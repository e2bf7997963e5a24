use Rattle.std.proofs.lemmas.Result.{err_from_is_err_and}
use Rattle.mc_trace.proofs.Writing.{first_begun, then_begun, writes_then}
use Rattle.mc_trace.proofs.frame.write_flash.Goals as goal

pub returns-in_err-write_cells : goal.returns-in_err-write_cells
returns-in_err-write_cells g c =
    let failed = err_from_is_err_and c.from_residual.result c.from_residual.ensures.1 in
    rw failed.1 (first_begun _ _ _ _ (rw (c.read-primary.ensures.value, c.framed_in-first.ensures) at c.in_err-write_cells.ensures))

pub returns-in_err-write_text : goal.returns-in_err-write_text
returns-in_err-write_text g c =
    let failed = err_from_is_err_and c.from_residual-in_err-write_text.result c.from_residual-in_err-write_text.ensures.1 in
    let between = rw (c.as_bytes.ensures.value, c.between_slots.ensures) at c.in_err-write_text.ensures.prefix in
    rw failed.1 (then_begun _ _ _ _ _ (rw (c.read-primary.ensures.value, c.framed_in-first.ensures) at c.in_ok-write_cells.ensures) (first_begun _ _ _ _ between))

pub returns : goal.returns
returns g c =
    let first = rw (c.read-primary.ensures.value, c.framed_in-first.ensures) at c.in_ok-write_cells.ensures in
    let between = rw (c.as_bytes.ensures.value, c.between_slots.ensures) at c.in_ok-write_text.ensures.whole in
    let second = rw (c.read-secondary.ensures.value, c.framed_in-second.ensures) at c.write_cells-2.ensures in
    writes_then _ _ _ _ _ c.write_cells-2.result first (writes_then _ _ _ _ _ c.write_cells-2.result between second)
