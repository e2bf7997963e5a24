use Rattle.std.proofs.{KnownBytes.{Appends-trans}, lemmas.Result.{err_from_is_err_and}}
use Rattle.mc_output.specs.facts.Results.{on_err, on_ok}
use Rattle.mc_vectors.proofs.Tabled.{first_begun, then_begun}
use Rattle.mc_tears.proofs.losses.LostCase.write.Goals as goal

pub returns-in_err-write_losses-clause-prefix : goal.returns-in_err-write_losses-clause-prefix
returns-in_err-write_losses-clause-prefix g c =
    let failed = err_from_is_err_and c.from_residual.result c.from_residual.ensures.1 in
    rw failed.1 (first_begun _ _ _ _ (rw c.deref.ensures.value at c.in_err-write_losses.ensures.prefix))

pub returns-in_err-write_line-clause-prefix : goal.returns-in_err-write_line-clause-prefix
returns-in_err-write_line-clause-prefix g c =
    let failed = err_from_is_err_and c.from_residual-in_err-write_line.result c.from_residual-in_err-write_line.ensures.1 in
    rw failed.1 (then_begun _ _ _ _ _ (rw c.deref.ensures.value at c.in_ok-write_losses.ensures.whole)
    (first_begun _ _ _ _ (rw c.digest_line.ensures at c.in_err-write_line.ensures.prefix)))

pub returns-clause-whole : goal.returns-clause-whole
returns-clause-whole g c =
    on_ok c.write_line-2.result _ _
    (λ last. Appends-trans _ _ _ _ _ (rw c.deref.ensures.value at c.in_ok-write_losses.ensures.whole)
    (Appends-trans _ _ _ _ _ (rw c.digest_line.ensures at c.in_ok-write_line.ensures.whole) last))
    (rw c.ended_line.ensures at c.write_line-2.ensures.whole)

pub returns-clause-prefix : goal.returns-clause-prefix
returns-clause-prefix g c =
    on_err c.write_line-2.result _ _
    (λ last. then_begun _ _ _ _ _ (rw c.deref.ensures.value at c.in_ok-write_losses.ensures.whole)
    (then_begun _ _ _ _ _ (rw c.digest_line.ensures at c.in_ok-write_line.ensures.whole) last))
    (rw c.ended_line.ensures at c.write_line-2.ensures.prefix)
