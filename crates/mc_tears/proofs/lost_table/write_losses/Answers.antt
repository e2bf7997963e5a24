use Rattle.std.proofs.{Common.{arith, refl}, lemmas.Result.{err_from_is_err_and}}
use Rattle.std.specs.Prelude.{flat_map}
use Rattle.mc_tears.specs.Losses.{loss_text, losses_text, next_text}
use Rattle.mc_vectors.proofs.Tabled.{first_begun, line_begun, line_out}
use Rattle.mc_tears.proofs.lost_table.write_losses.Goals as goal

pub returns-in_err-write_line-clause-prefix : goal.returns-in_err-write_line-clause-prefix
returns-in_err-write_line-clause-prefix g c =
    let failed = err_from_is_err_and c.from_residual.result c.from_residual.ensures.1 in
    rw (failed.1, c.in-Some.ensures.cases.0) (first_begun _ _ (loss_text c.in-Some.first.now) (flat_map next_text c.in-Some.more.now)
    (rw c.loss_line.ensures at c.in_err-write_line.ensures.prefix))

pub returns-in_err-write_line-2-clause-prefix : goal.returns-in_err-write_line-2-clause-prefix
returns-in_err-write_line-2-clause-prefix g c =
    let failed = err_from_is_err_and c.from_residual-in_err-write_line-2.result c.from_residual-in_err-write_line-2.ensures.1 in
    rw failed.1 (line_begun next_text (losses_text c.args.losses.now) _ _ c.in-Some.more.now c.loop-loss.loss-index c.loop-loss.invariant.out _ _ _ (omega arith) refl
    (rw c.loss_line-in-loop-loss.ensures at c.in_err-write_line-2.ensures.prefix))

pub loop-loss-preserved : goal.loop-loss-preserved
loop-loss-preserved g c = record {
  out = line_out next_text (losses_text c.args.losses.now) _ _ c.in-Some.more.now c.loop-loss.loss-index c.loop-loss.invariant.out _ _ _ (omega arith) refl
      (rw c.loss_line-in-loop-loss.ensures at c.in_ok-write_line-2.ensures.whole);
}
