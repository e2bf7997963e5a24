use Rattle.std.proofs.{Common.{arith}, lemmas.Result.{err_from_is_err_and}}
use Rattle.mc_tears.specs.Losses.{lost_text, table_text}
use Rattle.mc_vectors.proofs.Tabled.{first_begun, left, line_begun, line_out, none_left}
use Rattle.mc_vectors.specs.Table.{names_text}
use Rattle.mc_tears.proofs.lost_table.write_lost.Goals as goal

pub returns-in_err-write_text-clause-prefix : goal.returns-in_err-write_text-clause-prefix
returns-in_err-write_text-clause-prefix g c =
    let failed = err_from_is_err_and c.from_residual.result c.from_residual.ensures.1 in
    rw failed.1 (first_begun _ _ names_text (left lost_text c.args.cases.now 0) (rw c.as_bytes.ensures.value at c.in_err-write_text.ensures.prefix))

pub returns-in_err-write-clause-prefix : goal.returns-in_err-write-clause-prefix
returns-in_err-write-clause-prefix g c =
    let failed = err_from_is_err_and c.from_residual-in_err-write.result c.from_residual-in_err-write.ensures.1 in
    rw failed.1 (line_begun lost_text (table_text c.args.cases.now) _ _ c.args.cases.now c.loop-case.case-index c.loop-case.invariant.out _ c.case-item.result _ (omega arith) c.case-item.is
    c.in_err-write.ensures.prefix)

pub loop-case-preserved : goal.loop-case-preserved
loop-case-preserved g c = record {
  out = line_out lost_text (table_text c.args.cases.now) _ _ c.args.cases.now c.loop-case.case-index c.loop-case.invariant.out _ c.case-item.result _ (omega arith) c.case-item.is
      c.in_ok-write.ensures.whole;
}

pub returns-clause-whole : goal.returns-clause-whole
returns-clause-whole g c = none_left lost_text (table_text c.args.cases.now) _ _ c.args.cases.now c.loop-case.case-index c.loop-case.invariant.out (omega arith)
