use Rattle.std.proofs.Common.{inr}
use Rattle.std.proofs.lemmas.Result.{err_from_is_err_and}
use Rattle.mc_verdict.proofs.Paging.{of_rows}
use Rattle.mc_verdict.proofs.explore.print.Goals as goal

pub returns-clause-whole : goal.returns-clause-whole
returns-clause-whole g c = record {
  explorer = c.in_ok-explorer.explorer;
  begins = c.in_ok-explorer.ensures;
  new = _;
  out = c.in_ok-write_rows.ensures.page;
}

pub returns-in_err-write_rows-clause-began : goal.returns-in_err-write_rows-clause-began
returns-in_err-write_rows-clause-began g c =
    let e = err_from_is_err_and c.from_residual-in_err-write_rows.result c.from_residual-in_err-write_rows.ensures.1 in
    rw e.1 (inr (
      of_rows _ _ e.2 c.in_err-write_rows.ensures.err,
      record {
        explorer = c.in_ok-explorer.explorer;
        begins = c.in_ok-explorer.ensures;
        out = c.in_err-write_rows.ensures.began;
      },
    ))
