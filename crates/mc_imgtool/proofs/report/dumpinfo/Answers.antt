use Rattle.std.proofs.lemmas.Result.{err_from_is_err_and}
use Rattle.mc_imgtool.specs.Lines.{dumped}
use Rattle.mc_imgtool.proofs.{Answering.{refused_reading, refused_making}, Wanted.{dumped_wanted}}
use Rattle.mc_imgtool.proofs.report.dumpinfo.Goals as goal

pub returns-in_err-bytes-clause-answer : goal.returns-in_err-bytes-clause-answer
returns-in_err-bytes-clause-answer g c =
    let p = err_from_is_err_and c.from_residual.result c.from_residual.ensures.1 in
    rw (p.1, p.2) (refused_reading dumped dumped_wanted _ _ _ c.in_err-bytes.ensures.refused)

pub returns-in_err-report-clause-answer : goal.returns-in_err-report-clause-answer
returns-in_err-report-clause-answer g c =
    let p = err_from_is_err_and c.from_residual-in_err-report.result c.from_residual-in_err-report.ensures.1 in
    rw (p.1, p.2) (refused_making dumped dumped_wanted _ _ c.in_ok-bytes.bytes.items _ c.in_ok-bytes.ensures.whole.1 (rw c.as_slice.ensures.value at c.in_err-report.ensures.report))
