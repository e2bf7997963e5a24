use Rattle.std.proofs.{Common.{refl}, lemmas.Result.{err_from_is_err_and}}
use Rattle.std.specs.Prelude.{Err}
use Rattle.mc_imgtool.proofs.{Answering.{refused_reading}, Wanted.{dumped_wanted}}
use Rattle.mc_imgtool.specs.Lines.{dumped}
use Rattle.mc_actions.proofs.Showing.{by_tool, known_from}
use Rattle.mc_actions.proofs.dumpinfo.report_named.Goals as goal

pub returns-in_err-bytes : goal.returns-in_err-bytes
returns-in_err-bytes g c =
    let p = err_from_is_err_and c.from_residual.result c.from_residual.ensures.1 in
    rw (p.1, p.2) (record { result = Err _; answers = refused_reading dumped dumped_wanted _ _ _ c.in_err-bytes.ensures.refused; end_is = refl })

pub returns : goal.returns
returns g c =
    let read = rw (← c.as_slice.ensures.value) at c.in_ok-bytes.ensures.whole.1 in
    known_from dumped _ _ _ _ _ read (by_tool _ _ _ _ _ _ c.dumpinfo.ensures.answer c.map_err-reported.ensures.cases)
