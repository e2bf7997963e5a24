use Rattle.std.proofs.Common.{inr, refl}
use Rattle.mc_imgtool.proofs.Wanted.{dumped_good, dumped_bad}
use Rattle.mc_imgtool.proofs.report.report_for.Goals as goal

pub returns-in-Err-clause-report : goal.returns-in-Err-clause-report
returns-in-Err-clause-report c = inr (dumped_bad _ _ c.requires c.in-Err.ensures.exact)

pub returns-in-Ok-report_of-clause-report : goal.returns-in-Ok-report_of-clause-report
returns-in-Ok-report_of-clause-report c = dumped_good _ _ _ c.size.result _ c.requires c.in-Ok.ensures.exact.0 c.in-Ok.ensures.exact.1 c.size.ensures refl c.in-Ok-report_of.ensures
