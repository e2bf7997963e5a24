use Rattle.std.proofs.lemmas.Result.{err_from_is_err_and}
use Rattle.mc_options.proofs.options.CampaignSpelled.of_text.Goals as goal

pub returns-in_err-read-clause-refused : goal.returns-in_err-read-clause-refused
returns-in_err-read-clause-refused c = let p = err_from_is_err_and c.from_residual.result c.from_residual.ensures.1 in rw (p.1, p.2) (tt {0})
