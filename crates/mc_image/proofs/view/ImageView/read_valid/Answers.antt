use Rattle.std.proofs.lemmas.Result.{err_from_is_err_and}
use Rattle.mc_image.proofs.Views.{fault_read, id_read}
use Rattle.mc_image.proofs.view.ImageView.read_valid.Goals as goal

pub returns-in_err-image-clause-exact : goal.returns-in_err-image-clause-exact
returns-in_err-image-clause-exact c = let p = err_from_is_err_and c.from_residual.result c.from_residual.ensures.1 in rw (p.1, p.2) (fault_read _ _ c.in_err-image.ensures.exact)

pub returns-in_err-image-clause-id : goal.returns-in_err-image-clause-id
returns-in_err-image-clause-id c = let p = err_from_is_err_and c.from_residual.result c.from_residual.ensures.1 in rw p.1 (id_read _ _ c.in_err-image.ensures.exact)
