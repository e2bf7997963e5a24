use Rattle.std.proofs.{Common.{inr, refl}, lemmas.Result.{err_from_is_err_and}}
use Rattle.mc_actions.proofs.Shelving.{bytes_alone}
use Rattle.mc_actions.proofs.life.delivered.Goals as goal

pub returns-clause-content : goal.returns-clause-content
returns-clause-content c =
    let all = bytes_alone c.args.layout.now c.in_ok-images.images _ _ _ _ _ _ _ _ c.primary-primary.ensures.value c.in_ok-bytes.ensures.items c.in_ok-extend_from_slice.ensures.items
    c.in_ok-resize.ensures.items c.extend_from_slice.new.self.ok.0 refl c.size.ensures.value c.deref.ensures.value in
    (c.in_ok-images.images, c.in_ok-images.ensures, rw all at c.in_ok-from_flash.ensures.2)

pub returns-in_err-from_flash-clause-refused : goal.returns-in_err-from_flash-clause-refused
returns-in_err-from_flash-clause-refused c =
    let p = err_from_is_err_and c.from_residual-in_err-from_flash.result c.from_residual-in_err-from_flash.ensures.1 in
    let all = bytes_alone c.args.layout.now c.in_ok-images.images _ _ _ _ _ _ _ _ c.primary-primary.ensures.value c.in_ok-bytes.ensures.items c.in_ok-extend_from_slice.ensures.items
    c.in_ok-resize.ensures.items c.extend_from_slice.new.self.ok.0 refl c.size.ensures.value c.deref.ensures.value in
    rw (p.1, p.2) (inr (_, refl, inr (c.in_ok-images.images, c.in_ok-images.ensures, rw all at c.in_err-from_flash.ensures)))
