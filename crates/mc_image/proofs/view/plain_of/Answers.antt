use Rattle.std.proofs.{Common.{◌≤◌, arith, ap, sym, ◌∙◌, take, drop, length}, lemmas.List.{take_rest}, lemmas.Result.{err_from_is_err_and}}
use Rattle.mc_image.specs.Image.{u16_at, entries_in, digests, area_in}
use Rattle.mc_image.proofs.Scans.{head_first, plain_short, plain_entries, plain_none, beyond_error}
use Rattle.mc_image.proofs.view.plain_of.Goals as goal

pub returns-in_err-total : goal.returns-in_err-total
returns-in_err-total c =
    let p = err_from_is_err_and c.from_residual.result c.from_residual.ensures.1 in
    rw (p.1, p.2) (beyond_error _ _ _ (head_first c.args.bytes.now _ c.in_err-total.ensures))

pub returns-then-bytes-total : goal.returns-then-bytes-total
returns-then-bytes-total c = beyond_error _ _ _ (plain_short c.args.bytes.now c.in_ok-total.ensures.0 (let t = c.in_ok-total.ensures.3 in omega (arith, t)))

pub returns-in_err-digest : goal.returns-in_err-digest
unfolding area_in
returns-in_err-digest c =
    let p = err_from_is_err_and c.from_residual-in_err-digest.result c.from_residual-in_err-digest.ensures.1 in
    let le : u16_at 2 c.args.bytes.now ≤ length c.args.bytes.now = omega (arith, c.in_ok-total.ensures.3) in
    rw (p.1, p.2) (plain_entries c.args.bytes.now _ c.in_ok-total.ensures.0 le
    (take_rest (take c.in_ok-total.field-0 c.args.bytes.now) 4 ∙ ap (λ n. drop 4 (take n c.args.bytes.now)) c.in_ok-total.ensures.3) ∙ c.in_err-digest.ensures)

pub returns : goal.returns
unfolding area_in
returns c =
    let le : u16_at 2 c.args.bytes.now ≤ length c.args.bytes.now = omega (arith, c.in_ok-total.ensures.3) in
    let d = c.in_ok-digest.ensures in
    let is = take_rest (take c.in_ok-total.field-0 c.args.bytes.now) 4 ∙ ap (λ n. drop 4 (take n c.args.bytes.now)) c.in_ok-total.ensures.3 in
    (plain_none c.args.bytes.now _ c.in_ok-total.ensures.0 le is d.0, ap (λ n. take n c.args.bytes.now) c.in_ok-total.ensures.3, ap (λ x. digests (entries_in x)) (sym is) ∙ d.1, d.2)
