use Rattle.std.proofs.{Common.{◌≡◌, ◌+◌, ◌-◌, arith, [], ◌∷◌, ap, sym, ◌∙◌, take, drop, length}, lemmas.Result.{err_from_is_err_and}}
use Rattle.mc_image.proofs.Scans.{digest_stands}
use Rattle.mc_image.proofs.view.digest_among.Goals as goal

pub returns-in_err-value : goal.returns-in_err-value
returns-in_err-value c =
    let p = err_from_is_err_and c.from_residual.result c.from_residual.ensures.1 in
    rw (p.1, p.2) (c.in_err-value.ensures.exact c.args.entries.now (c.feed.ensures [] c.new.ensures))

pub overflow_add-result : goal.overflow_add-result
overflow_add-result c = omega (arith, (digest_stands _ _ (c.in_ok-value.ensures.exact c.args.entries.now (c.feed.ensures [] c.new.ensures)).1 c.in_ok-value.ensures.len).2)

pub slice_bounds-result-end : goal.slice_bounds-result-end
slice_bounds-result-end c = omega (arith, (digest_stands _ _ (c.in_ok-value.ensures.exact c.args.entries.now (c.feed.ensures [] c.new.ensures)).1 c.in_ok-value.ensures.len).2)

pub returns : goal.returns
returns c =
    let d = c.in_ok-value.ensures.exact c.args.entries.now (c.feed.ensures [] c.new.ensures) in
    let s = digest_stands c.in_ok-value.value c.args.entries.now d.1 c.in_ok-value.ensures.len in
    let n : c.in_ok-value.value.start + 32 - c.in_ok-value.value.start ≡ 32 = omega arith in
    let is = ap (λ k. take k (drop c.in_ok-value.value.start c.args.entries.now)) n ∙ s.0 in
    (d.0, s.1 ∙ ap (λ x. x ∷ []) (sym is), ap length is ∙ c.in_ok-value.ensures.len)
