use Rattle.std.proofs.{Common.{◌+◌, arith, sym, ◌∙◌}, lemmas.Result.{err_from_is_err_and}}
use Rattle.mc_image.proofs.{Scans.{digest_stands}, JudgeLaws.{entries_error, digest_wrong, digest_right, sealed_len}}
use Rattle.mc_image.proofs.judge.answer_of.Goals as goal

pub returns-in_err-digest : goal.returns-in_err-digest
returns-in_err-digest c = λ body area is plain more h.
    let p = err_from_is_err_and c.from_residual.result c.from_residual.ensures.1 in
    rw p.1 (entries_error c.args.sealed.now body is c.args.total c.args.scan.now area plain more _ (rw p.2 (c.in_err-digest.ensures.exact _ plain.scan)))

pub returns-then-are_same : goal.returns-then-are_same
returns-then-are_same c = λ body area is plain more h.
    let d = c.in_ok-digest.ensures.exact _ plain.scan in
    let v = digest_stands _ _ d.1 c.in_ok-digest.ensures.len in
    let same = sym c.as_slice.ensures ∙ c.are_same.ensures.0 c.if-are_same.true ∙ c.as_slice-2.ensures in
    let l = sealed_len c.args.sealed.now body is in
    rw c.to_array-digest.ensures (digest_right c.args.sealed.now body is c.args.total c.args.scan.now area plain more h
    _ d.0 v.1 c.in_ok-digest.ensures.len (c.body_len.result + c.args.total) (sym same ∙ c.to_array-digest.ensures) (omega (arith, c.body_len.ensures.sum, l, plain.left)))

pub returns-else-are_same : goal.returns-else-are_same
returns-else-are_same c = λ body area is plain more h.
    let d = c.in_ok-digest.ensures.exact _ plain.scan in
    let v = digest_stands _ _ d.1 c.in_ok-digest.ensures.len in
    digest_wrong c.args.sealed.now body is c.args.total c.args.scan.now area plain more h _ d.0 v.1 c.in_ok-digest.ensures.len (λ same.
    let t = c.are_same.ensures.1 (c.as_slice.ensures ∙ c.to_array-digest.ensures ∙ sym same ∙ sym c.as_slice-2.ensures) in
    let f = c.if-are_same.false in
    cc)
