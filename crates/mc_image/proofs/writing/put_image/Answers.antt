use Rattle.std.proofs.{Transfers.{starts_with_trans}, Common.{rules, ◌≡◌, ◌∙◌, ◌++◌, ap, length, drop}}
use Rattle.sha2.specs.Sha256.{sha256}
use Rattle.mc_image.specs.{Image.{covered_text}, Writing.{image_of}}
use Rattle.mc_image.proofs.Written.{on_ok, image-written, plain_size}
use Rattle.mc_image.proofs.writing.put_image.Goals as goal

pub put_plain-requires : goal.put_plain-requires
put_plain-requires c = c.requires.plain ∙ plain_size c.args.parts.now

pub returns-clause-written : goal.returns-clause-written
returns-clause-written c =
    let start : c.len-start.result ≡ length c.args.out.now.items = search rules in
    on_ok c.put_plain.result c.put_plain.ensures.written
    (λ last. image-written c.args.parts.now c.args.out.now.items c.put_covered.new.out.items _ c.digest_from-digest.result c.len-start.result start
    (c.in_ok-put_covered.ensures.written ∙ ap (λ x. x ++ covered_text (image_of c.args.parts.now)) c.in_ok-reserve.ensures.items)
    (c.digest_from-digest.ensures ∙ ap (λ x. sha256 (drop c.len-start.result x)) c.deref.ensures.value) last)

pub returns-clause-kept : goal.returns-clause-kept
returns-clause-kept c = starts_with_trans _ _ _ c.put_plain.ensures.kept (rw c.in_ok-reserve.ensures.items at c.in_ok-put_covered.ensures.kept)

pub returns-in_err-put_covered-clause-kept : goal.returns-in_err-put_covered-clause-kept
returns-in_err-put_covered-clause-kept c = rw c.in_ok-reserve.ensures.items at c.put_covered.ensures.kept
