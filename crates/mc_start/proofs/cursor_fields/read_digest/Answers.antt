use Rattle.std.specs.Prelude.{◌≡◌, ℕ, List, Some, true, false, not}
use Rattle.std.proofs.{Common.{refl, sym, ap, ◌∙◌}, lemmas.Slice.Eq.{bytes_eq-Decides}}
use Rattle.hex.specs.Hex.{encode_lower}
use Rattle.mc_start.proofs.Cursors.{apart, no_error, digest_reads}
use Rattle.mc_start.proofs.cursor_fields.read_digest.Goals as goal

pub returns-then-is_err-clause-only : goal.returns-then-is_err-clause-only
returns-then-is_err-clause-only c = λ d len bytes is.
    let read = digest_reads d c.args.text.now c.decode_to_slice.new.out c.decode_to_slice.result 32 len bytes is refl c.decode_to_slice.ensures.value in
    absurd (no_error c.decode_to_slice.result read.0 c.if-is_err.ensures.value)

pub returns-then-ne-clause-only : goal.returns-then-ne-clause-only
returns-then-ne-clause-only c = λ d len bytes is.
    let read = digest_reads d c.args.text.now c.decode_to_slice.new.out c.decode_to_slice.result 32 len bytes is refl c.decode_to_slice.ensures.value in
    let same : c.as_slice.result.now ≡ c.as_bytes.result.now = c.as_slice.ensures ∙ c.digits_of.ensures ∙ ap encode_lower read.1 ∙ sym is ∙ sym c.as_bytes.ensures.value in
    let equal = (bytes_eq-Decides c.as_slice.result.now c.as_bytes.result.now).1 same in
    let ne : true ≡ false = c.if-ne.ensures ∙ ap (λ b. not b) equal in
    absurd (apart ne)

pub returns-clause-only : goal.returns-clause-only
returns-clause-only c = λ d len bytes is.
    let read = digest_reads d c.args.text.now c.decode_to_slice.new.out c.decode_to_slice.result 32 len bytes is refl c.decode_to_slice.ensures.value in
    ap (λ (x : List ℕ). Some x) read.1
