use Rattle.std.proofs.{Common.{List, ℕ, ◌≡◌, ◌++◌, true, false, length, ap, sym, ◌∙◌}, lemmas.Slice.Eq.{bytes_eq-Decides}}
use Rattle.hex.specs.Hex.{encode_lower}
use Rattle.mc_life.proofs.Reading.{digits_read, no_error}
use Rattle.mc_life.proofs.event.decode.Goals as goal

pub returns-then-is_err-clause-none : goal.returns-then-is_err-clause-none
returns-then-is_err-clause-none c _ b len bytes is =
    let read = digits_read b c.args.text.now c.decode_to_slice.new.out c.decode_to_slice.result (length c.args.room.now) len bytes is c.decode_to_slice.ensures.value in
    no_error c.decode_to_slice.result read.0 c.if-is_err.ensures.value

pub returns-clause-none : goal.returns-clause-none
returns-clause-none c other b len bytes is =
    let read = digits_read b c.args.text.now c.decode_to_slice.new.out c.decode_to_slice.result (length c.args.room.now) len bytes is c.decode_to_slice.ensures.value in
    let same : c.as_str.result.now ≡ c.args.text.now = c.as_str.ensures ∙ c.put_hex.ensures.text ∙ ap (λ
    (z : List ℕ). z ++ encode_lower c.decode_to_slice.new.out) c.new-digits.ensures ∙ ap encode_lower read.1 ∙ sym is in
    let yes : true ≡ false = sym ((bytes_eq-Decides c.as_str.result.now c.args.text.now).1 same) ∙ sym c.eq.ensures ∙ other in
    absurd cc
