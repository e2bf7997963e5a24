use Rattle.std.specs.Prelude.{◌∷◌, ◌++◌, decimal}
use Rattle.hex.specs.Hex.{encode_lower}
use Rattle.mc_start.proofs.Cursors.{lacks_hex, lacks_bound, start_is}
use Rattle.mc_start.proofs.cursor_fields.StartField.read.Goals as goal

pub returns-in_err-digits-clause-only : goal.returns-in_err-digits-clause-only
returns-in_err-digits-clause-only c = λ s rest ok is.
    absurd (c.in_err-digits.ensures.only (encode_lower s.digest) (decimal s.bound ++ (58 ∷ rest)) (lacks_hex s.digest ok.bytes) is)

pub returns-in_err-number-clause-only : goal.returns-in_err-number-clause-only
returns-in_err-number-clause-only c = λ s rest ok is.
    let d = c.in_ok-digits.ensures.only (encode_lower s.digest) (decimal s.bound ++ (58 ∷ rest)) (lacks_hex s.digest ok.bytes) is in
    absurd (c.in_err-number.ensures.only (decimal s.bound) rest (lacks_bound s.bound ok.at_most) d.1)

pub returns-in_err-digest-clause-only : goal.returns-in_err-digest-clause-only
returns-in_err-digest-clause-only c = λ s rest ok is.
    let d = c.in_ok-digits.ensures.only (encode_lower s.digest) (decimal s.bound ++ (58 ∷ rest)) (lacks_hex s.digest ok.bytes) is in
    let none = c.in_err-digest.ensures.only s.digest ok.digest ok.bytes d.0 in
    absurd cc

pub returns-in_err-bound-clause-only : goal.returns-in_err-bound-clause-only
returns-in_err-bound-clause-only c = λ s rest ok is.
    let d = c.in_ok-digits.ensures.only (encode_lower s.digest) (decimal s.bound ++ (58 ∷ rest)) (lacks_hex s.digest ok.bytes) is in
    let n = c.in_ok-number.ensures.only (decimal s.bound) rest (lacks_bound s.bound ok.at_most) d.1 in
    let none = c.in_err-bound.ensures.only s.bound ok.at_most n.0 in
    absurd cc

pub returns-clause-only : goal.returns-clause-only
returns-clause-only c = λ s rest ok is.
    let d = c.in_ok-digits.ensures.only (encode_lower s.digest) (decimal s.bound ++ (58 ∷ rest)) (lacks_hex s.digest ok.bytes) is in
    let n = c.in_ok-number.ensures.only (decimal s.bound) rest (lacks_bound s.bound ok.at_most) d.1 in
    let digest = c.in_ok-digest.ensures.only s.digest ok.digest ok.bytes d.0 in
    let bound = c.in_ok-bound.ensures.only s.bound ok.at_most n.0 in
    (start_is c.in_ok-digest.digest s.digest c.in_ok-bound.bound s.bound digest bound, n.1)
