-- How the text of a cursor is taken apart.
use Rattle.std.specs.Prelude.{◌≡◌, ◌≢◌, IsSomeAnd, ℕ, suc, ◌/◌, ◌%◌, ◌<◌, ◌≤◌, List, [], ◌∷◌, ◌++◌, length, slice_index, Option, Some, None, decimal, Result, Ok, Err, MatchResult, true, false, IfSome, is_err, refl}
use Rattle.std.specs.{Str.Parse.{ParsesUnsigned}, Borrow.{Bor}}
use Rattle.std.proofs.{Common.{append_assoc, arith, sym, ◌∙◌}, lemmas.Fmt.{parse-decimal}, lemmas.Str.Pattern.{IsSplitOnceResult}}
use Rattle.hex.specs.{Hex.{IsBytes, decode_sized, encode_lower, encode_with, lower_digits}, declared.error.FromHexError.{FromHexError}}
use Rattle.hex.proofs.HexLemmas.{length-encode_with, decode_of-encode_lower, decode_sized-twice}
use Rattle.mc_trailer.specs.declared.tables.Rules.{Rules}
use Rattle.mc_start.specs.{Cursor.{IsStartField, IsCursor}, declared.cursor.Cursor.{Cursor}, declared.cursor_fields.StartField.{StartField}}
use Rattle.mc_output.specs.facts.Parting.{Lacks, parted, one_piece, one_part, no_part, lacks_decimal}

-- Two fields of a text, and what follows them.
pub two_fields : (text a rest b rest' a' b' : List ℕ) → text ≡ a ++ 58 ∷ rest → rest ≡ b ++ 58 ∷ rest' → a ≡ a' → b ≡ b' → text ≡ (a' ++ (58 ∷ (b' ++ (58 ∷ [])))) ++ rest'
two_fields text a rest b rest' a' b' first second is is' = grind (arith, append_assoc)

-- ---- numbers and digits

-- A text that writes a small number is read as that number.
pub read_byte : {E : Type 0} (n : ℕ) (text : List ℕ) (r : Result ℕ E) → n ≤ 16 → text ≡ decimal n → ParsesUnsigned 8 10 text r → r ≡ Ok n
read_byte n text r small is parses = parse-decimal 8 n text r (omega (arith, small)) (omega (arith, small)) is parses

-- And the digits of a digest as that digest.
in_room : (d : List ℕ) (dec : Result (List ℕ) FromHexError) (out : List ℕ) (r : Result (Unit {0}) FromHexError) → dec ≡ Ok d
    → MatchResult dec (λ bytes. (r ≡ Ok tt) × (out ≡ bytes)) (λ e. r ≡ Err e) → (r ≡ Ok tt) × (out ≡ d)
in_room d (Ok bytes) out r is found = let same : bytes ≡ d = cc in (found.0, found.1 ∙ same)
in_room d (Err e) out r is found = absurd cc

pub digest_reads : (d text out : List ℕ) (r : Result (Unit {0}) FromHexError) (room : ℕ) → length d ≡ 32 → IsBytes d → text ≡ encode_lower d → room ≡ 32
    → MatchResult (decode_sized text room) (λ bytes. (r ≡ Ok tt) × (out ≡ bytes)) (λ e. r ≡ Err e) → (r ≡ Ok tt) × (out ≡ d)
digest_reads d text out r room len bytes is n found = grind (arith, length-encode_with, decode_sized-twice, decode_of-encode_lower, in_room)

pub apart : true ≡ false → ⊥
apart e = cc

pub no_error : {E : Type 0} (r : Result (Unit {0}) E) → r ≡ Ok tt → true ≡ is_err r → ⊥
no_error (Ok x) is wrong = absurd cc
no_error (Err e) is wrong = absurd cc

-- ---- colons

colon_no_digit : (c : ℕ) → c ≡ 58 → 48 ≤ c → c ≤ 57 → ⊥
colon_no_digit c is low high = omega (arith, is, high)

no_digit : (d x : ℕ) → d < 16 → slice_index lower_digits d ≡ x → x ≢ 58
no_digit d x lt is colon = grind arith

pub lacks_hex : (d : List ℕ) → IsBytes d → Lacks 58 (encode_lower d)
unfolding encode_with
lacks_hex [] bytes = tt
lacks_hex (b ∷ rest) bytes =
    let byte : b < 256 = bytes 0 in (
      no_digit (b / 16) _ (omega (arith, byte)) refl,
      (no_digit (b % 16) _ (omega (arith, byte)) refl, lacks_hex rest (λ i. bytes (suc i))),
    )

-- ---- fields

-- The field before the first colon is the one that stands there.
pub field_read : (text field rest : List ℕ) (r : Option (Bor (List ℕ) × Bor (List ℕ))) → IsSplitOnceResult 58 text r → Lacks 58 field → text ≡ field ++ 58 ∷ rest
    → IsSomeAnd r (λ found. (found.0.now ≡ field) × (found.1.now ≡ rest))
field_read text field rest None split lacks is = no_part 58 text field rest (one_piece 58 (omega arith) text None split refl) is
field_read text field rest (Some (a, b)) split lacks is =
    let p = parted 58 (omega arith) text (Some (a, b)) split a b refl in
    one_part 58 a.now field b.now rest p.lacks lacks (sym p.parts ∙ is)

pub field_there : (text : List ℕ) (r : Option (Bor (List ℕ) × Bor (List ℕ))) → IsSplitOnceResult 58 text r → IfSome r (λ found. text ≡ found.0.now ++ 58 ∷ found.1.now)
field_there text None split = tt
field_there text (Some (a, b)) split = (parted 58 (omega arith) text (Some (a, b)) split a b refl).parts

pub lacks_bound : (n : ℕ) → n ≤ 16 → Lacks 58 (decimal n)
lacks_bound n at_most = lacks_decimal 58 colon_no_digit n (omega (arith, at_most))

abbrev pub field_of : List ℕ → ℕ → StartField
field_of digest bound = record { digest = digest; bound = bound }

-- A start that was read is the one of its fields.
pub start_is : (d e : List ℕ) (m n : ℕ) → Some d ≡ Some e → Some m ≡ Some n → field_of d m ≡ field_of e n
start_is d e m n a b = cc

-- ---- cursors

-- The start and the bound of a cursor are a field.
pub start_of : (c : Cursor) → IsCursor c → IsStartField (field_of c.digest c.bound)
start_of c ok = record { digest = ok.digest; bytes = ok.bytes; at_most = ok.at_most }

-- A cursor that was read is the one of its fields.
pub cursor_is : {E : Type 0} (given : Rules) (start : StartField) (schedule : List ℕ) (c : Cursor) → given ≡ c.rules → start ≡ field_of c.digest c.bound
    → ◌≡◌ {A = Result (List ℕ) E} (Ok schedule) (Ok c.schedule)
    → record { rules = given; digest = start.digest; bound = start.bound; schedule = schedule } ≡ c
cursor_is given start schedule c a b d = grind arith
