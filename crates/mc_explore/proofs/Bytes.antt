-- Which bytes stand in the texts of schedules, rows and cursors.
use Rattle.std.specs.Prelude.{◌≡◌, ◌≢◌, ℕ, zero, suc, ◌/◌, ◌%◌, ◌==◌, ◌≤◌, ◌<◌, Bool, true, false, not, if◌then◌else◌, List, [], ◌∷◌, ◌++◌, take, flat_map, slice_index, codes, decimal, All, Option, Some, None, refl}
use Rattle.std.specs.{Fmt.{digits, digits_onto, digit_glyph}, List.{list_all}, Str.{IsUtf8}, Str.Iter.{LacksByte}}
use Rattle.std.proofs.{Common.{arith}, lemmas.Bool.{and_parts, eqb-false, not-true}, lemmas.List.Elements.{All-nil, All-cons, All-append, All-take, All-weaker}}
use Rattle.std.proofs.{lemmas.Str.{IsUtf8-from_ascii}, lemmas.Str.Ascii.{IsAscii-from_all}}
use Rattle.hex.specs.Hex.{encode_lower, encode_with, lower_digits}
use Rattle.mc_flash.specs.declared.flash.Grain.{Grain}
use Rattle.mc_flash.specs.declared.flash.Grain.TheVariants as grains
use Rattle.mc_image.specs.Valid.{Identity}
use Rattle.mc_trailer.specs.{Tables.{type_text}, declared.tables.Profile.{Profile}}
use Rattle.mc_trailer.specs.declared.tables.Profile.TheVariants as profiles
use Rattle.mc_trailer.specs.declared.tables.SwapType.{SwapType}
use Rattle.mc_boot.specs.{Outcome.{result_text}, declared.outcome.BootResult.{BootResult}}
use Rattle.mc_start.specs.{Cursor.{head_text, cursor_text}, Start.{schedule_text}, declared.cursor.Cursor.{Cursor}}
use Rattle.mc_explore.specs.Rows.{slot_text, row_text, ShownRow}

abbrev pub IsBetween : ℕ → ℕ → ℕ → Type 0
IsBetween low high c = (low ≤ c) × (c ≤ high)

-- ---- numbers and schedules

glyph : (d : ℕ) → d < 10 → IsBetween 48 57 (digit_glyph false d)
glyph d lt = grind arith

onto : (k n : ℕ) (acc : List ℕ) → All (IsBetween 48 57) acc → All (IsBetween 48 57) (digits_onto k 10 false n acc)
onto zero n acc all = all
onto (suc k) n acc all =
    let more = All-cons (IsBetween 48 57) (digit_glyph false (n % 10)) acc (glyph (n % 10) (omega arith)) all in
    by (n / 10 == 0) (digit_glyph false (n % 10) ∷ acc) (digits_onto k 10 false (n / 10) (digit_glyph false (n % 10) ∷ acc)) more (onto k (n / 10) (digit_glyph false (n % 10) ∷ acc) more)
  where
    by : (b : Bool) (xs ys : List ℕ) → All (IsBetween 48 57) xs → All (IsBetween 48 57) ys → All (IsBetween 48 57) (if b then xs else ys)
    by true xs ys p q = p
    by false xs ys p q = q

pub digits_between : (n : ℕ) → All (IsBetween 48 57) (decimal n)
unfolding digits
digits_between n = onto 64 n [] (All-nil (IsBetween 48 57))

in_schedule : (c : ℕ) → IsBetween 48 57 c → IsBetween 45 57 c
in_schedule c is = (omega (arith, is.0), is.1)

pub schedule_between : (l : List ℕ) → All (IsBetween 45 57) (schedule_text l)
schedule_between [] = All-cons (IsBetween 45 57) 45 [] (omega arith, omega arith) (All-nil (IsBetween 45 57))
schedule_between (c ∷ cs) = All-append (IsBetween 45 57) (decimal c) (flat_map (λ d. codes "." ++ decimal d) cs) (number c) (points cs)
  where
    number : (n : ℕ) → All (IsBetween 45 57) (decimal n)
    number n = All-weaker (IsBetween 48 57) (IsBetween 45 57) in_schedule (decimal n) (digits_between n)

    points : (ds : List ℕ) → All (IsBetween 45 57) (flat_map (λ d. codes "." ++ decimal d) ds)
    points [] = All-nil (IsBetween 45 57)
    points (d ∷ ds) =
        let first = All-cons (IsBetween 45 57) 46 (decimal d) (omega arith, omega arith) (number d) in
        All-append (IsBetween 45 57) (codes "." ++ decimal d) (flat_map (λ e. codes "." ++ decimal e) ds) first (points ds)

-- ---- no line feed

pub record NoFeed (xs : List ℕ) : Type 0 where
  pub all : All (λ c. c ≢ 10) xs

abbrev no_feed : List ℕ → Bool
no_feed = list_all (λ c. not (c == 10))

pub literal : (xs : List ℕ) → no_feed xs ≡ true → NoFeed xs
literal [] e = record { all = All-nil (λ c. c ≢ 10) }
literal (x ∷ xs) e =
    let both = and_parts (not (x == 10)) (no_feed xs) e in
    record { all = All-cons (λ c. c ≢ 10) x xs (eqb-false x 10 (not-true (x == 10) both.0)) (literal xs both.1).all }

pub and : {xs ys : List ℕ} → NoFeed xs → NoFeed ys → NoFeed (xs ++ ys)
and {xs} {ys} p q = record { all = All-append (λ c. c ≢ 10) xs ys p.all q.all }

pub feedless_prefix : (n : ℕ) (xs : List ℕ) → NoFeed xs → NoFeed (take n xs)
feedless_prefix n xs none = record { all = All-take (λ c. c ≢ 10) n xs none.all }

number : (n : ℕ) → NoFeed (decimal n)
number n = record { all = All-weaker (IsBetween 48 57) (λ c. c ≢ 10) (λ c is e. omega (arith, is.0, e)) (decimal n) (digits_between n) }

schedule : (l : List ℕ) → NoFeed (schedule_text l)
schedule l = record { all = All-weaker (IsBetween 45 57) (λ c. c ≢ 10) (λ c is e. omega (arith, is.0, e)) (schedule_text l) (schedule_between l) }

result : (r : BootResult) → NoFeed (result_text r)
result r = grind (arith, literal)

kind : (t : SwapType) → NoFeed (type_text t)
kind t = grind (arith, literal)

slot : (o : Option Identity) → NoFeed (slot_text o)
slot None = literal (codes "none") refl
slot (Some id) =
    let v = id.version in
    let dot = literal (codes ".") refl in
    and (and (and (and (and (and (and (number v.major) dot) (number v.minor)) dot) (number v.revision)) (literal (codes "+") refl)) (number v.build)) (and (literal (codes "/") refl) (number id.size))

pub row_feedless : (row : ShownRow) → NoFeed (row_text row)
row_feedless row =
    let o = row.outcome in
    let space = literal (codes " ") refl in
    and (and (schedule row.schedule) (and space (and (result o.result) (and space (and (kind o.kind) (and space (number o.ops)))))))
    (and space (and (slot o.primary) (and space (and (slot o.secondary) (and space (kind o.next))))))

-- ---- cursors

at : (xs : List ℕ) (i : ℕ) → no_feed xs ≡ true → slice_index xs i ≢ 10
at [] i e is = absurd cc
at (x ∷ xs) zero e is = eqb-false x 10 (not-true (x == 10) (and_parts (not (x == 10)) (no_feed xs) e).0) is
at (x ∷ xs) (suc i) e is = at xs i (and_parts (not (x == 10)) (no_feed xs) e).1 is

hexadecimal : (d : List ℕ) → NoFeed (encode_lower d)
unfolding encode_with
hexadecimal [] = record { all = All-nil (λ c. c ≢ 10) }
hexadecimal (b ∷ rest) =
    let low = All-cons (λ c. c ≢ 10) (slice_index lower_digits (b % 16)) (encode_lower rest) (at lower_digits (b % 16) refl) (hexadecimal rest).all in
    record { all = All-cons (λ c. c ≢ 10) (slice_index lower_digits (b / 16)) (slice_index lower_digits (b % 16) ∷ encode_lower rest) (at lower_digits (b / 16) refl) low }

head : (grain : Grain) (profile : Profile) → NoFeed (head_text grain profile)
head grains.Call profiles.One = literal (codes "mc1:") refl
head grains.Call profiles.Two = literal (codes "mc2:call:2:") refl
head grains.Call profiles.Three = literal (codes "mc2:call:3:") refl
head grains.Unit profiles.One = literal (codes "mc2:unit:1:") refl
head grains.Unit profiles.Two = literal (codes "mc2:unit:2:") refl
head grains.Unit profiles.Three = literal (codes "mc2:unit:3:") refl

pub cursor_feedless : (c : Cursor) → NoFeed (cursor_text c)
cursor_feedless c =
    let colon = literal (codes ":") refl in
    and (head c.rules.grain c.rules.profile) (and (hexadecimal c.digest) (and colon (and (number c.bound) (and colon (schedule c.schedule)))))

-- ---- bytes that are lacking

pub lacks_literal : (byte : ℕ) (xs : List ℕ) → list_all (λ c. not (c == byte)) xs ≡ true → LacksByte byte xs
lacks_literal byte [] e k lt is = omega (arith, lt)
lacks_literal byte (x ∷ xs) e zero lt is = eqb-false x byte (not-true (x == byte) (and_parts (not (x == byte)) (list_all (λ c. not (c == byte)) xs) e).0) is
lacks_literal byte (x ∷ xs) e (suc k) lt is = lacks_literal byte xs (and_parts (not (x == byte)) (list_all (λ c. not (c == byte)) xs) e).1 k (omega (arith, lt)) is

pub lacks_feed : (xs : List ℕ) → NoFeed xs → LacksByte 10 xs
lacks_feed xs none k lt = none.all k 0 lt

-- The text of a schedule has no space.
pub no_space : (l : List ℕ) → LacksByte 32 (schedule_text l)
no_space l k lt = (All-weaker (IsBetween 45 57) (λ c. c ≢ 32) (λ c is e. omega (arith, is.0, e)) (schedule_text l) (schedule_between l)) k 0 lt

-- And it is one that Rust reads as text.
pub schedule_utf8 : (l : List ℕ) → IsUtf8 (schedule_text l)
schedule_utf8 l =
    let low = All-weaker (IsBetween 45 57) (λ c. c < 128) (λ c is. omega (arith, is.1)) (schedule_text l) (schedule_between l) in
    IsUtf8-from_ascii (schedule_text l) (IsAscii-from_all (schedule_text l) low)
