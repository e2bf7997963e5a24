-- Operation number k of each list of operations, by either grain.
use Rattle.std.proofs.{Common.{ap, arith, inl, zero-add, ◌∙◌, add-one}, Math.Nat.{mul-le-mul_right}}
use Rattle.std.proofs.lemmas.List.FromFn.{length-map-range_with_len, length-range_with_len, get_or-range_with_len}
use Rattle.std.proofs.lemmas.Option.{slice_get_within, get_or_from_slice_get, slice_get-get_or, slice_get-map}
use Rattle.std.specs.List.{range_with_len}
use Rattle.std.specs.Prelude.{IfSome, List, Option, Some, [], drop, flat_map, length, map, max, refl, slice_get, suc, zero, ℕ, ◌%◌, ◌*◌, ◌++◌, ◌+◌, ◌-◌, ◌/◌, ◌<◌, ◌^◌, ◌∷◌, ◌≡◌, ◌≤◌, option_map}
use Rattle.mc_boot.specs.{Boot.{IsInside}, Plan.{brought_in, copy_of, entry_of, moved_up, piece, steps, taken_out, transfers, write}}
use Rattle.mc_boot.specs.{Copies.{whole_copy}, declared.transfer.Copies.{Copies}, declared.transfer.Transfer.{Transfer}}
use Rattle.mc_flash.specs.{Flash.{CanTry, IsRange, sectors_of, size_of}, Geometry.{Geometry, IsLayout, greatest_sectors, in_pieces, trailer_sectors}}
use Rattle.mc_flash.specs.{declared.flash.Grain.{Grain}, declared.op.Op.{Op}, declared.op.Op.TheVariants.{Copy}, declared.op.Slot.{Slot}}
use Rattle.mc_flash.specs.facts.Layouts.{chunks_cover, whole_add, whole_sector, whole_times}
use Rattle.mc_trailer.specs.{Trailer.{place}, declared.places.Field.{Field}}
use lib.Seq.{drop-cons}
use Rattle.mc_flash.specs.declared.flash.Grain.TheVariants as grains

-- Elements of lists by their number.

pub get_within : {A : Type 0} (xs ys : List A) (k : ℕ) → k < length xs → slice_get (xs ++ ys) k ≡ slice_get xs k
get_within [] ys k h = absurd (omega arith)
get_within (x ∷ xs) ys zero h = refl
get_within (x ∷ xs) ys (suc k) h = get_within xs ys k (omega arith)

pub get_prefix : {A : Type 0} (xs ys : List A) (k : ℕ) (x : A) → slice_get xs k ≡ Some x → slice_get (xs ++ ys) k ≡ Some x
get_prefix xs ys k x h = get_within xs ys k (slice_get_within xs k x h) ∙ h

pub get_beyond : {A : Type 0} (xs ys : List A) (k j : ℕ) → k ≡ length xs + j → slice_get (xs ++ ys) k ≡ slice_get ys j
get_beyond [] ys k j e = ap (slice_get ys) (omega (arith, e))
get_beyond (x ∷ xs) ys zero j e = absurd (omega (arith, e))
get_beyond (x ∷ xs) ys (suc k) j e = get_beyond xs ys k j (omega (arith, e))

get_number : (a n k : ℕ) → k < n → slice_get (range_with_len a n) k ≡ Some (a + k)
get_number a n k h = slice_get-get_or (range_with_len a n) k 0 (omega (arith, h, length-range_with_len a n)) ∙ ap (λ (i : ℕ). Some i) (get_or-range_with_len a n k 0 h)

pub get_mapped : {A : Type 0} (f : ℕ → A) (a n k : ℕ) → k < n → slice_get (map f (range_with_len a n)) k ≡ Some (f (a + k))
get_mapped f a n k h = slice_get-map f (range_with_len a n) k ∙ ap (option_map f) (get_number a n k h)

pub get_counted : (n k : ℕ) → k < n → slice_get (range_with_len 0 n) k ≡ Some k
get_counted n k h = get_number 0 n k h ∙ ap (λ (i : ℕ). Some i) (zero-add k)

-- the j-th of the i-th piece, where all pieces have one length
pub get_piece : {A B : Type 0} (f : A → List B) (w : ℕ) → ((x : A) → length (f x) ≡ w) → (xs : List A) (k i j : ℕ) (x : A) → slice_get xs i ≡ Some x → j < w → k ≡ i * w + j
    → slice_get (flat_map f xs) k ≡ slice_get (f x) j
get_piece f w even [] k i j x h b e = cc
get_piece f w even (y ∷ xs) k zero j x h b e = grind (arith, get_within)
get_piece f w even (y ∷ xs) k (suc i) j x h b e =
    get_beyond (f y) (flat_map f xs) k (i * w + j) (omega (arith, e, even y)) ∙ get_piece f w even xs (i * w + j) i j x h b refl

pub get_dropped : {A : Type 0} (i : ℕ) (xs : List A) (k : ℕ) → slice_get (drop i xs) k ≡ slice_get xs (i + k)
get_dropped zero xs k = ap (slice_get xs) (omega arith)
get_dropped (suc i) [] k = refl
get_dropped (suc i) (x ∷ xs) k = let later : suc i + k ≡ suc (i + k) = omega arith in rw later (get_dropped i xs k)

-- what is left, from a place with an element on
pub drop_at_place : {A : Type 0} (xs : List A) (k : ℕ) (x : A) → slice_get xs k ≡ Some x → drop k xs ≡ x ∷ drop (k + 1) xs
drop_at_place xs k x h = rw (add-one, drop-cons xs k x (slice_get_within xs k x h), get_or_from_slice_get xs k x x h) refl

-- The copies of a transfer are operations that may be tried.

-- the c-th chunk of a sector
pub can_chunk : (g : Geometry) (slot : Slot) (sector c : ℕ) → IsLayout g → sector < sectors_of g slot → c < g.sector / g.chunk → IsRange g slot (sector * g.sector + c * g.chunk) g.chunk
can_chunk g slot sector c ok there below =
    record {
      inside =
          let whole : (sector + 1) * g.sector ≤ sectors_of g slot * g.sector = mul-le-mul_right g.sector (omega arith) in
          let part : (c + 1) * g.chunk ≤ g.sector / g.chunk * g.chunk = mul-le-mul_right g.chunk (omega arith) in
          let cover = chunks_cover g ok in
          omega (arith, whole, part, cover);
      start = whole_add g (sector * g.sector) (c * g.chunk) (whole_times g sector g.sector (whole_sector g ok)) (whole_times g c g.chunk ok.chunk_units);
      units = ok.chunk_units;
      some = ok.some_chunk;
    }

pub slot_small : (g : Geometry) (slot : Slot) → IsLayout g → size_of g slot ≤ 2 ^ 24
slot_small g it ok = grind (arith, mul-le-mul_right)

-- both ends of a copied chunk
pub can_copy : (g : Geometry) (t : Transfer) (c : ℕ) → IsLayout g → IsInside g t → c < g.sector / g.chunk → CanTry g (copy_of g t c)
can_copy g t c ok inside below = grind (arith, can_chunk)

-- Several chunks of a sector at once.
can_chunks : (g : Geometry) (slot : Slot) (sector c n : ℕ) → IsLayout g → sector < sectors_of g slot → 0 < n → c + n ≤ g.sector / g.chunk
    → IsRange g slot (sector * g.sector + c * g.chunk) (n * g.chunk)
can_chunks g slot sector c n ok there some below =
    record {
      inside =
          let whole : (sector + 1) * g.sector ≤ sectors_of g slot * g.sector = mul-le-mul_right g.sector (omega (arith, there)) in
          let part : (c + n) * g.chunk ≤ g.sector / g.chunk * g.chunk = mul-le-mul_right g.chunk below in
          let cover = chunks_cover g ok in
          omega (arith, whole, part, cover);
      start = whole_add g (sector * g.sector) (c * g.chunk) (whole_times g sector g.sector (whole_sector g ok)) (whole_times g c g.chunk ok.chunk_units);
      units = whole_times g n g.chunk ok.chunk_units;
      some = let one : 1 * g.chunk ≤ n * g.chunk = mul-le-mul_right g.chunk some in omega (arith, one, ok.some_chunk);
    }

pub can_copies : (g : Geometry) (t : Transfer) (c n : ℕ) → IsLayout g → IsInside g t → 0 < n → c + n ≤ g.sector / g.chunk
    → CanTry g (Copy t.from (t.from_sector * g.sector + c * g.chunk) t.to (t.to_sector * g.sector + c * g.chunk) (n * g.chunk))
can_copies g t c n ok inside some below = (
  can_chunks g t.from t.from_sector c n ok inside.from some below,
  can_chunks g t.to t.to_sector c n ok inside.to some below,
  λ same.
      let part : (c + n) * g.chunk ≤ g.sector / g.chunk * g.chunk = mul-le-mul_right g.chunk below in
      let next = ap (λ z. z * g.sector) (inside.apart same) in
      inl (omega (arith, part, chunks_cover g ok, next)),
)

-- What the grain changes: the writes of the larger fields, and the layout that a course has.

pub greatest_pieces : (c : Grain) (g : Geometry) → greatest_sectors (in_pieces c g) ≡ greatest_sectors g
greatest_pieces it g = grind arith

pub get_unit : (g : Geometry) (slot : Slot) (f : Field) (new : List ℕ) (k : ℕ) → k < length new / g.unit → slice_get (write grains.Unit g slot f new) k ≡ Some (piece g slot (place g slot f) new k)
get_unit g slot f new k h = get_mapped (piece g slot (place g slot f) new) 0 (length new / g.unit) k h ∙ ap (λ i. Some (piece g slot (place g slot f) new i)) (zero-add k)

-- a unit lies in the bytes
pub unit_within : (n u k : ℕ) → k < n / u → k * u + u ≤ n
unit_within n u k h = grind arith

-- the size and the magic are of whole units
pub whole_units : (g : Geometry) → IsLayout g → (max g.unit 4 % g.unit ≡ 0) × (16 % g.unit ≡ 0)
whole_units g ok = grind arith

-- what a course of a layout in pieces may try, its flash lets it try
pub can_of : (c : Grain) (g l : Geometry) (o : Option Op) → l ≡ in_pieces c g → IfSome o (λ op. CanTry l op) → IfSome o (λ op. CanTry g op)
can_of c g l it e h = grind arith

pub can_copies_of : (c : Grain) (g l : Geometry) (o : Option Copies) → l ≡ in_pieces c g → IfSome o (λ x. CanTry l (whole_copy x x.count)) → IfSome o (λ x. CanTry g (whole_copy x x.count))
can_copies_of c g l it e h = grind arith

-- The sections of a course by their number.

-- no course is long
pub few_transfers : (g : Geometry) (n first : ℕ) → IsLayout g → n ≤ greatest_sectors g → (3 * n - first) * (g.sector / g.chunk + 2) ≤ 201332736
few_transfers g n first ok fits =
    let w = g.sector / g.chunk + 2 in
    let most = ok.few_sectors in
    let rows : (3 * n - first) * w ≤ 3072 * w = mul-le-mul_right w (omega (arith, most)) in
    omega (arith, rows)

-- The transfers by their number.

pub get_moved : (g : Geometry) (n t : ℕ) → t < n → slice_get (transfers g n) t ≡ Some (moved_up n t)
get_moved g n t h =
    get_prefix (map (moved_up n) (range_with_len 0 n)) _ t (moved_up n t) (get_mapped (moved_up n) 0 n t h ∙ ap (λ i. Some (moved_up n i)) (zero-add t))

get_pair : (g : Geometry) (n t i j : ℕ) → i < n → j < 2 → t ≡ n + (i * 2 + j) → slice_get (transfers g n) t ≡ slice_get (brought_in g i ∷ taken_out g i ∷ []) j
get_pair g n t i j h b e =
    get_beyond (map (moved_up n) (range_with_len 0 n)) (flat_map (λ i. brought_in g i ∷ taken_out g i ∷ []) (range_with_len 0 n)) t (i * 2 + j)
    (omega (arith, e, length-map-range_with_len (moved_up n) 0 n))
    ∙ get_piece (λ i. brought_in g i ∷ taken_out g i ∷ []) 2 (λ _. refl) (range_with_len 0 n) (i * 2 + j) i j i (get_counted n i h) b refl

pub get_brought : (g : Geometry) (n t i : ℕ) → i < n → t ≡ n + i * 2 → slice_get (transfers g n) t ≡ Some (brought_in g i)
get_brought g n t i h e = get_pair g n t i 0 h (omega arith) (omega arith)

pub get_taken : (g : Geometry) (n t i : ℕ) → i < n → t ≡ n + (i * 2 + 1) → slice_get (transfers g n) t ≡ Some (taken_out g i)
get_taken g n t i h e = get_pair g n t i 1 h (omega arith) e

pub get_copy : (g : Geometry) (t : Transfer) (k : ℕ) → 0 < k → k ≤ g.sector / g.chunk → slice_get (steps g t) k ≡ Some (copy_of g t (k - 1))
get_copy g t zero some below = absurd (omega arith)
get_copy g t (suc c) some below =
    get_prefix (map (copy_of g t) (range_with_len 0 (g.sector / g.chunk))) (entry_of g t ∷ []) c (copy_of g t c)
    (get_mapped (copy_of g t) 0 (g.sector / g.chunk) c (omega arith) ∙ ap (λ i. Some (copy_of g t i)) (zero-add c))
    ∙ ap (λ i. Some (copy_of g t i)) (omega arith)

-- One of several copies that begin with that chunk.
pub get_later_copy : (g : Geometry) (t : Transfer) (c j k : ℕ) → k ≡ c + 1 + j → c + j < g.sector / g.chunk
    → slice_get (steps g t) k ≡ Some (Copy t.from (t.from_sector * g.sector + c * g.chunk + j * g.chunk) t.to (t.to_sector * g.sector + c * g.chunk + j * g.chunk) g.chunk)
get_later_copy g t c j k is below =
    let chunk : k - 1 ≡ c + j = omega (arith, is) in
    let from : t.from_sector * g.sector + (c + j) * g.chunk ≡ t.from_sector * g.sector + c * g.chunk + j * g.chunk = omega arith in
    let to : t.to_sector * g.sector + (c + j) * g.chunk ≡ t.to_sector * g.sector + c * g.chunk + j * g.chunk = omega arith in
    get_copy g t k (omega (arith, is)) (omega (arith, is, below))
    ∙ ap (λ i. Some (copy_of g t i)) chunk
    ∙ ap (λ i. Some (Copy t.from i t.to (t.to_sector * g.sector + (c + j) * g.chunk) g.chunk)) from
    ∙ ap (λ i. Some (Copy t.from (t.from_sector * g.sector + c * g.chunk + j * g.chunk) t.to i g.chunk)) to

pub get_entry : (g : Geometry) (t : Transfer) (k : ℕ) → k ≡ g.sector / g.chunk + 1 → slice_get (steps g t) k ≡ Some (entry_of g t)
get_entry g t zero e = absurd (omega arith)
get_entry g t (suc c) e =
    get_beyond (map (copy_of g t) (range_with_len 0 (g.sector / g.chunk))) (entry_of g t ∷ []) c 0 (omega (arith, e, length-map-range_with_len (copy_of g t) 0 (g.sector / g.chunk)))

-- A trailer takes a sector at least.
pub some_trailer : (g : Geometry) → IsLayout g → 0 < trailer_sectors g
some_trailer g ok = grind arith
