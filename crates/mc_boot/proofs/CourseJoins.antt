-- Courses that go on with another one: in their transfers, in their openings, and so the outcome after a cut.
use Rattle.std.proofs.Common.{ap, append_assoc, arith, inl, inr, length-append, subst, sym, zero-mul, ◌∙◌, zero-add, add-zero}
use Rattle.std.proofs.{Math.Nat.{mod-add-div', mul-le-mul_right}, Math.Seq.{drop-append-add}}
use Rattle.std.proofs.{lemmas.List.{drop-drop, length-drop, length-take, length-map, drop_all}, lemmas.List.FromFn.{length-map-range_with_len}}
use Rattle.std.specs.{List.{AllByRecursion, between, range_with_len}}
use Rattle.std.specs.Prelude.{Bool, IfSome, List, Option, Some, [], drop, false, flat_map, if◌then◌else◌, length, map, option_map, refl, slice_get, suc, take, true, zero, ℕ, ◌*◌, ◌++◌, ◌+◌, ◌-◌, ◌/◌, ◌<◌, ◌==◌, ◌∷◌, ◌≡◌, ◌≤◌, ◌⊎◌}
use Rattle.mc_boot.proofs.{Courses.{drop_at_place}, Joins.{IsJoined, Joins, joined, less}, Meets.{all_weaker}, Transfers.{fits_at, there_is}}
use Rattle.mc_boot.specs.inner.Meets.{AreThere, BeginsIn, GoesOnWith, IsHarmless, IsListed, IsRestOf, Meets, Sector, WritesIn, erase_of}
use Rattle.mc_boot.specs.facts.Lengths.{length-steps, length-transfers}
use Rattle.mc_boot.specs.Boot.{IsBootOf, IsCold, Progress, all_saves, begun, course_list, list_from, progress, whole_list}
use Rattle.mc_boot.specs.Joins.{IsCut, erases_of}
use Rattle.mc_boot.specs.Outcome.{Report, at, left_by, outcome_of}
use Rattle.mc_boot.specs.Plan.{PowerOn, again, closing, copy_of, entry_of, from_transfer, image_ok_write, is_revert, is_test, marking, new_list, number_of, opening_writes, piece, plan, powered, preparation_writes, resumed_list, steps, swap_list, trailer_erase, trailer_erases, transfers, write}
use Rattle.mc_boot.specs.{declared.boot.Boot.{Boot}, declared.course.Course.{Course}}
use Rattle.mc_boot.specs.{declared.course.Opening.TheVariants.{New, Resumed}, declared.transfer.Transfer.{Transfer}, facts.Bounds.{plan_few, plan_saves}}
use Rattle.mc_boot.specs.facts.Run.{come_at}
use Rattle.mc_flash.specs.{Flash.{Content, IsSized, sectors_of, size_of}, Geometry.{Geometry, IsLayout, in_pieces, trailer_sectors}}
use Rattle.mc_flash.specs.{Usage.{Seen, most_operations, most_saved}, declared.flash.Grain.{Grain}, declared.op.Op.{Op}}
use Rattle.mc_flash.specs.{declared.op.Op.TheVariants.{Erase, Program}, declared.op.Slot.{Slot}, declared.op.Slot.TheVariants.{Primary, Secondary}}
use Rattle.mc_flash.specs.facts.Layouts.{trailer_leaves_one}
use Rattle.mc_trailer.specs.{Trailer.{before_end, one_unit, place, room}, declared.places.Field.{Field}, declared.tables.Rules.{Rules}}
use Rattle.mc_trailer.specs.{declared.tables.SwapType.{SwapType}, facts.Places.{most_before_end, one_unit_fits, place_inside}}
use lib.Seq.{take_at}
use Rattle.mc_trailer.specs.declared.places.Field.TheVariants as field
use Rattle.mc_flash.specs.declared.flash.Grain.TheVariants as grains
use Rattle.std.proofs.lemmas.Bool.Decides.{nat_tests}

-- Courses that go on within a transfer of another, or after its last: their lists are rests of the other's.

-- ---- lists

pub all_prefix : {A : Type 0} (P : A → Type 0) (xs ys : List A) (k : ℕ) → k ≤ length xs → AllByRecursion P xs → AllByRecursion P (take k (xs ++ ys))
all_prefix P xs ys zero at_most all = tt
all_prefix P [] ys (suc k) at_most all = absurd (omega (arith, at_most))
all_prefix P (x ∷ xs) ys (suc k) at_most all = (all.0, all_prefix P xs ys k (omega (arith, at_most)) all.1)

all_less : {A : Type 0} (P : A → Type 0) (xs : List A) (k n : ℕ) → k ≤ n → AllByRecursion P (take n xs) → AllByRecursion P (take k xs)
all_less P xs zero n at_most all = tt
all_less P [] (suc k) n at_most all = tt
all_less P (x ∷ xs) (suc k) zero at_most all = absurd (omega (arith, at_most))
all_less P (x ∷ xs) (suc k) (suc n) at_most all = (all.0, all_less P xs k n (omega (arith, at_most)) all.1)

pub all_mapped : {A : Type 0} (P : A → Type 0) (f : ℕ → A) (a n : ℕ) → ((i : ℕ) → i < a + n → P (f i)) → AllByRecursion P (map f (range_with_len a n))
all_mapped P f a zero each = tt
all_mapped P f a (suc n) each = (each a (omega arith), all_mapped P f (a + 1) n (λ i h. each i (omega (arith, h))))

pub all_both : {A : Type 0} (P : A → Type 0) (xs ys : List A) → AllByRecursion P xs → AllByRecursion P ys → AllByRecursion P (xs ++ ys)
all_both P [] ys one two = two
all_both P (x ∷ xs) ys one two = (one.0, all_both P xs ys one.1 two)

-- Without its first k pieces, where all have one length.
drop_pieces : {A B : Type 0} (f : A → List B) (w : ℕ) → ((x : A) → length (f x) ≡ w) → (xs : List A) (ys : List B) (k : ℕ) → k ≤ length xs
    → drop (k * w) (flat_map f xs ++ ys) ≡ flat_map f (drop k xs) ++ ys
drop_pieces f w even xs ys zero at_most = ap (λ n. drop n (flat_map f xs ++ ys)) (zero-mul w)
drop_pieces f w even [] ys (suc k) at_most = absurd (omega (arith, at_most))
drop_pieces f w even (x ∷ xs) ys (suc k) at_most =
    ap (drop (suc k * w)) (append_assoc (f x) (flat_map f xs) ys)
    ∙ ap (λ n. drop n (f x ++ (flat_map f xs ++ ys))) (omega (arith, even x))
    ∙ drop-append-add (f x) (flat_map f xs ++ ys) (k * w)
    ∙ drop_pieces f w even xs ys k (omega (arith, at_most))

-- What follows a prefix is a rest of the whole.
beyond_prefix : (prefix ops rest : List Op) → IsRestOf rest ops → IsRestOf rest (prefix ++ ops)
beyond_prefix prefix ops rest is = (length prefix + is.0, omega (arith, is.1, length-append prefix ops), is.2 ∙ sym (drop-append-add prefix ops is.0))

pub whole_rest : (ops : List Op) → IsRestOf ops ops
whole_rest ops = (0, omega arith, refl)

-- ---- the rests of a course

from_rest : (g : Geometry) (n a b : ℕ) (image_ok : Bool) → a ≤ b → b ≤ 3 * n → IsRestOf (from_transfer g n b image_ok) (from_transfer g n a image_ok)
from_rest g n a b image_ok low high = (
  (b - a) * (g.sector / g.chunk + 2),
  fits,
  sym is,
)
  where
    count : b - a ≤ length (drop a (transfers g n))
    count = omega (arith, length-drop a (transfers g n), length-transfers g n, high)

    is : drop ((b - a) * (g.sector / g.chunk + 2)) (from_transfer g n a image_ok) ≡ from_transfer g n b image_ok
    is =
        drop_pieces (steps g) (g.sector / g.chunk + 2) (length-steps g) (drop a (transfers g n)) (closing g image_ok) (b - a) count
        ∙ ap (λ (ts : List Transfer). flat_map (steps g) ts ++ closing g image_ok) (drop-drop (b - a) a (transfers g n) ∙ ap (λ k. drop k (transfers g n)) (omega (arith, low)))

    some : 0 < length (from_transfer g n b image_ok)
    some = omega (arith, length-append (flat_map (steps g) (drop b (transfers g n))) (closing g image_ok), closes image_ok)
      where
        closes : (ok : Bool) → 0 < length (closing g ok)
        closes true = omega arith
        closes false = omega arith

    fits : (b - a) * (g.sector / g.chunk + 2) ≤ length (from_transfer g n a image_ok)
    fits = within ((b - a) * (g.sector / g.chunk + 2)) (length-drop ((b - a) * (g.sector / g.chunk + 2)) (from_transfer g n a image_ok)) (ap (λ (xs : List Op). length xs) is)
      where
        within : (k : ℕ) → length (drop k (from_transfer g n a image_ok)) ≡ length (from_transfer g n a image_ok) - k
            → length (drop k (from_transfer g n a image_ok)) ≡ length (from_transfer g n b image_ok) → k ≤ length (from_transfer g n a image_ok)
        within k p q = omega (arith, p, q, some)

resumed_rest : (g : Geometry) (n start first : ℕ) (erases image_ok : Bool) → start ≤ first → first ≤ 3 * n → IsRestOf (from_transfer g n first image_ok) (resumed_list g n start erases image_ok)
resumed_rest g n start first false image_ok low high = from_rest g n start first image_ok low high
resumed_rest g n start first true image_ok low high = grind (arith, beyond_prefix, from_rest)

swap_rest : (c : Grain) (g : Geometry) (kind : SwapType) (size n : ℕ) (rest : List Op) → IsRestOf rest (resumed_list g n 0 true false) → IsRestOf rest (swap_list c g kind size n)
swap_rest c g kind size n rest is =
    beyond_prefix (trailer_erases g Primary) (opening_writes c g kind size ++ resumed_list g n 0 true false) rest
    (beyond_prefix (opening_writes c g kind size) (resumed_list g n 0 true false) rest is)

pub new_rest : (c : Grain) (g : Geometry) (kind : SwapType) (size n : ℕ) (rest : List Op) → IsRestOf rest (resumed_list g n 0 true false) → IsRestOf rest (new_list c g kind size n)
new_rest c g kind size n rest is = by (is_revert kind)
  where
    by : (b : Bool) → IsRestOf rest (if b then trailer_erases g Secondary ++ (preparation_writes c g size ++ swap_list c g kind size n) else swap_list c g kind size n)
    by false = swap_rest c g kind size n rest is
    by true =
        beyond_prefix (trailer_erases g Secondary) (preparation_writes c g size ++ swap_list c g kind size n) rest
        (beyond_prefix (preparation_writes c g size) (swap_list c g kind size n) rest (swap_rest c g kind size n rest is))

-- Which rest it is, by how many operations it has fewer.
pub rest_is : (rest ops : List Op) (j : ℕ) → j ≡ length ops - length rest → IsRestOf rest ops → rest ≡ drop j ops
rest_is rest ops j count is = grind (arith, length-drop)

rest_of_rest : (xs ys zs : List Op) → IsRestOf xs ys → IsRestOf ys zs → IsRestOf xs zs
rest_of_rest xs ys zs one two = grind (arith, length-drop, drop-drop)

-- After the last transfer the finish is left.
finish_alone : (g : Geometry) (n first : ℕ) (ok : Bool) → first ≡ 3 * n → from_transfer g n first ok ≡ closing g ok
finish_alone g n first ok is = grind (arith, drop_all, length-transfers)

finish_rest : (g : Geometry) (n first : ℕ) → first ≡ 3 * n → IsRestOf (from_transfer g n first false) (from_transfer g n first true)
finish_rest g n first is =
    rw (finish_alone g n first false is, finish_alone g n first true is) (1, omega arith, refl)

-- What a course comes to is a rest of it: a swap from its start, and one that was cut.
pub new_comes : (c : Grain) (g : Geometry) (kind : SwapType) (size n first : ℕ) (erases : Bool) → first ≤ 3 * n → (erases ≡ true → first ≡ 0)
    → IsRestOf (resumed_list g n first erases false) (new_list c g kind size n)
new_comes c g kind size n first false high start = new_rest c g kind size n (from_transfer g n first false) (resumed_rest g n 0 first true false (omega arith) high)
new_comes c g kind size n first true high start = rw (start refl) (new_rest c g kind size n (resumed_list g n 0 true false) (whole_rest (resumed_list g n 0 true false)))

pub resumed_comes : (g : Geometry) (n start first : ℕ) (erased ok image_ok : Bool) → start ≤ first → first ≤ 3 * n → (ok ≡ image_ok) ⊎ ((first ≡ 3 * n) × (image_ok ≡ false))
    → IsRestOf (from_transfer g n first image_ok) (resumed_list g n start erased ok)
resumed_comes g n start first erased ok image_ok low high (inl same) = rw same (resumed_rest g n start first erased image_ok low high)
resumed_comes g n start first erased false image_ok low high (inr last) = rw last.1 (resumed_rest g n start first erased false low high)
resumed_comes g n start first erased true image_ok low high (inr last) =
    rw last.1 (rest_of_rest (from_transfer g n first false) (from_transfer g n first true) (resumed_list g n start erased true)
    (finish_rest g n first last.0) (resumed_rest g n start first erased true low high))

-- ---- the beginning of a transfer

-- The sector that a transfer writes.
abbrev pub target : Transfer → Sector
target t = record { slot = t.to; index = t.to_sector }

abbrev target_steps : Geometry → Transfer → List Op
target_steps g t = Erase t.to t.to_sector ∷ map (copy_of g t) (range_with_len 0 (g.sector / g.chunk))

writes_target : (g : Geometry) (t : Transfer) → AllByRecursion (WritesIn g (target t ∷ [])) (target_steps g t)
writes_target g t = (
  record { index = t.to_sector; listed = inl (refl, refl); from = omega arith; to = omega arith },
  all_mapped (WritesIn g (target t ∷ [])) (copy_of g t) 0 (g.sector / g.chunk) (λ i h. grind arith),
)

-- A course at a transfer begins with its steps.
at_transfer : (g : Geometry) (n first : ℕ) (image_ok : Bool) (t : Transfer) → slice_get (transfers g n) first ≡ Some t
    → (more : List Op) × (from_transfer g n first image_ok ≡ target_steps g t ++ more)
at_transfer g n first image_ok t here = (
  entry_of g t ∷ (flat_map (steps g) (drop (first + 1) (transfers g n)) ++ closing g image_ok),
  ap (λ (ts : List Transfer). flat_map (steps g) ts ++ closing g image_ok) (drop_at_place (transfers g n) first t here)
      ∙ ap (λ (ops : List Op). Erase t.to t.to_sector ∷ ops) (
      append_assoc (map (copy_of g t) (range_with_len 0 (g.sector / g.chunk)) ++ entry_of g t ∷ []) (flat_map (steps g) (drop (first + 1) (transfers g n))) (closing g image_ok)
      ∙ append_assoc (map (copy_of g t) (range_with_len 0 (g.sector / g.chunk))) (entry_of g t ∷ []) (flat_map (steps g) (drop (first + 1) (transfers g n)) ++ closing g image_ok)
      ),
)

transfer_begins : (g : Geometry) (n first : ℕ) (image_ok : Bool) (t : Transfer) → t.to_sector < sectors_of g t.to → slice_get (transfers g n) first ≡ Some t
    → BeginsIn g (from_transfer g n first image_ok) (target t ∷ []) (g.sector / g.chunk + 1)
transfer_begins g n first image_ok t there here =
    let whole = at_transfer g n first image_ok t here in
    grind (arith, length-map-range_with_len, all_prefix, writes_target)

pub sectors_pieces : (c : Grain) (g : Geometry) (slot : Slot) → sectors_of (in_pieces c g) slot ≡ sectors_of g slot
sectors_pieces it g slot = grind arith

begins_pieces : (c : Grain) (g : Geometry) (ops : List Op) (es : List Sector) (k harmless_len : ℕ) → k ≤ harmless_len → BeginsIn (in_pieces c g) ops es harmless_len → BeginsIn g ops es k
begins_pieces c g ops es k harmless_len few b =
    let inside = all_less (WritesIn (in_pieces c g) es) ops k harmless_len few b.inside in
    grind (arith, all_weaker)

-- ---- erases before others

listed_beyond : (es fs : List Sector) (slot : Slot) (index : ℕ) → IsListed fs slot index → IsListed (es ++ fs) slot index
listed_beyond [] fs slot index listed = listed
listed_beyond (e ∷ es) fs slot index listed = inr (listed_beyond es fs slot index listed)

listed_prefix : (es fs : List Sector) (slot : Slot) (index : ℕ) → IsListed es slot index → IsListed (es ++ fs) slot index
listed_prefix [] fs slot index listed = absurd listed
listed_prefix (e ∷ es) fs slot index (inl here) = inl here
listed_prefix (e ∷ es) fs slot index (inr listed) = inr (listed_prefix es fs slot index listed)

pub writes_erases : (g : Geometry) (es xs : List Sector) (rest : List Op) (harmless_len : ℕ) → ((slot : Slot) (index : ℕ) → IsListed xs slot index → IsListed es slot index)
    → AllByRecursion (WritesIn g es) (take harmless_len rest) → AllByRecursion (WritesIn g es) (take (length xs + harmless_len) (map erase_of xs ++ rest))
writes_erases g es [] rest harmless_len listed all = rw (zero-add harmless_len) all
writes_erases g es (x ∷ xs) rest harmless_len listed all =
    let next : suc (length xs) + harmless_len ≡ suc (length xs + harmless_len) = omega arith in
    rw next (
      record { index = x.index; listed = listed x.slot x.index (inl (refl, refl)); from = omega arith; to = omega arith },
      writes_erases g es xs rest harmless_len (λ slot index is. listed slot index (inr is)) all,
    )

first_erases : (es fs : List Sector) (rest : List Op) → take (length fs) rest ≡ map erase_of fs → take (length (es ++ fs)) (map erase_of es ++ rest) ≡ map erase_of (es ++ fs)
first_erases [] fs rest is = is
first_erases (e ∷ es) fs rest is = ap (λ (ops : List Op). erase_of e ∷ ops) (first_erases es fs rest is)

erases_begin : (g : Geometry) (es fs : List Sector) (rest : List Op) (harmless_len : ℕ) → AreThere g es → BeginsIn g rest fs harmless_len
    → BeginsIn g (map erase_of es ++ rest) (es ++ fs) (length es + harmless_len)
erases_begin g es fs rest harmless_len there begins = record {
  there = all_both _ es fs there begins.there;
  erases = first_erases es fs rest begins.erases;
  inside = writes_erases g (es ++ fs) es rest harmless_len (λ slot index is. listed_prefix es fs slot index is) (grind (arith, all_weaker, listed_beyond));
}

-- The sectors of a slot's trailer, from the last downward.
abbrev pub trailer_sector : Geometry → Slot → ℕ → Sector
trailer_sector g slot i = record { slot = slot; index = sectors_of g slot - 1 - i }

abbrev pub trailer_of_slot : Geometry → Slot → List Sector
trailer_of_slot g slot = map (trailer_sector g slot) (range_with_len 0 (trailer_sectors g))

pub length-trailer : (g : Geometry) (slot : Slot) → length (trailer_of_slot g slot) ≡ trailer_sectors g
length-trailer g slot = length-map-range_with_len (trailer_sector g slot) 0 (trailer_sectors g)

pub trailer_there : (g : Geometry) (slot : Slot) → IsLayout g → AreThere g (trailer_of_slot g slot)
trailer_there g slot ok =
    all_mapped (λ e. e.index < sectors_of g e.slot) (trailer_sector g slot) 0 (trailer_sectors g) (λ i h. let leaves = trailer_leaves_one g slot ok in omega (arith, h, leaves))

pub trailer_erased : (g : Geometry) (slot : Slot) → map erase_of (trailer_of_slot g slot) ≡ trailer_erases g slot
trailer_erased g slot = each (range_with_len 0 (trailer_sectors g))
  where
    each : (is : List ℕ) → map erase_of (map (trailer_sector g slot) is) ≡ map (trailer_erase g slot) is
    each [] = refl
    each (i ∷ is) = ap (λ (ops : List Op). trailer_erase g slot i ∷ ops) (each is)

trailer_begins : (g : Geometry) (slot : Slot) (fs : List Sector) (rest : List Op) (harmless_len : ℕ) → IsLayout g → BeginsIn g rest fs harmless_len
    → BeginsIn g (trailer_erases g slot ++ rest) (trailer_of_slot g slot ++ fs) (trailer_sectors g + harmless_len)
trailer_begins g slot fs rest harmless_len ok begins =
    rw (trailer_erased g slot, length-trailer g slot) at (erases_begin g (trailer_of_slot g slot) fs rest harmless_len (trailer_there g slot ok) begins)

-- A course from a transfer on begins with the erase of its target and copies into it, after the erases of the secondary's
-- trailer where no entry was written. After the last transfer it begins with no erase.
pub transfer_harmless : (b : Course) (first len : ℕ) (erases image_ok last : Bool) → IsLayout b.layout → b.opening ≡ Resumed first erases image_ok → first ≤ 3 * b.sectors
    → (first == 3 * b.sectors) ≡ last → len ≡ (if last then 0 else (if erases then trailer_sectors b.layout else 0) + (b.layout.sector / b.layout.chunk + 1)) → IsHarmless b len
transfer_harmless b first len erases image_ok true ok opening high is count = rw (opening, is, count) ([], refl, record { there = tt; erases = refl; inside = tt })
transfer_harmless b first len false image_ok false ok opening high is count =
    let l = b.layout in
    let there = there_is l b.sectors first (grind (arith, nat_tests)) in
    let fits = fits_at l b.sectors first there.0 ok b.fits there.1 in
    rw (opening, is, count) (target there.0 ∷ [], omega arith, rw (zero-add (l.sector / l.chunk + 1)) (transfer_begins l b.sectors first image_ok there.0 fits.inside.to there.1))
transfer_harmless b first len true image_ok false ok opening high is count =
    let l = b.layout in
    let there = there_is l b.sectors first (grind (arith, nat_tests)) in
    let fits = fits_at l b.sectors first there.0 ok b.fits there.1 in
    rw (opening, is, count) (
      trailer_of_slot l Secondary ++ target there.0 ∷ [],
      omega (arith, length-append (trailer_of_slot l Secondary) (target there.0 ∷ []), length-trailer l Secondary),
      trailer_begins l Secondary (target there.0 ∷ []) (from_transfer l b.sectors first image_ok) (l.sector / l.chunk + 1) ok
          (transfer_begins l b.sectors first image_ok there.0 fits.inside.to there.1),
    )

-- A course goes on with another of the same grain and sectors that it is a rest of.
pub course_meets : (a b : Course) (done j harmless_len : ℕ) → (a.grain ≡ b.grain) × (a.sectors ≡ b.sectors)
    → (course_list a ≡ list_from b.grain b.layout b.sectors a.opening → course_list b ≡ drop j (course_list a)) → IsHarmless b harmless_len → j ≤ done → done ≤ j + harmless_len → GoesOnWith a done b j
course_meets a b done j harmless_len same rest harmless low far g layout_a layout_b =
    let layouts : a.layout ≡ b.layout = layout_a ∙ ap (λ (c : Grain). in_pieces c g) same.0 ∙ sym layout_b in
    record {
      is_rest = rest (rw (same.0, layouts, same.1) refl);
      passed = low;
      sectors = harmless.0;
      so_many = harmless.1;
      begins = begins_pieces b.grain g (course_list b) harmless.0 (done - j) harmless_len (omega (arith, far)) (rw (← layout_b) harmless.2);
    }

-- The opening of a swap begins with the erases of a trailer, and then writes in it: what is cut there begins anew.

-- ---- the writes of fields lie in the slot's last sector

listed_last : (g : Geometry) (slot : Slot) → IsLayout g → IsListed (trailer_of_slot g slot) slot (sectors_of g slot - 1 - 0)
listed_last g slot ok = grind arith

in_last : (g : Geometry) (slot : Slot) (f : Field) → IsLayout g → ((sectors_of g slot - 1 - 0) * g.sector ≤ place g slot f) × (size_of g slot ≤ (sectors_of g slot - 1 - 0) * g.sector + g.sector)
in_last g slot f ok = go (sectors_of g slot) (let leaves = trailer_leaves_one g slot ok in omega (arith, leaves)) (place_inside g slot f ok)
  where
    go : (n : ℕ) → 0 < n → (n * g.sector - before_end f) + before_end f ≡ n * g.sector → ((n - 1 - 0) * g.sector ≤ n * g.sector - before_end f) × (n * g.sector ≤ (n - 1 - 0) * g.sector + g.sector)
    go zero some inside = absurd (omega (arith, some))
    go (suc n) some inside =
        let rows : suc n * g.sector ≡ n * g.sector + g.sector = omega arith in
        grind (arith, most_before_end)

writes_part : (g : Geometry) (slot : Slot) (f : Field) (from : ℕ) (bytes : List ℕ) → IsLayout g → from + length bytes ≤ room f
    → WritesIn g (trailer_of_slot g slot) (Program slot (place g slot f + from) bytes)
writes_part g slot f from bytes ok short = grind (arith, in_last, listed_last)

writes_field : (g : Geometry) (slot : Slot) (f : Field) (bytes : List ℕ) → IsLayout g → length bytes ≤ room f → WritesIn g (trailer_of_slot g slot) (Program slot (place g slot f) bytes)
writes_field g slot f bytes ok short =
    rw (add-zero (place g slot f)) at (writes_part g slot f 0 bytes ok (omega (arith, short)))

writes_pieces_of : (c : Grain) (g : Geometry) (slot : Slot) (f : Field) (new : List ℕ) → IsLayout g → length new ≤ room f → AllByRecursion (WritesIn g (trailer_of_slot g slot)) (write c g slot f new)
writes_pieces_of grains.Call g slot f new ok short = (writes_field g slot f new ok short, tt)
writes_pieces_of grains.Unit g slot f new ok short =
    all_mapped (WritesIn g (trailer_of_slot g slot)) (piece g slot (place g slot f) new) 0 (length new / g.unit) (λ j h.
    let row : (j + 1) * g.unit ≤ length new / g.unit * g.unit = mul-le-mul_right g.unit (omega (arith, h)) in
    let parts = mod-add-div' (length new) g.unit in
    let at_most : length (between (j * g.unit) (j * g.unit + g.unit) new) ≤ g.unit = omega (arith, length-take (j * g.unit + g.unit - j * g.unit) (drop (j * g.unit) new)) in
    writes_part g slot f (j * g.unit) (between (j * g.unit) (j * g.unit + g.unit) new) ok (omega (arith, row, parts, at_most, short)))

pub writes_preparation : (c : Grain) (g : Geometry) (size : ℕ) → IsLayout g → AllByRecursion (WritesIn g (trailer_of_slot g Secondary)) (preparation_writes c g size)
writes_preparation c g size ok = (writes_field g Secondary field.ImageOk (one_unit g 1) ok (one_unit_fits g 1 field.ImageOk ok), grind (arith, all_both, writes_pieces_of))

pub writes_opening : (c : Grain) (g : Geometry) (kind : SwapType) (size : ℕ) → IsLayout g → AllByRecursion (WritesIn g (trailer_of_slot g Primary)) (opening_writes c g kind size)
writes_opening c g kind size ok = (writes_field g Primary field.SwapInfo (one_unit g (number_of kind)) ok (one_unit_fits g (number_of kind) field.SwapInfo ok), by (is_test kind))
  where
    by : (b : Bool) → AllByRecursion (WritesIn g (trailer_of_slot g Primary)) (if b then marking c g Primary size else image_ok_write g Primary ∷ marking c g Primary size)
    by true = grind (arith, all_both, writes_pieces_of)
    by false = (writes_field g Primary field.ImageOk (one_unit g 1) ok (one_unit_fits g 1 field.ImageOk ok), grind (arith, all_both, writes_pieces_of))

-- ---- the opening

-- A swap from its start begins with the erases of a trailer, then it writes in it.
pub opening_harmless : (b : Course) (kind : SwapType) (size len : ℕ) (slot : Slot) (writes rest : List Op) → IsLayout b.layout → b.opening ≡ New kind size
    → new_list b.grain b.layout kind size b.sectors ≡ trailer_erases b.layout slot ++ (writes ++ rest) → AllByRecursion (WritesIn b.layout (trailer_of_slot b.layout slot)) writes
    → len ≡ length (trailer_erases b.layout slot ++ writes) → IsHarmless b len
opening_harmless b kind size len slot writes rest ok opening list all is =
    let g = b.layout in
    let es : List Sector = trailer_of_slot g slot in
    let count = length-map es erase_of in
    rw (opening, list, is, ← trailer_erased g slot) (
      es,
      length-trailer g slot,
      record {
        there = trailer_there g slot ok;
        erases = take_at (map erase_of es) (writes ++ rest) (length es) count;
        inside = rw (length-append (map erase_of es) writes, count)
            (writes_erases g es es (writes ++ rest) (length writes) (λ o index is. is) (all_prefix (WritesIn g es) writes rest (length writes) (omega arith) all));
      },
    )

-- The outcome of a boot after a cut, by the courses of the two boots.

-- A boot at the beginning of its plan.
pub is_cold : (r : Rules) (f : Seen) (b : Boot) → IsLayout f.geometry → IsSized f.geometry f.content → progress b ≡ begun r (plan (powered r f)) → IsBootOf f.geometry b → IsCold r f b
is_cold r f b ok sized is of =
    let x = powered r f in
    record {
      boot = is;
      list = grind arith;
      layout = of;
      at_most = subst (λ (p : Progress). length p.to_come ≤ most_operations r.grain f.geometry) (sym is) (plan_few x ok);
      saves = subst (λ (p : Progress). all_saves f.geometry p.to_come ≤ most_saved f.geometry) (sym is) (plan_saves x ok);
      sized = sized;
    }

pub layout_is : (g : Geometry) (o : Option Course) (a : Course) → o ≡ Some a → IfSome o (λ c. c.layout ≡ in_pieces c.grain g) → a.layout ≡ in_pieces a.grain g
layout_is g o a is all = rw is at all

-- Before the first operation the flash is as it was.
pub at_start : (from : PowerOn) (u : Content) (cut : Boot) (whole : Report) → IsCut from u cut whole → cut.done ≡ 0 → again from u ≡ from
at_start from u cut whole is none = grind arith

-- After a cut the next boot goes on as the one that was cut would have, where its course goes on with that one's.
module _ (from : PowerOn) (u : Content) (cut next : Boot) (a b : Course) (whole : Report) (j : ℕ) where
  module _ (is : IsCut from u cut whole) (at_a : cut.course ≡ Some a) (at_b : next.course ≡ Some b) where
    module _ (of : IsBootOf from.geometry next) (start : progress next ≡ begun from.rules (plan (again from u))) (goes : GoesOnWith a cut.done b j) where
      pub courses_meet : Meets from.geometry (course_list a) (course_list b) cut.done j (erases_of b)
      courses_meet = goes from.geometry (layout_is from.geometry cut.course a at_a is.layout) (layout_is from.geometry next.course b at_b of)

      pub boots_join : Joins from u cut.done j courses_meet.sectors
      boots_join =
          let list_u : (plan (again from u)).list ≡ course_list b = sym (grind arith) ∙ ap whole_list at_b in
          record {
            sized = is.sized;
            cut = come_at from (progress cut) u is.come;
            early = is.early;
            passed = courses_meet.passed;
            rest = list_u ∙ courses_meet.is_rest ∙ ap (drop j) (sym (ap whole_list at_a) ∙ is.list);
            there = courses_meet.begins.there;
            erases = ap (take (length courses_meet.sectors)) list_u ∙ courses_meet.begins.erases;
            inside = rw list_u courses_meet.begins.inside;
          }

      follows : IsJoined from u j
      follows = joined from u cut.done j courses_meet.sectors boots_join

      pub outcome_follows : outcome_of (again from u) ≡ Some (less next.kind j whole)
      outcome_follows =
          let kind : (plan (again from u)).kind ≡ next.kind = ap (λ (x : Progress). x.kind) (sym start) in
          follows.outcome
          ∙ ap (option_map (less (plan (again from u)).kind j)) is.outcome
          ∙ ap (λ (k : SwapType). Some (less k j whole)) kind

      pub left_follows : left_by (again from u) ≡ left_by from
      left_follows = follows.left
