-- The transfers of a swap: where each reads and writes, its status entry, and the highest entry that is written.
use Rattle.std.proofs.{Common.{add-one, ap, arith, eq-eqb, inl, inr, subst, sym, zero-add, ◌∙◌}, lemmas.Bool.{cases_eq, cases_lt}, lemmas.Bool.Decides.{nat_tests}}
use Rattle.std.proofs.{lemmas.Iterator.Adapters.{position_from-zero}, lemmas.Option.{get_or_from_slice_get, slice_get_within}}
use Rattle.std.specs.List.{position_from, range_with_len}
use Rattle.std.specs.Prelude.{Bool, List, None, Option, Some, [], false, flat_map, if◌then◌else◌, map, nat_lt, option_map, refl, slice_get, suc, take, true, zero, ℕ, ◌%◌, ◌&&◌, ◌*◌, ◌++◌, ◌+◌, ◌-◌, ◌/◌, ◌<◌, ◌==◌, ◌∷◌, ◌≡◌, ◌≢◌, ◌≤◌, ◌⊎◌}
use Rattle.mc_boot.proofs.Courses.{get_brought, get_moved, get_taken}
use Rattle.mc_boot.specs.{Boot.{IsInside}, Plan.{brought_in, first_left, moved_up, taken_out, transfers}, declared.transfer.Transfer.{Transfer}, facts.Lengths.{length-transfers}}
use Rattle.mc_flash.specs.{Flash.{Content, IsSized, byte, size_of}, Geometry.{Geometry, IsLayout, greatest_sectors, trailer_bytes}, declared.op.Slot.{Slot}}
use Rattle.mc_flash.specs.{declared.op.Slot.TheVariants.{Primary, Secondary}, facts.Layouts.{data_sectors, small_unit}}
use Rattle.mc_trailer.specs.{Trailer.{entry_place, highest_entry}, facts.Entries.{blank_entry, entries_same, highest_at, highest_none, written_entry}, facts.Places.{entry_ends, entry_inside}}
use lib.Seq.{take-suc, take_all}

-- Where each sector's bytes come from, after transfers. No byte is in it.

-- a sector: a slot and a number. What is held where: the sector of the start whose bytes stand there
abbrev pub Held : Type 0
Held = Slot → ℕ → Slot × ℕ

abbrev pub is_same : Slot → Slot → Bool
is_same Primary Primary = true
is_same Secondary Secondary = true
is_same o p = false

abbrev pub held_after : Held → Transfer → Held
held_after f x o i = if is_same o x.to && i == x.to_sector then f x.from x.from_sector else f o i

abbrev pub held_after_all : Held → List Transfer → Held
held_after_all f [] = f
held_after_all f (x ∷ xs) = held_after_all (held_after f x) xs

abbrev pub at_start : Held
at_start o i = (o, i)

-- after the first j moves
pub record Moved (n j : ℕ) (f : Held) : Type 0 where
  pub low : (i : ℕ) → i + j ≤ n → f Primary i ≡ (Primary, i)
  pub high : (i : ℕ) → i < n → n ≤ i + j → f Primary (i + 1) ≡ (Primary, i)
  pub other : (i : ℕ) → f Secondary i ≡ (Secondary, i)

-- after the first k pairs
pub record Paired (n k : ℕ) (f : Held) : Type 0 where
  pub done : (i : ℕ) → i < k → f Primary i ≡ (Secondary, i)
  pub left : (i : ℕ) → k ≤ i → i < n → f Primary (i + 1) ≡ (Primary, i)
  pub taken : (i : ℕ) → i < k → f Secondary i ≡ (Primary, i)
  pub waits : (i : ℕ) → k ≤ i → f Secondary i ≡ (Secondary, i)

pub other_number : (m n : ℕ) → (m ≡ n → ⊥) → (m == n) ≡ false
other_number m n distinct = grind (arith, nat_tests)

pub held_append : (f : Held) (xs ys : List Transfer) → held_after_all f (xs ++ ys) ≡ held_after_all (held_after_all f xs) ys
held_append f [] ys = refl
held_append f (x ∷ xs) ys = held_append (held_after f x) xs ys

moves : (n a m : ℕ) (f : Held) → a + m ≡ n → Moved n a f → Moved n n (held_after_all f (map (moved_up n) (range_with_len a m)))
moves n a zero f whole so = let E : ℕ → Type 0 = λ k. Moved n k f in subst E (omega (arith, whole)) so
moves n a (suc m) f whole so = moves n (a + 1) m (held_after f (moved_up n a)) (omega (arith, whole)) (grind arith)

pairs : (g : Geometry) (n a m : ℕ) (f : Held) → a + m ≡ n → Paired n a f → Paired n n (held_after_all f (flat_map (λ i. brought_in g i ∷ taken_out g i ∷ []) (range_with_len a m)))
pairs g n a zero f whole so = let E : ℕ → Type 0 = λ k. Paired n k f in subst E (omega (arith, whole)) so
pairs g n a (suc m) f whole so = pairs g n (a + 1) m (held_after (held_after f (brought_in g a)) (taken_out g a)) (omega (arith, whole)) (grind arith)

-- All transfers exchange the first n sectors.
pub exchanged : (g : Geometry) (n : ℕ) → Paired n n (held_after_all at_start (transfers g n))
exchanged g n =
    let first : Moved n n (held_after_all at_start (map (moved_up n) (range_with_len 0 n))) =
    moves n 0 n at_start (omega arith) (record { low = λ i _. refl; high = λ i h k. absurd (omega (arith, h, k)); other = λ i. refl }) in
    let begin : Paired n 0 (held_after_all at_start (map (moved_up n) (range_with_len 0 n))) =
    record { done = λ i h. absurd (omega (arith, h)); left = λ i h l. first.high i l (omega arith); taken = λ i h. absurd (omega (arith, h)); waits = λ i h. first.other i } in
    grind (arith, held_append, pairs)

-- The status entries of the first k transfers, and the highest of them.

-- the entry of transfer k
abbrev pub entry_number : Geometry → ℕ → ℕ → ℕ
entry_number g n k = if nat_lt k n then k else g.max_sectors + (k - n)

pub number_up : (g : Geometry) (n j k : ℕ) → n ≤ g.max_sectors → j < k → entry_number g n j < entry_number g n k
number_up g n j k at_most before = grind arith

pub number_below : (g : Geometry) (n k : ℕ) → n ≤ g.max_sectors → k < 3 * n → entry_number g n k < 3 * g.max_sectors
number_below g n k at_most below = grind arith

-- The last of the first k entries is written, and all above it are free.
pub record Entries (g : Geometry) (n k : ℕ) (s : Content) : Type 0 where
  pub last : 0 < k → byte s Primary (entry_place g (entry_number g n (k - 1))) ≢ 255
  pub free : (e i : ℕ) → e < 3 * g.max_sectors → (0 < k → entry_number g n (k - 1) < e) → i < g.unit → byte s Primary (entry_place g e + i) ≡ 255

-- the part of the trailer before the fields decides
pub entries_kept : (g : Geometry) (n k : ℕ) (s t : Content) → IsLayout g → n ≤ g.max_sectors → k ≤ 3 * n
    → ((i : ℕ) → size_of g Primary ≤ i + trailer_bytes g → i + 48 < size_of g Primary → byte t Primary i ≡ byte s Primary i) → Entries g n k s → Entries g n k t
entries_kept g n k s t ok at_most most same en = record {
  last = grind (arith, entry_number, number_below, small_unit, entry_inside, entry_ends);
  free = λ e i below above h. entries_same g s t ok same e below i h ∙ en.free e i below above h;
}

pub entries_none : (g : Geometry) (n : ℕ) (s : Content) → ((e i : ℕ) → e < 3 * g.max_sectors → i < g.unit → byte s Primary (entry_place g e + i) ≡ 255) → Entries g n 0 s
entries_none g n s free = record { last = λ some. absurd (omega (arith, some)); free = λ e i below above h. free e i below h }

-- what is found of them
pub entries_last : (g : Geometry) (n k : ℕ) (s : Content) → IsLayout g → IsSized g s → n ≤ g.max_sectors → 0 < k → k ≤ 3 * n → Entries g n k s → highest_entry g s ≡ Some (entry_number g n (k - 1))
entries_last g n k s ok sized at_most some most en =
    let below : entry_number g n (k - 1) < 3 * g.max_sectors = number_below g n (k - 1) at_most (omega (arith, some, most)) in
    highest_at g s (entry_number g n (k - 1))
    (written_entry g s (entry_number g n (k - 1)) (byte s Primary (entry_place g (entry_number g n (k - 1)))) ok sized below (en.last some) refl)
    (λ d over under. blank_entry g s d ok sized under (λ i h. en.free d i under (λ _. over) h))

pub entries_not : (g : Geometry) (n : ℕ) (s : Content) → IsLayout g → IsSized g s → Entries g n 0 s → highest_entry g s ≡ None
entries_not g n s ok sized en = highest_none g s (λ d under. blank_entry g s d ok sized under (λ i h. en.free d i under (λ some. absurd (omega (arith, some))) h))

-- The transfer of an entry.

-- the first number that passes, from i on
found_from : {A : Type 0} (p : A → Bool) (xs : List A) (i k : ℕ) (x : A) → slice_get xs k ≡ Some x → p x ≡ true → ((j : ℕ) (y : A) → j < k → slice_get xs j ≡ Some y → p y ≡ false)
    → position_from p i xs ≡ Some (i + k)
found_from p [] i k x here passes before = cc
found_from p (y ∷ xs) i zero x here passes before = grind arith
found_from p (y ∷ xs) i (suc k) x here passes before =
    let later : i + 1 + k ≡ i + suc k = omega arith in
    rw (before 0 y (omega arith) refl) (found_from p xs (i + 1) k x here passes (λ j z below at. before (suc j) z (omega (arith, below)) at) ∙ ap (λ (n : ℕ). Some n) later)

none_from : {A : Type 0} (p : A → Bool) (xs : List A) (i : ℕ) → ((j : ℕ) (y : A) → slice_get xs j ≡ Some y → p y ≡ false) → position_from p i xs ≡ None
none_from p [] i fails = refl
none_from p (y ∷ xs) i fails = rw (fails 0 y refl) (none_from p xs (i + 1) (λ j z at. fails (suc j) z at))

-- the entry of a number
entry_at : Geometry → ℕ → ℕ → ℕ → Type 0
entry_at g n k e = ((k < n) × (e ≡ k)) ⊎ ((n ≤ k) × (k < 3 * n) × (e + n ≡ g.max_sectors + k))

entry_of_place : (g : Geometry) (n k : ℕ) (t : Transfer) → slice_get (transfers g n) k ≡ Some t → entry_at g n k t.entry
unfolding entry_at
entry_of_place g n k t at = elim (cases_lt k n) [
  | inl below ↦ inl (below, moved below)
  | inr above ↦ inr (above, within, swapped above)
]
  where
    within : k < 3 * n
    within = omega (arith, slice_get_within (transfers g n) k t at, length-transfers g n)

    moved : k < n → t.entry ≡ k
    moved below = let e : Some t ≡ Some (moved_up n k) = sym at ∙ get_moved g n k below in let same : t ≡ moved_up n k = cc in ap (λ (u : Transfer). u.entry) same

    swapped : n ≤ k → t.entry + n ≡ g.max_sectors + k
    swapped above = elim (cases_eq ((k - n) % 2) 0) [
      | inl even ↦
          let e : Some t ≡ Some (brought_in g ((k - n) / 2)) = sym at ∙ get_brought g n k ((k - n) / 2) (omega (arith, within)) (omega arith) in
          let same : t ≡ brought_in g ((k - n) / 2) = cc in
          let entry : t.entry ≡ g.max_sectors + 2 * ((k - n) / 2) = ap (λ (u : Transfer). u.entry) same in
          omega (arith, entry)
      | inr odd ↦
          let e : Some t ≡ Some (taken_out g ((k - n) / 2)) = sym at ∙ get_taken g n k ((k - n) / 2) (omega (arith, within)) (omega arith) in
          let same : t ≡ taken_out g ((k - n) / 2) = cc in
          let entry : t.entry ≡ g.max_sectors + 2 * ((k - n) / 2) + 1 = ap (λ (u : Transfer). u.entry) same in
          omega (arith, entry)
    ]

-- no two transfers have one entry
apart : (g : Geometry) (n j k d e : ℕ) → n ≤ g.max_sectors → j < k → entry_at g n j d → entry_at g n k e → d ≡ e → ⊥
unfolding entry_at
apart g n j k d e at_most before it one same = grind arith

pub left_after : (g : Geometry) (n k e : ℕ) (t : Transfer) → n ≤ g.max_sectors → slice_get (transfers g n) k ≡ Some t → t.entry ≡ e → first_left g n (Some e) ≡ Some (k + 1)
left_after g n k e t at_most at is =
    let p : Transfer → Bool = λ u. u.entry == e in
    let found : position_from p 0 (transfers g n) ≡ Some (0 + k) =
    found_from p (transfers g n) 0 k t at (eq-eqb t.entry e is)
    (λ j y below there. other_number y.entry e (λ same. apart g n j k y.entry t.entry at_most below (entry_of_place g n j y there) (entry_of_place g n k t at) (same ∙ sym is))) in
    ap (option_map (λ (i : ℕ). i + 1)) (position_from-zero p (transfers g n) ∙ found ∙ ap (λ (m : ℕ). Some m) (zero-add k))

other_entry : (g : Geometry) (n k d e : ℕ) → entry_at g n k d → n ≤ e → (e < g.max_sectors) ⊎ (g.max_sectors + 2 * n ≤ e) → d ≡ e → ⊥
unfolding entry_at
other_entry g n k d e it above other same = grind arith

pub left_none : (g : Geometry) (n e : ℕ) → n ≤ e → (e < g.max_sectors) ⊎ (g.max_sectors + 2 * n ≤ e) → first_left g n (Some e) ≡ None
left_none g n e above other =
    let p : Transfer → Bool = λ u. u.entry == e in
    ap (option_map (λ (i : ℕ). i + 1)) (position_from-zero p (transfers g n)
    ∙ none_from p (transfers g n) 0 (λ j y there. other_number y.entry e (other_entry g n j y.entry e (entry_of_place g n j y there) above other)))

pub left_at_pair : (g : Geometry) (n e : ℕ) → n ≤ g.max_sectors → g.max_sectors ≤ e → e - g.max_sectors < 2 * n → first_left g n (Some e) ≡ Some (n + (e - g.max_sectors) + 1)
left_at_pair g n e at_most from below = elim (cases_eq ((e - g.max_sectors) % 2) 0) [
  | inl even ↦
      left_after g n (n + (e - g.max_sectors)) e (brought_in g ((e - g.max_sectors) / 2)) at_most
      (get_brought g n (n + (e - g.max_sectors)) ((e - g.max_sectors) / 2) (omega arith) (omega arith)) (omega arith)
  | inr odd ↦
      left_after g n (n + (e - g.max_sectors)) e (taken_out g ((e - g.max_sectors) / 2)) at_most
      (get_taken g n (n + (e - g.max_sectors)) ((e - g.max_sectors) / 2) (omega arith) (omega arith)) (omega arith)
]

-- What holds of the k-th transfer of a swap that fits.

-- each of the 3n numbers has a transfer, and there is no other number
pub there_is : (g : Geometry) (n k : ℕ) → k < 3 * n → (x : Transfer) × (slice_get (transfers g n) k ≡ Some x)
there_is g n k below = from (slice_get (transfers g n) k) refl
  where
    from : (o : Option Transfer) → slice_get (transfers g n) k ≡ o → (x : Transfer) × (slice_get (transfers g n) k ≡ Some x)
    from (Some x) e = (x, e)
    from None e = elim (cases_lt k n) [
      | inl low ↦ (moved_up n k, get_moved g n k low)
      | inr high ↦ elim (cases_eq ((k - n) % 2) 0) [
        | inl even ↦ (brought_in g ((k - n) / 2), get_brought g n k ((k - n) / 2) (omega arith) (omega arith))
        | inr odd ↦ (taken_out g ((k - n) / 2), get_taken g n k ((k - n) / 2) (omega arith) (omega arith))
      ]
    ]

pub place_below : (g : Geometry) (n k : ℕ) (x : Transfer) → slice_get (transfers g n) k ≡ Some x → k < 3 * n
place_below g n k x at = omega (arith, slice_get_within (transfers g n) k x at, length-transfers g n)

-- in the slots' data sectors, with its own entry
pub record Fits (g : Geometry) (n k : ℕ) (x : Transfer) : Type 0 where
  pub inside : IsInside g x
  pub from_data : x.from_sector < data_sectors g x.from
  pub to_data : x.to_sector < data_sectors g x.to
  pub entry : x.entry ≡ entry_number g n k

fits_brought : (g : Geometry) (n k i : ℕ) → IsLayout g → n ≤ greatest_sectors g → i < n → k ≡ n + 2 * i → Fits g n k (brought_in g i)
fits_brought g n k i ok at_most low is = grind arith

fits_taken : (g : Geometry) (n k i : ℕ) → IsLayout g → n ≤ greatest_sectors g → i < n → k ≡ n + 2 * i + 1 → Fits g n k (taken_out g i)
fits_taken g n k i ok at_most low is = grind arith

pub same_transfer : (x y : Transfer) → Some x ≡ Some y → x ≡ y
same_transfer x y e = cc

pub fits_at : (g : Geometry) (n k : ℕ) (x : Transfer) → IsLayout g → n ≤ greatest_sectors g → slice_get (transfers g n) k ≡ Some x → Fits g n k x
fits_at g n k x ok at_most at = elim (cases_lt k n) [
  | inl low ↦
      let same : moved_up n k ≡ x = same_transfer (moved_up n k) x (sym (get_moved g n k low) ∙ at) in
      rw (← same) (grind arith)
  | inr high ↦ elim (cases_eq ((k - n) % 2) 0) [
    | inl even ↦
        let same : brought_in g ((k - n) / 2) ≡ x = same_transfer (brought_in g ((k - n) / 2)) x (sym (get_brought g n k ((k - n) / 2) (omega (arith, within)) (omega arith)) ∙ at) in
        rw (← same) (fits_brought g n k ((k - n) / 2) ok at_most (omega (arith, within)) (omega arith))
    | inr odd ↦
        let same : taken_out g ((k - n) / 2) ≡ x = same_transfer (taken_out g ((k - n) / 2)) x (sym (get_taken g n k ((k - n) / 2) (omega (arith, within)) (omega arith)) ∙ at) in
        rw (← same) (fits_taken g n k ((k - n) / 2) ok at_most (omega (arith, within)) (omega arith))
  ]
]
  where
    within : k < 3 * n
    within = place_below g n k x at

-- the transfer after the one with this entry
pub left_at : (g : Geometry) (n k : ℕ) → IsLayout g → n ≤ greatest_sectors g → 0 < k → k ≤ 3 * n → first_left g n (Some (entry_number g n (k - 1))) ≡ Some k
left_at g n k ok at_most some most =
    let there = there_is g n (k - 1) (omega (arith, some, most)) in
    let fits = fits_at g n (k - 1) there.0 ok at_most there.1 in
    left_after g n (k - 1) (entry_number g n (k - 1)) there.0 (omega arith) there.1 fits.entry ∙ ap (λ (i : ℕ). Some i) (omega (arith, some))

-- where each sector's bytes come from, before transfer k
pub held_at : Geometry → ℕ → ℕ → Held
held_at g n k = held_after_all at_start (take k (transfers g n))

take_more : {A : Type 0} (xs : List A) (k : ℕ) (x : A) → slice_get xs k ≡ Some x → take (k + 1) xs ≡ take k xs ++ x ∷ []
take_more xs k x h = rw (add-one, take-suc xs k x (slice_get_within xs k x h), get_or_from_slice_get xs k x x h) refl

pub held_next : (g : Geometry) (n k : ℕ) (x : Transfer) → slice_get (transfers g n) k ≡ Some x → held_at g n (k + 1) ≡ held_after (held_at g n k) x
unfolding held_at
held_next g n k x at = ap (held_after_all at_start) (take_more (transfers g n) k x at) ∙ held_append at_start (take k (transfers g n)) (x ∷ [])

pub held_begin : (g : Geometry) (n : ℕ) → held_at g n 0 ≡ at_start
unfolding held_at
held_begin g n = refl

pub held_end : (g : Geometry) (n : ℕ) → held_at g n (3 * n) ≡ held_after_all at_start (transfers g n)
unfolding held_at
held_end g n = ap (held_after_all at_start) (take_all (3 * n) (transfers g n) (omega (arith, length-transfers g n)))

-- at the target, and elsewhere
same_is : (o : Slot) → is_same o o ≡ true
same_is it = grind arith

pub held_here : (f : Held) (x : Transfer) → held_after f x x.to x.to_sector ≡ f x.from x.from_sector
held_here f x = rw (same_is x.to) (rw (eq-eqb x.to_sector x.to_sector refl) refl)
