-- How often the swap for a test erases each sector.
use Rattle.std.proofs.{Math.Nat.{zero-mul}, Common.{ap, arith, inl, inr, sym, ◌∙◌}, lemmas.Bool.{cases_eq}}
use Rattle.std.specs.List.{range_with_len}
use Rattle.std.specs.Prelude.{List, [], filter, flat_map, fold, if◌then◌else◌, map, max, min, refl, suc, zero, ℕ, ◌*◌, ◌+◌, ◌++◌, ◌-◌, ◌<◌, ◌==◌, ◌∷◌, ◌≡◌, ◌≤◌}
use Rattle.mc_boot.specs.{Life.{all_erases, erases}, Plan.{brought_in, moved_up, taken_out, trailer_erase, trailer_erases, transfers}, WholeSwap.{largest_swap}}
use Rattle.mc_boot.specs.declared.transfer.Transfer.{Transfer}
use Rattle.mc_flash.specs.{Flash.{sectors_of}, Geometry.{Geometry, IsLayout, greatest_sectors, trailer_bytes, trailer_sectors}, declared.flash.Grain.{Grain}}
use Rattle.mc_flash.specs.{declared.op.Op.{Op}, declared.op.Op.TheVariants.{Copy, Erase, Program}, declared.op.Slot.{Slot}}
use Rattle.mc_flash.specs.{declared.op.Slot.TheVariants.{Primary, Secondary}, facts.Layouts.{data_sectors, trailer_covered, trailer_leaves_one}}
use Rattle.mc_trace.proofs.SwapWork.{target, whole}
use Rattle.mc_trace.specs.Wear.{is_erase, most_data_erases, most_trailer_erases}
use Rattle.mc_trailer.specs.declared.tables.SwapType.TheVariants as kinds

-- The greatest of some numbers, where none is above it and one is it.
module _ (f : ℕ → ℕ) (m : ℕ) where
  stays : (a n b : ℕ) → b ≡ m → ((i : ℕ) → a ≤ i → i < a + n → f i ≤ m) → fold (λ most i. max most (f i)) b (range_with_len a n) ≡ m
  stays a zero b is below = is
  stays a (suc n) b is below = stays (a + 1) n (max b (f a)) (omega (arith, is, below a (omega arith) (omega arith))) (λ i from to. below i (omega (arith, from)) (omega (arith, to)))

  pub greatest : (a n b w : ℕ) → b ≤ m → ((i : ℕ) → a ≤ i → i < a + n → f i ≤ m) → a ≤ w → w < a + n → f w ≡ m → fold (λ most i. max most (f i)) b (range_with_len a n) ≡ m
  greatest a zero b w at_most below from to is = absurd (omega (arith, from, to))
  greatest a (suc n) b w at_most below from to is =
      let now : f a ≤ m = below a (omega arith) (omega arith) in
      let later : (i : ℕ) → a + 1 ≤ i → i < a + 1 + n → f i ≤ m = λ i above under. below i (omega (arith, above)) (omega (arith, under)) in
      elim (cases_eq a w) [
        | inl same ↦ stays (a + 1) n (max b (f a)) (omega (arith, at_most, ap f same, is)) later
        | inr other ↦ greatest (a + 1) n (max b (f a)) w (omega (arith, at_most, now)) later (omega (arith, from, other)) (omega (arith, to)) is
      ]

-- Once for a sector k that is one of n from a on, else never.
abbrev pub once : ℕ → ℕ → ℕ → ℕ
once k a n = min 1 (k + 1 - a) - min 1 (k + 1 - (a + n))

hit : (i k : ℕ) → (if i == k then 1 else 0) ≡ once k i 1
hit i k = grind arith

also_last : (k a n x y : ℕ) → x ≡ once k (a + n) 1 → y ≡ once k a n → x + y ≡ once k a (suc n)
also_last k a n x y now rest = omega (arith, now, rest)

before : (k a n : ℕ) → k < a → once k a n ≡ 0
before k a n h = omega (arith, h)

beyond : (k a n : ℕ) → a + n ≤ k → once k a n ≡ 0
beyond k a n h = omega (arith, h)

inside : (k a n : ℕ) → a ≤ k → k < a + n → once k a n ≡ 1
inside k a n from to = omega (arith, from, to)

-- up by one, and then in
twice_at_most : (k n : ℕ) → 1 ≤ n → once k 1 n + once k 0 n ≤ min n 2
twice_at_most k n some = omega (arith, some)

twice : (n : ℕ) → 1 ≤ n → once (min n 2 - 1) 1 n + once (min n 2 - 1) 0 n ≡ min n 2
twice n some = omega (arith, some)

module _ (o : Slot) (k : ℕ) where
  worn : (xs ys : List Op) → all_erases o k (xs ++ ys) ≡ all_erases o k xs + all_erases o k ys
  worn [] ys = omega arith
  worn (x ∷ xs) ys = omega (arith, worn xs ys)

  never : (f : ℕ → Op) (xs : List ℕ) → ((i : ℕ) → erases o k (f i) ≡ 0) → all_erases o k (map f xs) ≡ 0
  never f [] each = refl
  never f (x ∷ xs) each = omega (arith, each x, never f xs each)

  here : (i : ℕ) → erases o k (Erase o i) ≡ once k i 1
  here i = at o
    where
      at : (o : Slot) → erases o k (Erase o i) ≡ once k i 1
      at Primary = hit i k
      at Secondary = hit i k

  -- sector after sector, upward and downward
  upward : (a n : ℕ) → all_erases o k (map (λ i. Erase o i) (range_with_len a n)) ≡ once k a n
  upward a zero = omega arith
  upward a (suc n) = omega (arith, here a, upward (a + 1) n)

  downward : (m i n a : ℕ) → a + n + i ≡ m + 1 → all_erases o k (map (λ j. Erase o (m - j)) (range_with_len i n)) ≡ once k a n
  downward m i zero a is = omega arith
  downward m i (suc n) a is =
      let last : m - i ≡ a + n = omega (arith, is) in
      also_last k a n (erases o k (Erase o (m - i))) _ (here (m - i) ∙ ap (λ j. once k j 1) last) (downward m (i + 1) n a (omega (arith, is)))

  -- the transfers, by their targets
  moved : (n : ℕ) (xs : List ℕ) → all_erases o k (map target (map (moved_up n) xs)) ≡ all_erases o k (map (λ j. Erase Primary (n - j)) xs)
  moved n [] = refl
  moved n (x ∷ xs) = omega (arith, moved n xs)

  crossed : (g : Geometry) (xs : List ℕ)
      → all_erases o k (map target (flat_map (λ i. brought_in g i ∷ taken_out g i ∷ []) xs)) ≡ all_erases o k (map (λ i. Erase Primary i) xs) + all_erases o k (map (λ i. Erase Secondary i) xs)
  crossed g [] = refl
  crossed g (x ∷ xs) = omega (arith, crossed g xs)

  targets-append : (xs ys : List Transfer) → all_erases o k (map target (xs ++ ys)) ≡ all_erases o k (map target xs) + all_erases o k (map target ys)
  targets-append [] ys = omega arith
  targets-append (x ∷ xs) ys = omega (arith, targets-append xs ys)

  -- erases alone count
  erases_alone : (list : List Op) → all_erases o k (filter is_erase list) ≡ all_erases o k list
  erases_alone = at o
    where
      at : (o : Slot) (list : List Op) → all_erases o k (filter is_erase list) ≡ all_erases o k list
      at o [] = refl
      at o (Erase slot sector ∷ ops) = omega (arith, at o ops)
      at Primary (Program slot to bytes ∷ ops) = omega (arith, at Primary ops)
      at Secondary (Program slot to bytes ∷ ops) = omega (arith, at Secondary ops)
      at Primary (Copy from to slot offset len ∷ ops) = omega (arith, at Primary ops)
      at Secondary (Copy from to slot offset len ∷ ops) = omega (arith, at Secondary ops)

  -- section by section
  pub sections : (c : Grain) (g : Geometry) → IsLayout g → all_erases o k (largest_swap c g)
      ≡ all_erases o k (trailer_erases g Primary) + (all_erases o k (trailer_erases g Secondary)
      + (all_erases o k (map (λ j. Erase Primary (greatest_sectors g - j)) (range_with_len 0 (greatest_sectors g)))
      + (all_erases o k (map (λ i. Erase Primary i) (range_with_len 0 (greatest_sectors g))) + all_erases o k (map (λ i. Erase Secondary i) (range_with_len 0 (greatest_sectors g))))))
  sections c g ok =
      let n = greatest_sectors g in
      let all : List Op = map target (transfers g n) in
      let same = sym (erases_alone (largest_swap c g)) ∙ ap (λ (xs : List Op). all_erases o k xs) (whole c g kinds.Test ok).erasing_are in
      omega (
        arith,
        same,
        worn (trailer_erases g Primary) (trailer_erases g Secondary ++ all),
        worn (trailer_erases g Secondary) all,
        targets-append (map (moved_up n) (range_with_len 0 n)) (flat_map (λ i. brought_in g i ∷ taken_out g i ∷ []) (range_with_len 0 n)),
        moved n (range_with_len 0 n),
        crossed g (range_with_len 0 n),
      )

-- The most erases of one sector.
module _ (c : Grain) (g : Geometry) (ok : IsLayout g) where
  abbrev n : ℕ
  n = greatest_sectors g

  abbrev t : ℕ
  t = trailer_sectors g

  abbrev d : Slot → ℕ
  d slot = data_sectors g slot

  some_trailer : 1 ≤ t
  some_trailer = least t g.sector (trailer_bytes g) (omega arith) (trailer_covered g ok)
    where
      least : (t s b : ℕ) → 48 ≤ b → b ≤ t * s → 1 ≤ t
      least zero s b some covers = absurd (let no_ = zero-mul s in omega (arith, some, covers, no_))
      least (suc t) s b some covers = omega arith

  trailer_worn : (slot : Slot) (k : ℕ) → all_erases slot k (trailer_erases g slot) ≡ once k (d slot) t
  trailer_worn slot k = downward slot k (sectors_of g slot - 1) 0 t (d slot) (let leaves = trailer_leaves_one g slot ok in omega (arith, leaves))

  primary_worn : (k : ℕ) → all_erases Primary k (largest_swap c g) ≡ once k (d Primary) t + (once k 1 n + once k 0 n)
  primary_worn k =
      omega (
        arith,
        sections Primary k c g ok,
        trailer_worn Primary k,
        never Primary k (trailer_erase g Secondary) (range_with_len 0 t) (λ i. refl),
        downward Primary k n 0 n 1 (omega arith),
        upward Primary k 0 n,
        never Primary k (λ i. Erase Secondary i) (range_with_len 0 n) (λ i. refl),
      )

  secondary_worn : (k : ℕ) → all_erases Secondary k (largest_swap c g) ≡ once k (d Secondary) t + once k 0 n
  secondary_worn k =
      omega (
        arith,
        sections Secondary k c g ok,
        trailer_worn Secondary k,
        never Secondary k (trailer_erase g Primary) (range_with_len 0 t) (λ i. refl),
        never Secondary k (λ j. Erase Primary (n - j)) (range_with_len 0 n) (λ i. refl),
        never Secondary k (λ i. Erase Primary i) (range_with_len 0 n) (λ i. refl),
        upward Secondary k 0 n,
      )

  few_primary : n + 1 ≤ d Primary
  few_primary = let room = ok.room in omega arith

  few_secondary : n ≤ d Secondary
  few_secondary = omega arith

  some : 1 ≤ n
  some = let room = ok.room in omega arith

  pub primary_data : most_data_erases g Primary (largest_swap c g) ≡ min n 2
  primary_data =
      greatest (λ k. all_erases Primary k (largest_swap c g)) (min n 2) 0 (d Primary) 0 (min n 2 - 1) (omega arith)
      (λ k from to. omega (arith, primary_worn k, before k (d Primary) t (omega (arith, to)), twice_at_most k n some))
      (omega arith) (omega (arith, few_primary, some))
      (omega (arith, primary_worn (min n 2 - 1), before (min n 2 - 1) (d Primary) t (omega (arith, few_primary, some)), twice n some))

  pub primary_trailer : most_trailer_erases g Primary (largest_swap c g) ≡ 1
  primary_trailer = greatest (λ k. all_erases Primary k (largest_swap c g)) 1 (d Primary) t 0 (d Primary) (omega arith)
      (λ k from to. let same = each k from to in omega (arith, same)) (omega arith) (omega (arith, some_trailer)) (each (d Primary) (omega arith) (omega (arith, some_trailer)))
    where
      each : (k : ℕ) → d Primary ≤ k → k < d Primary + t → all_erases Primary k (largest_swap c g) ≡ 1
      each k from to =
          omega (arith, primary_worn k, inside k (d Primary) t from to, beyond k 1 n (omega (arith, from, few_primary)), beyond k 0 n (omega (arith, from, few_primary)))

  pub secondary_data : most_data_erases g Secondary (largest_swap c g) ≡ 1
  secondary_data =
      greatest (λ k. all_erases Secondary k (largest_swap c g)) 1 0 (d Secondary) 0 0 (omega arith)
      (λ k from to. omega (arith, secondary_worn k, before k (d Secondary) t (omega (arith, to))))
      (omega arith) (omega (arith, few_secondary, some))
      (omega (arith, secondary_worn 0, before 0 (d Secondary) t (omega (arith, few_secondary, some)), inside 0 0 n (omega arith) (omega (arith, some))))

  pub secondary_trailer : most_trailer_erases g Secondary (largest_swap c g) ≡ 1
  secondary_trailer = greatest (λ k. all_erases Secondary k (largest_swap c g)) 1 (d Secondary) t 0 (d Secondary) (omega arith)
      (λ k from to. let same = each k from to in omega (arith, same)) (omega arith) (omega (arith, some_trailer)) (each (d Secondary) (omega arith) (omega (arith, some_trailer)))
    where
      each : (k : ℕ) → d Secondary ≤ k → k < d Secondary + t → all_erases Secondary k (largest_swap c g) ≡ 1
      each k from to = omega (arith, secondary_worn k, inside k (d Secondary) t from to, beyond k 0 n (omega (arith, from, few_secondary)))
