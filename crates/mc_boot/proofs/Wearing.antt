-- The application's own work leaves bytes; a list of operations erases a sector at most twice.
use Rattle.std.proofs.{Common.{arith, inl, inr}, lemmas.Bool.{cases_lt}}
use Rattle.std.proofs.lemmas.List.{get_or-replicate, get_or_past, length-replicate}
use Rattle.std.specs.List.{between, range_with_len}
use Rattle.std.specs.Prelude.{Bool, List, None, Option, Some, [], drop, false, flat_map, if◌then◌else◌, length, map, refl, replicate, slice_index, suc, take, true, zero, ℕ, ◌*◌, ◌++◌, ◌+◌, ◌-◌, ◌/◌, ◌<◌, ◌∷◌, ◌≡◌, ◌≤◌, ◌⊎◌}
use Rattle.mc_boot.specs.{Life.{AreSecondary, WearLaw, WorkLaw, all_erases, erases}, Outcome.{first_then, happening, ops_of}}
use Rattle.mc_boot.specs.Plan.{Plan, PowerOn, brought_in, closing, copy_of, from_transfer, is_revert, marking, moved_up, new_list, new_plan, new_swap, nothing, opening_writes, plan, plan_with, preparation_writes, resumed_from, resumed_list, resumed_plan, resumed_swap, steps, swap_list, taken_out, trailer_erases, transfers, write}
use Rattle.mc_boot.specs.{declared.image.Images.{Images}, declared.transfer.Transfer.{Transfer}}
use Rattle.mc_flash.specs.Flash.{Content, IsSized, apply, erased, in_slot, is_blank, put, size_of, with_bytes}
use Rattle.mc_flash.specs.{Geometry.{Geometry, IsLayout, greatest_sectors}, declared.flash.Grain.{Grain}, declared.op.Op.{Op}}
use Rattle.mc_flash.specs.{declared.op.Op.TheVariants.{Copy, Erase, Program}, declared.op.Slot.{Slot}, declared.op.Slot.TheVariants.{Primary, Secondary}}
use Rattle.mc_flash.specs.{facts.Changes.{length-put, put_before, put_beyond, put_inside, same_content}, facts.Layouts.{data_sectors, sector_inside}}
use Rattle.mc_flash.specs.facts.Pieces.{pieces_layout}
use Rattle.mc_image.specs.Image.{IsBytes}
use Rattle.mc_trailer.specs.{declared.places.Field.{Field}, declared.tables.SwapType.{SwapType}, declared.trailer.Flag.{Flag}}
use Rattle.mc_trailer.specs.declared.trailer.Trailer.{Trailer}
use Rattle.mc_trailer.specs.declared.tables.SwapType.TheVariants as kinds

-- The work of a running image on the secondary leaves bytes there.

-- bytes put among bytes are bytes
pub put_bytes : (xs new : List ℕ) (at : ℕ) → at + length new ≤ length xs → IsBytes xs → IsBytes new → IsBytes (put xs at new)
put_bytes xs new at fits old fresh i = elim (cases_lt i at) [
  | inl low ↦ let same = put_before xs new at i fits low in let small = old i in omega (arith, same, small)
  | inr from ↦ elim (cases_lt i (at + length new)) [
    | inl below ↦ within (i - at) (omega (arith, from, below)) (omega (arith, from))
    | inr above ↦ let same = put_beyond xs new at i fits above in let small = old i in omega (arith, same, small)
  ]
]
  where
    within : (k : ℕ) → k < length new → at + k ≡ i → slice_index (put xs at new) i < 256
    within k short is =
        let same = put_inside xs new at k fits short in
        let small = fresh k in
        rw (← is) (omega (arith, same, small))

pub erased_bytes : (n : ℕ) → IsBytes (replicate n 255)
erased_bytes n i = grind (arith, get_or-replicate, get_or_past, length-replicate)

-- the bytes of the slot with others in their place
stored : (g : Geometry) (s : Content) (at : ℕ) (new : List ℕ) → IsSized g s → IsBytes s.secondary → IsBytes new → at + length new ≤ size_of g Secondary → AreSecondary g (put s.secondary at new)
stored g s at new sized old fresh inside = grind (arith, length-put, put_bytes)

pub work_law : WorkLaw
unfolding apply
work_law g (Erase Primary sector) s t ok sized bytes work can is = absurd work
work_law g (Erase Secondary sector) s t ok sized bytes work can is =
    let new : Content = with_bytes s Secondary (erased g.sector sector s.secondary) in
    let same : new ≡ t = same_content new t is in
    let inside = sector_inside g Secondary sector can in
    rw (← same) (stored g s (sector * g.sector) (replicate g.sector 255) sized bytes (erased_bytes g.sector) (omega (arith, inside, length-replicate {A = ℕ} g.sector 255)), refl)
work_law g (Program Primary at new) s t ok sized bytes work can is = absurd work
work_law g (Program Secondary at new) s t ok sized bytes work can is = go (is_blank (between at (at + length new) s.secondary)) is
  where
    go : (b : Bool) → in_slot s Secondary (if b then Some (put s.secondary at new) else None) ≡ Some t → AreSecondary g t.secondary × (t ≡ with_bytes s Secondary t.secondary)
    go true e =
        let given : Content = with_bytes s Secondary (put s.secondary at new) in
        let same : given ≡ t = same_content given t e in
        rw (← same) (stored g s at new sized bytes work can.inside, refl)
    go false e = absurd cc
work_law g (Copy from at to offset len) s t ok sized bytes work can is = absurd work

-- No power-on erases a sector more than twice.

-- ---- lists, for a slot o and a sector k of it

module _ (o : Slot) (k : ℕ) where
  abbrev W : List Op → ℕ
  W = all_erases o k

  none_or_once : (op : Op) → (erases o k op ≡ 0) ⊎ (erases o k op ≡ 1)
  none_or_once = grind arith

  W-append : (xs ys : List Op) → W (xs ++ ys) ≡ W xs + W ys
  W-append [] ys = omega arith
  W-append (x ∷ xs) ys = omega (arith, W-append xs ys)

  W-take : (c : ℕ) (xs : List Op) → W (take c xs) ≤ W xs
  W-take zero xs = omega arith
  W-take (suc c) [] = omega arith
  W-take (suc c) (x ∷ xs) = omega (arith, W-take c xs)

  none_of : (f : ℕ → Op) (xs : List ℕ) → ((i : ℕ) → erases o k (f i) ≡ 0) → W (map f xs) ≡ 0
  none_of f [] each = refl
  none_of f (x ∷ xs) each = omega (arith, each x, none_of f xs each)

  none_in : (f : ℕ → Op) (a n : ℕ) → ((i : ℕ) → a ≤ i → i < a + n → erases o k (f i) ≡ 0) → W (map f (range_with_len a n)) ≡ 0
  none_in f a zero each = refl
  none_in f a (suc n) each =
      let rest = none_in f (a + 1) n (λ i from below. each i (omega (arith, from)) (omega (arith, below))) in
      omega (arith, rest)

  once : (f : ℕ → Op) (a n : ℕ) → ((i j : ℕ) → i < j → j < a + n → erases o k (f i) ≡ 1 → erases o k (f j) ≡ 1 → ⊥) → W (map f (range_with_len a n)) ≤ 1
  once f a zero apart = omega arith
  once f a (suc n) apart = elim (none_or_once (f a)) [
    | inl no_ ↦ let rest = once f (a + 1) n (λ i j less below. apart i j less (omega (arith, below))) in omega (arith, no_, rest)
    | inr now ↦
        let rest = none_in f (a + 1) n (λ i from below. elim (none_or_once (f i)) [
          | inl no_ ↦ no_
          | inr again ↦ absurd (apart a i (omega (arith, from)) (omega (arith, below)) now again)
        ]) in
        omega (arith, now, rest)
  ]

  -- ---- the sections of a course

  written : (c : Grain) (l : Geometry) (slot : Slot) (f : Field) (new : List ℕ) → W (write c l slot f new) ≡ 0
  written it l slot f new = grind (arith, none_of)

  marked : (c : Grain) (l : Geometry) (slot : Slot) (size : ℕ) → W (marking c l slot size) ≡ 0
  marked c l slot size =
      omega (arith, W-append, written)

  prepared : (c : Grain) (l : Geometry) (size : ℕ) → W (preparation_writes c l size) ≡ 0
  prepared c l size = omega (arith, marked c l Secondary size)

  opened : (c : Grain) (l : Geometry) (kind : SwapType) (size : ℕ) → W (opening_writes c l kind size) ≡ 0
  opened c l kind size = grind (arith, marked c l Primary size)

  closed : (l : Geometry) (image_ok : Bool) → W (closing l image_ok) ≡ 0
  closed l it = grind arith

  -- the transfers, by their targets
  abbrev target : Transfer → Op
  target t = Erase t.to t.to_sector

  stepped : (l : Geometry) (t : Transfer) → W (steps l t) ≡ erases o k (target t)
  stepped l t =
      omega (arith, W-append, none_of (copy_of l t) (range_with_len 0 (l.sector / l.chunk)) (λ i. refl))

  targets : (l : Geometry) (ts : List Transfer) → W (flat_map (steps l) ts) ≡ W (map target ts)
  targets l [] = refl
  targets l (t ∷ ts) = omega (arith, W-append (steps l t) (flat_map (steps l) ts), stepped l t, targets l ts)

  targets-append : (xs ys : List Transfer) → W (map target (xs ++ ys)) ≡ W (map target xs) + W (map target ys)
  targets-append [] ys = omega arith
  targets-append (x ∷ xs) ys = omega (arith, targets-append xs ys)

  targets-drop : (c : ℕ) (xs : List Transfer) → W (map target (drop c xs)) ≤ W (map target xs)
  targets-drop zero xs = omega arith
  targets-drop (suc c) [] = omega arith
  targets-drop (suc c) (x ∷ xs) = omega (arith, targets-drop c xs)

  moved : (n : ℕ) (xs : List ℕ) → W (map target (map (moved_up n) xs)) ≡ W (map (λ j. Erase Primary (n - j)) xs)
  moved n [] = refl
  moved n (x ∷ xs) = omega (arith, moved n xs)

  crossed : (l : Geometry) (xs : List ℕ) → W (map target (flat_map (λ i. brought_in l i ∷ taken_out l i ∷ []) xs)) ≡ W (map (λ i. Erase Primary i) xs) + W (map (λ i. Erase Secondary i) xs)
  crossed l [] = refl
  crossed l (x ∷ xs) = omega (arith, crossed l xs)

  all_targets : (l : Geometry) (n : ℕ) → W (map target (transfers l n))
      ≡ W (map (λ j. Erase Primary (n - j)) (range_with_len 0 n)) + (W (map (λ i. Erase Primary i) (range_with_len 0 n)) + W (map (λ i. Erase Secondary i) (range_with_len 0 n)))
  all_targets l n = grind (arith, targets-append, moved, crossed)

-- at most twice in the primary, once in the secondary, and none after the image
twice : (k : ℕ) (l : Geometry) (n : ℕ) → all_erases Primary k (map (target Primary k) (transfers l n)) ≤ 2
twice k l n = grind (arith, once, none_of, all_targets)

twice_at : (o : Slot) (k : ℕ) (l : Geometry) (n : ℕ) → all_erases o k (map (target o k) (transfers l n)) ≤ 2
twice_at it k l n = grind (arith, twice, none_of, once, all_targets)

-- and none where a trailer is
none_beyond : (o : Slot) (k : ℕ) (l : Geometry) (n : ℕ) → IsLayout l → n ≤ greatest_sectors l → data_sectors l o ≤ k → all_erases o k (map (target o k) (transfers l n)) ≡ 0
none_beyond it k l n ok at_most beyond = grind (arith, none_in, all_targets)

-- a trailer: its own slot once, and not in front of it
trailer_once : (o slot : Slot) (k : ℕ) (l : Geometry) → IsLayout l → all_erases o k (trailer_erases l slot) ≤ 1
trailer_once it one k l ok = grind (arith, once)

trailer_beyond : (o slot : Slot) (k : ℕ) (l : Geometry) → IsLayout l → k < data_sectors l o → all_erases o k (trailer_erases l slot) ≡ 0
trailer_beyond it one k l ok prefix = grind (arith, none_in)

other_trailer : (o : Slot) (k : ℕ) (l : Geometry) → IsLayout l → all_erases o k (trailer_erases l Primary) + 2 * all_erases o k (trailer_erases l Secondary) ≤ 2
other_trailer it k l ok = grind (arith, none_of, trailer_once)

-- ---- courses

module _ (o : Slot) (k : ℕ) (l : Geometry) (n : ℕ) (ok : IsLayout l) (at_most : n ≤ greatest_sectors l) where
  together : all_erases o k (trailer_erases l Primary) + 2 * all_erases o k (trailer_erases l Secondary) + all_erases o k (map (target o k) (transfers l n)) ≤ 2
  together = grind (arith, trailer_beyond, twice_at, other_trailer, none_beyond)

  from_some : (first : ℕ) (image_ok : Bool) → all_erases o k (from_transfer l n first image_ok) ≤ all_erases o k (map (target o k) (transfers l n))
  from_some first image_ok =
      omega (arith, W-append o k, targets o k l, targets-drop o k, closed o k l image_ok)

  resumed_wears : (first : ℕ) (erased image_ok : Bool)
      → all_erases o k (resumed_list l n first erased image_ok) ≤ all_erases o k (trailer_erases l Secondary) + all_erases o k (map (target o k) (transfers l n))
  resumed_wears first true image_ok = omega (arith, W-append o k (trailer_erases l Secondary) (from_transfer l n first image_ok), from_some first image_ok)
  resumed_wears first false image_ok = omega (arith, from_some first image_ok)

  resumed_twice : (first : ℕ) (erased image_ok : Bool) → all_erases o k (resumed_list l n first erased image_ok) ≤ 2
  resumed_twice first erased image_ok = omega (arith, resumed_wears first erased image_ok, together)

  swap_wears : (c : Grain) (kind : SwapType) (size : ℕ)
      → all_erases o k (swap_list c l kind size n)
      ≤ all_erases o k (trailer_erases l Primary) + (all_erases o k (trailer_erases l Secondary) + all_erases o k (map (target o k) (transfers l n)))
  swap_wears c kind size =
      omega (arith, W-append o k, W-append o k (opening_writes c l kind size) (resumed_list l n 0 true false), opened o k c l kind size, resumed_wears 0 true false)

  new_twice : (c : Grain) (kind : SwapType) (size : ℕ) → all_erases o k (new_list c l kind size n) ≤ 2
  new_twice c kind size = go (is_revert kind)
    where
      go : (b : Bool) → all_erases o k (if b then trailer_erases l Secondary ++ (preparation_writes c l size ++ swap_list c l kind size n) else swap_list c l kind size n) ≤ 2
      go true =
          omega (arith, W-append o k, W-append o k (preparation_writes c l size) (swap_list c l kind size n), prepared o k c l size, swap_wears c kind size, together)
      go false = omega (arith, swap_wears c kind size, together)

-- ---- plans

chosen : (o : Slot) (k : ℕ) (b : Bool) (p q : Plan) → (b ≡ true → all_erases o k p.list ≤ 2) → (b ≡ false → all_erases o k q.list ≤ 2) → all_erases o k (if b then p else q).list ≤ 2
chosen o k it p q yes_ no_ = grind arith

module _ (o : Slot) (k : ℕ) (c : Grain) (g : Geometry) (ok : IsLayout g) where
  nothing_worn : (kind : SwapType) → all_erases o k (nothing kind).list ≤ 2
  nothing_worn kind = omega arith

  new_swap_worn : (images : Images) (kind : SwapType) → all_erases o k (new_swap c g images kind).list ≤ 2
  new_swap_worn images kind = grind (arith, new_twice, pieces_layout)

  new_plan_worn : (images : Images) (kind : SwapType) → all_erases o k (new_plan c g images kind).list ≤ 2
  new_plan_worn images kinds.Test = new_swap_worn images kinds.Test
  new_plan_worn images kinds.Perm = new_swap_worn images kinds.Perm
  new_plan_worn images kinds.Revert = new_swap_worn images kinds.Revert
  new_plan_worn images kind = nothing_worn kind

  from_worn : (image_ok : Flag) (highest : Option ℕ) (kind : SwapType) (n : ℕ) (first : Option ℕ) → n ≤ greatest_sectors g
      → all_erases o k (resumed_from c g image_ok highest kind n first).list ≤ 2
  from_worn image_ok highest kind n it at_most = grind (arith, resumed_twice, pieces_layout)

  resumed_swap_worn : (image_ok : Flag) (highest : Option ℕ) (kind : SwapType) (n : ℕ) → all_erases o k (resumed_swap c g image_ok highest kind n).list ≤ 2
  resumed_swap_worn image_ok highest kind n = grind (arith, chosen, nothing_worn, from_worn)

  resumed_plan_worn : (p : Trailer) (highest : Option ℕ) → all_erases o k (resumed_plan c g p highest).list ≤ 2
  resumed_plan_worn p highest = grind (arith, resumed_swap_worn)

plan_worn : (o : Slot) (k : ℕ) (x : PowerOn) → IsLayout x.geometry → all_erases o k (plan x).list ≤ 2
unfolding plan plan_with
plan_worn o k x ok = grind (arith, resumed_plan_worn, new_plan_worn)

-- those that happen
happen_less : (o : Slot) (k : ℕ) (g : Geometry) (ops : List Op) (s : Content) → all_erases o k (happening g ops s) ≤ all_erases o k ops
happen_less o k g [] s = omega arith
happen_less o k g (op ∷ ops) s = go (λ t. happen_less o k g ops t) (apply g op s)
  where
    go : ((t : Content) → all_erases o k (happening g ops t) ≤ all_erases o k ops) → (t : Option Content)
        → all_erases o k (first_then op (λ t. happening g ops t) t) ≤ erases o k op + all_erases o k ops
    go later None = omega arith
    go later (Some t) = omega (arith, later t)

pub wear_law : WearLaw
unfolding ops_of
wear_law x slot sector c ok =
    omega (arith, W-take slot sector c (happening x.geometry (plan x).list x.content), happen_less slot sector x.geometry (plan x).list x.content, plan_worn slot sector x ok)
