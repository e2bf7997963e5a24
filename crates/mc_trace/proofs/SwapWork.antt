-- What the lists of a boot ask of the flash, section by section: their erases, and how many units they write.
use Rattle.std.proofs.{Common.{ap, append-nil, arith, length-append, sym, ◌∙◌}, lemmas.List.{length-map}}
use Rattle.std.proofs.Math.Nat.{div-mul-le_self, div_self, dvd_of_mod-eq-zero, mul-div_assoc, mul-le-mul_left, mul-le-mul_right}
use Rattle.std.proofs.{lemmas.List.Edits.{length-between}, lemmas.List.Elements.{filter-append}}
use Rattle.std.proofs.{lemmas.List.FromFn.{length-map-range_with_len, length-range_with_len}, lemmas.List.Sums.{length-filter, sum_by-append}}
use Rattle.std.specs.List.{between, range_with_len}
use Rattle.std.specs.Prelude.{Bool, List, [], drop, false, filter, flat_map, if◌then◌else◌, length, map, max, refl, suc, true, zero, ℕ, ◌*◌, ◌++◌, ◌+◌, ◌-◌, ◌/◌, ◌<◌, ◌∷◌, ◌≡◌, ◌≤◌}
use Rattle.mc_boot.specs.Plan.{brought_in, closing, copy_of, copy_done_write, entry_of, from_transfer, image_ok_write, info_write, is_test, marking, new_list}
use Rattle.mc_boot.specs.Plan.{opening_writes, piece, preparation_writes, resumed_list, steps, swap_list, taken_out, trailer_erases, transfers, write}
use Rattle.mc_boot.specs.declared.transfer.Transfer.{Transfer}
use Rattle.mc_flash.specs.{Flash.{sectors_of}, Geometry.{Geometry, IsLayout, greatest_sectors, in_pieces, trailer_sectors}, Largest.{largest_image}}
use Rattle.mc_flash.specs.{facts.Pieces.{pieces_layout}, facts.Usage.{few_pieces, few_sectors, few_units}, declared.flash.Grain.{Grain}, declared.op.Op.{Op}}
use Rattle.mc_flash.specs.{declared.op.Op.TheVariants.{Erase, Program}, declared.op.Slot.{Slot}, declared.op.Slot.TheVariants.{Primary, Secondary}}
use Rattle.mc_flash.specs.facts.Layouts.{chunks_cover, small_unit}
use Rattle.mc_trace.specs.{inner.Swaps.{fields_of, marking_units, trailers_of}, Wear.{erases, is_erase, units, units_of, whole_swap}}
use Rattle.mc_trailer.specs.{Trailer.{magic_bytes, one_unit, place, size_bytes}, declared.places.Field.{Field}, declared.tables.SwapType.{SwapType}}
use Rattle.mc_trailer.specs.facts.Places.{one_unit_len, size_bytes_len}
use Rattle.mc_flash.specs.declared.flash.Grain.TheVariants as grains
use Rattle.mc_trailer.specs.declared.places.Field.TheVariants as field
use Rattle.mc_trailer.specs.declared.tables.SwapType.TheVariants as kinds

-- These are the erases of a list, in order, and it writes so many units.
pub record Asks (g : Geometry) (list erasing : List Op) (u : ℕ) : Type 0 where
  pub erasing_are : filter is_erase list ≡ erasing
  pub units_are : units g list ≡ u

-- The units of a transfer.
abbrev pub transfer_units : Geometry → ℕ
transfer_units l = l.sector / l.unit + 1

-- What a transfer erases.
abbrev pub target : Transfer → Op
target t = Erase t.to t.to_sector

-- What a swap erases: both trailers, and the target of each transfer; before a revert the secondary's trailer.
abbrev pub swap_erasing : Geometry → ℕ → List Op
swap_erasing l n = trailer_erases l Primary ++ (trailer_erases l Secondary ++ map target (transfers l n))

abbrev pub begun_erasing : Geometry → SwapType → ℕ → List Op
begun_erasing l kinds.Revert n = trailer_erases l Secondary ++ swap_erasing l n
begun_erasing l _ n = swap_erasing l n

-- the number of transfers
doubled : (l : Geometry) (xs : List ℕ) → length (flat_map (λ i. brought_in l i ∷ taken_out l i ∷ []) xs) ≡ 2 * length xs
doubled l [] = refl
doubled l (x ∷ xs) = omega (arith, doubled l xs)

pub transfer_count : (l : Geometry) (n : ℕ) → length (transfers l n) ≡ 3 * n
transfer_count l n = grind (arith, length-append, length-map-range_with_len, doubled, length-range_with_len)

module _ (l : Geometry) where
  none : Asks l [] [] 0
  none = record { erasing_are = refl; units_are = refl }

  join : (xs ys es fs : List Op) (a b : ℕ) → Asks l xs es a → Asks l ys fs b → Asks l (xs ++ ys) (es ++ fs) (a + b)
  join xs ys es fs a b p q = record {
    erasing_are = let both = filter-append is_erase xs ys in let one = p.erasing_are in let two = q.erasing_are in cc;
    units_are = omega (arith, sum_by-append (units_of l) xs ys, p.units_are, q.units_are);
  }

  also : (xs es : List Op) (a b : ℕ) → a ≡ b → Asks l xs es a → Asks l xs es b
  also xs es a b is p = record { erasing_are = p.erasing_are; units_are = p.units_are ∙ is }

  -- writes, in one row
  ranged : (f : ℕ → Op) (a n u : ℕ) → ((i : ℕ) → i < a + n → Asks l (f i ∷ []) [] u) → Asks l (map f (range_with_len a n)) [] (n * u)
  ranged f a zero u each = also [] [] 0 (0 * u) (omega arith) none
  ranged f a (suc n) u each =
      also (map f (range_with_len a (suc n))) [] (u + n * u) (suc n * u) (omega arith)
      (join (f a ∷ []) (map f (range_with_len (a + 1) n)) [] [] u (n * u) (each a (omega arith)) (ranged f (a + 1) n u (λ i below. each i (omega (arith, below)))))

  erased : (slot : Slot) (h : ℕ → ℕ) (xs : List ℕ) → Asks l (map (λ i. Erase slot (h i)) xs) (map (λ i. Erase slot (h i)) xs) 0
  erased slot h [] = none
  erased slot h (x ∷ xs) = join (Erase slot (h x) ∷ []) (map (λ i. Erase slot (h i)) xs) (Erase slot (h x) ∷ []) (map (λ i. Erase slot (h i)) xs) 0 0
      (record { erasing_are = refl; units_are = refl }) (erased slot h xs)

  program : (slot : Slot) (at : ℕ) (bytes : List ℕ) → Asks l (Program slot at bytes ∷ []) [] (length bytes / l.unit)
  program slot at bytes = record { erasing_are = refl; units_are = omega arith }

  module _ (ok : IsLayout l) where
    one : (slot : Slot) (at : ℕ) (bytes : List ℕ) → length bytes ≡ l.unit → Asks l (Program slot at bytes ∷ []) [] 1
    one slot at bytes is = also (Program slot at bytes ∷ []) [] (length bytes / l.unit) 1 (ap (λ n. n / l.unit) is ∙ div_self (small_unit l ok).0) (program slot at bytes)

    flag : (slot : Slot) (at value : ℕ) → Asks l (Program slot at (one_unit l value) ∷ []) [] 1
    flag slot at value = one slot at (one_unit l value) (one_unit_len l value ok)

    written : (c : Grain) (slot : Slot) (f : Field) (new : List ℕ) → Asks l (write c l slot f new) [] (length new / l.unit)
    written grains.Call slot f new = program slot (place l slot f) new
    written grains.Unit slot f new =
        also (map (piece l slot (place l slot f) new) (range_with_len 0 (length new / l.unit))) [] (length new / l.unit * 1) (length new / l.unit) (omega arith)
        (ranged (piece l slot (place l slot f) new) 0 (length new / l.unit) 1
        (λ i below. one slot (place l slot f + i * l.unit) (between (i * l.unit) (i * l.unit + l.unit) new) (piece_len i (omega (arith, below)))))
      where
        piece_len : (i : ℕ) → i < length new / l.unit → length (between (i * l.unit) (i * l.unit + l.unit) new) ≡ l.unit
        piece_len i below =
            let rows : (i + 1) * l.unit ≤ length new / l.unit * l.unit = mul-le-mul_right l.unit (omega (arith, below)) in
            let most = div-mul-le_self (length new) l.unit in
            let len = length-between new (i * l.unit) (i * l.unit + l.unit) (omega (arith, rows, most)) in
            omega (arith, len)

    marked : (c : Grain) (slot : Slot) (size : ℕ) → Asks l (marking c l slot size) [] (marking_units l)
    marked c slot size =
        also (marking c l slot size) [] (length (size_bytes l size) / l.unit + 16 / l.unit) (marking_units l) (ap (λ n. n / l.unit + 16 / l.unit) size_len)
        (join (write c l slot field.SwapSize (size_bytes l size)) (write c l slot field.Magic magic_bytes) [] [] (length (size_bytes l size) / l.unit) (16 / l.unit)
        (written c slot field.SwapSize (size_bytes l size)) (written c slot field.Magic magic_bytes))
      where
        size_len : length (size_bytes l size) ≡ max l.unit 4
        size_len = omega (arith, size_bytes_len l size)

    confirmed : (c : Grain) (slot : Slot) (size : ℕ) → Asks l (image_ok_write l slot ∷ marking c l slot size) [] (1 + marking_units l)
    confirmed c slot size = join (image_ok_write l slot ∷ []) (marking c l slot size) [] [] 1 (marking_units l) (flag slot (place l slot field.ImageOk) 1) (marked c slot size)

    prepared : (c : Grain) (size : ℕ) → Asks l (preparation_writes c l size) [] (1 + marking_units l)
    prepared c size = confirmed c Secondary size

    opened : (c : Grain) (kind : SwapType) (size : ℕ) → Asks l (opening_writes c l kind size) [] (if is_test kind then 1 + marking_units l else 2 + marking_units l)
    opened c kind size = begins (is_test kind)
      where
        info : Asks l (info_write l kind ∷ []) [] 1
        info = flag Primary _ _

        begins : (b : Bool)
            → Asks l (info_write l kind ∷ (if b then marking c l Primary size else image_ok_write l Primary ∷ marking c l Primary size)) [] (if b then 1 + marking_units l else 2 + marking_units l)
        begins true = join (info_write l kind ∷ []) (marking c l Primary size) [] [] 1 (marking_units l) info (marked c Primary size)
        begins false =
            also (info_write l kind ∷ (image_ok_write l Primary ∷ marking c l Primary size)) [] (1 + (1 + marking_units l)) (2 + marking_units l) (omega arith)
            (join (info_write l kind ∷ []) (image_ok_write l Primary ∷ marking c l Primary size) [] [] 1 (1 + marking_units l) info (confirmed c Primary size))

    closed : (image_ok : Bool) → Asks l (closing l image_ok) [] (if image_ok then 2 else 1)
    closed true = join (image_ok_write l Primary ∷ []) (copy_done_write l ∷ []) [] [] 1 1 (flag Primary _ _) (flag Primary _ _)
    closed false = flag Primary _ _

    -- a transfer, and some
    chunks : l.sector / l.chunk * (l.chunk / l.unit) ≡ l.sector / l.unit
    chunks = sym (mul-div_assoc l.unit (l.sector / l.chunk) (dvd_of_mod-eq-zero l.unit ok.chunk_units)) ∙ ap (λ n. n / l.unit) (chunks_cover l ok)

    stepped : (t : Transfer) → Asks l (steps l t) (target t ∷ []) (transfer_units l)
    stepped t =
        let copies : List Op = map (copy_of l t) (range_with_len 0 (l.sector / l.chunk)) in
        also (steps l t) (target t ∷ []) (0 + (l.sector / l.chunk * (l.chunk / l.unit) + 1)) (transfer_units l) (omega (arith, chunks))
        (join (target t ∷ []) (copies ++ entry_of l t ∷ []) (target t ∷ []) [] 0 (l.sector / l.chunk * (l.chunk / l.unit) + 1) (record { erasing_are = refl; units_are = refl })
        (join copies (entry_of l t ∷ []) [] [] (l.sector / l.chunk * (l.chunk / l.unit)) 1
        (ranged (copy_of l t) 0 (l.sector / l.chunk) (l.chunk / l.unit) (λ i below. record { erasing_are = refl; units_are = omega arith }))
        (flag Primary _ 1)))

    transferred : (ts : List Transfer) → Asks l (flat_map (steps l) ts) (map target ts) (length ts * transfer_units l)
    transferred [] = also [] [] 0 (0 * transfer_units l) (omega arith) none
    transferred (t ∷ ts) =
        also (steps l t ++ flat_map (steps l) ts) (target t ∷ map target ts) (transfer_units l + length ts * transfer_units l) (suc (length ts) * transfer_units l) (omega arith)
        (join (steps l t) (flat_map (steps l) ts) (target t ∷ []) (map target ts) (transfer_units l) (length ts * transfer_units l) (stepped t) (transferred ts))

    -- the lists of a boot
    pub finished : (n first : ℕ) (image_ok : Bool)
        → Asks l (from_transfer l n first image_ok) (map target (drop first (transfers l n))) (length (drop first (transfers l n)) * transfer_units l + (if image_ok then 2 else 1))
    finished n first image_ok =
        let left : List Transfer = drop first (transfers l n) in
        let all = join (flat_map (steps l) left) (closing l image_ok) (map target left) [] (length left * transfer_units l) (if image_ok then 2 else 1) (transferred left) (closed image_ok) in
        record { erasing_are = all.erasing_are ∙ append-nil (map target left); units_are = all.units_are }

    pub renewed : (slot : Slot) (rest es : List Op) (u : ℕ) → Asks l rest es u → Asks l (trailer_erases l slot ++ rest) (trailer_erases l slot ++ es) u
    renewed slot rest es u p =
        also (trailer_erases l slot ++ rest) (trailer_erases l slot ++ es) (0 + u) u (omega arith)
        (join (trailer_erases l slot) rest (trailer_erases l slot) es 0 u (erased slot (λ i. sectors_of l slot - 1 - i) (range_with_len 0 (trailer_sectors l))) p)

    swapped : (c : Grain) (kind : SwapType) (size n : ℕ)
        → Asks l (swap_list c l kind size n) (swap_erasing l n)
        ((if is_test kind then 1 + marking_units l else 2 + marking_units l) + (length (transfers l n) * transfer_units l + 1))
    swapped c kind size n =
        let rest = resumed_list l n 0 true false in
        let es : List Op = trailer_erases l Secondary ++ map target (transfers l n) in
        let u = length (transfers l n) * transfer_units l + 1 in
        let o = if is_test kind then 1 + marking_units l else 2 + marking_units l in
        renewed Primary (opening_writes c l kind size ++ rest) es (o + u)
        (join (opening_writes c l kind size) rest [] es o u (opened c kind size) (renewed Secondary (from_transfer l n 0 false) (map target (transfers l n)) u (finished n 0 false)))

    begun : (c : Grain) (kind : SwapType) (size n : ℕ)
        → Asks l (new_list c l kind size n) (begun_erasing l kind n) (fields_of kind (marking_units l) + 3 * n * transfer_units l)
    begun c kind size n = at kind
      where
        m : ℕ
        m = marking_units l

        z : ℕ
        z = length (transfers l n) * transfer_units l

        as_many : z ≡ 3 * n * transfer_units l
        as_many = ap (λ k. k * transfer_units l) (transfer_count l n)

        at : (kind : SwapType) → Asks l (new_list c l kind size n) (begun_erasing l kind n) (fields_of kind m + 3 * n * transfer_units l)
        at kinds.Test = also (swap_list c l kinds.Test size n) (swap_erasing l n) (1 + m + (z + 1)) (2 + m + 3 * n * transfer_units l) (omega (arith, as_many)) (swapped c kinds.Test size n)
        at kinds.Revert =
            also (new_list c l kinds.Revert size n) (begun_erasing l kinds.Revert n) (1 + m + (2 + m + (z + 1))) (4 + 2 * m + 3 * n * transfer_units l) (omega (arith, as_many))
            (renewed Secondary (preparation_writes c l size ++ swap_list c l kinds.Revert size n) (swap_erasing l n) (1 + m + (2 + m + (z + 1)))
            (join (preparation_writes c l size) (swap_list c l kinds.Revert size n) [] (swap_erasing l n) (1 + m) (2 + m + (z + 1)) (prepared c size) (swapped c kinds.Revert size n)))
        at kind = also (swap_list c l kind size n) (swap_erasing l n) (2 + m + (z + 1)) (3 + m + 3 * n * transfer_units l) (omega (arith, as_many)) (swapped c kind size n)

-- The lists of a new swap, by either grain, and the whole swaps.
pub begun_in : (c : Grain) (g : Geometry) (kind : SwapType) (size n : ℕ) → IsLayout g
    → Asks g (new_list c (in_pieces c g) kind size n) (begun_erasing g kind n) (fields_of kind (marking_units g) + 3 * n * transfer_units g)
begun_in grains.Call g kind size n ok = begun g ok grains.Call kind size n
begun_in grains.Unit g kind size n ok =
    let p = begun (in_pieces grains.Unit g) (pieces_layout grains.Unit g ok) grains.Unit kind size n in
    record { erasing_are = p.erasing_are; units_are = p.units_are }

pub whole : (c : Grain) (g : Geometry) (kind : SwapType) → IsLayout g
    → Asks g (whole_swap c g kind) (begun_erasing g kind (greatest_sectors g)) (fields_of kind (marking_units g) + 3 * greatest_sectors g * transfer_units g)
whole c g kind ok = begun_in c g kind (largest_image g) (greatest_sectors g) ok

-- How many they are.
pub erase_count : (g : Geometry) (list es : List Op) (u : ℕ) → Asks g list es u → erases list ≡ length es
erase_count g list es u p = sym (length-filter is_erase list) ∙ ap (λ (xs : List Op). length xs) p.erasing_are

swap_erasing_count : (g : Geometry) (n : ℕ) → length (swap_erasing g n) ≡ 2 * trailer_sectors g + 3 * n
swap_erasing_count g n = grind (arith, length-append, length-map-range_with_len, length-map, transfer_count)

pub begun_erasing_count : (g : Geometry) (kind : SwapType) (n : ℕ) → length (begun_erasing g kind n) ≡ trailers_of kind * trailer_sectors g + 3 * n
begun_erasing_count g kinds.Revert n = grind (arith, swap_erasing_count, length-append, length-map-range_with_len)
begun_erasing_count g kind n = swap_erasing_count g n

-- They fit their type.
pub few_transfer_units : (g : Geometry) → IsLayout g → 3 * greatest_sectors g * transfer_units g ≤ 201332736
few_transfer_units g ok = let more : 3 * greatest_sectors g * transfer_units g ≤ 3 * greatest_sectors g * (g.sector / g.unit + 2) = mul-le-mul_left (3 * greatest_sectors g) (omega arith) in
    omega (arith, more, few_pieces (greatest_sectors g) (g.sector / g.unit) (few_sectors g ok) (few_units g ok))
