-- A course is its sections, one after the other: how many operations each has, and which is which.
use Rattle.std.proofs.{Common.{add-one, ap, append-nil, append_assoc, arith, length-append, sym, zero-add, ◌∙◌}, Math.Nat.{div-lt_iff_lt-mul, mod-add-div', mul-le-mul_right}}
use Rattle.std.proofs.{lemmas.List.{length-drop}, lemmas.List.FromFn.{length-map-range_with_len}, lemmas.Nat.{mod_below}, lemmas.Option.{slice_get_within}}
use Rattle.std.proofs.lemmas.Nat.{div-add-mod', div-mul-add, mod-mul-add}
use Rattle.mc_boot.specs.{Copies.{AreCopies, copy_at}, declared.transfer.Copies.{Copies}, inner.Section.{IsTransferOf}}
use Rattle.std.specs.Prelude.{Bool, IfSome, List, None, Option, Some, [], drop, get_or, if◌then◌else◌, length, map, max, refl, slice_get, suc, take, false, true, zero, ℕ, ◌∷◌, ◌%◌, ◌*◌, ◌++◌, ◌+◌, ◌-◌, ◌/◌, ◌<◌, ◌≡◌, ◌≤◌}
use Rattle.mc_boot.specs.Boot.{list_from}
use Rattle.mc_boot.specs.Plan.{closing, is_revert, is_test, new_list, opening_writes, preparation_writes, steps, swap_list, trailer_erase, trailer_erases, transfers, write_count}
use Rattle.mc_boot.specs.{declared.course.Opening.{Opening}, declared.course.Opening.TheVariants.{New, Resumed}, declared.section.Counted.{Counted}, declared.section.Section.{Section}}
use Rattle.mc_boot.specs.{declared.section.Section.TheVariants.{Nothing, Erases, Flag, Size, Magic, Transfers}, declared.transfer.Transfer.{Transfer}}
use Rattle.mc_boot.specs.inner.Section.{AreCounted, count_in, counted, first_of, head_list, is_confirmed, ops_in, ops_of_all, preparation_sections, swap_sections}
use Rattle.mc_boot.specs.{facts.Bounds.{course_count}, facts.Lengths.{length-magic, length-size, length-steps, length-transfers, length_pieces}}
use Rattle.mc_flash.specs.{Geometry.{Geometry, IsLayout, greatest_sectors, trailer_sectors}, declared.flash.Grain.{Grain}, declared.op.Op.{Op}}
use Rattle.mc_flash.specs.{declared.op.Slot.{Slot}, declared.op.Slot.TheVariants.{Primary, Secondary}, facts.Layouts.{small_unit}}
use Rattle.mc_flash.specs.facts.Usage.{few_trailer_sectors}
use Rattle.mc_trailer.specs.declared.tables.SwapType.{SwapType}
use Rattle.mc_boot.proofs.Courses.{few_transfers, get_beyond, get_dropped, get_mapped, get_piece, get_within}
use lib.Seq.{drop-cons}
use Rattle.mc_trailer.specs.declared.tables.SwapType.TheVariants as kinds

-- an erase, and an operation of a transfer
pub get_erase : (g : Geometry) (slot : Slot) (k : ℕ) → k < trailer_sectors g → slice_get (trailer_erases g slot) k ≡ Some (trailer_erase g slot k)
get_erase g slot k h = get_mapped (trailer_erase g slot) 0 (trailer_sectors g) k h ∙ ap (λ i. Some (trailer_erase g slot i)) (zero-add k)

pub get_transfer : (c : Grain) (g : Geometry) (n first k w : ℕ) (t : Transfer) → w ≡ g.sector / g.chunk + 2 → slice_get (transfers g n) (first + k / w) ≡ Some t
    → slice_get (ops_in c g n (Transfers first)) k ≡ slice_get (steps g t) (k % w)
get_transfer c g n first k w t is at =
    get_piece (steps g) w (λ t. length-steps g t ∙ sym is) (drop first (transfers g n)) k (k / w) (k % w) t (get_dropped first (transfers g n) (k / w) ∙ at)
    (mod_below k w (omega (arith, is))) (omega (arith, mod-add-div' k w))

below : (k m w q : ℕ) → w ≡ q + 2 → k / w < m → k < m * (q + 2)
below k m w q is low = rw (← is) ((div-lt_iff_lt-mul {k = w} {x = k} {y = m} (omega (arith, is))).0 low)

module _ (c : Grain) (g : Geometry) (n : ℕ) where
  pub length_in : (s : Section) → length (ops_in c g n s) ≡ count_in c g n s
  length_in Nothing = refl
  length_in (Erases slot) = length-map-range_with_len (trailer_erase g slot) 0 (trailer_sectors g)
  length_in (Flag slot f value) = refl
  length_in (Size slot size) = length-size c g slot size
  length_in (Magic slot) = length-magic c g slot
  length_in (Transfers first) =
      length_pieces (steps g) (g.sector / g.chunk + 2) (length-steps g) (drop first (transfers g n))
      ∙ ap (λ m. m * (g.sector / g.chunk + 2)) (length-drop first (transfers g n) ∙ ap (λ m. m - first) (length-transfers g n))

  -- from one of the sections on
  pub counted_at : (xs : List Counted) (d : Counted) (k : ℕ) → AreCounted c g n xs → k < length xs → (get_or xs k d).len ≡ count_in c g n (get_or xs k d).section
  counted_at [] d k are h = absurd (omega arith)
  counted_at (x ∷ xs) d zero are h = let same : x ≡ counted c g n x.section = cc in ap (λ (y : Counted). y.len) same
  counted_at (x ∷ xs) d (suc k) are h = let rest : AreCounted c g n xs = cc in let here : k < length xs = omega arith in counted_at xs d k rest here

  pub from_section : (xs : List Counted) (d : Counted) (k : ℕ) → k < length xs
      → ops_of_all c g n (drop k xs) ≡ ops_in c g n (get_or xs k d).section ++ ops_of_all c g n (drop (k + 1) xs)
  from_section xs d k h = rw (add-one, drop-cons xs k d h) refl

  pub one_more : (xs : List Counted) (d : Counted) (k sum : ℕ) → AreCounted c g n xs → k < length xs → sum + length (ops_of_all c g n (drop k xs)) ≡ length (ops_of_all c g n xs)
      → sum + (get_or xs k d).len + length (ops_of_all c g n (drop (k + 1) xs)) ≡ length (ops_of_all c g n xs)
  one_more xs d k sum are h e =
      let s = (get_or xs k d).section in
      let rest = ops_of_all c g n (drop (k + 1) xs) in
      omega (arith, e, ap (λ (l : List Op). length l) (from_section xs d k h), length-append (ops_in c g n s) rest, length_in s, counted_at xs d k are h)

  pub get_here : (xs : List Counted) (d : Counted) (k left : ℕ) → AreCounted c g n xs → k < length xs → left < (get_or xs k d).len
      → slice_get (ops_of_all c g n (drop k xs)) left ≡ slice_get (ops_in c g n (get_or xs k d).section) left
  get_here xs d k left are h low =
      let s = (get_or xs k d).section in
      rw (from_section xs d k h) (get_within (ops_in c g n s) (ops_of_all c g n (drop (k + 1) xs)) left (omega (arith, length_in s, counted_at xs d k are h, low)))

  pub get_later : (xs : List Counted) (d : Counted) (k left : ℕ) → AreCounted c g n xs → k < length xs → (get_or xs k d).len ≤ left
      → slice_get (ops_of_all c g n (drop k xs)) left ≡ slice_get (ops_of_all c g n (drop (k + 1) xs)) (left - (get_or xs k d).len)
  get_later xs d k left are h past =
      let s = (get_or xs k d).section in
      rw (from_section xs d k h) (get_beyond (ops_in c g n s) (ops_of_all c g n (drop (k + 1) xs)) left (left - (get_or xs k d).len) (omega (arith, length_in s, counted_at xs d k are h, past)))

  -- The operations of a list of sections.
  abbrev pub ops_of : List Section → List Op
  ops_of sections = ops_of_all c g n (map (counted c g n) sections)

  -- a course is its sections
  pub preparation_is : (size : ℕ) → ops_of (preparation_sections size) ≡ trailer_erases g Secondary ++ preparation_writes c g size
  preparation_is size = grind (arith, append-nil)

  pub swap_is : (kind : SwapType) (size : ℕ) → ops_of (swap_sections kind size) ≡ swap_list c g kind size n
  swap_is kind size = grind (arith, append_assoc)

  pub opening_is : (kind : SwapType) (size : ℕ) → ops_of (take 5 (swap_sections kind size)) ≡ trailer_erases g Primary ++ opening_writes c g kind size
  opening_is kind size = grind (arith, append-nil)

  pub revert_is : (kind : SwapType) (size : ℕ) → is_revert kind ≡ true → new_list c g kind size n ≡ ops_of (preparation_sections size) ++ ops_of (swap_sections kind size)
  revert_is kind size revert = rw (revert, preparation_is size, swap_is kind size) (sym (append_assoc (trailer_erases g Secondary) (preparation_writes c g size) (swap_list c g kind size n)))

  -- a course in three parts
  pub parts_are : (o : Opening) → list_from c g n o ≡ head_list c g o ++ (ops_in c g n (Transfers (first_of o)) ++ closing g (is_confirmed o))
  parts_are (New kind size) = grind (arith, append_assoc)
  parts_are (Resumed first erases image_ok) = grind (arith, append_assoc)

  -- how many operations each part has
  abbrev pub marks : ℕ
  marks = write_count c g (max g.unit 4) + write_count c g 16

  length-opening : (kind : SwapType) (size : ℕ) → length (opening_writes c g kind size) ≡ 1 + (if is_test kind then 0 else 1) + marks
  length-opening kind size = grind (arith, length-append, length-size, length-magic)

  length-preparation : (size : ℕ) → length (preparation_writes c g size) ≡ 1 + marks
  length-preparation size = grind (arith, length-append, length-size, length-magic)

  pub length-erases : (slot : Slot) → length (trailer_erases g slot) ≡ trailer_sectors g
  length-erases slot = length-map-range_with_len (trailer_erase g slot) 0 (trailer_sectors g)

  pub head_of_revert : (kind : SwapType) (size k : ℕ) → is_revert kind ≡ true
      → k ≡ trailer_sectors g + 1 + marks + (trailer_sectors g + 1 + (if is_test kind then 0 else 1) + marks + trailer_sectors g) → k ≡ length (head_list c g (New kind size))
  head_of_revert kind size k revert is = grind (arith, length-append, length-opening, length-preparation, length-erases)

  pub head_of_other : (kind : SwapType) (size k : ℕ) → is_revert kind ≡ false
      → k ≡ trailer_sectors g + 1 + (if is_test kind then 0 else 1) + marks + trailer_sectors g → k ≡ length (head_list c g (New kind size))
  head_of_other kind size k other is = grind (arith, length-append, length-opening, length-erases)

  -- An operation of a transfer.
  pub get_transfer_of : (o : Opening) (k later w : ℕ) (t : Transfer) (op : Op) → w ≡ g.sector / g.chunk + 2 → k ≡ length (head_list c g o) + later → later / w < 3 * n - first_of o
      → slice_get (transfers g n) (first_of o + later / w) ≡ Some t → slice_get (steps g t) (later % w) ≡ Some op → slice_get (list_from c g n o) k ≡ Some op
  get_transfer_of o k later w t op width at low is there =
      let middle : List Op = ops_in c g n (Transfers (first_of o)) in
      let rest : List Op = closing g (is_confirmed o) in
      let within : later < length middle = omega (arith, length_in (Transfers (first_of o)), below later (3 * n - first_of o) w (g.sector / g.chunk) width low) in
      ap (λ (l : List Op). slice_get l k) (parts_are o)
      ∙ get_beyond (head_list c g o) (middle ++ rest) k later at
      ∙ get_within middle rest later within
      ∙ get_transfer c g n (first_of o) later w t width is
      ∙ there

  -- Copies of a transfer.
  pub copies_there : (o : Opening) (k later w most : ℕ) (t : Transfer) (found : Option Copies) → w ≡ g.sector / g.chunk + 2 → k ≡ length (head_list c g o) + later
      → IsTransferOf g n o (later / w) t → IfSome found (AreCopies (steps g t) (later % w) most) → IfSome found (λ x. later % w + x.count < w)
      → IfSome found (AreCopies (list_from c g n o) k most)
  copies_there o k later w most t None width at there copies within = tt
  copies_there o k later w most t (Some x) width at there copies within = record {
    each = λ j lt.
        let whole : later / w * w + (later % w + j) ≡ later + j = omega (arith, div-add-mod' later w) in
        let small : later % w + j < w = omega (arith, within, lt) in
        let same : (later + j) / w ≡ later / w = ap (λ m. m / w) (sym whole) ∙ div-mul-add (later / w) w (later % w + j) small in
        let step : (later + j) % w ≡ later % w + j = ap (λ m. m % w) (sym whole) ∙ mod-mul-add (later / w) w (later % w + j) small in
        get_transfer_of o (k + j) (later + j) w t (copy_at x j) width (omega (arith, at)) (rw (sym same) at there.0) (rw (sym same) at there.1) (rw (sym step) at (copies.each j lt));
    some = copies.some;
    at_most = copies.at_most;
  }

  length-closing : (b : Bool) → length (closing g b) ≡ (if b then 2 else 1)
  length-closing true = refl
  length-closing false = refl

  pub length-parts : (o : Opening) (k : ℕ) → k ≡ length (head_list c g o) + (3 * n - first_of o) * (g.sector / g.chunk + 2) + (if is_confirmed o then 2 else 1) → k ≡ length (list_from c g n o)
  length-parts o k is =
      let middle : List Op = ops_in c g n (Transfers (first_of o)) in
      let rest : List Op = closing g (is_confirmed o) in
      omega (
        arith,
        is,
        ap (λ (l : List Op). length l) (parts_are o),
        length-append (head_list c g o) (middle ++ rest),
        length-append middle rest,
        length_in (Transfers (first_of o)),
        length-closing (is_confirmed o),
      )

  -- no course is long
  few_units : (m : ℕ) → m ≤ 16 → write_count c g m ≤ 16
  few_units m small = grind arith

  module _ (ok : IsLayout g) (fits : n ≤ greatest_sectors g) where
    few_in : (s : Section) → length (ops_in c g n s) ≤ 201332736
    few_in s = grind (arith, length_in, few_trailer_sectors, few_units, small_unit, few_transfers)

    pub few_all : (xs : List Counted) → length (ops_of_all c g n xs) ≤ length xs * 201332736
    few_all [] = omega arith
    few_all (x ∷ xs) = omega (arith, length-append (ops_in c g n x.section) (ops_of_all c g n xs), few_in x.section, few_all xs)

    pub few_list : (o : Opening) (k : ℕ) → k ≡ length (list_from c g n o) → k ≤ 204000000
    few_list o k is =
        let whole : 3 * n * (g.sector / g.chunk + 2) ≤ (3 * n - 0) * (g.sector / g.chunk + 2) = mul-le-mul_right (g.sector / g.chunk + 2) (omega arith) in
        grind (arith, few_units, small_unit, few_transfers, course_count, few_trailer_sectors)

    pub few_at : (o : Opening) (k : ℕ) (op : Option Op) → op ≡ slice_get (list_from c g n o) k → IfSome op (λ _. k < 204000000)
    few_at o k it is = grind (arith, slice_get_within, few_list)

    pub few_copies : (o : Opening) (k most : ℕ) (found : Option Copies) → IfSome found (AreCopies (list_from c g n o) k most) → IfSome found (λ x. k + x.count ≤ 204000000)
    few_copies o k most None are = tt
    few_copies o k most (Some x) are =
        let last = few_at o (k + (x.count - 1)) (Some (copy_at x (x.count - 1))) (sym (are.each (x.count - 1) (omega (arith, are.some)))) in
        omega (arith, last, are.some)

-- whatever the size is that it writes
pub same_length : (c : Grain) (g : Geometry) (n a b : ℕ) → length (new_list c g kinds.Test a n) ≡ length (new_list c g kinds.Test b n)
same_length c g n a b = grind (arith, length-append, length-size)
