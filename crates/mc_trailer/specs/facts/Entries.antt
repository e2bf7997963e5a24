-- What follows for the status entries. Proved here, so that the crates above can cite it.
use Rattle.std.specs.Prelude.{◌≡◌, ◌≢◌, ◌⊎◌, ℕ, zero, suc, ◌+◌, ◌-◌, ◌*◌, ◌<◌, ◌≤◌, Bool, true, false, not, List, length, slice_index, Option, Some, None, refl}
use Rattle.std.proofs.{Common.{arith, sym, ap, ◌∙◌, inl, inr, add-zero}, Math.Nat.{mul-le-mul_right}, lemmas.Bool.{cases_eq, cases_Bool, cases_order}}
use Rattle.std.proofs.{lemmas.Grind.{same_number_lists}, lemmas.List.Edits.{get_or-between, length-between}}
use Rattle.mc_flash.specs.{Flash.{is_blank, Content, IsSized, byte, size_of, apply}, Geometry.{Geometry, IsLayout, trailer_bytes}, facts.Layouts.{small_unit}}
use Rattle.mc_flash.specs.facts.Changes.{Changed, changed_sized, blank_range, range_blank, program_changes}
use Rattle.mc_flash.specs.declared.op.Op.TheVariants as ops
use Rattle.mc_flash.specs.declared.op.Slot.TheVariants.{Primary}
use Rattle.mc_trailer.specs.Trailer.{entry_place, bytes_at, one_unit, is_written, IsWritten, IsHighest, greatest, highest_entry}
use Rattle.mc_trailer.specs.{facts.Places.{entry_beyond, entry_inside, group_inside, entry_ends, entries_apart, one_unit_len}, Laws.{WritesHighest}}

-- The greatest number below a limit that passes: it passes, and no other above it does.
pub greatest_some : (p : ℕ → Bool) (n m : ℕ) → greatest p n ≡ Some m → (m < n) × (p m ≡ true) × ((d : ℕ) → d < n → p d ≡ true → d ≤ m)
greatest_some p zero m is = absurd cc
greatest_some p (suc n) m is = elim (cases_Bool (p n)) [
  | inl passing ↦
      let same : n ≡ m = (let e : Some n ≡ Some m = rw passing at is in cc) in
      (omega arith, ap p (sym same) ∙ passing, λ d below passes. omega arith)
  | inr failing ↦
      let rest = greatest_some p n m (rw failing at is) in (
        omega arith,
        rest.1,
        λ d below passes. elim (cases_eq d n) [
          | inl same ↦ absurd (let e : p n ≡ true = ap p (sym same) ∙ passes in cc)
          | inr other ↦ rest.2 d (omega arith) passes
        ],
      )
]

-- Where there is none, none below the limit passes.
pub greatest_none : (p : ℕ → Bool) (n : ℕ) → greatest p n ≡ None → (d : ℕ) → d < n → p d ≡ false
greatest_none p zero is d below = absurd (omega arith)
greatest_none p (suc n) is d below = elim (cases_Bool (p n)) [
  | inl passing ↦ absurd (let e : Some n ≡ None = rw passing at is in cc)
  | inr failing ↦ elim (cases_eq d n) [
    | inl same ↦ ap p same ∙ failing
    | inr other ↦ greatest_none p n (rw failing at is) d (omega arith)
  ]
]

-- One that passes, with none above it, is the greatest.
pub greatest_at : (p : ℕ → Bool) (n m : ℕ) → m < n → p m ≡ true → ((d : ℕ) → m < d → d < n → p d ≡ false) → greatest p n ≡ Some m
greatest_at p zero m below here above = absurd (omega arith)
greatest_at p (suc n) m below here above = elim (cases_eq n m) [
  | inl same ↦ let now : p n ≡ true = ap p same ∙ here in rw now (ap (λ (i : ℕ). Some i) same)
  | inr past ↦
      let not_now : p n ≡ false = above n (omega arith) (omega arith) in
      rw not_now (greatest_at p n m (omega arith) here (λ d over under. above d over (omega (arith, under))))
]

-- Where none passes, there is none.
pub none_passes : (p : ℕ → Bool) (n : ℕ) → ((d : ℕ) → d < n → p d ≡ false) → greatest p n ≡ None
none_passes p zero fails = refl
none_passes p (suc n) fails = rw (fails n (omega arith)) (none_passes p n (λ d under. fails d (omega (arith, under))))

not_written : (g : Geometry) (s : Content) (e : ℕ) → (is_written g s e ≡ true → ⊥) → is_written g s e ≡ false
not_written g s e fails = elim (cases_Bool (is_written g s e)) [ inl is ↦ absurd (fails is) | inr is ↦ is ]

-- Of entries that are blank together none is written.
pub group_blank : (g : Geometry) (s : Content) (first count e : ℕ) → IsLayout g → length s.primary ≡ size_of g Primary → first + count ≤ 3 * g.max_sectors
    → is_blank (bytes_at s Primary (entry_place g first) (count * g.unit)) ≡ true → first ≤ e → e < first + count → is_written g s e ≡ false
group_blank g s first count e ok sized below blank from to =
    let k : ℕ = e - first in
    let is : first + k ≡ e = omega (arith, from) in
    let inside = group_inside g first count ok (omega (arith, from, to)) below in
    let beyond = entry_beyond g first k ok (omega (arith, is, to, below)) in
    let row : (k + 1) * g.unit ≤ count * g.unit = mul-le-mul_right g.unit (omega (arith, is, to)) in
    let one : (k + 1) * g.unit ≡ k * g.unit + g.unit = omega arith in
    let fits : entry_place g first + count * g.unit ≤ length s.primary = omega (arith, inside, sized) in
    let here : is_blank (bytes_at s Primary (entry_place g (first + k)) g.unit) ≡ true =
    blank_range s.primary (entry_place g (first + k)) g.unit (omega (arith, beyond, row, one, fits)) (λ i short.
    ap (slice_index s.primary) (at_place (entry_place g (first + k)) (entry_place g first) (k * g.unit) i beyond)
    ∙ range_blank s.primary (entry_place g first) (count * g.unit) (k * g.unit + i) fits blank (omega (arith, short, row, one))) in
    ap (λ n. is_written g s n) (sym is) ∙ ap not here
  where
    at_place : (p q m i : ℕ) → p ≡ q + m → p + i ≡ q + (m + i)
    at_place p q m i e = omega (arith, e)

-- A written entry with none above it is the highest.
pub highest_at : (g : Geometry) (s : Content) (e : ℕ) → IsWritten g s e → ((d : ℕ) → e < d → d < 3 * g.max_sectors → is_written g s d ≡ false) → highest_entry g s ≡ Some e
highest_at g s e is above = greatest_at (is_written g s) (3 * g.max_sectors) e is.below is.written above

-- The computed entry is the highest.
pub highest_is : (g : Geometry) (s : Content) → IsHighest g s (highest_entry g s)
highest_is g s = go (highest_entry g s) refl
  where
    go : (o : Option ℕ) → highest_entry g s ≡ o → IsHighest g s o
    go None is = λ e there. let failing = greatest_none (is_written g s) (3 * g.max_sectors) is e there.below in let passing = there.written in absurd cc
    go (Some e) is =
        let found = greatest_some (is_written g s) (3 * g.max_sectors) e is in
        (record { below = found.0; written = found.1 }, λ d there. found.2 d there.below there.written)

-- A highest entry is the computed one.
pub highest_one : (g : Geometry) (s : Content) (o : Option ℕ) → IsHighest g s o → highest_entry g s ≡ o
highest_one g s it is = grind (arith, none_passes, not_written, highest_at)

-- An entry that begins with another byte than 0xff is written, and one of bytes 0xff is not.
pub written_entry : (g : Geometry) (s : Content) (e value : ℕ) → IsLayout g → IsSized g s → e < 3 * g.max_sectors → value ≢ 255 → byte s Primary (entry_place g e) ≡ value → IsWritten g s e
written_entry g s e value ok sized below other here = record {
  below = below;
  written = elim (cases_Bool (is_written g s e))
      [ inl is ↦ is | inr blank ↦ absurd (other (sym here ∙ first (not_blank (is_blank (bytes_at s Primary (entry_place g e) g.unit)) blank))) ];
}
  where
    not_blank : (b : Bool) → not b ≡ false → b ≡ true
    not_blank true is = refl
    not_blank false is = absurd cc

    first : is_blank (bytes_at s Primary (entry_place g e) g.unit) ≡ true → byte s Primary (entry_place g e) ≡ 255
    first blank =
        let unit = small_unit g ok in
        ap (byte s Primary) (sym (add-zero (entry_place g e)))
        ∙ range_blank s.primary (entry_place g e) g.unit 0 (omega (arith, entry_ends g e ok below, sized.primary)) blank (omega arith)

pub blank_entry : (g : Geometry) (s : Content) (e : ℕ) → IsLayout g → IsSized g s → e < 3 * g.max_sectors → ((i : ℕ) → i < g.unit → byte s Primary (entry_place g e + i) ≡ 255)
    → is_written g s e ≡ false
blank_entry g s e ok sized below each = ap not (blank_range s.primary (entry_place g e) g.unit (omega (arith, entry_ends g e ok below, sized.primary)) each)

-- A blank entry can be written.
pub entry_write : (g : Geometry) (s : Content) (e value : ℕ) → IsLayout g → IsSized g s → e < 3 * g.max_sectors → ((i : ℕ) → i < g.unit → byte s Primary (entry_place g e + i) ≡ 255)
    → (t : Content) × (apply g (ops.Program Primary (entry_place g e) (one_unit g value)) s ≡ Some t) × Changed s t Primary (entry_place g e) (one_unit g value)
entry_write g s e value ok sized below blank = grind (arith, one_unit_len, program_changes, entry_ends)

-- An entry that was written as 1 is written.
pub entry_is_written : (g : Geometry) (s t : Content) (e : ℕ) → IsLayout g → IsSized g t → e < 3 * g.max_sectors → Changed s t Primary (entry_place g e) (one_unit g 1) → IsWritten g t e
entry_is_written g s t e ok sized below ch = grind (arith, written_entry, add-zero)

-- An entry holds the same bytes in two contents; then it is written in both or in none.
abbrev pub SameEntry : Geometry → Content → Content → ℕ → Type 0
SameEntry g s t e = (i : ℕ) → i < g.unit → byte t Primary (entry_place g e + i) ≡ byte s Primary (entry_place g e + i)

pub same_entry : (g : Geometry) (s t : Content) (e : ℕ) → IsLayout g → IsSized g s → IsSized g t → e < 3 * g.max_sectors → SameEntry g s t e → is_written g t e ≡ is_written g s e
same_entry g s t e ok sized_s sized_t below same = ap (λ (xs : List ℕ). not (is_blank xs))
    (same_number_lists (bytes_at t Primary (entry_place g e) g.unit) (bytes_at s Primary (entry_place g e) g.unit) (long t sized_t ∙ sym (long s sized_s)) each)
  where
    long : (u : Content) → IsSized g u → length (bytes_at u Primary (entry_place g e) g.unit) ≡ g.unit
    long u sized = length-between u.primary (entry_place g e) (entry_place g e + g.unit) (omega (arith, entry_ends g e ok below, sized.primary)) ∙ omega arith

    each : (i : ℕ) → i < length (bytes_at t Primary (entry_place g e) g.unit) → slice_index (bytes_at t Primary (entry_place g e) g.unit) i ≡ slice_index (bytes_at s Primary (entry_place g e) g.unit)
        i
    each i short =
        let within : i < g.unit = omega (arith, short, long t sized_t) in
        get_or-between t.primary (entry_place g e) (entry_place g e + g.unit) i 0 (omega (arith, within))
        ∙ same i within
        ∙ sym (get_or-between s.primary (entry_place g e) (entry_place g e + g.unit) i 0 (omega (arith, within)))

-- A write that does not touch an entry keeps it: in the primary, at another entry, and in the secondary.
pub entry_kept : (g : Geometry) (s t : Content) (at : ℕ) (new : List ℕ) (e : ℕ) → Changed s t Primary at new → (at + length new ≤ entry_place g e) ⊎ (entry_place g e + g.unit ≤ at) → SameEntry g s t e
entry_kept g s t at new e ch it i within = grind arith

pub entry_kept_beside : (g : Geometry) (s t : Content) (d e value : ℕ) → IsLayout g → d < 3 * g.max_sectors → e < 3 * g.max_sectors → d ≢ e → Changed s t Primary (entry_place g d) (one_unit g value)
    → SameEntry g s t e
entry_kept_beside g s t d e value ok below_d below_e other ch = elim (cases_order d e) [
  | inl same ↦ absurd (other same)
  | inr (inl before) ↦ entry_kept g s t (entry_place g d) (one_unit g value) e ch (inl (omega (arith, one_unit_len g value ok, entries_apart g d e ok before below_e)))
  | inr (inr beyond) ↦ entry_kept g s t (entry_place g d) (one_unit g value) e ch (inr (entries_apart g e d ok beyond below_d))
]

-- Where the part of the trailer before the fields is the same, so is each entry.
pub entries_same : (g : Geometry) (s t : Content) → IsLayout g → ((i : ℕ) → size_of g Primary ≤ i + trailer_bytes g → i + 48 < size_of g Primary → byte t Primary i ≡ byte s Primary i) → (e : ℕ)
    → e < 3 * g.max_sectors → SameEntry g s t e
entries_same g s t ok same e below i within = same (entry_place g e + i) (omega (arith, entry_inside g e ok below)) (omega (arith, within, entry_ends g e ok below))

-- The highest entry where one is written and none above it; where none is written; and where the entries are the same.
pub highest_none : (g : Geometry) (s : Content) → ((d : ℕ) → d < 3 * g.max_sectors → is_written g s d ≡ false) → highest_entry g s ≡ None
highest_none g s free = none_passes (is_written g s) (3 * g.max_sectors) free

pub highest_after : WritesHighest
highest_after g s t e ok sized below above ch = grind (arith, changed_sized, highest_at, entry_is_written, same_entry, entry_kept_beside)
