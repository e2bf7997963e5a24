-- Which bytes the operations of a boot spare, and that the phases withstand each of its sections, torn anywhere.
use Rattle.std.proofs.{Common.{arith, inl, inr, subst, sym, ◌∙◌}, Math.Nat.{mod-add-div', mul-le-mul_right}, lemmas.List.Edits.{length-between}}
use Rattle.std.specs.List.{AllByRecursion, between, range_with_len}
use Rattle.std.specs.Prelude.{Bool, List, Some, [], false, if◌then◌else◌, length, map, replicate, slice_get, suc, true, zero, ℕ, ◌*◌, ◌++◌, ◌+◌, ◌-◌, ◌/◌, ◌<◌, ◌∷◌, ◌≡◌, ◌≤◌, ◌⊎◌}
use Rattle.mc_boot.proofs.{Keeps.{Erased, erase_inside, erased_still, place_beyond_data}, Meets.{which_slot}, Moving.{IsOutside, away_outside, data_same, unchanged}}
use Rattle.mc_boot.proofs.Phases.{Asked, MagicUnset, Swap, Under, asked, opened, tested, unasked}
use Rattle.mc_boot.proofs.SwapsKeep.{Made, NoMagic, erasing_keeps, opening_keeps, preparation_keeps, trailer_outside, unasked_from}
use Rattle.mc_boot.proofs.{Tears.{RestsOn, Spares, Stands, Way, cutting, how, same_some, spared, stands_more}, TornPhases.{AsksFor, Becomes, IsQuiet, Opened, Running, Trial}}
use Rattle.mc_boot.proofs.Transfers.{entries_kept, entries_none, fits_at}
use Rattle.mc_boot.specs.{Plan.{image_ok_write, is_test, marking, opening_writes, piece, preparation_writes, trailer_erase, trailer_erases, transfers, write}, Torn.{IsKept, Tearing, gently}}
use Rattle.mc_boot.specs.declared.transfer.Transfer.{Transfer}
use Rattle.mc_flash.specs.{Flash.{Content, IsSized, apply, byte, bytes_of, sectors_of, size_of}, Geometry.{Geometry, IsLayout, trailer_bytes, trailer_sectors}, declared.flash.Grain.{Grain}}
use Rattle.mc_flash.specs.{declared.op.Op.{Op}, declared.op.Op.TheVariants.{Copy, Erase, Program}, declared.op.Slot.{Slot}, declared.op.Slot.TheVariants.{Primary, Secondary}}
use Rattle.mc_flash.specs.facts.Changes.{Changed, changed_sized, erase_changes, program_changes, program_was_blank, sized_is}
use Rattle.mc_flash.specs.facts.Layouts.{data_before_trailer, data_end, trailer_sector_beyond_data}
use Rattle.mc_trailer.specs.{Trailer.{entry_place, magic_bytes, one_unit, place, room, size_bytes}, declared.places.Field.{Field}, declared.tables.Profile.{Profile}}
use Rattle.mc_trailer.specs.{declared.tables.SwapType.{SwapType}, facts.Fields.{FieldsAre, blank_byte, blank_fields, field_byte, fields_same, reads_absent}}
use Rattle.mc_trailer.specs.facts.Places.{entry_ends, entry_inside, field_ends, one_unit_fits, size_bytes_fit}
use Rattle.mc_trailer.specs.declared.places.Field.TheVariants as field
use Rattle.mc_flash.specs.declared.flash.Grain.TheVariants as grains

-- ---- what an operation changes, where it is applied

pub erase_is : (g : Geometry) (s t : Content) (slot : Slot) (sector : ℕ) → IsSized g s → sector * g.sector + g.sector ≤ size_of g slot → apply g (Erase slot sector) s ≡ Some t
    → Changed s t slot (sector * g.sector) (replicate g.sector 255)
erase_is g s t slot sector sized inside is =
    let does = erase_changes g s slot sector (omega (arith, inside, sized_is g s slot sized)) in
    rw (← same_some does.0 t (sym does.1 ∙ is)) does.2

pub program_is : (g : Geometry) (s t : Content) (slot : Slot) (at : ℕ) (new : List ℕ)
    → IsSized g s → at + length new ≤ size_of g slot → apply g (Program slot at new) s ≡ Some t → Changed s t slot at new
program_is g s t slot at new sized inside is =
    let fits : at + length new ≤ length (bytes_of s slot) = omega (arith, inside, sized_is g s slot sized) in
    let does = program_changes g s slot at new fits (program_was_blank g s t slot at new fits is) in
    rw (← same_some does.0 t (sym does.1 ∙ is)) does.2

-- ---- what the sections spare

-- all but what lies after the data sectors of a slot
abbrev pub BeforeTrailer : Geometry → Slot → Content → Slot → ℕ → Type 0
BeforeTrailer g slot s o i = o ≡ slot → i < data_end g slot

-- and bytes 0xff, too, where an erase only sets bits
abbrev pub OrBlank : Tearing → Geometry → Slot → Content → Slot → ℕ → Type 0
OrBlank f g slot s o i = BeforeTrailer g slot s o i ⊎ ((f ≡ gently) × (byte s o i ≡ 255))

-- what an operation keeps where it is torn
pub program_keeps : (f : Tearing) (g : Geometry) (slot : Slot) (at : ℕ) (new : List ℕ) (s t : Content) (o : Slot) (i : ℕ) → byte t o i ≡ byte s o i → IsKept f g (Program slot at new) s t o i
program_keeps it g slot at new s t o i same = grind arith

pub copy_keeps : (f : Tearing) (g : Geometry) (from : Slot) (at : ℕ) (to : Slot) (offset len : ℕ) (s t : Content) (o : Slot) (i : ℕ)
    → byte t o i ≡ byte s o i → IsKept f g (Copy from at to offset len) s t o i
copy_keeps it g from at to offset len s t o i same = grind arith

pub erase_keeps : (f : Tearing) (g : Geometry) (slot : Slot) (sector : ℕ) (s t : Content) (o : Slot) (i : ℕ) → byte t o i ≡ byte s o i
    → (f ≡ gently) ⊎ (o ≡ slot → (i < sector * g.sector) ⊎ (sector * g.sector + g.sector ≤ i)) → IsKept f g (Erase slot sector) s t o i
erase_keeps it g slot sector s t o i same either = grind arith

-- all but a transfer's target
abbrev pub BesideTarget : Geometry → Transfer → Content → Slot → ℕ → Type 0
BesideTarget g x s o i = IsOutside g x.to x.to_sector o i

all_append : (P : Op → Type 0) (xs ys : List Op) → AllByRecursion P xs → AllByRecursion P ys → AllByRecursion P (xs ++ ys)
all_append P [] ys first more = more
all_append P (x ∷ xs) ys first more = (first.0, all_append P xs ys first.1 more)

pub all_range : (P : Op → Type 0) (f : ℕ → Op) (a n : ℕ) → ((i : ℕ) → i < a + n → P (f i)) → AllByRecursion P (map f (range_with_len a n))
all_range P f a zero each = tt
all_range P f a (suc n) each = (each a (omega arith), all_range P f (a + 1) n (λ i h. each i (omega (arith, h))))

-- a write after the data sectors
spares_program : (f : Tearing) → (g : Geometry) (slot : Slot) (at : ℕ) (new : List ℕ)
    → data_end g slot ≤ at → at + length new ≤ size_of g slot → Spares f g (BeforeTrailer g slot) (Program slot at new)
spares_program f g slot at new beyond inside s t sized is =
    let ch = program_is g s t slot at new sized inside is in (
      changed_sized g s t slot at new ch sized,
      λ o i before.
          let same : byte t o i ≡ byte s o i = unchanged s t slot at new o i ch (λ same. inl (omega (arith, before same, beyond))) in
          (same, program_keeps f g slot at new s t o i same),
    )

-- an erase after them
spares_erase : (f : Tearing) → (g : Geometry) (slot : Slot) (i : ℕ) → IsLayout g → i < trailer_sectors g → Spares f g (OrBlank f g slot) (trailer_erase g slot i)
spares_erase f g slot i ok below s t sized is =
    let ch = erase_is g s t slot (sectors_of g slot - 1 - i) sized (erase_inside g slot i ok below) is in
    (changed_sized g s t slot _ _ ch sized, λ o p spared_is. by ch o p spared_is)
  where
    beyond : data_end g slot ≤ (sectors_of g slot - 1 - i) * g.sector
    beyond = trailer_sector_beyond_data g slot (sectors_of g slot - 1 - i) (omega (arith, below))

    by : Erased g slot i s t → (o : Slot) (p : ℕ) → OrBlank f g slot s o p → (byte t o p ≡ byte s o p) × IsKept f g (trailer_erase g slot i) s t o p
    by ch o p (inl before) =
        let same : byte t o p ≡ byte s o p = unchanged s t slot _ _ o p ch (λ same. inl (omega (arith, before same, beyond))) in
        (same, erase_keeps f g slot (sectors_of g slot - 1 - i) s t o p same (inr (λ here. inl (omega (arith, before here, beyond)))))
    by ch o p (inr (gentle, blank)) =
        let same : byte t o p ≡ byte s o p = elim (which_slot o slot) [
          | inl same ↦ rw same (erased_still_is ch p (rw same at blank))
          | inr other ↦ ch.other o p other
        ] in
        (same, erase_keeps f g slot (sectors_of g slot - 1 - i) s t o p same (inl gentle))
      where
        erased_still_is : Erased g slot i s t → (q : ℕ) → byte s slot q ≡ 255 → byte t slot q ≡ byte s slot q
        erased_still_is ch q was = erased_still g slot i s t q ch was ∙ sym was

wider : (f : Tearing) → (g : Geometry) (slot : Slot) (op : Op) → Spares f g (OrBlank f g slot) op → Spares f g (BeforeTrailer g slot) op
wider f g slot op spares s t sized is = let does = spares s t sized is in (does.0, λ o i before. does.1 o i (inl before))

pub spares_erases : (f : Tearing) → (g : Geometry) (slot : Slot) → IsLayout g → AllByRecursion (Spares f g (OrBlank f g slot)) (trailer_erases g slot)
spares_erases f g slot ok = all_range (Spares f g (OrBlank f g slot)) (trailer_erase g slot) 0 (trailer_sectors g) (λ i h. spares_erase f g slot i ok (omega (arith, h)))

pub spares_erases_before : (f : Tearing) → (g : Geometry) (slot : Slot) → IsLayout g → AllByRecursion (Spares f g (BeforeTrailer g slot)) (trailer_erases g slot)
spares_erases_before f g slot ok =
    all_range (Spares f g (BeforeTrailer g slot)) (trailer_erase g slot) 0 (trailer_sectors g) (λ i h. wider f g slot (trailer_erase g slot i) (spares_erase f g slot i ok (omega (arith, h))))

-- a field that is written
spares_write : (f : Tearing) → (c : Grain) (g : Geometry) (slot : Slot) (d : Field) (new : List ℕ)
    → IsLayout g → length new ≤ room d → AllByRecursion (Spares f g (BeforeTrailer g slot)) (write c g slot d new)
spares_write f grains.Call g slot d new ok short = (spares_program f g slot (place g slot d) new (place_beyond_data g slot d ok) (omega (arith, short, field_ends g slot d ok)), tt)
spares_write f grains.Unit g slot d new ok short =
    all_range (Spares f g (BeforeTrailer g slot)) (piece g slot (place g slot d) new) 0 (length new / g.unit)
    (λ j h.
    let row : (j + 1) * g.unit ≤ length new / g.unit * g.unit = mul-le-mul_right g.unit (omega (arith, h)) in
    let parts = mod-add-div' (length new) g.unit in
    let fits : j * g.unit + g.unit ≤ length new = omega (arith, row, parts) in
    let len = length-between new (j * g.unit) (j * g.unit + g.unit) fits in
    spares_program f g slot (place g slot d + j * g.unit) (between (j * g.unit) (j * g.unit + g.unit) new)
    (omega (arith, place_beyond_data g slot d ok)) (omega (arith, len, fits, short, field_ends g slot d ok)))

spares_marking : (f : Tearing) → (c : Grain) (g : Geometry) (slot : Slot) (size : ℕ) → IsLayout g → AllByRecursion (Spares f g (BeforeTrailer g slot)) (marking c g slot size)
spares_marking f c g slot size ok =
    all_append (Spares f g (BeforeTrailer g slot)) (write c g slot field.SwapSize (size_bytes g size)) (write c g slot field.Magic magic_bytes)
    (spares_write f c g slot field.SwapSize (size_bytes g size) ok (size_bytes_fit g size ok))
    (spares_write f c g slot field.Magic magic_bytes ok (omega arith))

spares_flag : (f : Tearing) → (g : Geometry) (slot : Slot) (d : Field) (m : ℕ) → IsLayout g → Spares f g (BeforeTrailer g slot) (Program slot (place g slot d) (one_unit g m))
spares_flag f g slot d m ok = (spares_write f grains.Call g slot d (one_unit g m) ok (one_unit_fits g m d ok)).0

pub spares_opening : (f : Tearing) → (c : Grain) (g : Geometry) (kind : SwapType) (size : ℕ) → IsLayout g → AllByRecursion (Spares f g (BeforeTrailer g Primary)) (opening_writes c g kind size)
spares_opening f c g kind size ok = (spares_flag f g Primary field.SwapInfo _ ok, by (is_test kind))
  where
    by : (e : Bool) → AllByRecursion (Spares f g (BeforeTrailer g Primary)) (if e then marking c g Primary size else image_ok_write g Primary ∷ marking c g Primary size)
    by true = spares_marking f c g Primary size ok
    by false = (spares_flag f g Primary field.ImageOk 1 ok, spares_marking f c g Primary size ok)

pub spares_preparation : (f : Tearing) → (c : Grain) (g : Geometry) (size : ℕ) → IsLayout g → AllByRecursion (Spares f g (BeforeTrailer g Secondary)) (preparation_writes c g size)
spares_preparation f c g size ok = (spares_flag f g Secondary field.ImageOk 1 ok, spares_marking f c g Secondary size ok)

-- ---- what the phases rest on

pub below_at : (g : Geometry) (slot o : Slot) (i : ℕ) → i < data_end g o → o ≡ slot → i < data_end g slot
below_at g slot o i below same = let F : Slot → Type 0 = λ x. i < data_end g x in subst F same below

module _ (g : Geometry) (start : Content) (size n : ℕ) (w : Swap g start size n) where
  rests_asked : (e : Bool) → RestsOn g (BeforeTrailer g Primary) (Asked g start n e)
  rests_asked e s v is sized same = record {
    secondary = fields_same g s v Secondary (asked e) w.ok (λ i _. same Secondary i (λ e. absurd cc)) is.secondary;
    data_ = data_same g n start 0 s v sized (λ o i below. same o i (below_at g Primary o i below)) is.data_;
  }

  rests_trial : RestsOn g (BeforeTrailer g Secondary) (Trial g start n)
  rests_trial s v is sized same = record {
    primary = fields_same g s v Primary tested w.ok (λ i _. same Primary i (λ e. absurd cc)) is.primary;
    data_ = data_same g n start 0 s v sized (λ o i below. same o i (below_at g Secondary o i below)) is.data_;
  }

  rests_opened : (f : Tearing) (b : Bool) → (b ≡ true → f ≡ gently) → (kind : SwapType) → RestsOn g (OrBlank f g Secondary) (Opened g start size n b kind)
  rests_opened f b gentle kind s v is sized same = let at_most = w.at_most in record {
    primary = fields_same g s v Primary (opened g kind size) w.ok (λ i _. same Primary i (inl (λ e. absurd cc))) is.primary;
    entries = entries_kept g n 0 s v w.ok (omega (arith, at_most)) (omega arith) (λ i _ _. same Primary i (inl (λ e. absurd cc))) is.entries;
    image_ok = λ test. same Secondary (place g Secondary field.ImageOk) (inr (gentle test, is.image_ok test)) ∙ is.image_ok test;
    data_ = data_same g n start 0 s v sized (λ o i below. same o i (inl (below_at g Secondary o i below))) is.data_;
  }

  pub rests_under : (kind : SwapType) (k : ℕ) (x : Transfer) → k ≤ 3 * n → slice_get (transfers g n) k ≡ Some x → RestsOn g (BesideTarget g x) (Under g start size n kind k)
  rests_under kind k x most at s v is sized same =
      let fits = fits_at g n k x w.ok w.at_most at in
      let at_most = w.at_most in
      let kept : (o : Slot) (i : ℕ) → size_of g o ≤ i + trailer_bytes g → byte v o i ≡ byte s o i =
      λ o i h. same o i (trailer_outside g n k x o i fits (omega (arith, h, data_before_trailer g o w.ok))) in
      record {
        primary = fields_same g s v Primary (opened g kind size) w.ok (λ i h. kept Primary i (omega (arith, h))) is.primary;
        entries = entries_kept g n k s v w.ok (omega (arith, at_most)) most (λ i h _. kept Primary i h) is.entries;
        secondary = fields_same g s v Secondary unasked w.ok (λ i h. kept Secondary i (omega (arith, h))) is.secondary;
        data_ = record {
          sized = sized;
          held = λ o i m below short away. same o (i * g.sector + m) (away_outside g x o i m (away x at) short) ∙ is.data_.held o i m below short away;
        };
      }

  pub rests_running : (b : Bool) (kind : SwapType) (k : ℕ) (x : Transfer) → k ≤ 3 * n → slice_get (transfers g n) k ≡ Some x → RestsOn g (BesideTarget g x) (Running g start size n b kind k)
  rests_running b kind k x most at s v is sized same =
      let fits = fits_at g n k x w.ok w.at_most at in
      record {
        under = rests_under kind k x most at s v is.under sized same;
        image_ok = λ first test.
            same Secondary (place g Secondary field.ImageOk)
            (trailer_outside g n k x Secondary (place g Secondary field.ImageOk) fits (omega (arith, place_beyond_data g Secondary field.ImageOk w.ok)))
            ∙ is.image_ok first test;
      }

-- ---- the sections before the transfers

module _ (way : Way) (g : Geometry) (start : Content) (size n : ℕ) (w : Swap g start size n) where
  -- the primary's trailer
  pub opening_stands : (c : Grain) (e : Bool) (kind : SwapType) (s : Content) → Asked g start n e s
      → Stands way g (Asked g start n e) (trailer_erases g Primary ++ opening_writes c g kind size) s (λ t. Asked g start n e t × Made g Primary (opened g kind size) t)
  opening_stands c e kind s is =
      stands_more way g _ (Asked g start n e) _ (λ t. Asked g start n e t × Made g Primary (opened g kind size) t) (trailer_erases g Primary ++ opening_writes c g kind size) s (λ u a. a.0) (λ u a. a)
      (spared way g (BeforeTrailer g Primary) (Asked g start n e) (λ t. (t ≡ s) ⊎ MagicUnset c g Primary t) (Made g Primary (opened g kind size))
      (trailer_erases g Primary ++ opening_writes c g kind size) s (rests_asked g start size n w e) (λ t k. k.data_.sized)
      (all_append (Spares (how way) g (BeforeTrailer g Primary)) (trailer_erases g Primary) (opening_writes c g kind size) (spares_erases_before (how way) g Primary w.ok)
      (spares_opening (how way) c g kind size w.ok))
      (opening_keeps c g size w.ok s is.data_.sized kind) is)

  -- what it leads to
  pub made_opened : (b e : Bool) (kind : SwapType) (s : Content) → Becomes way b e → Asked g start n e s → Made g Primary (opened g kind size) s → Opened g start size n b kind s
  made_opened b e kind s later is made = record {
    primary = made.fields;
    entries = entries_none g n s (λ d i below h. made.clear (entry_place g d + i) (omega (arith, entry_inside g d w.ok below, data_before_trailer g Primary w.ok))
        (omega (arith, h, entry_ends g d w.ok below)));
    image_ok = λ test. flag e (later (inl test) ∙ test) is.secondary;
    data_ = is.data_;
  }
    where
      flag : (c : Bool) → c ≡ true → FieldsAre g s Secondary (asked c) → byte s Secondary (place g Secondary field.ImageOk) ≡ 255
      flag true test are = field_byte g s Secondary field.ImageOk 255 [] (are field.ImageOk)
      flag false test are = absurd cc

  -- the secondary's trailer
  pub clearing_stands : (b : Bool) → (b ≡ true → how way ≡ gently) → (kind : SwapType) (s : Content) → Opened g start size n b kind s → (way ≡ cutting → AsksFor g b s)
      → Stands way g (λ t. Opened g start size n b kind t × (way ≡ cutting → AsksFor g b t)) (trailer_erases g Secondary) s (Running g start size n b kind 0)
  clearing_stands b gentle kind s is exact =
      stands_more way g _ (λ t. Opened g start size n b kind t × (way ≡ cutting → AsksFor g b t)) _ (Running g start size n b kind 0) (trailer_erases g Secondary) s
      (λ t k. (k.0, λ cut. by t k.0 (k.1 cut) (exact cut)))
      (λ t k. record {
        under = record {
          primary = k.0.primary;
          entries = k.0.entries;
          secondary = unasked_from g t Secondary (λ i h. blank_byte g t Secondary field.Magic i (k.1.fields field.Magic) h);
          data_ = k.0.data_;
        };
        image_ok = λ _ test. k.0.image_ok test;
      })
      (spared way g (OrBlank (how way) g Secondary) (Opened g start size n b kind) (λ t. (t ≡ s) ⊎ NoMagic g Secondary t) (Made g Secondary blank_fields) (trailer_erases g Secondary) s
      (rests_opened g start size n w (how way) b gentle kind) (λ t k. k.data_.sized) (spares_erases (how way) g Secondary w.ok) (erasing_keeps g Secondary s w.ok is.data_.sized) is)
    where
      by : (t : Content) → Opened g start size n b kind t → (t ≡ s) ⊎ NoMagic g Secondary t → AsksFor g b s → AsksFor g b t
      by t k either asks_ good = grind (arith, reads_absent g t Secondary w.ok k.data_.sized)

  -- the preparation of a revert
  pub preparing_stands : (c : Grain) (p : Profile) (s : Content) → Trial g start n s → (way ≡ cutting → IsQuiet c p g s)
      → Stands way g (λ t. Trial g start n t × (way ≡ cutting → IsQuiet c p g t)) (trailer_erases g Secondary ++ preparation_writes c g size) s (Asked g start n false)
  preparing_stands c p s is quiet =
      stands_more way g _ (λ t. Trial g start n t × (way ≡ cutting → IsQuiet c p g t)) _ (Asked g start n false) (trailer_erases g Secondary ++ preparation_writes c g size) s
      (λ t k. (k.0, λ cut. by t (k.1 cut) (quiet cut))) (λ t k. record { secondary = k.1; data_ = k.0.data_ })
      (spared way g (BeforeTrailer g Secondary) (Trial g start n) (λ t. (t ≡ s) ⊎ MagicUnset c g Secondary t) (λ t. FieldsAre g t Secondary (asked false))
      (trailer_erases g Secondary ++ preparation_writes c g size) s (rests_trial g start size n w) (λ t k. k.data_.sized)
      (all_append (Spares (how way) g (BeforeTrailer g Secondary)) (trailer_erases g Secondary) (preparation_writes c g size) (spares_erases_before (how way) g Secondary w.ok)
      (spares_preparation (how way) c g size w.ok))
      (preparation_keeps c g size w.ok s is.data_.sized) is)
    where
      by : (t : Content) → (t ≡ s) ⊎ MagicUnset c g Secondary t → IsQuiet c p g s → IsQuiet c p g t
      by t either quiet = grind arith
