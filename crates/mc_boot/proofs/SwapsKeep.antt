-- What a boot does to a trailer, and its last operation: that they can be applied, what they leave, and the magic meanwhile.
use Rattle.std.proofs.{Common.{ap, arith, inl, inr, subst, sym, zero-add, ◌∙◌}, Math.Nat.{mul-le-mul_right}, lemmas.Bool.{cases_lt}, lemmas.List.{length-take-le}}
use Rattle.std.specs.Prelude.{Bool, List, Some, [], false, if◌then◌else◌, length, refl, replicate, suc, take, true, zero, ℕ, ◌%◌, ◌*◌, ◌++◌, ◌+◌, ◌-◌, ◌<◌, ◌∷◌, ◌≡◌, ◌≢◌, ◌≤◌, ◌⊎◌}
use Rattle.mc_boot.proofs.Keeps.{Erased, Keeps, Part, erase_inside, erased_here, erased_still, field_in_last, field_write_keeps, keeps_append, keeps_more, keeps_range, place_beyond_data}
use Rattle.mc_boot.proofs.{Moving.{IsOutside, data_same, kept_below}, Phases.{Ended, IsSwapOf, MagicUnset, Swap, Under, asked, closed, opened, unasked}, Transfers.{Fits}}
use Rattle.mc_boot.specs.Plan.{copy_done_write, image_ok_write, info_write, is_test, marking, number_of, opening_writes, preparation_writes, trailer_erase, trailer_erases, write}
use Rattle.mc_boot.specs.declared.transfer.Transfer.{Transfer}
use Rattle.mc_flash.specs.{Flash.{Content, IsSized, apply, byte, sectors_of, size_of}, Geometry.{Geometry, IsLayout, trailer_sectors}, declared.flash.Grain.{Grain}, declared.op.Op.{Op}}
use Rattle.mc_flash.specs.{declared.op.Slot.{Slot}, declared.op.Slot.TheVariants.{Primary, Secondary}, facts.Changes.{Changed, changed_sized, erase_changes, sized_is}}
use Rattle.mc_flash.specs.facts.Layouts.{data_end, small_unit, trailer_leaves_one}
use Rattle.mc_trailer.specs.{Trailer.{magic_bytes, one_unit, place, room, size_bytes}, declared.places.Field.{Field}, declared.tables.SwapType.{SwapType}}
use Rattle.mc_trailer.specs.facts.Fields.{FieldIs, FieldsAre, blank_byte, blank_field, blank_fields, field_as, field_kept_beside, field_write, fields_as, fields_prefix, fields_same, same_field_is, set_field, write_field}
use Rattle.mc_trailer.specs.facts.Places.{field_ends, magic_range, most_before_end, one_unit_fits, one_unit_whole, place_inside, size_bytes_fit, size_bytes_whole}
use Rattle.mc_trailer.specs.declared.places.Field.TheVariants as field
use Rattle.mc_flash.specs.declared.flash.Grain.TheVariants as grains

-- ---- places

-- what stands after the data sectors of a slot is outside of a transfer's target
pub trailer_outside : (g : Geometry) (n k : ℕ) (x : Transfer) (o : Slot) (i : ℕ) → Fits g n k x → data_end g o ≤ i → IsOutside g x.to x.to_sector o i
trailer_outside g n k x o i fits beyond same = grind arith

-- a slot whose magic is 0xff
pub unasked_from : (g : Geometry) (s : Content) (slot : Slot) → ((i : ℕ) → i < 16 → byte s slot (place g slot field.Magic + i) ≡ 255) → FieldsAre g s slot unasked
unasked_from g s slot free f i h within = grind arith

-- ---- a trailer is made

abbrev pub NoMagic : Geometry → Slot → Content → Type 0
NoMagic g slot s = FieldIs g s slot field.Magic (replicate 16 255)

-- a magic that is 0xff is unset by either grain
pub magic_unset_blank : (c : Grain) (g : Geometry) (slot : Slot) (s : Content) → NoMagic g slot s → MagicUnset c g slot s
magic_unset_blank it g slot s free = grind arith

-- The fields of a trailer, before which it is 0xff.
pub record Made (g : Geometry) (slot : Slot) (v : Field → List ℕ) (s : Content) : Type 0 where
  pub sized : IsSized g s
  pub fields : FieldsAre g s slot v
  pub clear : (p : ℕ) → data_end g slot ≤ p → p + 48 < size_of g slot → byte s slot p ≡ 255

-- the erases: the trailer stands as it stood, or has no magic
module _ (g : Geometry) (slot : Slot) (s : Content) (ok : IsLayout g) where
  -- after the first i
  record Erasing (i : ℕ) (t : Content) : Type 0 where
    sized : IsSized g t
    begin : i ≡ 0 → t ≡ s
    blank : (p : ℕ) → (sectors_of g slot - i) * g.sector ≤ p → p < size_of g slot → byte t slot p ≡ 255

  begun : (i : ℕ) (t : Content) → Erasing i t → (t ≡ s) ⊎ NoMagic g slot t
  begun zero t k = inl (k.begin refl)
  begun (suc i) t k = inr (blank_field g t slot field.Magic (λ p h.
      let last = field_in_last g slot field.Magic p ok h in
      let rows : (sectors_of g slot - suc i) * g.sector ≤ (sectors_of g slot - 1 - 0) * g.sector = mul-le-mul_right g.sector (omega arith) in
      k.blank (place g slot field.Magic + p) (omega (arith, rows, last.0)) (omega (arith, h, field_ends g slot field.Magic ok))))

  erase_one : (i : ℕ) (t : Content) → i < trailer_sectors g → Erasing i t → (u : Content) × (apply g (trailer_erase g slot i) t ≡ Some u) × Erasing (i + 1) u
  erase_one i t below k =
      let does = erase_changes g t slot (sectors_of g slot - 1 - i) (omega (arith, erase_inside g slot i ok below, sized_is g t slot k.sized)) in
      (does.0, does.1, record { sized = changed_sized g t does.0 slot _ _ does.2 k.sized; begin = λ none. absurd (omega (arith, none)); blank = more does.0 does.2 k.blank })
    where
      next_sector : (sectors_of g slot - i) * g.sector ≡ (sectors_of g slot - 1 - i) * g.sector + g.sector
      next_sector =
          let up : sectors_of g slot - i ≡ sectors_of g slot - 1 - i + 1 = (let leaves = trailer_leaves_one g slot ok in omega (arith, below)) in
          ap (λ n. n * g.sector) up ∙ omega arith

      more : (u : Content) → Erased g slot i t u → ((p : ℕ) → (sectors_of g slot - i) * g.sector ≤ p → p < size_of g slot → byte t slot p ≡ 255) → (p : ℕ)
          → (sectors_of g slot - (i + 1)) * g.sector ≤ p → p < size_of g slot → byte u slot p ≡ 255
      more u ch was p from short = grind (arith, cases_lt, erased_here, next_sector, erased_still)

  pub erasing_keeps : IsSized g s → Keeps g (λ t. (t ≡ s) ⊎ NoMagic g slot t) (trailer_erases g slot) s (Made g slot blank_fields)
  erasing_keeps sized =
      keeps_more g (λ t. (t ≡ s) ⊎ NoMagic g slot t) (λ t. (t ≡ s) ⊎ NoMagic g slot t) (Erasing (trailer_sectors g)) (Made g slot blank_fields) (trailer_erases g slot) s (λ t k. k)
      (λ t k. record {
        sized = k.sized;
        fields = λ f. blank_field g t slot f (λ i within. k.blank (place g slot f + i) (omega (arith, place_beyond_data g slot f ok)) (omega (arith, within, field_ends g slot f ok)));
        clear = λ p from below. k.blank p from (omega (arith, below));
      })
      (rw (zero-add (trailer_sectors g)) at (keeps_range g (λ t. (t ≡ s) ⊎ NoMagic g slot t) Erasing (trailer_erase g slot) 0 (trailer_sectors g) s
      (λ i t h k. (begun i t k, erase_one i t (omega (arith, h)) k)) (record { sized = sized; begin = λ _. refl; blank = none })))
    where
      none : (p : ℕ) → (sectors_of g slot - 0) * g.sector ≤ p → p < size_of g slot → byte s slot p ≡ 255
      none p from below =
          let whole : (sectors_of g slot - 0) * g.sector ≡ sectors_of g slot * g.sector = ap (λ n. n * g.sector) (omega arith) in
          absurd (omega (arith, whole, from, below))

abbrev pub marked_by : Geometry → ℕ → (Field → List ℕ) → Field → List ℕ
marked_by g size v = set_field (set_field v field.SwapSize (size_bytes g size)) field.Magic magic_bytes

-- the writes: the magic is unset, up to its last unit
module _ (c : Grain) (g : Geometry) (slot : Slot) (size : ℕ) (ok : IsLayout g) where
  no_magic : (v : Field → List ℕ) (s : Content) → Made g slot v s → v field.Magic ≡ replicate 16 255 → NoMagic g slot s
  no_magic v s is free = field_as g s slot field.Magic (v field.Magic) (replicate 16 255) free (is.fields field.Magic)

  written : (v : Field → List ℕ) (f : Field) (new : List ℕ) (s t : Content) → Made g slot v s → length new ≤ room f → Changed s t slot (place g slot f) new → Made g slot (set_field v f new) t
  written v f new s t is short ch = record {
    sized = changed_sized g s t slot (place g slot f) new ch is.sized;
    fields = write_field g s t slot v f new ok short is.fields ch;
    clear = λ p from below. ch.before p (omega (arith, below, place_inside g slot f ok, most_before_end f)) ∙ is.clear p from below;
  }

  -- a field before the magic, by either grain
  field_keeps : (d : Grain) (v : Field → List ℕ) (f : Field) (new : List ℕ) (s : Content) → Made g slot v s
      → v field.Magic ≡ replicate 16 255 → f ≢ field.Magic → v f ≡ replicate (room f) 255 → length new ≤ room f → length new % g.unit ≡ 0
      → Keeps g (MagicUnset c g slot) (write d g slot f new) s (Made g slot (set_field v f new))
  field_keeps d v f new s is magic other free short whole =
      keeps_more g (MagicUnset c g slot) (MagicUnset c g slot) (λ t. Changed s t slot (place g slot f) new) (Made g slot (set_field v f new)) (write d g slot f new) s
      (λ t k. k) (λ t ch. written v f new s t is short ch)
      (field_write_keeps g (MagicUnset c g slot) s d slot f new ok is.sized (field_as g s slot f (v f) (replicate (room f) 255) free (is.fields f)) short whole
      (magic_unset_blank c g slot s (no_magic v s is magic))
      (λ k t fine h part. magic_unset_blank c g slot t (same_field_is g s t slot field.Magic (replicate 16 255)
      (field_kept_beside g s t slot f field.Magic (take k new) ok part (omega (arith, h, short, length-take-le k new (omega (arith, h)))) other) (no_magic v s is magic))))

  flag_keeps : (v : Field → List ℕ) (f : Field) (m : ℕ) (s : Content) → Made g slot v s → v field.Magic ≡ replicate 16 255 → f ≢ field.Magic → v f ≡ replicate (room f) 255
      → Keeps g (MagicUnset c g slot) (write grains.Call g slot f (one_unit g m)) s (Made g slot (set_field v f (one_unit g m)))
  flag_keeps v f m s is magic other free = field_keeps grains.Call v f (one_unit g m) s is magic other free (one_unit_fits g m f ok) (one_unit_whole g m ok)

  magic_keeps : (v : Field → List ℕ) (s : Content) → Made g slot v s → v field.Magic ≡ replicate 16 255
      → Keeps g (MagicUnset c g slot) (write c g slot field.Magic magic_bytes) s (Made g slot (set_field v field.Magic magic_bytes))
  magic_keeps v s is free =
      keeps_more g (MagicUnset c g slot) (MagicUnset c g slot) (λ t. Changed s t slot (place g slot field.Magic) magic_bytes) (Made g slot (set_field v field.Magic magic_bytes))
      (write c g slot field.Magic magic_bytes) s (λ t k. k) (λ t ch. written v field.Magic magic_bytes s t is (omega arith) ch)
      (field_write_keeps g (MagicUnset c g slot) s c slot field.Magic magic_bytes ok is.sized (no_magic v s is free) (omega arith) (magic_range g slot ok).units
      (magic_unset_blank c g slot s (no_magic v s is free))
      (λ k t fine h part. let E : Grain → Type 0 = λ e. MagicUnset e g slot t in subst E (sym fine) (still k t h part)))
    where
      still : (k : ℕ) (t : Content) → k + g.unit ≤ 16 → Part s slot (place g slot field.Magic) magic_bytes k t → byte t slot (place g slot field.Magic + 15) ≡ 255
      still k t h part =
          let unit = small_unit g ok in
          part.beyond (place g slot field.Magic + 15) (omega (arith, h, unit, length-take-le k magic_bytes (omega (arith, h))))
          ∙ blank_byte g s slot field.Magic 15 (no_magic v s is free) (omega arith)

  marking_keeps : (v : Field → List ℕ) (s : Content) → Made g slot v s → v field.SwapSize ≡ replicate 8 255 → v field.Magic ≡ replicate 16 255
      → Keeps g (MagicUnset c g slot) (marking c g slot size) s (Made g slot (marked_by g size v))
  marking_keeps v s is free_size free_magic =
      keeps_append g (MagicUnset c g slot) (Made g slot (set_field v field.SwapSize (size_bytes g size))) (Made g slot (marked_by g size v))
      (write c g slot field.SwapSize (size_bytes g size)) (write c g slot field.Magic magic_bytes) s
      (field_keeps c v field.SwapSize (size_bytes g size) s is free_magic (λ e. cc) free_size (size_bytes_fit g size ok) (size_bytes_whole g size ok))
      (λ t k. magic_keeps (set_field v field.SwapSize (size_bytes g size)) t k free_magic)

  -- the erases before them
  making_keeps : (s : Content) (ops : List Op) (Q : Content → Type 0) → IsSized g s → ((t : Content) → Made g slot blank_fields t → Keeps g (MagicUnset c g slot) ops t Q)
      → Keeps g (λ t. (t ≡ s) ⊎ MagicUnset c g slot t) (trailer_erases g slot ++ ops) s Q
  making_keeps s ops Q sized writes =
      keeps_append g (λ t. (t ≡ s) ⊎ MagicUnset c g slot t) (Made g slot blank_fields) Q (trailer_erases g slot) ops s
      (keeps_more g (λ t. (t ≡ s) ⊎ NoMagic g slot t) (λ t. (t ≡ s) ⊎ MagicUnset c g slot t) (Made g slot blank_fields) (Made g slot blank_fields) (trailer_erases g slot) s
      (λ t k. elim k [ inl same ↦ inl same | inr blank ↦ inr (magic_unset_blank c g slot t blank) ]) (λ t k. k) (erasing_keeps g slot s ok sized))
      (λ t k. keeps_more g (MagicUnset c g slot) (λ t. (t ≡ s) ⊎ MagicUnset c g slot t) Q Q ops t (λ u k. inr k) (λ u k. k) (writes t k))

module _ (c : Grain) (g : Geometry) (size : ℕ) (ok : IsLayout g) (s : Content) (sized : IsSized g s) where
  -- the primary's trailer at the start of a swap
  pub opening_keeps : (kind : SwapType) → Keeps g (λ t. (t ≡ s) ⊎ MagicUnset c g Primary t) (trailer_erases g Primary ++ opening_writes c g kind size) s (Made g Primary (opened g kind size))
  opening_keeps kind =
      making_keeps c g Primary size ok s (opening_writes c g kind size) (Made g Primary (opened g kind size)) sized
      (λ t k. keeps_append g (MagicUnset c g Primary) (Made g Primary info) (Made g Primary (opened g kind size)) (info_write g kind ∷ []) _ t
      (flag_keeps c g Primary size ok blank_fields field.SwapInfo (number_of kind) t k refl (λ e. cc) refl) (λ u k. by (is_test kind) refl u k))
    where
      info : Field → List ℕ
      info = set_field blank_fields field.SwapInfo (one_unit g (number_of kind))

      same : (v : Field → List ℕ) (t : Content) → ((f : Field) → marked_by g size v f ≡ opened g kind size f)
          → Keeps g (MagicUnset c g Primary) (marking c g Primary size) t (Made g Primary (marked_by g size v))
          → Keeps g (MagicUnset c g Primary) (marking c g Primary size) t (Made g Primary (opened g kind size))
      same v t are k =
          keeps_more g (MagicUnset c g Primary) (MagicUnset c g Primary) (Made g Primary (marked_by g size v)) (Made g Primary (opened g kind size)) (marking c g Primary size) t (λ u k. k)
          (λ u k. record { sized = k.sized; fields = fields_as g u Primary (marked_by g size v) (opened g kind size) are k.fields; clear = k.clear }) k

      image_ok : (e : Bool) → is_test kind ≡ e → (if e then blank_fields field.ImageOk else one_unit g 1) ≡ opened g kind size field.ImageOk
      image_ok e is = ap (λ (d : Bool). if d then blank_fields field.ImageOk else one_unit g 1) (sym is)

      for_test : is_test kind ≡ true → (f : Field) → marked_by g size info f ≡ opened g kind size f
      for_test is field.ImageOk = image_ok true is
      for_test is f = refl

      stays : is_test kind ≡ false → (f : Field) → marked_by g size (set_field info field.ImageOk (one_unit g 1)) f ≡ opened g kind size f
      stays is field.ImageOk = image_ok false is
      stays is f = refl

      by : (e : Bool) → is_test kind ≡ e → (t : Content) → Made g Primary info t
          → Keeps g (MagicUnset c g Primary) (if e then marking c g Primary size else image_ok_write g Primary ∷ marking c g Primary size) t (Made g Primary (opened g kind size))
      by true is t k = same info t (for_test is) (marking_keeps c g Primary size ok info t k refl refl)
      by false is t k =
          keeps_append g (MagicUnset c g Primary) (Made g Primary (set_field info field.ImageOk (one_unit g 1))) (Made g Primary (opened g kind size)) (image_ok_write g Primary ∷ [])
          (marking c g Primary size) t
          (flag_keeps c g Primary size ok info field.ImageOk 1 t k refl (λ e. cc) refl)
          (λ u k. same (set_field info field.ImageOk (one_unit g 1)) u (stays is) (marking_keeps c g Primary size ok (set_field info field.ImageOk (one_unit g 1)) u k refl refl))

  -- the secondary's before a revert
  abbrev confirmed : Field → List ℕ
  confirmed = set_field blank_fields field.ImageOk (one_unit g 1)

  pub preparation_keeps : Keeps g (λ t. (t ≡ s) ⊎ MagicUnset c g Secondary t) (trailer_erases g Secondary ++ preparation_writes c g size) s (λ t. FieldsAre g t Secondary (asked false))
  preparation_keeps =
      making_keeps c g Secondary size ok s (preparation_writes c g size) (λ t. FieldsAre g t Secondary (asked false)) sized
      (λ t k. keeps_append g (MagicUnset c g Secondary) (Made g Secondary confirmed) (λ t. FieldsAre g t Secondary (asked false)) (image_ok_write g Secondary ∷ []) (marking c g Secondary size) t
      (flag_keeps c g Secondary size ok blank_fields field.ImageOk 1 t k refl (λ e. cc) refl)
      (λ u k. keeps_more g (MagicUnset c g Secondary) (MagicUnset c g Secondary) (Made g Secondary (marked_by g size confirmed)) (λ t. FieldsAre g t Secondary (asked false))
      (marking c g Secondary size) u (λ x k. k) (λ x k. fields_prefix g x Secondary (marked_by g size confirmed) (asked false) less k.fields)
      (marking_keeps c g Secondary size ok confirmed u k refl refl)))
    where
      less : (f : Field) → (rest : List ℕ) × (marked_by g size confirmed f ≡ asked false f ++ rest)
      less field.Magic = ([], refl)
      less field.ImageOk = (replicate (g.unit - 1) 255, refl)
      less f = (_, refl)

-- copy-done
module _ (g : Geometry) (start : Content) (size n : ℕ) (w : Swap g start size n) (b : Bool) (kind : SwapType) (of : IsSwapOf b kind) where
  pub closes : (s : Content) → Under g start size n kind (3 * n) s → (t : Content) × (apply g (copy_done_write g) s ≡ Some t) × Ended g start size n b t
  closes s is =
      let does = field_write g s Primary field.CopyDone (one_unit g 1) w.ok is.data_.sized (is.primary field.CopyDone) (one_unit_fits g 1 field.CopyDone w.ok) in (
        does.0,
        does.1,
        (
          kind,
          of,
          record {
            primary = fields_as g does.0 Primary _ (closed g kind size) same (write_field g s does.0 Primary (opened g kind size) field.CopyDone (one_unit g 1) w.ok
                (one_unit_fits g 1 field.CopyDone w.ok) is.primary does.2);
            secondary = fields_same g s does.0 Secondary unasked w.ok (λ i h. does.2.other Secondary i (λ e. cc)) is.secondary;
            data_ = data_same g n start (3 * n) s does.0 (changed_sized g s does.0 Primary _ _ does.2 is.data_.sized)
                (kept_below g s does.0 Primary (place g Primary field.CopyDone) (one_unit g 1) does.2 (place_beyond_data g Primary field.CopyDone w.ok)) is.data_;
          },
        ),
      )
    where
      same : (f : Field) → set_field (opened g kind size) field.CopyDone (one_unit g 1) f ≡ closed g kind size f
      same field.CopyDone = refl
      same f = refl
