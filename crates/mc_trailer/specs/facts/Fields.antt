-- What follows for the fields of a trailer. Proved here, so that the crates above can cite it.
use Rattle.std.specs.Prelude.{◌≡◌, ◌≢◌, ◌⊎◌, ℕ, ◌+◌, ◌-◌, ◌^◌, ◌<◌, ◌≤◌, ◌==◌, Bool, true, false, if◌then◌else◌, List, [], ◌∷◌, ◌++◌, length, replicate, slice_index, bytes_eq, Some, refl}
use Rattle.std.proofs.{Common.{arith, sym, ap, subst, ◌∙◌, inl, inr, eq-eqb, length-append, add-zero}, lemmas.Bool.{ne_eqb}, lemmas.Grind.{same_number_lists}}
use Rattle.std.proofs.{lemmas.List.{get_or_append_left, get_or-replicate, length-replicate}, lemmas.Slice.Eq.{bytes_eq-Decides}}
use Rattle.std.proofs.lemmas.List.Edits.{get_or-between, length-between}
use Rattle.byteorder.specs.{Endian.{little_bytes, little_number}, Numbers.{little_number-reads_back}}
use Rattle.mc_flash.specs.{Geometry.{Geometry, IsLayout}, Flash.{Content, IsSized, bytes_of, byte, size_of, apply, is_blank}}
use Rattle.mc_flash.specs.facts.Changes.{Changed, changed_sized, sized_is, program_changes}
use Rattle.mc_flash.specs.declared.op.Op.TheVariants as ops
use Rattle.mc_flash.specs.declared.op.Slot.{Slot}
use Rattle.mc_trailer.specs.Trailer.{place, before_end, magic_bytes, room, magic_of, flag_of, bytes_at, trailer_of, one_unit, size_bytes}
use Rattle.mc_trailer.specs.{facts.Places.{place_inside, field_ends, fields_apart, room_is, most_before_end, same_or_apart}, Tables.{is_good}}
use Rattle.mc_trailer.specs.declared.places.Field.{Field}
use Rattle.mc_trailer.specs.declared.places.Field.TheVariants as field
use Rattle.mc_trailer.specs.declared.trailer.Magic.{Magic}
use Rattle.mc_trailer.specs.declared.trailer.Magic.TheVariants as magics
use Rattle.mc_trailer.specs.{declared.trailer.Flag.{Flag}, declared.trailer.Trailer.{Trailer}, Laws.{SameReading, ReadsBack, WritesKeep}}

-- A field begins with these bytes, as far as its room goes.
abbrev pub FieldIs : Geometry → Content → Slot → Field → List ℕ → Type 0
FieldIs g s slot f xs = (i : ℕ) → i < length xs → i < room f → byte s slot (place g slot f + i) ≡ slice_index xs i

-- The fields begin with these bytes. Of a field for which no bytes are given nothing is said.
abbrev pub FieldsAre : Geometry → Content → Slot → (Field → List ℕ) → Type 0
FieldsAre g s slot v = (f : Field) → FieldIs g s slot f (v f)

-- A field holds the same bytes in two contents.
abbrev pub SameField : Geometry → Content → Content → Slot → Field → Type 0
SameField g s t slot f = (i : ℕ) → i < room f → byte t slot (place g slot f + i) ≡ byte s slot (place g slot f + i)

-- What was written at a field stands there.
pub written_field : (g : Geometry) (s t : Content) (slot : Slot) (f : Field) (new : List ℕ) → Changed s t slot (place g slot f) new → FieldIs g t slot f new
written_field g s t slot f new ch i short within = ch.inside i short

-- A field of bytes 0xff.
pub blank_field : (g : Geometry) (s : Content) (slot : Slot) (f : Field) → ((i : ℕ) → i < room f → byte s slot (place g slot f + i) ≡ 255) → FieldIs g s slot f (replicate (room f) 255)
blank_field g s slot f each i short within = each i within ∙ sym (get_or-replicate (room f) i 255 0 within)

pub blank_byte : (g : Geometry) (s : Content) (slot : Slot) (f : Field) (i : ℕ) → FieldIs g s slot f (replicate (room f) 255) → i < room f → byte s slot (place g slot f + i) ≡ 255
blank_byte g s slot f i is within = is i (omega (arith, within, length-replicate {A = ℕ} (room f) 255)) within ∙ get_or-replicate (room f) i 255 0 within

-- A field's bytes said by an equal list, and by the prefix of a longer one.
pub field_as : (g : Geometry) (s : Content) (slot : Slot) (f : Field) (xs ys : List ℕ) → xs ≡ ys → FieldIs g s slot f xs → FieldIs g s slot f ys
field_as g s slot f xs ys same is = let P : List ℕ → Type 0 = λ l. FieldIs g s slot f l in subst P same is

pub field_prefix : (g : Geometry) (s : Content) (slot : Slot) (f : Field) (xs rest : List ℕ) → FieldIs g s slot f (xs ++ rest) → FieldIs g s slot f xs
field_prefix g s slot f xs rest is i short within = is i (omega (arith, short, length-append xs rest)) within ∙ get_or_append_left xs rest 0 i short

-- A write that does not touch a field keeps it: in the same slot, in the other, and at another field.
pub field_kept : (g : Geometry) (s t : Content) (slot : Slot) (at : ℕ) (new : List ℕ) (f : Field) → Changed s t slot at new → (at + length new ≤ place g slot f) ⊎ (place g slot f + room f ≤ at)
    → SameField g s t slot f
field_kept g s t slot at new f ch it i within = grind arith

pub field_kept_elsewhere : (g : Geometry) (s t : Content) (slot o : Slot) (at : ℕ) (new : List ℕ) (f : Field) → Changed s t slot at new → o ≢ slot → SameField g s t o f
field_kept_elsewhere g s t slot o at new f ch other i within = ch.other o (place g o f + i) other

pub field_kept_beside : (g : Geometry) (s t : Content) (slot : Slot) (e f : Field) (new : List ℕ) → IsLayout g → Changed s t slot (place g slot e) new → length new ≤ room e → e ≢ f
    → SameField g s t slot f
field_kept_beside g s t slot e f new ok ch short other = elim (fields_apart g slot e f ok other) [
  | inl before ↦ field_kept g s t slot (place g slot e) new f ch (inl (omega (arith, before, short)))
  | inr beyond ↦ field_kept g s t slot (place g slot e) new f ch (inr beyond)
]

-- The same field begins with the same bytes.
pub same_field_is : (g : Geometry) (s t : Content) (slot : Slot) (f : Field) (xs : List ℕ) → SameField g s t slot f → FieldIs g s slot f xs → FieldIs g t slot f xs
same_field_is g s t slot f xs same is i short within = same i within ∙ is i short within

-- Where the last 48 bytes are the same, so is each field.
pub field_same : (g : Geometry) (s t : Content) (slot : Slot) (f : Field) → IsLayout g → ((i : ℕ) → size_of g slot ≤ i + 48 → byte t slot i ≡ byte s slot i) → SameField g s t slot f
field_same g s t slot f ok same i within = same (place g slot f + i) (omega (arith, place_inside g slot f ok, most_before_end f))

pub fields_same : (g : Geometry) (s t : Content) (slot : Slot) (v : Field → List ℕ) → IsLayout g → ((i : ℕ) → size_of g slot ≤ i + 48 → byte t slot i ≡ byte s slot i) → FieldsAre g s slot v
    → FieldsAre g t slot v
fields_same g s t slot v ok same are f = same_field_is g s t slot f (v f) (field_same g s t slot f ok same) (are f)

pub fields_as : (g : Geometry) (s : Content) (slot : Slot) (v w : Field → List ℕ) → ((f : Field) → v f ≡ w f) → FieldsAre g s slot v → FieldsAre g s slot w
fields_as g s slot v w same are f = field_as g s slot f (v f) (w f) (same f) (are f)

pub fields_prefix : (g : Geometry) (s : Content) (slot : Slot) (v w : Field → List ℕ) → ((f : Field) → (rest : List ℕ) × (v f ≡ w f ++ rest)) → FieldsAre g s slot v → FieldsAre g s slot w
fields_prefix g s slot v w more are f =
    field_prefix g s slot f (w f) (more f).0 (field_as g s slot f (v f) (w f ++ (more f).0) (more f).1 (are f))

-- The same but for one field.
abbrev pub set_field : (Field → List ℕ) → Field → List ℕ → Field → List ℕ
set_field v f new e = if before_end e == before_end f then new else v e

pub set_same : (v : Field → List ℕ) (f : Field) (new : List ℕ) → set_field v f new f ≡ new
set_same v f new = rw (eq-eqb (before_end f) (before_end f) refl) refl

pub set_other : (v : Field → List ℕ) (e f : Field) (new : List ℕ) → e ≢ f → set_field v f new e ≡ v e
set_other v e f new other = rw (ne_eqb (before_end e) (before_end f) differ) refl
  where
    differ : before_end e ≡ before_end f → ⊥
    differ same = elim (same_or_apart e f) [
      | inl is ↦ other is
      | inr (inl beyond) ↦ omega (arith, same, beyond, room_is e)
      | inr (inr prefix) ↦ omega (arith, same, prefix, room_is f)
    ]

-- A write of a field sets it, and keeps the others.
pub write_field : (g : Geometry) (s t : Content) (slot : Slot) (v : Field → List ℕ) (f : Field) (new : List ℕ) → IsLayout g → length new ≤ room f → FieldsAre g s slot v
    → Changed s t slot (place g slot f) new → FieldsAre g t slot (set_field v f new)
write_field g s t slot v f new ok short are ch e = elim (same_or_apart e f) [
  | inl same ↦
      let P : Field → Type 0 = λ x. FieldIs g t slot x (set_field v f new x) in
      subst P (sym same) (field_as g t slot f new (set_field v f new f) (sym (set_same v f new)) (written_field g s t slot f new ch))
  | inr apart ↦
      let other : e ≢ f = λ same. elim apart [ inl beyond ↦ omega (arith, beyond, ap before_end same, room_is e) | inr prefix ↦ omega (arith, prefix, ap before_end same, room_is f) ] in
      field_as g t slot e (v e) (set_field v f new e) (sym (set_other v e f new other))
      (same_field_is g s t slot e (v e) (field_kept_beside g s t slot f e new ok ch short (λ same. other (sym same))) (are e))
]

-- A blank field can be written.
pub field_write : (g : Geometry) (s : Content) (slot : Slot) (f : Field) (new : List ℕ) → IsLayout g → IsSized g s → FieldIs g s slot f (replicate (room f) 255) → length new ≤ room f
    → (t : Content) × (apply g (ops.Program slot (place g slot f) new) s ≡ Some t) × Changed s t slot (place g slot f) new
field_write g s slot f new ok sized blank short = grind (arith, program_changes, field_ends, sized_is, blank_byte)

-- The bytes that are read of a field, and its first.
pub field_bytes : (g : Geometry) (s : Content) (slot : Slot) (f : Field) (n : ℕ) (xs : List ℕ) → IsLayout g → IsSized g s → length xs ≡ n → n ≤ room f → FieldIs g s slot f xs
    → bytes_at s slot (place g slot f) n ≡ xs
field_bytes g s slot f n xs ok sized len within is = grind (arith, field_ends, sized_is, length-between, same_number_lists, get_or-between)

pub field_byte : (g : Geometry) (s : Content) (slot : Slot) (f : Field) (value : ℕ) (rest : List ℕ) → FieldIs g s slot f (value ∷ rest) → byte s slot (place g slot f) ≡ value
field_byte g s slot f value rest is = ap (byte s slot) (sym (add-zero (place g slot f))) ∙ is 0 (omega arith) (omega (arith, room_is f))

-- What is read of each field.
pub reads_magic : (g : Geometry) (s : Content) (slot : Slot) (xs : List ℕ) → IsLayout g → IsSized g s → length xs ≡ 16 → FieldIs g s slot field.Magic xs → (trailer_of g s slot).magic ≡ magic_of xs
unfolding trailer_of
reads_magic g s slot xs ok sized len is = ap magic_of (field_bytes g s slot field.Magic 16 xs ok sized len (omega arith) is)

pub reads_good : (g : Geometry) (s : Content) (slot : Slot) → IsLayout g → IsSized g s → FieldIs g s slot field.Magic magic_bytes → (trailer_of g s slot).magic ≡ magics.Good
reads_good g s slot ok sized is = reads_magic g s slot magic_bytes ok sized refl is

pub reads_absent : (g : Geometry) (s : Content) (slot : Slot) → IsLayout g → IsSized g s → FieldIs g s slot field.Magic (replicate 16 255) → (trailer_of g s slot).magic ≡ magics.Unset
reads_absent g s slot ok sized is = reads_magic g s slot (replicate 16 255) ok sized refl is

-- A magic whose last byte is 0xff is not good: one that was written upward and not to its end.
pub reads_not_good : (g : Geometry) (s : Content) (slot : Slot) → byte s slot (place g slot field.Magic + 15) ≡ 255 → is_good (trailer_of g s slot).magic ≡ false
unfolding trailer_of
reads_not_good g s slot last =
    not_good (bytes_at s slot (place g slot field.Magic) 16)
    (get_or-between (bytes_of s slot) (place g slot field.Magic) (place g slot field.Magic + 16) 15 0 (omega arith) ∙ last)
  where
    differs : (xs : List ℕ) → slice_index xs 15 ≡ 255 → bytes_eq xs magic_bytes ≡ true → ⊥
    differs xs is same =
        let equal : xs ≡ magic_bytes = (bytes_eq-Decides xs magic_bytes).0 same in
        let both : 255 ≡ 128 = sym is ∙ ap (λ (l : List ℕ). slice_index l 15) equal in
        omega (arith, both)

    not_blank_or_good : (d : Bool) → is_good (if d then magics.Unset else magics.Bad) ≡ false
    not_blank_or_good true = refl
    not_blank_or_good false = refl

    not_good : (xs : List ℕ) → slice_index xs 15 ≡ 255 → is_good (magic_of xs) ≡ false
    not_good xs is = go (bytes_eq xs magic_bytes) refl
      where
        go : (c : Bool) → bytes_eq xs magic_bytes ≡ c → is_good (magic_of xs) ≡ false
        go true same = absurd (differs xs is same)
        go false other = rw other (not_blank_or_good (is_blank xs))

pub reads_image_ok : (g : Geometry) (s : Content) (slot : Slot) (value : ℕ) (rest : List ℕ) → FieldIs g s slot field.ImageOk (value ∷ rest) → (trailer_of g s slot).image_ok ≡ flag_of value
unfolding trailer_of
reads_image_ok g s slot value rest is = ap flag_of (field_byte g s slot field.ImageOk value rest is)

pub reads_copy_done : (g : Geometry) (s : Content) (slot : Slot) (value : ℕ) (rest : List ℕ) → FieldIs g s slot field.CopyDone (value ∷ rest) → (trailer_of g s slot).copy_done ≡ flag_of value
unfolding trailer_of
reads_copy_done g s slot value rest is = ap flag_of (field_byte g s slot field.CopyDone value rest is)

pub reads_info : (g : Geometry) (s : Content) (slot : Slot) (value : ℕ) (rest : List ℕ) → FieldIs g s slot field.SwapInfo (value ∷ rest) → (trailer_of g s slot).swap_info ≡ value
unfolding trailer_of
reads_info g s slot value rest is = field_byte g s slot field.SwapInfo value rest is

pub reads_size : (g : Geometry) (s : Content) (slot : Slot) (size : ℕ) (rest : List ℕ) → IsLayout g → IsSized g s → size < 256 ^ 4 → FieldIs g s slot field.SwapSize (little_bytes 4 size ++ rest)
    → (trailer_of g s slot).swap_size ≡ size
unfolding trailer_of
reads_size g s slot size rest ok sized small is =
    ap (little_number 4) (field_bytes g s slot field.SwapSize 4 (little_bytes 4 size) ok sized refl (omega arith) (field_prefix g s slot field.SwapSize (little_bytes 4 size) rest is))
    ∙ little_number-reads_back 4 size [] small

-- Trailers of the same fields are the same.
abbrev made : Magic → Flag → Flag → ℕ → ℕ → Trailer
made magic image_ok copy_done info size = record { magic = magic; image_ok = image_ok; copy_done = copy_done; swap_info = info; swap_size = size }

same_parts : (m n : Magic) (i j c d : Flag) (a b x y : ℕ) → m ≡ n → i ≡ j → c ≡ d → a ≡ b → x ≡ y → made m i c a x ≡ made n j d b y
same_parts m n i j c d a b x y magic image_ok copy_done info size = cc

same_fields : (t u : Trailer) → t.magic ≡ u.magic → t.image_ok ≡ u.image_ok → t.copy_done ≡ u.copy_done → t.swap_info ≡ u.swap_info → t.swap_size ≡ u.swap_size → t ≡ u
same_fields t u = same_parts t.magic u.magic t.image_ok u.image_ok t.copy_done u.copy_done t.swap_info u.swap_info t.swap_size u.swap_size

abbrev pub blank_fields : Field → List ℕ
blank_fields f = replicate (room f) 255

-- A field that holds the same bytes reads the same, and so does a trailer whose fields do.
kept_bytes : (g : Geometry) (s t : Content) (slot : Slot) (f : Field) (n : ℕ) → IsLayout g → IsSized g s → IsSized g t → n ≤ room f → SameField g s t slot f
    → bytes_at t slot (place g slot f) n ≡ bytes_at s slot (place g slot f) n
kept_bytes g s t slot f n ok sized_s sized_t within same =
    let fits : place g slot f + n ≤ length (bytes_of s slot) = omega (arith, field_ends g slot f ok, sized_is g s slot sized_s) in
    let long : length (bytes_at s slot (place g slot f) n) ≡ n = length-between (bytes_of s slot) (place g slot f) (place g slot f + n) fits ∙ omega arith in
    field_bytes g t slot f n (bytes_at s slot (place g slot f) n) ok sized_t long within
    (λ i short inside. same i inside ∙ sym (get_or-between (bytes_of s slot) (place g slot f) (place g slot f + n) i 0 (omega (arith, short, long))))

kept_byte : (g : Geometry) (s t : Content) (slot : Slot) (f : Field) → SameField g s t slot f → byte t slot (place g slot f) ≡ byte s slot (place g slot f)
kept_byte g s t slot f same = grind (arith, add-zero, room_is)

pub same_magic : (g : Geometry) (s t : Content) (slot : Slot) → IsLayout g → IsSized g s → IsSized g t → SameField g s t slot field.Magic → (trailer_of g t slot).magic ≡ (trailer_of g s slot).magic
unfolding trailer_of
same_magic g s t slot ok sized_s sized_t same = ap magic_of (kept_bytes g s t slot field.Magic 16 ok sized_s sized_t (omega arith) same)

pub same_image_ok : (g : Geometry) (s t : Content) (slot : Slot) → SameField g s t slot field.ImageOk → (trailer_of g t slot).image_ok ≡ (trailer_of g s slot).image_ok
unfolding trailer_of
same_image_ok g s t slot same = ap flag_of (kept_byte g s t slot field.ImageOk same)

pub same_copy_done : (g : Geometry) (s t : Content) (slot : Slot) → SameField g s t slot field.CopyDone → (trailer_of g t slot).copy_done ≡ (trailer_of g s slot).copy_done
unfolding trailer_of
same_copy_done g s t slot same = ap flag_of (kept_byte g s t slot field.CopyDone same)

pub same_info : (g : Geometry) (s t : Content) (slot : Slot) → SameField g s t slot field.SwapInfo → (trailer_of g t slot).swap_info ≡ (trailer_of g s slot).swap_info
unfolding trailer_of
same_info g s t slot same = kept_byte g s t slot field.SwapInfo same

pub same_size : (g : Geometry) (s t : Content) (slot : Slot) → IsLayout g → IsSized g s → IsSized g t → SameField g s t slot field.SwapSize
    → (trailer_of g t slot).swap_size ≡ (trailer_of g s slot).swap_size
unfolding trailer_of
same_size g s t slot ok sized_s sized_t same = ap (little_number 4) (kept_bytes g s t slot field.SwapSize 4 ok sized_s sized_t (omega arith) same)

pub same_trailer : (g : Geometry) (s t : Content) (slot : Slot) → IsLayout g → IsSized g s → IsSized g t → ((f : Field) → SameField g s t slot f) → trailer_of g t slot ≡ trailer_of g s slot
same_trailer g s t slot ok sized_s sized_t same =
    same_fields (trailer_of g t slot) (trailer_of g s slot) (same_magic g s t slot ok sized_s sized_t (same field.Magic))
    (same_image_ok g s t slot (same field.ImageOk))
    (same_copy_done g s t slot (same field.CopyDone))
    (same_info g s t slot (same field.SwapInfo))
    (same_size g s t slot ok sized_s sized_t (same field.SwapSize))

pub same_reading : (g : Geometry) (s t : Content) (slot : Slot) (f : Field) → IsLayout g → IsSized g s → IsSized g t → SameField g s t slot f
    → SameReading f (trailer_of g t slot) (trailer_of g s slot)
same_reading g s t slot field.Magic ok sized_s sized_t same = same_magic g s t slot ok sized_s sized_t same
same_reading g s t slot field.ImageOk ok sized_s sized_t same = same_image_ok g s t slot same
same_reading g s t slot field.CopyDone ok sized_s sized_t same = same_copy_done g s t slot same
same_reading g s t slot field.SwapInfo ok sized_s sized_t same = same_info g s t slot same
same_reading g s t slot field.SwapSize ok sized_s sized_t same = same_size g s t slot ok sized_s sized_t same

-- A write before the fields keeps the slot's trailer, and a write anywhere that of the other slot.
pub trailer_kept : (g : Geometry) (s t : Content) (slot : Slot) (at : ℕ) (new : List ℕ) → IsLayout g → IsSized g s → Changed s t slot at new → at + length new + 48 ≤ size_of g slot
    → trailer_of g t slot ≡ trailer_of g s slot
trailer_kept g s t slot at new ok sized ch before = grind (arith, same_trailer, changed_sized, field_kept, place_inside, most_before_end)

pub trailer_kept_elsewhere : (g : Geometry) (s t : Content) (slot o : Slot) (at : ℕ) (new : List ℕ) → IsLayout g → IsSized g s → Changed s t slot at new → o ≢ slot
    → trailer_of g t o ≡ trailer_of g s o
trailer_kept_elsewhere g s t slot o at new ok sized ch other = grind (arith, same_trailer, changed_sized, field_kept_elsewhere)

pub reads_back : ReadsBack
reads_back g s t slot ok sized =
    let rest : List ℕ = replicate (g.unit - 1) 255 in (
      λ ch. reads_good g t slot ok (changed_sized g s t slot (place g slot field.Magic) magic_bytes ch sized) (written_field g s t slot field.Magic magic_bytes ch),
      λ ch. reads_image_ok g t slot 1 rest (written_field g s t slot field.ImageOk (one_unit g 1) ch),
      λ ch. reads_copy_done g t slot 1 rest (written_field g s t slot field.CopyDone (one_unit g 1) ch),
      λ value ch. reads_info g t slot value rest (written_field g s t slot field.SwapInfo (one_unit g value) ch),
      λ size small ch.
          reads_size g t slot size (replicate (g.unit - 4) 255) ok (changed_sized g s t slot (place g slot field.SwapSize) (size_bytes g size) ch sized) small
          (written_field g s t slot field.SwapSize (size_bytes g size) ch),
    )

pub writes_keep : WritesKeep
writes_keep g s t slot at new ok sized ch = grind (arith, trailer_kept_elsewhere, same_reading, changed_sized, field_kept, trailer_kept)
