-- Each flash that a torn operation may leave is read as some reading, and so is the flash of that reading.
use Rattle.std.proofs.{Common.{ap, arith, eq-eqb, inl, inr, subst, sym, ◌∙◌}, lemmas.Bool.{cases_lt}, lemmas.Bool.Decides.{nat_tests}}
use Rattle.std.proofs.{lemmas.List.{get_or_default, same_lists}, lemmas.List.Edits.{get_or-between, length-between}, lemmas.Slice.Eq.{bytes_eq-Decides}}
use Rattle.std.specs.{Bool.{beq}, List.{list_all, range_with_len}, Option.{is_some}}
use Rattle.std.specs.Prelude.{Bool, List, None, Option, Some, bytes_eq, false, if◌then◌else◌, length, not, option_map, refl, slice_index, suc, true, zero}
use Rattle.std.specs.Prelude.{ℕ, ◌%◌, ◌&&◌, ◌*◌, ◌+◌, ◌-◌, ◌/◌, ◌<◌, ◌==◌, ◌≡◌, ◌≢◌, ◌≤◌, ◌||◌, ◌⊎◌}
use Rattle.mc_boot.proofs.{Joins.{are_equal}, Meets.{same_bytes, same_content, which_slot}, Transfers.{other_number}}
use Rattle.mc_boot.specs.Torn.{IsKept, IsTorn}
use Rattle.mc_flash.specs.{Flash.{CanTry, Content, IsSized, apply, byte, bytes_of, is_blank, size_of}, Geometry.{Geometry, IsLayout}, declared.op.Op.{Op}}
use Rattle.mc_flash.specs.{declared.op.Op.TheVariants.{Copy, Erase, Program}, declared.op.Slot.{Slot}, declared.op.Slot.TheVariants.{Primary, Secondary}}
use Rattle.mc_flash.specs.facts.{Changes.{all_blank, blank_each, changed_sized, program_was_blank, sized_is}, Layouts.{small_unit}}
use Rattle.mc_tear.proofs.{Ranges.{one_fails}, Whole.{said, torn_at, torn_is, torn_there, whole_byte, whole_is, written_long}}
use Rattle.mc_tear.specs.Cases.{entry_byte, fields_of, flag_byte, if_named, is_entry, is_flag, is_magic, is_primary, is_rough, is_unfinished, is_within, magic_byte, may_change, may_change_at, names, reads_as}
use Rattle.mc_tear.specs.Cases.{slot_of, tearing_of, torn, torn_byte, torn_bytes, value_at, value_or, written_byte, written_from, written_len}
use Rattle.mc_tear.specs.{Laws.{EachIsRead, IsListed, IsRead, begins_written, is_entry_as}, Readings.{entry_of, flag_of as flag_digit_of, magic_of as magic_digit_of, reading_of}}
use Rattle.mc_tear.specs.{declared.named.Fields.{Fields}, declared.reading.Entry.{Entry}, declared.reading.Reading.{Reading}, declared.torn.Erasing.{Erasing}}
use Rattle.mc_trailer.specs.{Trailer.{bytes_at, flag_of, magic_bytes, magic_of, place, trailer_of}, facts.Places.{entry_inside, place_inside}}
use Rattle.mc_trailer.specs.{declared.trailer.Flag.{Flag}, declared.trailer.Magic.{Magic}, declared.trailer.Trailer.{Trailer}, facts.Fields.{same_magic}}
use Rattle.mc_trailer.specs.declared.places.Field.TheVariants as field
use Rattle.mc_trailer.specs.declared.trailer.Flag.TheVariants as flags
use Rattle.mc_trailer.specs.declared.trailer.Magic.TheVariants as magics
use Rattle.mc_tear.specs.declared.reading.Entry.TheVariants as entries
use Rattle.mc_tear.specs.declared.torn.Erasing.TheVariants as erasings

-- ---- the number of a reading

magic_digit : Option Magic → ℕ
magic_digit None = 0
magic_digit (Some magics.Good) = 1
magic_digit (Some magics.Unset) = 2
magic_digit (Some magics.Bad) = 3

magic_back : (m : Option Magic) → (magic_digit_of (magic_digit m) ≡ m) × (magic_digit m < 4)
unfolding magic_digit
magic_back None = (refl, omega arith)
magic_back (Some magics.Good) = (refl, omega arith)
magic_back (Some magics.Unset) = (refl, omega arith)
magic_back (Some magics.Bad) = (refl, omega arith)

flag_digit : Option Flag → ℕ
flag_digit None = 0
flag_digit (Some flags.Set) = 1
flag_digit (Some flags.Unset) = 2
flag_digit (Some flags.Bad) = 3

flag_back : (f : Option Flag) → (flag_digit_of (flag_digit f) ≡ f) × (flag_digit f < 4)
unfolding flag_digit
flag_back None = (refl, omega arith)
flag_back (Some flags.Set) = (refl, omega arith)
flag_back (Some flags.Unset) = (refl, omega arith)
flag_back (Some flags.Bad) = (refl, omega arith)

entry_digit : Option Entry → ℕ
entry_digit None = 0
entry_digit (Some entries.Unset) = 1
entry_digit (Some entries.Written) = 2

entry_back : (x : Option Entry) → (entry_of (entry_digit x) ≡ x) × (entry_digit x < 3)
unfolding entry_digit
entry_back None = (refl, omega arith)
entry_back (Some entries.Unset) = (refl, omega arith)
entry_back (Some entries.Written) = (refl, omega arith)

abbrev reading : Option Magic → Option Flag → Option Flag → Option Entry → Reading
reading m i c x = record { magic = m; image_ok = i; copy_done = c; entry = x }

same_reading : (m n : Option Magic) (i j c d : Option Flag) (x y : Option Entry) → m ≡ n → i ≡ j → c ≡ d → x ≡ y → reading m i c x ≡ reading n j d y
same_reading m n i j c d x y magic image_ok copy_done entry = cc

digits : (m i c x : ℕ) → m < 4 → i < 4 → c < 4 → x < 3
    → let n = 48 * m + (12 * i + (3 * c + x)) in (n / 48 ≡ m) × (n / 12 % 4 ≡ i) × (n / 3 % 4 ≡ c) × (n % 3 ≡ x) × (n < 192)
digits m i c x a b d f = (omega (arith, a, b, d, f), omega (arith, a, b, d, f), omega (arith, a, b, d, f), omega (arith, a, b, d, f), omega (arith, a, b, d, f))

numbered : (r : Reading) → (n : ℕ) × (n < 192) × (reading_of n ≡ r)
numbered r =
    let m = magic_back r.magic in
    let i = flag_back r.image_ok in
    let c = flag_back r.copy_done in
    let x = entry_back r.entry in
    let n : ℕ = 48 * magic_digit r.magic + (12 * flag_digit r.image_ok + (3 * flag_digit r.copy_done + entry_digit r.entry)) in
    let d = digits (magic_digit r.magic) (flag_digit r.image_ok) (flag_digit r.copy_done) (entry_digit r.entry) m.1 i.1 c.1 x.1 in (
      n,
      d.4,
      same_reading (magic_digit_of (n / 48)) r.magic (flag_digit_of (n / 12 % 4)) r.image_ok (flag_digit_of (n / 3 % 4)) r.copy_done (entry_of (n % 3)) r.entry
          (ap magic_digit_of d.0 ∙ m.0) (ap flag_digit_of d.1 ∙ i.0) (ap flag_digit_of d.2 ∙ c.0) (ap entry_of d.3 ∙ x.0),
    )

-- ---- what is read of a flash, of some fields

abbrev named : {A : Type 0} → Bool → A → Option A
named true a = Some a
named false a = None

abbrev entry_if : Bool → Entry
entry_if true = entries.Written
entry_if false = entries.Unset

abbrev read_of : Fields → Trailer → Bool → Reading
read_of f t w = reading (named f.magic t.magic) (named f.image_ok t.image_ok) (named f.copy_done t.copy_done) (named f.entry (entry_if w))

some_named : {A : Type 0} (b : Bool) (a : A) → beq (is_some (named b a)) b ≡ true
some_named true a = refl
some_named false a = refl

names_them : (f : Fields) (t : Trailer) (w : Bool) → names f (read_of f t w) ≡ true
names_them f t w = rw (some_named f.magic t.magic, some_named f.image_ok t.image_ok, some_named f.copy_done t.copy_done, some_named f.entry (entry_if w)) refl

magic_self : (m : Magic) → is_magic m m ≡ true
magic_self magics.Good = refl
magic_self magics.Unset = refl
magic_self magics.Bad = refl

flag_self : (f : Flag) → is_flag f f ≡ true
flag_self flags.Set = refl
flag_self flags.Unset = refl
flag_self flags.Bad = refl

magic_named : (b : Bool) (m n : Magic) → (b ≡ true → n ≡ m) → if_named is_magic (named b m) n ≡ true
magic_named true m n same = ap (is_magic m) (same refl) ∙ magic_self m
magic_named false m n same = refl

flag_named : (b : Bool) (f h : Flag) → (b ≡ true → h ≡ f) → if_named is_flag (named b f) h ≡ true
flag_named true f h same = ap (is_flag f) (same refl) ∙ flag_self f
flag_named false f h same = refl

entry_self : (w : Bool) → is_entry_as (entry_if w) w ≡ true
entry_self true = refl
entry_self false = refl

entry_named : (b w x : Bool) → (b ≡ true → x ≡ w) → if_named is_entry_as (named b (entry_if w)) x ≡ true
entry_named true w x same = ap (is_entry_as (entry_if w)) (same refl) ∙ entry_self w
entry_named false w x same = refl

reads_them : (f : Fields) (t u : Trailer) (w : Bool) → (f.magic ≡ true → u.magic ≡ t.magic) → (f.image_ok ≡ true → u.image_ok ≡ t.image_ok) → (f.copy_done ≡ true → u.copy_done ≡ t.copy_done)
    → reads_as (read_of f t w) u ≡ true
reads_them f t u w magic image_ok copy_done =
    rw (magic_named f.magic t.magic u.magic magic, flag_named f.image_ok t.image_ok u.image_ok image_ok, flag_named f.copy_done t.copy_done u.copy_done copy_done) refl

-- ---- a magic, and flags

good_is : (xs : List ℕ) → magic_of xs ≡ magics.Good → xs ≡ magic_bytes
good_is xs is = (bytes_eq-Decides xs magic_bytes).0 (grind arith)

pub unset_is : (xs : List ℕ) → magic_of xs ≡ magics.Unset → is_blank xs ≡ true
unset_is xs is = grind arith

no_fives : (k : ℕ) → k < 16 → slice_index magic_bytes k ≡ 0x55 → ⊥
no_fives k short is = grind arith

five_is_bad : (xs : List ℕ) (k : ℕ) → k < 16 → length xs ≡ 16 → slice_index xs k ≡ 0x55 → magic_of xs ≡ magics.Bad
five_is_bad xs k short long is = by (bytes_eq xs magic_bytes) refl (is_blank xs) refl
  where
    by : (b : Bool) → bytes_eq xs magic_bytes ≡ b → (c : Bool) → is_blank xs ≡ c → magic_of xs ≡ magics.Bad
    by true same c blank =
        let equal : xs ≡ magic_bytes = (bytes_eq-Decides xs magic_bytes).0 same in
        absurd (no_fives k short (sym (ap (λ (ys : List ℕ). slice_index ys k) equal) ∙ is))
    by false same true blank = absurd (omega (arith, is, blank_each xs k blank (omega (arith, short, long))))
    by false same false blank = rw (same, blank) refl

-- Where bytes are those of a magic that is read so, or as they were, it is read so again.
magic_again : (xs ys : List ℕ) (m : Magic) (free : ℕ → Bool) (k : ℕ) → length xs ≡ 16 → length ys ≡ 16 → magic_of ys ≡ m
    → ((i : ℕ) → i < 16 → slice_index xs i ≡ (if free i then magic_byte i m else slice_index ys i)) → k < 16 → free k ≡ true → magic_of xs ≡ m
magic_again xs ys m free k long_x long_y is each short at = by m is each
  where
    same : ((i : ℕ) → i < 16 → slice_index xs i ≡ slice_index ys i) → xs ≡ ys
    same alike =
        same_lists xs ys (long_x ∙ sym long_y) (λ i d h. get_or_default xs i d 0 h ∙ alike i (omega (arith, h, long_x)) ∙ sym (get_or_default ys i d 0 (omega (arith, h, long_x, long_y))))

    either : (i : ℕ) (b : Bool) (value : ℕ) → value ≡ slice_index ys i → (if b then value else slice_index ys i) ≡ slice_index ys i
    either i true value e = e
    either i false value e = refl

    by : (m : Magic) → magic_of ys ≡ m → ((i : ℕ) → i < 16 → slice_index xs i ≡ (if free i then magic_byte i m else slice_index ys i)) → magic_of xs ≡ m
    by magics.Good good each =
        ap magic_of (same (λ i h. each i h ∙ either i (free i) (slice_index magic_bytes i) (sym (ap (λ (zs : List ℕ). slice_index zs i) (good_is ys good))))) ∙ good
    by magics.Unset unset each = ap magic_of (same (λ i h. each i h ∙ either i (free i) 255 (sym (blank_each ys i (unset_is ys unset) (omega (arith, h, long_y)))))) ∙ unset
    by magics.Bad bad each = five_is_bad xs k short long_x (each k short ∙ ap (λ (b : Bool). if b then 0x55 else slice_index ys k) at)

flag_again : (f : Flag) → flag_of (flag_byte f) ≡ f
flag_again flags.Set = refl
flag_again flags.Unset = refl
flag_again flags.Bad = refl

-- ---- one of the bytes that may change

some_passes : (p : ℕ → Bool) (a n : ℕ) → not (list_all (λ i. not (p i)) (range_with_len a n)) ≡ true → (k : ℕ) × (k < n) × (p (a + k) ≡ true)
some_passes p a zero none = absurd cc
some_passes p a (suc n) some = by (p a) refl (λ rest. some_passes p (a + 1) n rest)
  where
    by : (b : Bool) → p a ≡ b → (not (list_all (λ i. not (p i)) (range_with_len (a + 1) n)) ≡ true → (k : ℕ) × (k < n) × (p (a + 1 + k) ≡ true)) → (k : ℕ) × (k < suc n) × (p (a + k) ≡ true)
    by true is more = (0, omega arith, ap p (omega arith) ∙ is)
    by false is more =
        let later = more (rw is at some) in
        (later.0 + 1, omega (arith, later.1), ap p (omega arith) ∙ later.2)

-- ---- what a reading puts at each place

module _ (g : Geometry) (ok : IsLayout g) (op : Op) (r : Reading) where
  value_magic : (k : ℕ) → k < 16 → value_at g op r (place g (slot_of op) field.Magic + k) ≡ option_map (magic_byte k) r.magic
  value_magic k short =
      let e : place g (slot_of op) field.Magic + k - place g (slot_of op) field.Magic ≡ k = omega arith in
      let h = place_inside g (slot_of op) field.Magic ok in grind (arith, nat_tests)

  value_image_ok : value_at g op r (place g (slot_of op) field.ImageOk) ≡ option_map flag_byte r.image_ok
  value_image_ok =
      let h = place_inside g (slot_of op) field.Magic ok in
      let i = place_inside g (slot_of op) field.ImageOk ok in grind (arith, nat_tests)

  value_copy_done : value_at g op r (place g (slot_of op) field.CopyDone) ≡ option_map flag_byte r.copy_done
  value_copy_done =
      let h = place_inside g (slot_of op) field.Magic ok in
      let i = place_inside g (slot_of op) field.ImageOk ok in
      let c = place_inside g (slot_of op) field.CopyDone ok in grind (arith, nat_tests)

  -- Before the fields it is the entry's, or none.
  pub value_else : (i : ℕ) (b : Bool) → i + 32 < size_of g (slot_of op) → (is_entry g op && i == written_from g op) ≡ b → value_at g op r i ≡ (if b then option_map entry_byte r.entry else None)
  value_else i b low is = rw (not_magic, not_image_ok, not_copy_done, is) refl
    where
      not_magic : is_within (place g (slot_of op) field.Magic) 16 i ≡ false
      not_magic = below_magic (place g (slot_of op) field.Magic) (omega (arith, low, place_inside g (slot_of op) field.Magic ok))
        where
          below_magic : (m : ℕ) → i < m → is_within m 16 i ≡ false
          below_magic m h = grind (arith, nat_tests)

      not_image_ok : (i == place g (slot_of op) field.ImageOk) ≡ false
      not_image_ok = other_number i (place g (slot_of op) field.ImageOk) (λ e. omega (arith, e, low, place_inside g (slot_of op) field.ImageOk ok))

      not_copy_done : (i == place g (slot_of op) field.CopyDone) ≡ false
      not_copy_done = other_number i (place g (slot_of op) field.CopyDone) (λ e. omega (arith, e, low, place_inside g (slot_of op) field.CopyDone ok))

-- ---- a torn flash

module _ (e : Erasing) (g : Geometry) (op : Op) (s v : Content) (ok : IsLayout g) (sized : IsSized g s) (can : CanTry g op) (left : IsTorn (tearing_of e) g op s v) where
  abbrev slot : Slot
  slot = slot_of op

  -- It keeps each byte that may not change.
  stays : (i : ℕ) → may_change_at e g op s i ≡ false → (byte left.whole slot i ≡ byte s slot i) × (is_rough e op ≡ true → (i < written_from g op) ⊎ (written_from g op + written_len g op ≤ i))
  stays i no_ = elim (cases_lt i (written_from g op)) [
    | inl low ↦ ((whole_is g ok s sized op left.whole can left.makes).before i low, λ _. inl low)
    | inr high ↦ elim (cases_lt i (written_from g op + written_len g op)) [
      | inl low ↦ inner (i - written_from g op) (omega (arith, high)) (omega (arith, high, low))
      | inr beyond ↦ (
        (whole_is g ok s sized op left.whole can left.makes).beyond i (omega (arith, beyond, written_long g ok s sized op can)),
        λ _. inr beyond,
      )
    ]
  ]
    where
      still : (b : Bool) (n m : ℕ) → (b || not (n == m)) ≡ false → (n ≡ m) × (b ≡ false)
      still b n m is = grind (arith, nat_tests)

      inner : (k : ℕ) → written_from g op + k ≡ i → k < written_len g op
          → (byte left.whole slot i ≡ byte s slot i) × (is_rough e op ≡ true → (i < written_from g op) ⊎ (written_from g op + written_len g op ≤ i))
      inner k is short =
          let not_ : may_change e g op s k ≡ false = grind (arith, nat_tests) in
          let same = still (is_rough e op) (written_byte op s k) (byte s slot (written_from g op + k)) not_ in (
            rw (← is) (whole_byte g ok s sized op can left.whole left.makes k short ∙ same.0),
            λ rough. let f : true ≡ false = sym rough ∙ same.1 in absurd cc,
          )

  is_kept : (i : ℕ) → may_change_at e g op s i ≡ false → IsKept (tearing_of e) g op s left.whole slot i
  is_kept i no_ = by e op (stays i no_)
    where
      by : (e : Erasing) (op : Op) → (byte left.whole (slot_of op) i ≡ byte s (slot_of op) i) × (is_rough e op ≡ true → (i < written_from g op) ⊎ (written_from g op + written_len g op ≤ i))
          → IsKept (tearing_of e) g op s left.whole (slot_of op) i
      by erasings.Gentle op both = both.0
      by erasings.Rough (Erase o sector) both = λ _. both.1 refl
      by erasings.Rough (Program o at bytes) both = both.0
      by erasings.Rough (Copy from at to offset len) both = both.0

  kept_at : (i : ℕ) → may_change_at e g op s i ≡ false → byte v slot i ≡ byte s slot i
  kept_at i no_ = left.kept slot i (is_kept i no_)

  abbrev F : Fields
  F = fields_of e g op s

  abbrev r : Reading
  r = read_of F (trailer_of g v slot) (begins_written g op v)

  abbrev t : Content
  t = torn e g op s r

  long_v : length (bytes_of v slot) ≡ size_of g slot
  long_v = left.sizes slot ∙ sized_is g s slot sized

  long_t : length (bytes_of t slot) ≡ size_of g slot
  long_t = (torn_is g ok s sized op can e r).sizes slot ∙ sized_is g s slot sized

  at_t : (i : ℕ) → byte t slot i ≡ said g ok s sized op can e r i
  at_t i = torn_at g ok s sized op can e r i

  -- A byte of it that may change, and one that may not.
  at_free : (i : ℕ) (value : Option ℕ) → may_change_at e g op s i ≡ true → value_at g op r i ≡ value → byte t slot i ≡ value_or (byte s slot i) value
  at_free i value free is = at_t i ∙ ap (λ (b : Bool). if b then value_or (byte s slot i) (value_at g op r i) else byte s slot i) free ∙ ap (value_or (byte s slot i)) is

  at_kept : (i : ℕ) → may_change_at e g op s i ≡ false → byte t slot i ≡ byte v slot i
  at_kept i no_ = at_t i ∙ ap (λ (b : Bool). if b then value_or (byte s slot i) (value_at g op r i) else byte s slot i) no_ ∙ sym (kept_at i no_)

  abbrev m : ℕ
  m = place g slot field.Magic

  ends : m + 16 ≡ size_of g slot
  ends = place_inside g slot field.Magic ok

  reads_magic : F.magic ≡ true → (trailer_of g t slot).magic ≡ (trailer_of g v slot).magic
  unfolding trailer_of
  reads_magic is =
      let one = some_passes (may_change_at e g op s) m 16 is in
      magic_again (bytes_at t slot m 16) (bytes_at v slot m 16) (magic_of (bytes_at v slot m 16)) (λ i. may_change_at e g op s (m + i)) one.0
      (length-between (bytes_of t slot) m (m + 16) (omega (arith, long_t, ends)) ∙ omega arith)
      (length-between (bytes_of v slot) m (m + 16) (omega (arith, long_v, ends)) ∙ omega arith)
      refl each one.1 one.2
    where
      each : (i : ℕ) → i < 16
          → slice_index (bytes_at t slot m 16) i ≡ (if may_change_at e g op s (m + i) then magic_byte i (magic_of (bytes_at v slot m 16)) else slice_index (bytes_at v slot m 16) i)
      each i short = get_or-between (bytes_of t slot) m (m + 16) i 0 (omega (arith, short)) ∙ by (may_change_at e g op s (m + i)) refl
        where
          by : (b : Bool) → may_change_at e g op s (m + i) ≡ b → byte t slot (m + i) ≡ (if b then magic_byte i (magic_of (bytes_at v slot m 16)) else slice_index (bytes_at v slot m 16) i)
          by true free =
              at_free (m + i) (Some (magic_byte i (magic_of (bytes_at v slot m 16)))) free
              (value_magic g ok op r i short ∙ ap (λ (b : Bool). option_map (magic_byte i) (named b (magic_of (bytes_at v slot m 16)))) is)
          by false no_ = at_kept (m + i) no_ ∙ sym (get_or-between (bytes_of v slot) m (m + 16) i 0 (omega (arith, short)))

  reads_image_ok : F.image_ok ≡ true → (trailer_of g t slot).image_ok ≡ (trailer_of g v slot).image_ok
  unfolding trailer_of
  reads_image_ok is =
      let i : ℕ = place g slot field.ImageOk in
      let f : Flag = flag_of (byte v slot i) in
      ap flag_of (at_free i (Some (flag_byte f)) is (value_image_ok g ok op r ∙ ap (λ (b : Bool). option_map flag_byte (named b f)) is)) ∙ flag_again f

  and_right : (a b : Bool) → (a && b) ≡ true → b ≡ true
  and_right true b e = e
  and_right false b e = absurd cc

  and_left : (a b : Bool) → (a && b) ≡ true → a ≡ true
  and_left true b e = refl
  and_left false b e = absurd cc

  reads_copy_done : F.copy_done ≡ true → (trailer_of g t slot).copy_done ≡ (trailer_of g v slot).copy_done
  unfolding trailer_of
  reads_copy_done is =
      let i : ℕ = place g slot field.CopyDone in
      let f : Flag = flag_of (byte v slot i) in
      ap flag_of (at_free i (Some (flag_byte f)) (and_right _ (may_change_at e g op s i) is) (value_copy_done g ok op r ∙ ap (λ (b : Bool). option_map flag_byte (named b f)) is)) ∙ flag_again f

  -- The entry that it writes, if it writes one.
  module _ (is : F.entry ≡ true) where
    abbrev from : ℕ
    from = written_from g op

    entry_there : is_entry g op ≡ true
    entry_there = and_left (is_entry g op) (may_change_at e g op s from) is

    from_changes : may_change_at e g op s from ≡ true
    from_changes = and_right (is_entry g op) (may_change_at e g op s from) is

    -- It lies before the fields.
    before_fields : from + 48 < size_of g slot + 1
    before_fields = by op entry_there
      where
        by : (op : Op) → is_entry g op ≡ true → written_from g op + 48 < size_of g (slot_of op) + 1
        by (Erase o sector) no_ = absurd cc
        by (Program Secondary at bytes) no_ = absurd cc
        by (Copy a b c d n) no_ = absurd cc
        by (Program Primary at bytes) is_so =
            let first = entry_inside g 0 ok (let some = ok.some_sectors in omega (arith, some)) in grind (arith, nat_tests)

    small : g.unit ≤ 8
    small = (small_unit g ok).1

    value_first : value_at g op r from ≡ option_map entry_byte r.entry
    value_first =
        value_else g ok op r from true (omega (arith, before_fields)) (rw (entry_there, eq-eqb from from refl) refl)

    value_later : (k : ℕ) → 0 < k → k < g.unit → value_at g op r (from + k) ≡ None
    value_later k some short =
        value_else g ok op r (from + k) false (omega (arith, before_fields, small, short))
        (rw (entry_there, other_number (from + k) from (λ same. omega (arith, same, some))) refl)

    inside_v : from + g.unit ≤ length (bytes_of v slot)
    inside_v = omega (arith, before_fields, small, long_v)

    inside_t : from + g.unit ≤ length (bytes_of t slot)
    inside_t = omega (arith, before_fields, small, long_t)

    first_byte : (w : Bool) → begins_written g op v ≡ w → byte t slot from ≡ entry_byte (entry_if w)
    first_byte w e_w =
        at_free from (Some (entry_byte (entry_if w))) from_changes
        (value_first ∙ ap (λ (b : Bool). option_map entry_byte (named b (entry_if (begins_written g op v)))) is ∙ ap (λ (b : Bool). Some (entry_byte (entry_if b))) e_w)

    blank_old : (op : Op) (whole : Content) → is_entry g op ≡ true → CanTry g op → apply g op s ≡ Some whole → (k : ℕ) → k < written_len g op → byte s (slot_of op) (written_from g op + k) ≡ 255
    blank_old (Erase o sector) whole no_ can makes k short = absurd cc
    blank_old (Copy a b c d n) whole no_ can makes k short = absurd cc
    blank_old (Program o at bytes) whole is_so can makes k short = program_was_blank g s whole o at bytes (omega (arith, can.inside, sized_is g s o sized)) makes k short

    -- Where the unit was blank, all its bytes are.
    later_byte : is_blank (bytes_at v slot from g.unit) ≡ true → (k : ℕ) → 0 < k → k < g.unit → byte t slot (from + k) ≡ 255
    later_byte blank k some short = by (may_change_at e g op s (from + k)) refl
      where
        by : (b : Bool) → may_change_at e g op s (from + k) ≡ b → byte t slot (from + k) ≡ 255
        by true free =
            let within : k < written_len g op = grind (arith, nat_tests) in
            at_free (from + k) None free (value_later k some short) ∙ blank_old op left.whole entry_there can left.makes k within
        by false no_ =
            at_kept (from + k) no_ ∙ sym (get_or-between (bytes_of v slot) from (from + g.unit) k 0 (omega (arith, short)))
            ∙ blank_each (bytes_at v slot from g.unit) k blank (omega (arith, short, length-between (bytes_of v slot) from (from + g.unit) inside_v))

    long_unit : length (bytes_at t slot from g.unit) ≡ g.unit
    long_unit = length-between (bytes_of t slot) from (from + g.unit) inside_t ∙ omega arith

    unit_byte : (k : ℕ) → k < g.unit → slice_index (bytes_at t slot from g.unit) k ≡ byte t slot (from + k)
    unit_byte k short = get_or-between (bytes_of t slot) from (from + g.unit) k 0 (omega (arith, short))

    some_unit : 0 < g.unit
    some_unit = (small_unit g ok).0

    zero_here : from + 0 ≡ from
    zero_here = omega arith

    reads_entry : begins_written g op t ≡ begins_written g op v
    reads_entry = by (is_blank (bytes_at v slot from g.unit)) refl
      where
        by : (b : Bool) → is_blank (bytes_at v slot from g.unit) ≡ b → begins_written g op t ≡ begins_written g op v
        by true blank =
            let all : is_blank (bytes_at t slot from g.unit) ≡ true =
            all_blank (bytes_at t slot from g.unit) (λ k h. unit_byte k (omega (arith, h, long_unit)) ∙ each k (omega (arith, h, long_unit))) in
            ap not all ∙ sym (ap not blank)
          where
            each : (k : ℕ) → k < g.unit → byte t slot (from + k) ≡ 255
            each zero short = ap (byte t slot) zero_here ∙ first_byte false (ap not blank)
            each (suc k) short = later_byte blank (suc k) (omega arith) short
        by false blank = ap not (none (is_blank (bytes_at t slot from g.unit)) refl) ∙ sym (ap not blank)
          where
            none : (c : Bool) → is_blank (bytes_at t slot from g.unit) ≡ c → is_blank (bytes_at t slot from g.unit) ≡ false
            none false is_not = is_not
            none true is_so =
                let high : slice_index (bytes_at t slot from g.unit) 0 ≡ 255 = blank_each (bytes_at t slot from g.unit) 0 is_so (omega (arith, long_unit, some_unit)) in
                let low : slice_index (bytes_at t slot from g.unit) 0 ≡ 127 = unit_byte 0 some_unit ∙ ap (byte t slot) zero_here ∙ first_byte true (ap not blank) in
                absurd (omega (arith, high, low))

  of_v : IsRead e g op s r v
  of_v = record {
    named = names_them F (trailer_of g v slot) (begins_written g op v);
    fields = reads_them F (trailer_of g v slot) (trailer_of g v slot) (begins_written g op v) (λ _. refl) (λ _. refl) (λ _. refl);
    entry = entry_named F.entry (begins_written g op v) (begins_written g op v) (λ _. refl);
  }

  of_t : IsRead e g op s r t
  of_t = record {
    named = names_them F (trailer_of g v slot) (begins_written g op v);
    fields = reads_them F (trailer_of g v slot) (trailer_of g t slot) (begins_written g op v) reads_magic reads_image_ok reads_copy_done;
    entry = entry_named F.entry (begins_written g op v) (begins_written g op t) reads_entry;
  }

  -- ---- the flash of that reading stands for it

  every : (p : ℕ → Bool) (k m : ℕ) → list_all p (range_with_len 0 m) ≡ true → k < m → p k ≡ true
  every p k m all short = by (p k) refl
    where
      by : (b : Bool) → p k ≡ b → p k ≡ true
      by true is = is
      by false is = let none : false ≡ true = sym (one_fails p 0 m k (omega arith) (omega (arith, short)) is) ∙ all in absurd cc

  abbrev from_op : ℕ
  from_op = written_from g op

  abbrev IsOut : Slot → ℕ → Type 0
  IsOut o i = o ≡ slot → (i < from_op) ⊎ (from_op + written_len g op ≤ i)

  out_not : (i : ℕ) → (i < from_op) ⊎ (from_op + written_len g op ≤ i) → may_change_at e g op s i ≡ false
  out_not i it = grind (arith, nat_tests)

  other_kept : (e : Erasing) (op : Op) (w : Content) (o : Slot) (i : ℕ) → byte w o i ≡ byte s o i → o ≢ slot_of op → IsKept (tearing_of e) g op s w o i
  other_kept erasings.Gentle op w o i same other = same
  other_kept erasings.Rough (Erase x sector) w o i same other = λ here. absurd (other here)
  other_kept erasings.Rough (Program x at bytes) w o i same other = same
  other_kept erasings.Rough (Copy source at to offset len) w o i same other = same

  pub out_v : (o : Slot) (i : ℕ) → IsOut o i → byte v o i ≡ byte s o i
  out_v o i out = elim (which_slot o slot) [
    | inl same ↦ rw same (kept_at i (out_not i (out same)))
    | inr other ↦ left.kept o i (other_kept e op left.whole o i ((whole_is g ok s sized op left.whole can left.makes).other o i other) other)
  ]

  pub out_t : (o : Slot) (i : ℕ) → IsOut o i → byte t o i ≡ byte s o i
  out_t o i out = elim (which_slot o slot) [
    | inl same ↦ rw same (at_kept i (out_not i (out same)) ∙ kept_at i (out_not i (out same)))
    | inr other ↦ (torn_is g ok s sized op can e r).other o i other
  ]

  finished : is_unfinished e g op s r ≡ false → t ≡ left.whole
  finished done = same_content left.whole t (each Primary) (each Secondary)
    where
      all_so : (b : Bool) → not b ≡ false → b ≡ true
      all_so true is = refl
      all_so false is = absurd cc

      made : (k : ℕ) → k < written_len g op → torn_byte e g op s r k ≡ written_byte op s k
      made k short = are_equal (torn_byte e g op s r k) (written_byte op s k)
          (every (λ j. torn_byte e g op s r j == written_byte op s j) k (written_len g op)
          (all_so (list_all (λ j. torn_byte e g op s r j == written_byte op s j) (range_with_len 0 (written_len g op))) done) short)

      inner : (i k : ℕ) → from_op + k ≡ i → k < written_len g op → byte t slot i ≡ byte left.whole slot i
      inner i k is short = subst (λ n. byte t slot n ≡ byte left.whole slot n) is
          (torn_there g ok s sized op can e r k short ∙ made k short ∙ sym (whole_byte g ok s sized op can left.whole left.makes k short))

      here : (i : ℕ) → byte t slot i ≡ byte left.whole slot i
      here i = elim (cases_lt i from_op) [
        | inl low ↦ out_t slot i (λ _. inl low) ∙ sym ((whole_is g ok s sized op left.whole can left.makes).before i low)
        | inr high ↦ elim (cases_lt i (from_op + written_len g op)) [
          | inl low ↦ inner i (i - from_op) (omega (arith, high)) (omega (arith, high, low))
          | inr beyond ↦ out_t slot i (λ _. inr beyond) ∙ sym ((whole_is g ok s sized op left.whole can left.makes).beyond i (omega (arith, beyond, written_long g ok s sized op can)))
        ]
      ]

      both : (o : Slot) (i : ℕ) → byte t o i ≡ byte left.whole o i
      both o i = elim (which_slot o slot) [
        | inl same ↦ rw same (here i)
        | inr other ↦ (torn_is g ok s sized op can e r).other o i other ∙ sym ((whole_is g ok s sized op left.whole can left.makes).other o i other)
      ]

      each : (o : Slot) → bytes_of t o ≡ bytes_of left.whole o
      each o = same_bytes left.whole t o ((torn_is g ok s sized op can e r).sizes o ∙ sym ((whole_is g ok s sized op left.whole can left.makes).sizes o)) (both o)

  pub stands : IsListed e g op s t
  stands = by (is_unfinished e g op s r) refl
    where
      by : (b : Bool) → is_unfinished e g op s r ≡ b → IsListed e g op s t
      by true unfinished = inr (inr (r, rw (of_t.named, unfinished, of_t.fields) refl, refl))
      by false done = inr (inl (left.makes ∙ ap (λ (x : Content). Some x) (sym (finished done))))

  -- Its trailer reads alike, whether or not the operation may change a field.
  sized_v : IsSized g v
  sized_v = record { primary = left.sizes Primary ∙ sized.primary; secondary = left.sizes Secondary ∙ sized.secondary }

  pub sized_t : IsSized g t
  sized_t = changed_sized g s t slot (written_from g op) (torn_bytes e g op s r) (torn_is g ok s sized op can e r) sized

  pub magic_alike : (trailer_of g t slot).magic ≡ (trailer_of g v slot).magic
  magic_alike = by F.magic refl
    where
      none_of : (b : Bool) → not b ≡ false → b ≡ true
      none_of true is = refl
      none_of false is = absurd cc

      no_one : (b : Bool) → not b ≡ true → b ≡ false
      no_one false is = refl
      no_one true is = absurd cc

      unchanged : F.magic ≡ false → (k : ℕ) → k < 16 → may_change_at e g op s (m + k) ≡ false
      unchanged no_ k short = no_one (may_change_at e g op s (m + k)) (every_from (none_of (list_all (λ i. not (may_change_at e g op s i)) (range_with_len m 16)) no_))
        where
          every_from : list_all (λ i. not (may_change_at e g op s i)) (range_with_len m 16) ≡ true → not (may_change_at e g op s (m + k)) ≡ true
          every_from all = go (not (may_change_at e g op s (m + k))) refl
            where
              go : (b : Bool) → not (may_change_at e g op s (m + k)) ≡ b → not (may_change_at e g op s (m + k)) ≡ true
              go true is = is
              go false is =
                  let f : false ≡ true = sym (one_fails (λ i. not (may_change_at e g op s i)) m 16 (m + k) (omega arith) (omega (arith, short)) is) ∙ all in absurd cc

      by : (b : Bool) → F.magic ≡ b → (trailer_of g t slot).magic ≡ (trailer_of g v slot).magic
      by true is = reads_magic is
      by false no_ = same_magic g v t slot ok sized_v sized_t (λ i within. at_kept (m + i) (unchanged no_ i within))

  -- A byte of the magic that may change is as the reading says.
  magic_changed : (k : ℕ) → k < 16 → may_change_at e g op s (m + k) ≡ true → byte t slot (m + k) ≡ magic_byte k (trailer_of g v slot).magic
  magic_changed k short free =
      at_free (m + k) (Some (magic_byte k (trailer_of g v slot).magic)) free
      (value_magic g ok op r k short ∙ ap (λ (b : Bool). option_map (magic_byte k) (named b (trailer_of g v slot).magic)) named_so)
    where
      named_so : F.magic ≡ true
      named_so = ap not (one_fails (λ i. not (may_change_at e g op s i)) m 16 (m + k) (omega arith) (omega (arith, short)) (ap not free))

  pub image_ok_alike : (trailer_of g t slot).image_ok ≡ (trailer_of g v slot).image_ok
  unfolding trailer_of
  image_ok_alike = by F.image_ok refl
    where
      by : (b : Bool) → F.image_ok ≡ b → flag_of (byte t slot (place g slot field.ImageOk)) ≡ flag_of (byte v slot (place g slot field.ImageOk))
      by true is = reads_image_ok is
      by false no_ = ap flag_of (at_kept (place g slot field.ImageOk) no_)

  pub copy_done_alike : is_primary slot ≡ true → (trailer_of g t slot).copy_done ≡ (trailer_of g v slot).copy_done
  unfolding trailer_of
  copy_done_alike primary = by (may_change_at e g op s (place g slot field.CopyDone)) refl
    where
      by : (b : Bool) → may_change_at e g op s (place g slot field.CopyDone) ≡ b
          → flag_of (byte t slot (place g slot field.CopyDone)) ≡ flag_of (byte v slot (place g slot field.CopyDone))
      by true is = reads_copy_done (rw (primary, is) refl)
      by false no_ = ap flag_of (at_kept (place g slot field.CopyDone) no_)

  read : (n : ℕ) × (n < 192) × IsRead e g op s (reading_of n) v × IsRead e g op s (reading_of n) (torn e g op s (reading_of n))
  read =
      let number = numbered r in
      let P : Reading → Type 0 = λ x. IsRead e g op s x v × IsRead e g op s x (torn e g op s x) in
      let both : P (reading_of number.0) = subst P (sym number.2) (of_v, of_t) in
      (number.0, number.1, both.0, both.1)

pub each_is_read : EachIsRead
each_is_read e g op s v ok sized can left = read e g op s v ok sized can left

-- What stands for a torn flash: one of those that stand for all, as it outside of what the operation writes, and read alike.
pub record StandsFor (e : Erasing) (g : Geometry) (op : Op) (s v t : Content) : Type 0 where
  pub listed : IsListed e g op s t
  pub sized : IsSized g t
  pub out : (o : Slot) (i : ℕ) → (o ≡ slot_of op → (i < written_from g op) ⊎ (written_from g op + written_len g op ≤ i)) → byte t o i ≡ byte v o i
  pub magic : (trailer_of g t (slot_of op)).magic ≡ (trailer_of g v (slot_of op)).magic
  pub image_ok : (trailer_of g t (slot_of op)).image_ok ≡ (trailer_of g v (slot_of op)).image_ok
  pub copy_done : is_primary (slot_of op) ≡ true → (trailer_of g t (slot_of op)).copy_done ≡ (trailer_of g v (slot_of op)).copy_done
  -- A byte that may not change is that of both, and one of the magic that may is as its reading says.
  pub kept : (i : ℕ) → may_change_at e g op s i ≡ false → byte t (slot_of op) i ≡ byte v (slot_of op) i
  pub magic_is : (k : ℕ) → k < 16 → may_change_at e g op s (place g (slot_of op) field.Magic + k) ≡ true
      → byte t (slot_of op) (place g (slot_of op) field.Magic + k) ≡ magic_byte k (trailer_of g v (slot_of op)).magic

pub stands_for : (e : Erasing) (g : Geometry) (op : Op) (s v : Content) → IsLayout g → IsSized g s → CanTry g op → IsTorn (tearing_of e) g op s v
    → (t : Content) × StandsFor e g op s v t
stands_for e g op s v ok sized can left = (
  t e g op s v ok sized can left,
  record {
    listed = stands e g op s v ok sized can left;
    sized = sized_t e g op s v ok sized can left;
    out = λ o i out. out_t e g op s v ok sized can left o i out ∙ sym (out_v e g op s v ok sized can left o i out);
    magic = magic_alike e g op s v ok sized can left;
    image_ok = image_ok_alike e g op s v ok sized can left;
    copy_done = copy_done_alike e g op s v ok sized can left;
    kept = λ i no_. at_kept e g op s v ok sized can left i no_;
    magic_is = λ k short free. magic_changed e g op s v ok sized can left k short free;
  },
)

-- A torn flash keeps each byte that may not change.
pub torn_kept : (e : Erasing) (g : Geometry) (op : Op) (s v : Content) → IsLayout g → IsSized g s → CanTry g op → IsTorn (tearing_of e) g op s v
    → (i : ℕ) → may_change_at e g op s i ≡ false → byte v (slot_of op) i ≡ byte s (slot_of op) i
torn_kept e g op s v ok sized can left = kept_at e g op s v ok sized can left

-- A torn flash is as before outside of what the operation writes.
pub torn_out : (e : Erasing) (g : Geometry) (op : Op) (s v : Content) → IsLayout g → IsSized g s → CanTry g op → IsTorn (tearing_of e) g op s v
    → (o : Slot) (i : ℕ) → (o ≡ slot_of op → (i < written_from g op) ⊎ (written_from g op + written_len g op ≤ i)) → byte v o i ≡ byte s o i
torn_out e g op s v ok sized can left = out_v e g op s v ok sized can left
