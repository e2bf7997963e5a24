-- The parts of an image that is written, their sizes first.
use Rattle.std.proofs.Common.{Bool, Err, List, None, Ok, Result, Some, [], ap, append_assoc, arith, drop, false, get_or, length, refl, sym, take, true, ℕ, ◌++◌, ◌+◌, ◌<◌, ◌^◌, ◌∙◌, ◌∷◌, ◌≡◌, ◌≤◌}
use Rattle.std.proofs.{Transfers.{starts_with_of_append}, lemmas.Bool.{le-ltb, lt-ltb, ltb-false, or_parts}}
use Rattle.std.proofs.lemmas.List.{append-nil, drop_at, get_or_default, length-append, map-append, map_more, take-append-drop}
use Rattle.std.proofs.lemmas.List.Concat.{flat_map-append}
use Rattle.std.specs.{Borrow.{Bor}, Io.{StartsWith}, List.{list_any}, Prelude.{IfSome, OnOk, cond, if◌then◌else◌, nat_lt, ◌==◌, ◌||◌}, Result.{is_ok}}
use Rattle.byteorder.specs.Endian.{little_bytes}
use Rattle.mc_image.proofs.ImageLaws.{header_len}
use Rattle.mc_image.specs.Image.{EntriesFit, Entry, EntryFits, IsGood, IsImage, area_text, covered_text, digest_of, digests, entries_text, entry_text, header_text, image_text, plain_text, protected_area, protected_text, version_text}
use Rattle.mc_image.specs.Writing.{AreSizes, AreSmall, FieldsFit, area_of, entry_view, image_of, is_too_large, sizes_text, undigested, views, with_digest, write_fault}
use Rattle.mc_image.specs.{declared.error.ImageError.{ImageError}, declared.error.ImageError.TheVariants.{ManyDigests, TooLarge}}
use Rattle.mc_image.specs.declared.writing.ImageParts.{ImageParts}
use Rattle.sha2.proofs.Facts256.{length-sha256}
use Rattle.sha2.specs.Sha256.{sha256}

-- When the image of some parts is too large, by the parts' lengths.

pub header_size : (p : ImageParts) → length (header_text (image_of p)) ≡ 32 + length p.header_rest.now
unfolding image_of with_digest undigested
header_size p = header_len (image_of p)

pub protected_size : (p : ImageParts) → protected_text (image_of p) ≡ protected_area (area_of (views p.protected.now))
unfolding image_of with_digest undigested protected_text
protected_size p = refl

pub plain_size : (p : ImageParts) → length (plain_text (image_of p)) ≡ 40 + length (entries_text (views p.plain.now))
unfolding image_of with_digest undigested plain_text
plain_size p = grind (arith, length-append, length-sha256)

or-right : (a b : Bool) → b ≡ true → (a || b) ≡ true
or-right it b e = grind arith

or-left : (a b : Bool) → a ≡ true → (a || b) ≡ true
or-left it b e = grind arith

pub large_header : (p : ImageParts) → 65535 < 32 + length p.header_rest.now → is_too_large p ≡ true
unfolding is_too_large
large_header p h = let e = header_size p in or-left (nat_lt 65535 (length (header_text (image_of p)))) _ (lt-ltb _ _ (omega arith))

pub large_payload : (p : ImageParts) → 2 ^ 24 < length p.payload.now → is_too_large p ≡ true
unfolding is_too_large
large_payload p h = or-right (nat_lt 65535 (length (header_text (image_of p)))) _ (or-left (nat_lt (2 ^ 24) (length p.payload.now)) _ (lt-ltb _ _ h))

pub large_protected : (p : ImageParts) → 65535 < length (protected_area (area_of (views p.protected.now))) → is_too_large p ≡ true
unfolding is_too_large
large_protected p h = grind (arith, protected_size, or-right, or-left, lt-ltb)

pub large_plain : (p : ImageParts) → 65535 < 40 + length (entries_text (views p.plain.now)) → is_too_large p ≡ true
unfolding is_too_large
large_plain p h = grind (arith, plain_size, or-right, lt-ltb)

pub not_large : (p : ImageParts) (q a : ℕ) → length p.header_rest.now ≤ 65503 → length p.payload.now ≤ 2 ^ 24 → q < 2 ^ 16 → q ≡ length (protected_area (area_of (views p.protected.now))) → a < 2 ^ 16
    → a ≡ 40 + length (entries_text (views p.plain.now))
    → (is_too_large p ≡ false) × AreSizes p (32 + length p.header_rest.now) (length p.payload.now) q a
unfolding is_too_large
not_large p q a h1 h2 h3 h4 h5 h6 = grind (arith, header_size, protected_size, plain_size, le-ltb)

-- ---- what is written

payload_is : (p : ImageParts) → p.payload.now ≡ (image_of p).payload
unfolding image_of with_digest undigested
payload_is p = refl

header-written : (p : ImageParts) (h n q a : ℕ) → AreSizes p h n q a → sizes_text p.load h q n ++ (version_text p.version ++ (little_bytes 4 p.padding ++ p.header_rest.now)) ≡ header_text (image_of p)
unfolding image_of with_digest undigested header_text
header-written p h n q a is = grind arith

-- what is appended in three steps is what the digest covers
pub covered-written : (p : ImageParts) (h n q a : ℕ) (o x y z : List ℕ) → AreSizes p h n q a
    → x ≡ o ++ (sizes_text p.load h q n ++ (version_text p.version ++ (little_bytes 4 p.padding ++ p.header_rest.now))) → y ≡ x ++ p.payload.now
    → z ≡ y ++ protected_area (area_of (views p.protected.now))
    → z ≡ o ++ covered_text (image_of p)
unfolding covered_text
covered-written p h n q a o x y z is e1 e2 e3 = grind (arith, header-written, append_assoc, payload_is, protected_size)

-- what the digest covers does not hang on it
pub digest-is : (p : ImageParts) → sha256 (covered_text (image_of p)) ≡ sha256 (covered_text (undigested p))
unfolding image_of with_digest undigested covered_text header_text protected_text
digest-is p = refl

plain-written : (p : ImageParts) → area_text 0x6907 (record { kind = 0x10; value = sha256 (covered_text (undigested p)) } ∷ views p.plain.now) ≡ plain_text (image_of p)
unfolding plain_text image_of with_digest undigested
plain-written p = refl

-- what is appended in two steps is the image
pub image-written : (p : ImageParts) (o x y d : List ℕ) (n : ℕ) → n ≡ length o → x ≡ o ++ covered_text (image_of p) → d ≡ sha256 (drop n x)
    → y ≡ x ++ area_text 0x6907 (record { kind = 0x10; value = d } ∷ views p.plain.now) → y ≡ o ++ image_text (image_of p)
unfolding image_text covered_text
image-written p o x y d n len e1 e2 e3 = grind (arith, drop_at, digest-is, plain-written, append_assoc)

digest-first : (p : ImageParts) → digest_of (image_of p) ≡ sha256 (covered_text (undigested p))
unfolding digest_of image_of with_digest undigested
digest-first p = refl

pub good-written : (p : ImageParts) → IsGood (image_of p)
good-written p = digest-first p ∙ sym (digest-is p)

-- ---- the image fits

no-digests : (es : List (ℕ × Bor (List ℕ))) → list_any (λ e. e.0 == 0x10) es ≡ false → digests (views es) ≡ []
no-digests [] h = refl
no-digests (e ∷ es) h =
    let parts = or_parts (e.0 == 0x10) (list_any (λ e. e.0 == 0x10) es) h in
    ap (λ t. cond t (e.1.now ∷ digests (views es)) (digests (views es))) parts.0 ∙ no-digests es parts.1

area-fits : (es : List Entry) → EntriesFit es → IfSome (area_of es) EntriesFit
area-fits it h = grind arith

pub image-fits : (p : ImageParts) → is_too_large p ≡ false → FieldsFit p → EntriesFit (views p.protected.now) → EntriesFit (views p.plain.now) → list_any (λ e. e.0 == 0x10) p.plain.now ≡ false
    → IsImage (image_of p)
unfolding is_too_large image_of with_digest undigested digest_of
image-fits p small fields f1 f2 none =
    let d : List ℕ = sha256 (covered_text (undigested p)) in
    let l = length-sha256 (covered_text (undigested p)) in
    let s1 = or_parts (nat_lt 65535 (length (header_text (image_of p)))) _ small in
    let s2 = or_parts (nat_lt (2 ^ 24) (length p.payload.now)) _ s1.1 in
    let s3 = or_parts (nat_lt 65535 (length (protected_text (image_of p)))) _ s2.1 in
    record {
      load = fields.load;
      major = fields.major;
      minor = fields.minor;
      revision = fields.revision;
      build = fields.build;
      padding = fields.padding;
      header = omega (arith, ltb-false _ _ s1.0);
      payload = omega (arith, ltb-false _ _ s2.0);
      protected = omega (arith, ltb-false _ _ s3.0);
      plain = omega (arith, ltb-false _ _ s3.1);
      protected_entries = area-fits (views p.protected.now) f1;
      plain_entries = (record { kind = omega arith; len = omega (arith, l) }, f2);
      one_digest = ap (λ (ds : List (List ℕ)). length (d ∷ ds)) (no-digests p.plain.now none);
      digest = l;
    }

-- ---- the faults

pub fault-large : (p : ImageParts) → is_too_large p ≡ true → write_fault p ≡ Some TooLarge
unfolding write_fault
fault-large p e = rw e refl

pub fault-many : (p : ImageParts) → is_too_large p ≡ false → list_any (λ e. e.0 == 0x10) p.plain.now ≡ true → write_fault p ≡ Some ManyDigests
unfolding write_fault
fault-many p e f = rw (e, f) refl

pub fault-none : (p : ImageParts) → is_too_large p ≡ false → list_any (λ e. e.0 == 0x10) p.plain.now ≡ false → write_fault p ≡ None
unfolding write_fault
fault-none p e f = rw (e, f) refl

-- small parts are written unless memory runs out
pub fault-small : (p : ImageParts) → AreSmall p → write_fault p ≡ None
fault-small p small = grind (arith, not_large, fault-none)

pub not_small : (p : ImageParts) (e d : ImageError) → write_fault p ≡ Some e → AreSmall p → e ≡ d
not_small p e d fault small = let none = fault-small p small in absurd (cc)

-- The spelling of entries, one entry on.

pub text-more : (es : List (ℕ × Bor (List ℕ))) (i : ℕ) (e : ℕ × Bor (List ℕ)) → i < length es → e ≡ get_or es i e
    → entries_text (views (take (i + 1) es)) ≡ entries_text (views (take i es)) ++ entry_text (entry_view e)
text-more es i e lt is =
    let one : views (take (i + 1) es) ≡ views (take i es) ++ entry_view e ∷ [] = map_more entry_view es i e lt ∙ ap (λ x. views (take i es) ++ entry_view x ∷ []) (sym is) in
    ap entries_text one ∙ flat_map-append entry_text (views (take i es)) (entry_view e ∷ []) ∙ ap (λ (x : List ℕ). entries_text (views (take i es)) ++ x) (append-nil (entry_text (entry_view e)))

pub text-less : (es : List (ℕ × Bor (List ℕ))) (i : ℕ) → length (entries_text (views (take i es))) ≤ length (entries_text (views es))
text-less es i =
    let split : views es ≡ views (take i es) ++ views (drop i es) = ap views (sym (take-append-drop i es)) ∙ map-append entry_view (take i es) (drop i es) in
    let text : entries_text (views es) ≡ entries_text (views (take i es)) ++ entries_text (views (drop i es)) =
    ap entries_text split ∙ flat_map-append entry_text (views (take i es)) (views (drop i es)) in
    let l : length (entries_text (views es)) ≡ length (entries_text (views (take i es)) ++ entries_text (views (drop i es))) = ap length text in
    omega (arith, l, length-append (entries_text (views (take i es))) (entries_text (views (drop i es))))

entry-len : (e : Entry) → length (entry_text e) ≡ 4 + length e.value
entry-len e = omega arith

-- the length so far, one entry on
pub len-more : (es : List (ℕ × Bor (List ℕ))) (i : ℕ) (e : ℕ × Bor (List ℕ)) → i < length es → e ≡ get_or es i e
    → length (entries_text (views (take (i + 1) es))) ≡ length (entries_text (views (take i es))) + (4 + length e.1.now)
len-more es i e lt is = ap length (text-more es i e lt is) ∙ length-append (entries_text (views (take i es))) (entry_text (entry_view e)) ∙ ap (λ n. length (entries_text (views (take i es))) + n)
    (entry-len (entry_view e))

-- all of the entries are at least as long as those up to one of them
pub len-all : (es : List (ℕ × Bor (List ℕ))) (i : ℕ) → i < length es
    → length (entries_text (views (take i es))) + (4 + length (get_or es i (0, record { ref_ptr = (0, 0); now = [] })).1.now) ≤ length (entries_text (views es))
len-all es i lt =
    let l = len-more es i _ lt (get_or_default es i (0, record { ref_ptr = (0, 0); now = [] }) _ lt) in
    let m = text-less es (i + 1) in
    omega arith

pushed : (xs : List Entry) (x : Entry) → EntriesFit xs → EntryFits x → EntriesFit (xs ++ x ∷ [])
pushed [] x h k = (k, tt)
pushed (y ∷ ys) x h k = (h.0, pushed ys x h.1 k)

-- Bytes that are appended step by step.

pub on_ok : {A E P Q : Type 0} (r : Result A E) → OnOk r P → (P → Q) → OnOk r Q
on_ok it p f = grind arith

-- what a slice appends, and what it keeps
pub extended : {A E : Type 0} (r : Result A E) (x y t : List ℕ) → y ≡ (if is_ok r then x ++ t else x) → OnOk r (y ≡ x ++ t) × StartsWith y x
extended (Ok a) x y t e = (e, starts_with_of_append _ _ _ e)
extended (Err a) x y t e = (tt, starts_with_of_append _ _ _ (e ∙ sym (append-nil x)))

-- two steps are one
pub appended : (o x y s t : List ℕ) → x ≡ o ++ s → y ≡ x ++ t → y ≡ o ++ (s ++ t)
appended o x y s t e f = f ∙ ap (λ (l : List ℕ). l ++ t) e ∙ append_assoc o s t
