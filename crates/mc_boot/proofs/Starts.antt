-- Start flashes: their bytes and their fields.
use Rattle.std.proofs.{Common.{ap, arith, inl, inr, length-append, subst, sym, ◌∙◌}, Math.Nat.{mul-le-mul_right, zero-mul}, lemmas.Bool.{cases_lt}}
use Rattle.std.proofs.lemmas.Grind.{div_ceil_times}
use Rattle.std.proofs.lemmas.List.{get_or-append_right, get_or-replicate, get_or-take, get_or_append_left, length-replicate, length-take-le}
use Rattle.std.specs.Int.{div_ceil}
use Rattle.std.specs.Prelude.{List, [], false, length, max, refl, replicate, slice_index, suc, true, zero, ℕ, ◌*◌, ◌+◌, ◌-◌, ◌<◌, ◌∷◌, ◌≡◌, ◌≤◌, ◌⊎◌}
use Rattle.mc_boot.proofs.{Courses.{slot_small}, Images.{ImageLaws, SameImage, image_prefix, inside_size, same_prefixes, some_size, HasImage}}
use Rattle.mc_boot.proofs.{Keeps.{place_beyond_data}, Phases.{Swap, asked, larger_size, unasked}, SwapEnds.{prefix_inside}, SwapsKeep.{unasked_from}}
use Rattle.mc_boot.specs.{Plan.{image_size}, Restart.{BeginsImage, filled, image_bytes, perm_flash, placed, test_flash}}
use Rattle.mc_flash.specs.{Flash.{Content, IsSized, put, size_of}, Geometry.{Geometry, IsLayout, greatest_sectors}, declared.op.Slot.{Slot}}
use Rattle.mc_flash.specs.{declared.op.Slot.TheVariants.{Primary, Secondary}, facts.Changes.{length-put, put_before, put_beyond, put_inside}}
use Rattle.mc_flash.specs.facts.Layouts.{data_before_trailer, data_end, fits_few, image_is_data}
use Rattle.mc_trailer.specs.{Trailer.{magic_bytes, place}, facts.Fields.{FieldsAre}, facts.Places.{place_inside}}
use Rattle.mc_trailer.specs.declared.places.Field.TheVariants as field

-- The start flashes, byte by byte.

-- the image that the bytes begin with, and that it is in the data sectors of either slot
pub length-image : (g : Geometry) (a : List ℕ) → ImageLaws → BeginsImage g a → length (image_bytes a) ≡ image_size a
length-image g a laws image = length-take-le (image_size a) a (inside_size a laws image.bytes image.valid)

pub image_short : (g : Geometry) (a : List ℕ) (o : Slot) → ImageLaws → IsLayout g → BeginsImage g a → length (image_bytes a) ≤ data_end g o
image_short g a o laws ok image =
    let whole = length-image g a laws image in
    let rows : image_size a ≤ div_ceil (image_size a) g.sector * g.sector = (div_ceil_times (image_size a) g.sector (omega arith)).0 in
    let at_most : div_ceil (image_size a) g.sector * g.sector ≤ data_end g o = mul-le-mul_right g.sector (image_is_data g o (div_ceil (image_size a) g.sector) (fits_few g (image_size a) ok
    image.fitting))
    in
    omega (arith, rows, at_most, whole)

-- bytes filled up
pub length-filled : (g : Geometry) (o : Slot) (a : List ℕ) → length a ≤ size_of g o → length (filled g o a) ≡ size_of g o
length-filled g o a short = length-append a (replicate (size_of g o - length a) 255) ∙ ap (λ n. length a + n) (length-replicate {A = ℕ} (size_of g o - length a) 255) ∙ omega arith

pub filled_prefix : (g : Geometry) (o : Slot) (a : List ℕ) (i : ℕ) → i < length a → slice_index (filled g o a) i ≡ slice_index a i
filled_prefix g o a i below = get_or_append_left a (replicate (size_of g o - length a) 255) 0 i below

pub filled_free : (g : Geometry) (o : Slot) (a : List ℕ) (i : ℕ) → length a ≤ i → i < size_of g o → slice_index (filled g o a) i ≡ 255
filled_free g o a i from below = grind (arith, get_or-append_right, get_or-replicate)

-- The slots begin with these bytes.
pub record Begins (g : Geometry) (x y : List ℕ) (s : Content) : Type 0 where
  pub sized : IsSized g s
  pub primary : (i : ℕ) → i < length x → slice_index s.primary i ≡ slice_index x i
  pub secondary : (i : ℕ) → i < length y → slice_index s.secondary i ≡ slice_index y i

-- What the starts have in common: each slot begins with its image.
abbrev pub Holding : Geometry → List ℕ → List ℕ → Content → Type 0
Holding g a b s = Begins g (image_bytes a) (image_bytes b) s

held_image : (g : Geometry) (a xs : List ℕ) (o : Slot) → ImageLaws → IsLayout g → BeginsImage g a → length xs ≡ size_of g o
    → ((i : ℕ) → i < length (image_bytes a) → slice_index xs i ≡ slice_index (image_bytes a) i) → SameImage a xs
held_image g a xs o laws ok image len same =
    let whole = length-image g a laws image in
    image_prefix a xs laws image.bytes image.valid
    (same_prefixes a xs (image_size a) (inside_size a laws image.bytes image.valid) (omega (arith, whole, len, image_short g a o laws ok image, data_before_trailer g o ok))
    (λ i h. same i (omega (arith, h, whole)) ∙ get_or-take (image_size a) a i 0 h))

pub primary_image : (g : Geometry) (a b : List ℕ) (s : Content) → ImageLaws → IsLayout g → BeginsImage g a → Holding g a b s → SameImage a s.primary
primary_image g a b s laws ok image h = held_image g a s.primary Primary laws ok image h.sized.primary h.primary

pub secondary_image : (g : Geometry) (a b : List ℕ) (s : Content) → ImageLaws → IsLayout g → BeginsImage g b → Holding g a b s → SameImage b s.secondary
secondary_image g a b s laws ok image h = held_image g b s.secondary Secondary laws ok image h.sized.secondary h.secondary

-- so it is a swap that may be asked for
abbrev pub count_of : Geometry → Content → ℕ
count_of g s = div_ceil (larger_size s) g.sector

-- the swap of two images that the slots hold
pub swap_between : (g : Geometry) (s : Content) → ImageLaws → IsLayout g → IsSized g s → HasImage s.primary → HasImage s.secondary → count_of g s ≤ greatest_sectors g
    → Swap g s (larger_size s) (count_of g s)
swap_between g s laws ok sized one two at_most = record {
  laws = laws;
  ok = ok;
  sized = sized;
  primary = one;
  secondary = two;
  larger = refl;
  count = refl;
  some = at_least (count_of g s) rows;
  at_most = at_most;
  small = let small = slot_small g Primary ok in omega (arith, rows, prefix_inside g (count_of g s) Primary ok at_most, small);
}
  where
    rows : larger_size s ≤ count_of g s * g.sector
    rows = let wide = ok.least_sector in (div_ceil_times (larger_size s) g.sector (omega (arith, wide))).0

    some_byte : 0 < larger_size s
    some_byte = let same = one.same.size in omega (arith, same, some_size one.image one.valid)

    at_least : (n : ℕ) → larger_size s ≤ n * g.sector → 0 < n
    at_least zero h = let none : zero * g.sector ≡ 0 = zero-mul g.sector in absurd (omega (arith, h, none, some_byte))
    at_least (suc n) h = omega arith

pub swap_held : (g : Geometry) (a b : List ℕ) (s : Content) → ImageLaws → IsLayout g → BeginsImage g a → BeginsImage g b → Holding g a b s → Swap g s (larger_size s) (count_of g s)
swap_held g a b s laws ok at_a at_b h =
    swap_between g s laws ok h.sized (record { image = a; bytes = at_a.bytes; valid = at_a.valid; same = one })
    (record { image = b; bytes = at_b.bytes; valid = at_b.valid; same = two }) at_most
  where
    one : SameImage a s.primary
    one = primary_image g a b s laws ok at_a h

    two : SameImage b s.secondary
    two = secondary_image g a b s laws ok at_b h

    one_of : (x y : ℕ) → (max x y ≡ x) ⊎ (max x y ≡ y)
    one_of x y = elim (cases_lt x y) [ inl low ↦ inr (omega (arith, low)) | inr high ↦ inl (omega (arith, high)) ]

    at_most : count_of g s ≤ greatest_sectors g
    at_most = let E : ℕ → Type 0 = λ m. div_ceil m g.sector ≤ greatest_sectors g in elim (one_of (image_size s.primary) (image_size s.secondary)) [
      | inl is ↦ subst E (sym (is ∙ one.size)) (fits_few g (image_size a) ok at_a.fitting)
      | inr is ↦ subst E (sym (is ∙ two.size)) (fits_few g (image_size b) ok at_b.fitting)
    ]

-- The starts are phases of a swap, or no swap at all.

-- x and y are the bytes that the slots begin with, before the trailers
short_in : (g : Geometry) (x : List ℕ) (o : Slot) → IsLayout g → length x ≤ data_end g o → length x ≤ size_of g o
short_in g x o ok short = omega (arith, short, data_before_trailer g o ok)

magic_fits : (g : Geometry) (xs : List ℕ) → IsLayout g → length xs ≡ size_of g Secondary → place g Secondary field.Magic + length magic_bytes ≤ length xs
magic_fits g xs ok len = let inside = place_inside g Secondary field.Magic ok in omega (arith, len, inside)

ok_fits : (g : Geometry) (xs : List ℕ) → IsLayout g → length xs ≡ size_of g Secondary → place g Secondary field.ImageOk + 1 ≤ length xs
ok_fits g xs ok len = let inside = place_inside g Secondary field.ImageOk ok in omega (arith, len, inside)

marked : Geometry → List ℕ → List ℕ
marked g y = put (filled g Secondary y) (place g Secondary field.Magic) magic_bytes

length-marked : (g : Geometry) (y : List ℕ) → IsLayout g → length y ≤ data_end g Secondary → length (marked g y) ≡ size_of g Secondary
unfolding marked
length-marked g y ok short =
    let len = length-filled g Secondary y (short_in g y Secondary ok short) in
    length-put (filled g Secondary y) magic_bytes (place g Secondary field.Magic) (magic_fits g (filled g Secondary y) ok len) ∙ len

marked_prefix : (g : Geometry) (y : List ℕ) (i : ℕ) → IsLayout g → length y ≤ data_end g Secondary → i < length y → slice_index (marked g y) i ≡ slice_index y i
unfolding marked
marked_prefix g y i ok short h =
    let len = length-filled g Secondary y (short_in g y Secondary ok short) in
    put_before (filled g Secondary y) magic_bytes (place g Secondary field.Magic) i (magic_fits g (filled g Secondary y) ok len) (omega (arith, h, short, place_beyond_data g Secondary field.Magic ok))
    ∙ filled_prefix g Secondary y i h

magic_there : (g : Geometry) (y : List ℕ) (i : ℕ) → IsLayout g → length y ≤ data_end g Secondary → i < 16 → slice_index (marked g y) (place g Secondary field.Magic + i) ≡ slice_index magic_bytes i
unfolding marked
magic_there g y i ok short h =
    let len = length-filled g Secondary y (short_in g y Secondary ok short) in
    put_inside (filled g Secondary y) magic_bytes (place g Secondary field.Magic) i (magic_fits g (filled g Secondary y) ok len) h

ok_free : (g : Geometry) (y : List ℕ) → IsLayout g → length y ≤ data_end g Secondary → slice_index (marked g y) (place g Secondary field.ImageOk) ≡ 255
unfolding marked
ok_free g y ok short =
    let len = length-filled g Secondary y (short_in g y Secondary ok short) in
    let image_ok = place_inside g Secondary field.ImageOk ok in
    put_before (filled g Secondary y) magic_bytes (place g Secondary field.Magic) (place g Secondary field.ImageOk) (magic_fits g (filled g Secondary y) ok len) (omega (arith, image_ok))
    ∙ filled_free g Secondary y (place g Secondary field.ImageOk) (omega (arith, short, place_beyond_data g Secondary field.ImageOk ok)) (omega (arith, image_ok))

-- what is there of the bytes
placed_begins : (g : Geometry) (x y : List ℕ) → IsLayout g → length x ≤ data_end g Primary → length y ≤ data_end g Secondary → Begins g x y (placed g x y)
placed_begins g x y ok short_x short_y = record {
  sized = record { primary = length-filled g Primary x (short_in g x Primary ok short_x); secondary = length-filled g Secondary y (short_in g y Secondary ok short_y) };
  primary = λ i h. filled_prefix g Primary x i h;
  secondary = λ i h. filled_prefix g Secondary y i h;
}

test_begins : (g : Geometry) (x y : List ℕ) → IsLayout g → length x ≤ data_end g Primary → length y ≤ data_end g Secondary → Begins g x y (test_flash g x y)
unfolding marked
test_begins g x y ok short_x short_y = record {
  sized = record { primary = length-filled g Primary x (short_in g x Primary ok short_x); secondary = length-marked g y ok short_y };
  primary = λ i h. filled_prefix g Primary x i h;
  secondary = λ i h. marked_prefix g y i ok short_y h;
}

perm_begins : (g : Geometry) (x y : List ℕ) → IsLayout g → length x ≤ data_end g Primary → length y ≤ data_end g Secondary → Begins g x y (perm_flash g x y)
unfolding marked
perm_begins g x y ok short_x short_y = record {
  sized = record {
    primary = length-filled g Primary x (short_in g x Primary ok short_x);
    secondary =
        length-put (marked g y) (1 ∷ []) (place g Secondary field.ImageOk) (ok_fits g (marked g y) ok (length-marked g y ok short_y)) ∙ length-marked g y ok short_y;
  };
  primary = λ i h. filled_prefix g Primary x i h;
  secondary = λ i h.
      put_before (marked g y) (1 ∷ []) (place g Secondary field.ImageOk) i (ok_fits g (marked g y) ok (length-marked g y ok short_y))
      (omega (arith, h, short_y, place_beyond_data g Secondary field.ImageOk ok))
      ∙ marked_prefix g y i ok short_y h;
}

-- what is asked
test_fields : (g : Geometry) (x y : List ℕ) → IsLayout g → length y ≤ data_end g Secondary → FieldsAre g (test_flash g x y) Secondary (asked true)
unfolding marked
test_fields g x y ok short field.Magic i h within = magic_there g y i ok short within
test_fields g x y ok short field.ImageOk i h within = grind (arith, ok_free)
test_fields g x y ok short f i h within = absurd (omega (arith, h))

perm_fields : (g : Geometry) (x y : List ℕ) → IsLayout g → length y ≤ data_end g Secondary → FieldsAre g (perm_flash g x y) Secondary (asked false)
unfolding marked
perm_fields g x y ok short field.Magic i h within =
    let image_ok = place_inside g Secondary field.ImageOk ok in
    put_beyond (marked g y) (1 ∷ []) (place g Secondary field.ImageOk) (place g Secondary field.Magic + i) (ok_fits g (marked g y) ok (length-marked g y ok short)) (omega (arith, image_ok))
    ∙ magic_there g y i ok short within
perm_fields g x y ok short field.ImageOk i h within = put_inside (marked g y) (1 ∷ []) (place g Secondary field.ImageOk) i (ok_fits g (marked g y) ok (length-marked g y ok short)) h
perm_fields g x y ok short f i h within = absurd (omega (arith, h))

-- the same of the images of a and b
pub placed_holds : (g : Geometry) (a b : List ℕ) → ImageLaws → IsLayout g → BeginsImage g a → BeginsImage g b → Holding g a b (placed g (image_bytes a) (image_bytes b))
placed_holds g a b laws ok at_a at_b =
    placed_begins g (image_bytes a) (image_bytes b) ok (image_short g a Primary laws ok at_a) (image_short g b Secondary laws ok at_b)

pub test_holds : (g : Geometry) (a b : List ℕ) → ImageLaws → IsLayout g → BeginsImage g a → BeginsImage g b → Holding g a b (test_flash g (image_bytes a) (image_bytes b))
test_holds g a b laws ok at_a at_b =
    test_begins g (image_bytes a) (image_bytes b) ok (image_short g a Primary laws ok at_a) (image_short g b Secondary laws ok at_b)

pub perm_holds : (g : Geometry) (a b : List ℕ) → ImageLaws → IsLayout g → BeginsImage g a → BeginsImage g b → Holding g a b (perm_flash g (image_bytes a) (image_bytes b))
perm_holds g a b laws ok at_a at_b =
    perm_begins g (image_bytes a) (image_bytes b) ok (image_short g a Primary laws ok at_a) (image_short g b Secondary laws ok at_b)

pub test_asked : (g : Geometry) (a b : List ℕ) → ImageLaws → IsLayout g → BeginsImage g b → FieldsAre g (test_flash g (image_bytes a) (image_bytes b)) Secondary (asked true)
test_asked g a b laws ok at_b = test_fields g (image_bytes a) (image_bytes b) ok (image_short g b Secondary laws ok at_b)

pub perm_asked : (g : Geometry) (a b : List ℕ) → ImageLaws → IsLayout g → BeginsImage g b → FieldsAre g (perm_flash g (image_bytes a) (image_bytes b)) Secondary (asked false)
perm_asked g a b laws ok at_b = perm_fields g (image_bytes a) (image_bytes b) ok (image_short g b Secondary laws ok at_b)

-- no magic in either slot
pub placed_unasked : (g : Geometry) (a b : List ℕ) (o : Slot) → ImageLaws → IsLayout g → BeginsImage g a → BeginsImage g b → FieldsAre g (placed g (image_bytes a) (image_bytes b)) o unasked
placed_unasked g a b Primary laws ok at_a at_b =
    let inside = place_inside g Primary field.Magic ok in
    unasked_from g (placed g (image_bytes a) (image_bytes b)) Primary (λ i h. filled_free g Primary (image_bytes a) (place g Primary field.Magic + i)
    (omega (arith, image_short g a Primary laws ok at_a, place_beyond_data g Primary field.Magic ok)) (omega (arith, inside, h)))
placed_unasked g a b Secondary laws ok at_a at_b =
    let inside = place_inside g Secondary field.Magic ok in
    unasked_from g (placed g (image_bytes a) (image_bytes b)) Secondary (λ i h. filled_free g Secondary (image_bytes b) (place g Secondary field.Magic + i)
    (omega (arith, image_short g b Secondary laws ok at_b, place_beyond_data g Secondary field.Magic ok)) (omega (arith, inside, h)))
