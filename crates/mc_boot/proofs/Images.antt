-- The images that slots hold, and when two flashes hold the same.
use Rattle.std.proofs.{Common.{ap, arith, sym, ◌∙◌}, lemmas.Grind.{same_number_lists}, lemmas.List.{get_or-take, length-take-le}}
use Rattle.std.proofs.lemmas.Slice.Eq.{bytes_eq-Decides}
use Rattle.std.specs.Option.{is_some}
use Rattle.std.specs.Prelude.{Bool, List, None, Option, Some, false, length, max, option_map, refl, slice_index, take, true, ℕ, ◌<◌, ◌≡◌, ◌≤◌}
use Rattle.mc_boot.specs.{Plan.{identity_of, image_size, images_of}, declared.image.Held.{Held}, declared.image.ImageId.{ImageId}}
use Rattle.mc_boot.specs.{declared.image.Images.{Images}, facts.Sizes.{size_read}}
use Rattle.mc_flash.specs.Flash.{Content}
use Rattle.mc_image.specs.Image.{Begins, Image, IsBytes, IsGood, covered_text, digest_of, header_text, image_in, image_text}
use Rattle.mc_image.specs.{Valid.{Identity, first_fault, id_of, identity, is_good, is_valid}, declared.error.ImageError.{ImageError}}
use Rattle.mc_image.specs.facts.Valid.{prefix_within}
use Rattle.sha2.specs.Sha256.{sha256}

-- All that a swap uses of images: bytes that agree with a valid image as far as it goes begin with it too.

-- the laws of images that it rests on
pub record ImageLaws : Type 0 where
  pub begins : (b : List ℕ) → IsBytes b → first_fault b ≡ None → Begins b (image_in b)
  pub same : (b c : List ℕ) (i : Identity) → IsBytes b → id_of b ≡ Some i → take i.size c ≡ take i.size b → id_of c ≡ Some i

-- two lists of one prefix
pub same_prefixes : (xs ys : List ℕ) (n : ℕ) → n ≤ length xs → n ≤ length ys → ((i : ℕ) → i < n → slice_index ys i ≡ slice_index xs i) → take n ys ≡ take n xs
same_prefixes xs ys n at_xs at_ys same = grind (arith, same_number_lists, length-take-le, get_or-take)

-- valid bytes have an identity, whose size is the image's
pub id_valid : (b : List ℕ) → is_valid b ≡ true → id_of b ≡ Some (identity (image_in b))
unfolding id_of
id_valid b valid = rw valid refl

pub id_parts : (b : List ℕ) (i : Identity) → id_of b ≡ Some i → (is_valid b ≡ true) × (identity (image_in b) ≡ i)
unfolding id_of
id_parts b i is = grind arith

pub no_fault : (b : List ℕ) → is_valid b ≡ true → first_fault b ≡ None
unfolding is_valid
no_fault b valid = grind arith

pub size_valid : (b : List ℕ) → is_valid b ≡ true → length (image_text (image_in b)) ≡ image_size b
size_valid b valid = size_read b (no_fault b valid)

-- an image has a byte, and lies in the bytes that begin with it
some_text : (v : Image) → 0 < length (image_text v)
unfolding image_text header_text
some_text v = omega arith

pub some_size : (b : List ℕ) → is_valid b ≡ true → 0 < image_size b
some_size b valid = omega (arith, size_valid b valid, some_text (image_in b))

pub inside_size : (b : List ℕ) → ImageLaws → IsBytes b → is_valid b ≡ true → image_size b ≤ length b
inside_size b laws bytes valid = omega (arith, size_valid b valid, prefix_within b (image_in b) (laws.begins b bytes (no_fault b valid)))

-- the same image
pub record SameImage (xs ys : List ℕ) : Type 0 where
  pub valid : is_valid ys ≡ true
  pub size : image_size ys ≡ image_size xs
  pub id : id_of ys ≡ id_of xs
  pub prefix : take (image_size xs) ys ≡ take (image_size xs) xs

pub image_prefix : (xs ys : List ℕ) → ImageLaws → IsBytes xs → is_valid xs ≡ true → take (image_size xs) ys ≡ take (image_size xs) xs → SameImage xs ys
image_prefix xs ys laws bytes valid prefix =
    let at_xs = id_valid xs valid in
    let size = size_valid xs valid in
    let long : take (length (image_text (image_in xs))) ys ≡ take (length (image_text (image_in xs))) xs = ap (λ n. take n ys) size ∙ prefix ∙ ap (λ n. take n xs) (sym size) in
    let at_ys = laws.same xs ys (identity (image_in xs)) bytes at_xs long in
    let parts = id_parts ys (identity (image_in xs)) at_ys in
    record {
      valid = parts.0;
      size = sym (size_valid ys parts.0) ∙ ap (λ (i : Identity). i.size) parts.1 ∙ size;
      id = at_ys ∙ sym at_xs;
      prefix = prefix;
    }

-- and on to a third list
pub same_then : (xs ys zs : List ℕ) → SameImage xs ys → SameImage ys zs → SameImage xs zs
same_then xs ys zs one two = grind arith

-- bytes that begin with the valid image of a list of bytes
pub record HasImage (ys : List ℕ) : Type 0 where
  pub image : List ℕ
  pub bytes : IsBytes image
  pub valid : is_valid image ≡ true
  pub same : SameImage image ys

pub same_image : (ys zs : List ℕ) → ImageLaws → HasImage ys → image_size ys ≤ length ys → image_size ys ≤ length zs → ((i : ℕ) → i < image_size ys → slice_index zs i ≡ slice_index ys i)
    → SameImage ys zs
same_image ys zs laws has at_ys at_zs same =
    let prefix : take (image_size ys) zs ≡ take (image_size ys) ys = same_prefixes ys zs (image_size ys) at_ys at_zs same in
    let one = has.same in
    let two = image_prefix has.image zs laws has.bytes has.valid (ap (λ n. take n zs) (sym one.size) ∙ prefix ∙ ap (λ n. take n ys) one.size ∙ one.prefix) in
    record { valid = two.valid; size = two.size ∙ sym one.size; id = two.id ∙ sym one.id; prefix = prefix }

pub has_same : (ys zs : List ℕ) → HasImage ys → SameImage ys zs → HasImage zs
has_same ys zs has same = record { image = has.image; bytes = has.bytes; valid = has.valid; same = same_then has.image ys zs has.same same }

-- The image that a slot's bytes begin with, by what reading and judging answer.

pub size_refused : (b : List ℕ) (e : ImageError) → first_fault b ≡ Some e → 0 ≡ image_size b
unfolding image_size
size_refused b e some = rw some refl

-- an image whose digest is right is valid
pub id_good : (b : List ℕ) → first_fault b ≡ None → IsGood (image_in b) → id_of b ≡ Some (identity (image_in b))
unfolding id_of is_valid is_good
id_good b none good = rw none (rw ((bytes_eq-Decides (digest_of (image_in b)) (sha256 (covered_text (image_in b)))).1 good) refl)

not_good : (b : List ℕ) (t : Bool) → is_good (image_in b) ≡ t → (IsGood (image_in b) → ⊥) → t ≡ false
unfolding is_good
not_good b it is bad = grind (arith, bytes_eq-Decides)

pub id_bad : (b : List ℕ) → first_fault b ≡ None → (IsGood (image_in b) → ⊥) → id_of b ≡ None
unfolding id_of is_valid
id_bad b none bad = rw none (rw (not_good b (is_good (image_in b)) refl bad) refl)

pub id_refused : (b : List ℕ) (e : ImageError) → first_fault b ≡ Some e → id_of b ≡ None
unfolding id_of is_valid
id_refused b e some = rw some refl

-- valid bytes are those that have an identity
pub valid_id : (b : List ℕ) → is_some (id_of b) ≡ is_valid b
unfolding id_of
valid_id b = grind arith

pub valid_held : (b : List ℕ) (o : Option ImageId) → option_map identity_of o ≡ id_of b → is_some o ≡ is_valid b
valid_held b o is = sym (grind arith) ∙ ap (λ (x : Option Identity). is_some x) is ∙ valid_id b

-- what a new swap asks of the slots, by its parts
images_are : (s : Content) (valid : Bool) (size : ℕ) → valid ≡ is_valid s.secondary → size ≡ max (image_size s.primary) (image_size s.secondary) → record { valid = valid; size = size } ≡ images_of s
unfolding images_of
images_are s valid size valid_is size_is = grind arith

module _ (s : Content) (first second : List ℕ) (at_first : first ≡ s.primary) (at_second : second ≡ s.secondary) where
  larger : (size size2 most : ℕ) → size ≡ image_size first → size2 ≡ image_size second → most ≡ max size size2 → most ≡ max (image_size s.primary) (image_size s.secondary)
  larger size size2 most size_is size2_is most_is = grind arith

  -- by what was read of them
  pub images_read : (size : ℕ) (held : Held) (images : Images) → size ≡ image_size first → held.size ≡ image_size second → option_map identity_of held.id ≡ id_of second
      → images.valid ≡ is_some held.id → images.size ≡ max size held.size → images ≡ images_of s
  images_read size held images size_is held_is id_is valid_is max_is =
      images_are s images.valid images.size (valid_is ∙ valid_held second held.id id_is ∙ ap is_valid at_second) (larger size held.size images.size size_is held_is max_is)

-- the size of an image that was distinguished
pub known_size : (b : List ℕ) (id : ImageId) → id_of b ≡ Some (identity_of id) → id.size ≡ image_size b
known_size b id is =
    let parts = id_parts b (identity_of id) is in
    ap (λ (i : Identity). i.size) (sym parts.1) ∙ size_valid b parts.0
