-- The starts of two images are flashes that a device can be delivered with.
use Rattle.std.specs.{Prelude.{◌≡◌, ℕ, zero, suc, ◌-◌, ◌≤◌, nat_lt, true, List, [], ◌∷◌, ◌++◌, length, replicate, take, slice_index, refl}, List.{list_all}}
use Rattle.std.proofs.{Common.{arith, sym}, lemmas.Bool.{ltb-true}, lemmas.List.{get_or-append_right, get_or_append_left, get_or_past}}
use Rattle.mc_boot.proofs.Images.{ImageLaws}
use Rattle.mc_boot.proofs.Starts.{Holding, image_short, length-filled, primary_image, perm_holds, placed_holds, placed_unasked, test_holds}
use Rattle.mc_boot.proofs.Wearing.{erased_bytes, put_bytes}
use Rattle.mc_boot.specs.{Plan.{image_size}, Life.{IsDelivered, StartsLaw, is_at_rest}}
use Rattle.mc_boot.specs.Restart.{BeginsImage, filled, image_bytes, perm_flash, placed, start_flash, test_flash}
use Rattle.mc_boot.specs.declared.kind.Kind.TheVariants as starts
use Rattle.mc_flash.specs.{facts.Changes.{length-put, same_content}, Flash.{Content, put, size_of}, facts.Layouts.{data_before_trailer}}
use Rattle.mc_flash.specs.{Geometry.{Geometry, IsLayout}, declared.op.Slot.{Slot}, declared.op.Slot.TheVariants.{Primary, Secondary}}
use Rattle.mc_image.specs.Image.{IsBytes}
use Rattle.mc_trailer.specs.{facts.Fields.{reads_absent}, facts.Places.{place_inside}, Trailer.{trailer_of, magic_bytes, place}}
use Rattle.mc_trailer.specs.declared.places.Field.TheVariants as field
use Rattle.mc_trailer.specs.declared.trailer.Magic.TheVariants as magics
use Rattle.mc_trailer.specs.{declared.trailer.Trailer.{Trailer}, facts.Tables.{and_parts}}

-- bytes, by a test of each
small_each : (xs : List ℕ) → list_all (λ b. nat_lt b 256) xs ≡ true → IsBytes xs
small_each [] all i = let none : slice_index [] i ≡ 0 = get_or_past [] i 0 (omega arith) in omega (arith, none)
small_each (x ∷ xs) all zero = ltb-true x 256 (and_parts (nat_lt x 256) (list_all (λ b. nat_lt b 256) xs) all).0
small_each (x ∷ xs) all (suc i) = small_each xs (and_parts (nat_lt x 256) (list_all (λ b. nat_lt b 256) xs) all).1 i

append_bytes : (xs ys : List ℕ) → IsBytes xs → IsBytes ys → IsBytes (xs ++ ys)
append_bytes xs ys one two i = grind (arith, get_or_append_left, get_or-append_right)

take_bytes : (n : ℕ) (xs : List ℕ) → IsBytes xs → IsBytes (take n xs)
take_bytes zero xs bytes i = let none : slice_index [] i ≡ 0 = get_or_past [] i 0 (omega arith) in omega (arith, none)
take_bytes (suc n) [] bytes i = let none : slice_index [] i ≡ 0 = get_or_past [] i 0 (omega arith) in omega (arith, none)
take_bytes (suc n) (x ∷ xs) bytes zero = bytes 0
take_bytes (suc n) (x ∷ xs) bytes (suc i) = take_bytes n xs (λ j. bytes (suc j)) i

filled_bytes : (g : Geometry) (o : Slot) (xs : List ℕ) → IsBytes xs → IsBytes (filled g o xs)
filled_bytes g o xs bytes = append_bytes xs (replicate (size_of g o - length xs) 255) bytes (erased_bytes (size_of g o - length xs))

-- a primary without a magic
no_magic_rests : (p : Trailer) → p.magic ≡ magics.Unset → is_at_rest p ≡ true
no_magic_rests p absent = rw absent refl

module _ (laws : ImageLaws) (g : Geometry) (a b : List ℕ) (ok : IsLayout g) (at_a : BeginsImage g a) (at_b : BeginsImage g b) where
  from_image : (s : Content) → Holding g a b s → IsBytes s.primary → IsBytes s.secondary → (trailer_of g s Primary).magic ≡ magics.Unset → IsDelivered g s
  from_image s h primary secondary absent =
      let same = primary_image g a b s laws ok at_a h in
      grind (arith, no_magic_rests, absent)

  a_bytes : IsBytes (filled g Primary (image_bytes a))
  a_bytes = filled_bytes g Primary (image_bytes a) (take_bytes (image_size a) a at_a.bytes)

  b_bytes : IsBytes (filled g Secondary (image_bytes b))
  b_bytes = filled_bytes g Secondary (image_bytes b) (take_bytes (image_size b) b at_b.bytes)

  short : length (image_bytes b) ≤ size_of g Secondary
  short = omega (arith, image_short g b Secondary laws ok at_b, data_before_trailer g Secondary ok)

  full : length (filled g Secondary (image_bytes b)) ≡ size_of g Secondary
  full = length-filled g Secondary (image_bytes b) short

  marked : IsBytes (put (filled g Secondary (image_bytes b)) (place g Secondary field.Magic) magic_bytes)
  marked =
      let inside = place_inside g Secondary field.Magic ok in
      put_bytes (filled g Secondary (image_bytes b)) magic_bytes (place g Secondary field.Magic) (omega (arith, inside, full)) b_bytes (small_each magic_bytes refl)

  absent : (trailer_of g (placed g (image_bytes a) (image_bytes b)) Primary).magic ≡ magics.Unset
  absent =
      reads_absent g (placed g (image_bytes a) (image_bytes b)) Primary ok (placed_holds g a b laws ok at_a at_b).sized
      (placed_unasked g a b Primary laws ok at_a at_b field.Magic)

  placed_delivered : IsDelivered g (placed g (image_bytes a) (image_bytes b))
  placed_delivered = from_image (placed g (image_bytes a) (image_bytes b)) (placed_holds g a b laws ok at_a at_b) a_bytes b_bytes absent

  pub test_delivered : IsDelivered g (test_flash g (image_bytes a) (image_bytes b))
  unfolding trailer_of
  test_delivered = from_image (test_flash g (image_bytes a) (image_bytes b)) (test_holds g a b laws ok at_a at_b) a_bytes marked absent

  perm_delivered : IsDelivered g (perm_flash g (image_bytes a) (image_bytes b))
  unfolding trailer_of
  perm_delivered =
      let h = perm_holds g a b laws ok at_a at_b in
      let magic = place_inside g Secondary field.Magic ok in
      let len = length-put (filled g Secondary (image_bytes b)) magic_bytes (place g Secondary field.Magic) (omega (arith, magic, full)) in
      from_image (perm_flash g (image_bytes a) (image_bytes b)) h a_bytes
      (put_bytes (put (filled g Secondary (image_bytes b)) (place g Secondary field.Magic) magic_bytes) (1 ∷ []) (place g Secondary field.ImageOk)
      (omega (arith, len, full)) marked (small_each (1 ∷ []) refl))
      absent

pub starts_law : ImageLaws → StartsLaw
unfolding start_flash
starts_law laws g starts.None a b s ok at_a at_b no_revert start =
    rw (sym (same_content (placed g (image_bytes a) (image_bytes b)) s start)) (placed_delivered laws g a b ok at_a at_b)
starts_law laws g starts.Test a b s ok at_a at_b no_revert start =
    rw (sym (same_content (test_flash g (image_bytes a) (image_bytes b)) s start)) (test_delivered laws g a b ok at_a at_b)
starts_law laws g starts.Perm a b s ok at_a at_b no_revert start =
    rw (sym (same_content (perm_flash g (image_bytes a) (image_bytes b)) s start)) (perm_delivered laws g a b ok at_a at_b)
starts_law laws g starts.Revert a b s ok at_a at_b no_revert start = absurd (no_revert refl)
