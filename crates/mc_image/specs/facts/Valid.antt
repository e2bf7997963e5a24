-- What follows for valid images. Proved here, so that the crates above can cite it.
use Rattle.std.specs.Prelude.{◌≡◌, ℕ, ◌≤◌, true, false, List, length}
use Rattle.std.proofs.{Common.{arith, ap, length-append}, lemmas.Slice.Eq.{bytes_eq-Decides}}
use Rattle.sha2.specs.Sha256.{sha256}
use Rattle.mc_image.specs.{Image.{Begins, Image, IsGood, covered_text, digest_of, image_text}, Valid.{is_good}}

-- An image is no longer than the bytes that begin with it.
pub prefix_within : (b : List ℕ) (v : Image) → Begins b v → length (image_text v) ≤ length b
prefix_within b v begins = omega (arith, ap (λ (xs : List ℕ). length xs) begins.prefix.1, length-append (image_text v) begins.prefix.0)

-- The test of a digest decides.
pub test_good : (v : Image) → is_good v ≡ true → IsGood v
unfolding is_good
test_good v e = (bytes_eq-Decides (digest_of v) (sha256 (covered_text v))).0 e

pub good_true : (v : Image) → IsGood v → is_good v ≡ true
unfolding is_good
good_true v g = (bytes_eq-Decides (digest_of v) (sha256 (covered_text v))).1 g

pub good_false : (v : Image) → (IsGood v → ⊥) → is_good v ≡ false
unfolding is_good
good_false v h = grind (arith, test_good)
