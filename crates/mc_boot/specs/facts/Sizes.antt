-- The size that is read of an image. Proved here, so that the crates above can cite it.
use Rattle.std.specs.Prelude.{◌≡◌, ℕ, List, length, None, refl}
use Rattle.mc_image.specs.{Valid.{first_fault}, Image.{image_in, image_text}}
use Rattle.mc_boot.specs.Plan.{image_size}

pub size_read : (b : List ℕ) → first_fault b ≡ None → length (image_text (image_in b)) ≡ image_size b
unfolding image_size
size_read b none = rw none refl
