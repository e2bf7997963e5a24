-- What is said of a list of bytes as an image: its first fault, or version, size and digest.
use Rattle.std.specs.Prelude.{Err, List, None, Ok, Option, Result, Some, length, ℕ}
use Rattle.mc_image.specs.{Image.{Image, digest_of, image_in, image_text}, Valid.{image_fault}}
use Rattle.mc_image.specs.{declared.error.ImageError.{ImageError}, declared.judge.Judged.{Judged}}

-- what is known of a valid image
abbrev pub judged_of : Image → Judged
judged_of v = record { version = v.version; size = length (image_text v); digest = digest_of v }

-- the first fault, or what is known of the image
abbrev pub judged_or_fault : Image → Option ImageError → Result Judged ImageError
judged_or_fault v None = Ok (judged_of v)
judged_or_fault v (Some e) = Err e

-- the answer for some bytes: the first of all faults, the wrong digest the last, or what is known of the image at their start
unfoldable pub verdict : List ℕ → Result Judged ImageError
verdict bytes = judged_or_fault (image_in bytes) (image_fault bytes)
