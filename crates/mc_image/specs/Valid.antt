-- The first fault of some bytes, by eleven conditions in order: what the image format asks of header, body and areas, in
-- this project's own order of judging.
use Rattle.std.specs.Prelude.{Bool, List, None, Option, Some, [], drop, false, if◌then◌else◌, is_none, length, nat_lt, not, true, ℕ, ◌&&◌, ◌==◌, ◌||◌, ◌∷◌}
use Rattle.std.specs.Str.{bytes_eq}
use Rattle.mc_image.specs.Image.{Begins, Image, IsGood, after_body, area_in, covered_text, digest_of, digests, entries_in, entries_of, image_in, image_text, protected_end, protected_in, u16_at, u32_at}
use Rattle.mc_image.specs.declared.error.ImageError.{ImageError}
use Rattle.mc_image.specs.declared.error.ImageError.TheVariants.{BadHeaderSize, BadMagic, BadProtected, BadTlvLength, BadTlvMagic, DigestLength, ManyDigests, NoDigest, Truncated, TruncatedBody, UnsupportedFlags, WrongDigest}
use Rattle.mc_image.specs.declared.version.Version.{Version}
use Rattle.sha2.specs.Sha256.{sha256}

-- an error where a condition holds
abbrev pub fault_if : Bool → ImageError → Option ImageError
fault_if true e = Some e
fault_if false e = None

-- the first of two faults
infixr 10 ◌<+>◌
abbrev pub ◌<+>◌ : Option ImageError → Option ImageError → Option ImageError
(Some e) <+> other = Some e
None <+> other = other

-- 1 to 4
unfoldable pub header_fault : List ℕ → Option ImageError
header_fault b =
    fault_if (nat_lt (length b) 32) Truncated
    <+> fault_if (not (u32_at 0 b == 0x96f3b83d)) BadMagic
    <+> fault_if (nat_lt (u16_at 8 b) 32) BadHeaderSize
    <+> fault_if (not (u32_at 16 b == 0)) UnsupportedFlags

-- the bytes are no area of this magic that they fill exactly
unfoldable pub is_bad_area : ℕ → List ℕ → Bool
is_bad_area magic area =
    nat_lt (length area) 4 || (not (u16_at 0 area == magic) || (not (u16_at 2 area == length area) || is_none (entries_of (drop 4 area))))

-- 5
unfoldable pub body_fault : List ℕ → Option ImageError
body_fault b = fault_if (nat_lt (length b) (protected_end b)) TruncatedBody

-- 6
unfoldable pub protected_fault : List ℕ → Option ImageError
protected_fault b = fault_if (not (u16_at 10 b == 0) && is_bad_area 0x6908 (protected_in b)) BadProtected

-- 7 and 8, of what follows the protected area
unfoldable pub plain_fault : List ℕ → Option ImageError
plain_fault bytes =
    fault_if (nat_lt (length bytes) 4 || not (u16_at 0 bytes == 0x6907)) BadTlvMagic
    <+> fault_if (nat_lt (u16_at 2 bytes) 4 || (nat_lt (length bytes) (u16_at 2 bytes) || is_none (entries_of (drop 4 (area_in bytes))))) BadTlvLength

-- 9 to 11, of the values of the digest's type
abbrev pub digest_fault : List (List ℕ) → Option ImageError
digest_fault [] = Some NoDigest
digest_fault (d ∷ []) = fault_if (not (length d == 32)) DigestLength
digest_fault (d ∷ e ∷ ds) = Some ManyDigests

-- the first of the eleven
unfoldable pub first_fault : List ℕ → Option ImageError
first_fault b =
    header_fault b
    <+> body_fault b
    <+> protected_fault b
    <+> plain_fault (after_body b)
    <+> digest_fault (digests (entries_in (drop 4 (area_in (after_body b)))))

-- Valid images (MCUboot's image format, entry type 0x10; FIPS 180-4), and what distinguishes them.

-- an image is spelled at the start of the bytes, and its digest is that of what it covers
pub record IsValid (b : List ℕ) : Type 0 where
  pub image : Image
  pub begins : Begins b image
  pub good : IsGood image

-- what distinguishes valid images
pub record Identity : Type 0 where
  pub version : Version
  pub size : ℕ
  pub digest : List ℕ

-- the identity of an image
abbrev pub identity : Image → Identity
identity v = record { version = v.version; size = length (image_text v); digest = digest_of v }

-- the digest of an image is right, as a test
unfoldable pub is_good : Image → Bool
is_good v = bytes_eq (digest_of v) (sha256 (covered_text v))

-- the bytes begin with a valid image, as a test
unfoldable pub is_valid : List ℕ → Bool
is_valid b = is_none (first_fault b) && is_good (image_in b)

-- the identity of the valid image that the bytes begin with
unfoldable pub id_of : List ℕ → Option Identity
id_of b = if is_valid b then Some (identity (image_in b)) else None

-- the first of all faults, the wrong digest the last
unfoldable pub image_fault : List ℕ → Option ImageError
image_fault b = first_fault b <+> fault_if (not (is_good (image_in b))) WrongDigest
