-- The images of a start, the boot before a revert, and the room of a schedule.
use Rattle.std.proofs.{Common.{ap, arith, sym, ◌∙◌}, lemmas.List.{drop-drop, drop-replicate, drop-set-lt, length-take-le}}
use Rattle.std.specs.Prelude.{Bool, List, None, Option, Some, [], drop, length, option_map, refl, replicate, slice_set, take, ℕ, ◌+◌, ◌-◌, ◌<◌, ◌≡◌, ◌≤◌}
use Rattle.mc_boot.specs.{Boot.{HasCome, Progress, left_of}, Outcome.{left_by}, Plan.{identity_of, image_size, plain, power_on, powered}}
use Rattle.mc_boot.specs.{declared.image.ImageId.{ImageId}, declared.image.ImageId.{ImageId}, declared.kind.Kind.{Kind}, facts.Run.{come_left}, facts.Sizes.{size_read}}
use Rattle.mc_flash.specs.{Flash.{Content}, Geometry.{Geometry}, Usage.{Allows, Loads, Seen, Usage, most_operations, most_saved}, inner.Room.{zeros_after}}
use Rattle.mc_image.specs.{Image.{Begins, Image, image_in, image_text}, Valid.{Identity, first_fault, id_of, image_fault, ◌<+>◌}}
use Rattle.mc_image.specs.{declared.error.ImageError.{ImageError}, facts.Valid.{prefix_within}}
use Rattle.mc_start.specs.{Start.{IsKnown, in_order, named_ids}, facts.Room.{limits_are}}
use Rattle.mc_boot.specs.declared.kind.Kind.TheVariants as kinds

-- What is known of some bytes is known of those that are the same.
pub known : (bytes same : List ℕ) (o : Option ImageId) → option_map identity_of o ≡ id_of bytes → same ≡ bytes → IsKnown same o
known bytes same None given is = tt
known bytes same (Some id) given is = ap id_of is ∙ sym given

-- The size of the valid image that some bytes begin with.

none_first : (o p : Option ImageError) → (o <+> p) ≡ None → o ≡ None
none_first None p is = refl
none_first (Some e) p is = absurd cc

-- Bytes without any fault have none of structure.
pub no_fault : (b : List ℕ) → image_fault b ≡ None → first_fault b ≡ None
unfolding image_fault
no_fault b is = none_first (first_fault b) _ is

-- The image that was read has that size, and its bytes are the prefix of that size.
pub read_size : (b : List ℕ) (v : Image) → image_fault b ≡ None → v ≡ image_in b → length (image_text v) ≡ image_size b
read_size b v fine is = ap (λ (w : Image). length (image_text w)) is ∙ size_read b (no_fault b fine)

pub read_prefix : (b : List ℕ) (v : Image) (size : ℕ) → image_fault b ≡ None → v ≡ image_in b → Begins b v → size ≡ length (image_text v)
    → (length (take size b) ≡ image_size b) × (take size b ≡ take (image_size b) b)
read_prefix b v size fine is begins size_is = grind (arith, read_size, length-take-le, prefix_within)

-- The identities of two valid images, the named one first.
pub names : (kind : Kind) (a b : List ℕ) (x y : Identity) → id_of a ≡ Some x → id_of b ≡ Some y → Some (in_order kind x y) ≡ named_ids kind a b
names kinds.None a b x y first second = rw first (rw second refl)
names kind a b x y first second = rw first (rw second refl)

abbrev pub pair : Identity → Identity → Identity × Identity
pair x y = (x, y)

pub given_ids : (kind : Kind) (p : ImageId × ImageId) (i j : ImageId) (x y : Identity) → p ≡ in_order kind i j → identity_of i ≡ x → identity_of j ≡ y
    → pair (identity_of p.0) (identity_of p.1) ≡ in_order kind x y
given_ids kinds.None p i j x y is first second = cc
given_ids kind p i j x y is first second = cc

-- The boot of a flash that was just loaded, for a start that is what it leaves.

module _ (counted : Bool) (g : Geometry) (primary secondary : List ℕ) (f : Seen) where
  -- It has room for a boot.
  pub allows : (p : Progress) → Loads counted g primary secondary plain.grain 1 f → length p.to_come ≤ most_operations plain.grain f.geometry → (left_of f.geometry p).saved ≤ most_saved f.geometry
      → Allows (left_of f.geometry p) f
  allows p l at_most saves =
      let limits = limits_are plain.grain g 1 f.usage.limits l.room in
      let entries = ap (λ x. most_operations plain.grain x) l.geometry_is in
      let saved = ap most_saved l.geometry_is in
      record {
        entries = omega (arith, at_most, entries, limits.for_entries, ap (λ (x : Usage). x.counts.entries) l.usage_is);
        saved = omega (arith, saves, saved, limits.for_saved, ap (λ (x : Usage). x.counts.saved) l.usage_is);
      }

  -- What the uncut boot leaves.
  pub left_here : (p : Progress) (new : Seen) (v : Content) → Loads counted g primary secondary plain.grain 1 f → HasCome (powered plain f) p new.content → p.to_come ≡ [] → v ≡ new.content
      → left_by (power_on plain g (record { primary = primary; secondary = secondary })) ≡ Some v
  left_here p new v l come end same =
      ap (λ (x : Geometry). left_by (power_on plain x (record { primary = primary; secondary = secondary }))) (sym l.geometry_is) ∙ ap (λ s. left_by (power_on plain f.geometry s)) (sym l.content_is)
      ∙ come_left (powered plain f) p new.content come end ∙ ap (λ (x : Content). Some x) (sym same)

-- The fixed room of a schedule: after its cuts stand zeros.

-- Zeros stand after one cut more.
pub zeros_beyond : (cuts : List ℕ) (n c : ℕ) → n < 16 → drop n cuts ≡ zeros_after n → drop (n + 1) (slice_set cuts n c) ≡ zeros_after (n + 1)
zeros_beyond cuts n c room zeros =
    drop-set-lt (n + 1) cuts n c (omega arith)
    ∙ sym (drop-drop 1 n cuts)
    ∙ ap (drop 1) zeros
    ∙ drop-replicate 1 (16 - n) 0
    ∙ ap (λ k. replicate k 0) (omega arith)
