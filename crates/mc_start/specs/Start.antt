-- Starts of an exploration, what is refused of them, and the texts of layouts and schedules (docs/MODEL.md, "Start flashes").
use Rattle.std.specs.Prelude.{All, Err, IfSome, IsOk, List, None, Ok, Option, Result, Some, [], codes, decimal, drop, if◌then◌else◌, length, take, ℕ, ◌&&◌, ◌++◌, ◌+◌, ◌-◌, ◌<◌, ◌==◌, ◌^◌, ◌∷◌, ◌≡◌, ◌≤◌}
use Rattle.mc_boot.specs.{Plan.{PowerOn, identity_of, image_size, plain, power_on}, Restart.{named, other, start_flash}, declared.image.ImageId.{ImageId}}
use Rattle.mc_boot.specs.declared.kind.Kind.{Kind}
use Rattle.mc_flash.specs.{Flash.{Content, size_of}, Geometry.{Geometry, fits}, declared.op.Slot.TheVariants.{Primary, Secondary}}
use Rattle.mc_image.specs.{Valid.{Identity, id_of, image_fault}, declared.error.ImageError.{ImageError}}
use Rattle.mc_output.specs.Text.{joined}
use Rattle.mc_start.specs.{declared.schedule.ScheduleError.{ScheduleError}, declared.start.StartError.{StartError}}
use Rattle.mc_trailer.specs.declared.tables.Rules.{Rules}
use Rattle.sha2.specs.Sha256.{sha256}
use Rattle.mc_start.specs.declared.start.StartError.TheVariants as errors
use Rattle.mc_output.specs.Text as joining
use Rattle.mc_boot.specs.declared.kind.Kind.TheVariants as starts

-- The texts of layouts and schedules: this project's own.

-- The six numbers of a layout.
abbrev pub layout_line : Geometry → List ℕ
layout_line g =
    (codes "sector=" ++ (decimal g.sector ++ (codes " unit=" ++ (decimal g.unit ++ (codes " max=" ++ decimal g.max_sectors)))))
    ++ (codes " chunk=" ++ (decimal g.chunk ++ (codes " primary=" ++ (decimal g.primary ++ (codes " secondary=" ++ decimal g.secondary)))))

-- `-` for no cut, else the cuts with points between them.
abbrev pub schedule_text : List ℕ → List ℕ
schedule_text cuts = joined (codes ".") decimal cuts

-- At most 16 cuts, each below 2^32.
pub record IsSchedule (l : List ℕ) : Type 0 where
  pub at_most : length l ≤ 16
  pub small : All (λ c. c < 2 ^ 32) l

-- A text is read as the schedule of that text, and is refused where it is that of none.
abbrev pub ReadsSchedule : List ℕ → Result (List ℕ) ScheduleError → Type 0
ReadsSchedule text (Ok l) = text ≡ schedule_text l
ReadsSchedule text (Err _) = (l : List ℕ) → IsSchedule l → text ≡ schedule_text l → ⊥

-- A cut that can be added: there are fewer than 16 before it.
pub record FitsCut (before : List ℕ) (cut : ℕ) : Type 0 where
  pub room : length before < 16
  pub small : cut < 2 ^ 32

-- The cut that a text writes stands after others.
abbrev pub IsAdded : List ℕ → List ℕ → List ℕ → Type 0
IsAdded old text new = joining.IsAdded decimal FitsCut old text new

-- A list with its last element changed.
abbrev pub on_last : {A : Type 0} → (A → A) → List A → List A
on_last change [] = []
on_last change (x ∷ []) = change x ∷ []
on_last change (x ∷ y ∷ xs) = x ∷ on_last change (y ∷ xs)

-- Where a text ends with a digit below 9, the other ends with the next digit, and is the same before it.
abbrev pub IsNextText : List ℕ → List ℕ → Type 0
IsNextText text next = (front : List ℕ) (digit : ℕ) → text ≡ front ++ digit ∷ [] → 48 ≤ digit → digit < 57 → next ≡ front ++ (digit + 1) ∷ []

-- The starts of an exploration: from two images, or from the bytes of both slots.

-- The first refusal of two images, or none: a fault of the first, one of the second, or that one of them does not fit.
abbrev pub refusal_of : Geometry → List ℕ → List ℕ → Option StartError
refusal_of g a b = in_first (image_fault a)
  where
    in_second : Option ImageError → Option StartError
    in_second (Some e) = Some (errors.ImageB e)
    in_second None =
        if fits g (image_size a) && fits g (image_size b) then None else Some errors.DoesNotFit

    in_first : Option ImageError → Option StartError
    in_first (Some e) = Some (errors.ImageA e)
    in_first None = in_second (image_fault b)

-- A start: the layout, the rules of the boots from there on, and the flash; also its two images where it was made of them, that is
-- what distinguishes the named one, and the other one.
pub record Started : Type 0 where
  pub geometry : Geometry
  pub rules : Rules
  pub content : Content
  pub named : Option (Identity × Identity)

-- What its first boot begins with.
abbrev pub begun : Started → PowerOn
begun s = power_on s.rules s.geometry s.content

-- The named one first.
abbrev pub in_order : {A : Type 0} → Kind → A → A → A × A
in_order starts.None a b = (a, b)
in_order starts.Test a b = (b, a)
in_order starts.Perm a b = (b, a)
in_order starts.Revert a b = (b, a)

abbrev both : Option Identity → Option Identity → Option (Identity × Identity)
both (Some x) (Some y) = Some (x, y)
both _ _ = None

-- The identities of the named image and of the other, of two valid images.
abbrev pub named_ids : Kind → List ℕ → List ℕ → Option (Identity × Identity)
named_ids kind a b = both (id_of (named kind a b)) (id_of (other kind a b))

-- The start of two images: it has the defined flash, and whole calls and the first profile are its rules. Where there is
-- none the first refusal is answered. An allocation failed only for images that are not refused.
abbrev pub Starts : Geometry → Kind → List ℕ → List ℕ → Result Started StartError → Type 0
Starts g kind a b (Ok s) =
    (refusal_of g a b ≡ None) × (s.geometry ≡ g) × (s.rules ≡ plain) × (start_flash g kind a b ≡ Some s.content)
    × (s.named ≡ named_ids kind a b)
Starts g kind a b (Err errors.Memory) = refusal_of g a b ≡ None
Starts g kind a b (Err e) = refusal_of g a b ≡ Some e

-- The flash of the bytes of both slots, the primary's first.
abbrev pub of_flash : Geometry → List ℕ → Result Content StartError
of_flash g bytes =
    if length bytes == size_of g Primary + size_of g Secondary
    then Ok (record { primary = take (size_of g Primary) bytes; secondary = drop (size_of g Primary) bytes })
    else Err errors.FlashSize

-- The start of bytes, in the same way. It names no images. An allocation failed only for bytes of the right length.
abbrev pub Gives : Geometry → Result Started StartError → Result Content StartError → Type 0
Gives g (Ok s) wanted = (s.geometry ≡ g) × (s.rules ≡ plain) × (wanted ≡ Ok s.content) × (s.named ≡ None)
Gives g (Err errors.Memory) wanted = IsOk wanted
Gives g (Err e) wanted = wanted ≡ Err e

-- What distinguishes starts in a cursor: the digest of the layout's line with its line feed, and then the bytes of both slots.
abbrev pub start_digest : PowerOn → List ℕ
start_digest s = sha256 (((layout_line s.geometry ++ 10 ∷ []) ++ s.content.primary) ++ s.content.secondary)

-- What is known of the slots that a start has.

-- Where an identity is given of some bytes, they begin with that valid image.
abbrev pub IsKnown : List ℕ → Option ImageId → Type 0
IsKnown bytes id = IfSome id (λ i. id_of bytes ≡ Some (identity_of i))

-- What is done to the cuts of a schedule.

-- The first number so much lower, 0 at the least.
abbrev pub lowered : ℕ → List ℕ → List ℕ
lowered by [] = []
lowered by (x ∷ xs) = (x - by) ∷ xs
