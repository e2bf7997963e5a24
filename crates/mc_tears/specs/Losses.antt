-- The distinct flashes that losses of power leave, before operations and within them, each with the first losses that leave it
-- (docs/FORMAT.md, "Vectors"): this project's own.
use Rattle.std.specs.Prelude.{AllPairs, Contains, List, None, Option, Some, [], codes, decimal, flat_map, length, map, option_and_then, ℕ, ⊤, ◌*◌, ◌++◌, ◌+◌, ◌∷◌, ◌≡◌, ◌≢◌, ◌≤◌}
use Rattle.mc_boot.specs.{Outcome.{cut_at, left_by, outcome_of, shown}, Plan.{PowerOn, again}}
use Rattle.mc_flash.specs.{Flash.{Content, IsSized}, Geometry.{IsLayout}}
use Rattle.hex.specs.Hex.{encode_lower}
use Rattle.mc_tear.specs.{Laws.{EndAlike, ImagesApart, TearsSafely}, Readings.{reading_text}, declared.reading.Entry.{Entry}, declared.reading.Reading.{Reading}, declared.torn.Erasing.{Erasing}}
use Rattle.mc_tears.specs.{Tears.{case_flash}, declared.loss.Loss.{Loss}, declared.losses.LostCase.{LostCase}}
use Rattle.mc_trailer.specs.{declared.trailer.Flag.{Flag}, declared.trailer.Magic.{Magic}}
use Rattle.mc_vectors.specs.{Cases.{ComesBefore, IsNoLater, flash_digest}, Table.{ended_text, field, names_text}}
use Rattle.mc_tear.specs.declared.reading.Entry.TheVariants as entries
use Rattle.mc_trailer.specs.declared.trailer.Flag.TheVariants as flags
use Rattle.mc_trailer.specs.declared.trailer.Magic.TheVariants as magics

-- ---- a loss of power, and losses one after another

-- What a loss in the boot from x leaves, if it can occur: before operation n, or within it, of which the next boot reads so.
abbrev pub lost_at : Erasing → PowerOn → ℕ → Option Reading → Option Content
lost_at e x n None = cut_at x n
lost_at e x n (Some r) = case_flash e x n r

abbrev pub lost : Erasing → PowerOn → Loss → Option Content
lost e x l = lost_at e x l.operation l.within

-- Loss after loss, each in the boot from what the one before it left.
abbrev pub after_losses : Erasing → PowerOn → List Loss → Option Content
after_losses e x [] = Some x.content
after_losses e x (l ∷ more) = option_and_then (λ t. after_losses e (again x t) more) (lost e x l)

-- ---- their order

-- The number of a reading in the order of readings: by the magic, image-ok, copy-done and the entry.
abbrev pub magic_digit : Option Magic → ℕ
magic_digit None = 0
magic_digit (Some magics.Good) = 1
magic_digit (Some magics.Unset) = 2
magic_digit (Some magics.Bad) = 3

abbrev pub flag_digit : Option Flag → ℕ
flag_digit None = 0
flag_digit (Some flags.Set) = 1
flag_digit (Some flags.Unset) = 2
flag_digit (Some flags.Bad) = 3

abbrev pub entry_digit : Option Entry → ℕ
entry_digit None = 0
entry_digit (Some entries.Unset) = 1
entry_digit (Some entries.Written) = 2

abbrev pub reading_number : Reading → ℕ
reading_number r = 48 * magic_digit r.magic + (12 * flag_digit r.image_ok + (3 * flag_digit r.copy_done + entry_digit r.entry))

-- The losses of one boot are ordered by operation: first the one before it, then those within it, by what is read.
abbrev pub within_number : Option Reading → ℕ
within_number None = 0
within_number (Some r) = reading_number r + 1

abbrev pub loss_number : Loss → ℕ
loss_number l = 193 * l.operation + within_number l.within

abbrev pub numbers_of : List Loss → List ℕ
numbers_of losses = map loss_number losses

-- ---- the flashes that they leave

-- What a case says is so: its losses leave a flash of that digest, and the uncut boot from there has that outcome and leaves a flash of that
-- digest.
pub record IsLostCase (e : Erasing) (x : PowerOn) (c : LostCase) : Type 0 where
  pub flash : Content
  pub left : Content
  pub leaves : after_losses e x c.losses.items ≡ Some flash
  pub digest_is : c.digest ≡ flash_digest x.geometry flash
  pub outcome_is : outcome_of (again x flash) ≡ Some (shown c.outcome)
  pub left_is : left_by (again x flash) ≡ Some left
  pub left_digest_is : c.left ≡ flash_digest x.geometry left

-- Two flashes that losses leave have one digest only where they are one.
abbrev pub HasNoCollision : Erasing → PowerOn → Type 0
HasNoCollision e x =
    (l m : List Loss) (u v : Content)
    → after_losses e x l ≡ Some u → after_losses e x m ≡ Some v → flash_digest x.geometry u ≡ flash_digest x.geometry v → u ≡ v

-- The flash that such losses leave is that of a case, whose own losses are no later: the fewer come before the more, and of as many those of
-- the lower numbers.
abbrev pub Covers : Erasing → PowerOn → (List Loss → Type 0) → List LostCase → Type 0
Covers e x IsAsked cases =
    (l : List Loss) (u : Content) → IsAsked l → after_losses e x l ≡ Some u
    → (c : LostCase) × Contains cases c × (after_losses e x c.losses.items ≡ Some u) × IsNoLater (numbers_of c.losses.items) (numbers_of l)

-- Whatever flash as many losses leave, that any torn operations may leave: the boot that is then left alone ends as from the flash of a case,
-- where each boot asks safely for images, and none in what is left at the end depends on a trailer.
abbrev pub EndsAsOne : Erasing → PowerOn → (List Loss → Type 0) → List LostCase → Type 0
EndsAsOne e x IsAsked cases =
    (cuts : List ℕ) (v z : Content) → ((l : List Loss) → length l ≡ length cuts → IsAsked l)
    → IsLayout x.geometry → IsSized x.geometry x.content → TearsSafely e x cuts v → left_by (again x v) ≡ Some z → ImagesApart x.geometry z
    → (c : LostCase) × (u : Content) × Contains cases c × (after_losses e x c.losses.items ≡ Some u) × EndAlike (again x v) (again x u)

-- The flashes that such losses leave, each once, in the order of their first losses; and all ends of such losses.
pub record AreLostCases (e : Erasing) (x : PowerOn) (IsAsked : List Loss → Type 0) (cases : List LostCase) : Type 0 where
  pub each : (c : LostCase) → Contains cases c → IsLostCase e x c × IsAsked c.losses.items
  pub sorted : AllPairs (λ c d. ComesBefore (numbers_of c.losses.items) (numbers_of d.losses.items)) cases
  pub distinct : AllPairs (λ c d. c.digest ≢ d.digest) cases
  pub all : HasNoCollision e x → Covers e x IsAsked cases
  pub ends : HasNoCollision e x → EndsAsOne e x IsAsked cases

-- Of at most so many losses; and of any number.
abbrev pub AtMost : ℕ → List Loss → Type 0
AtMost bound l = length l ≤ bound

abbrev pub AnyLosses : List Loss → Type 0
AnyLosses l = ⊤

-- ---- how they are written

-- A loss: its operation, and behind `~` what is read where power is lost within it.
abbrev pub within_text : Option Reading → List ℕ
within_text None = []
within_text (Some r) = codes "~" ++ reading_text r

abbrev pub loss_text : Loss → List ℕ
loss_text l = decimal l.operation ++ within_text l.within

-- More losses, each with a point before it; and all, or `-` where there is none.
abbrev pub next_text : Loss → List ℕ
next_text l = codes "." ++ loss_text l

abbrev pub losses_text : List Loss → List ℕ
losses_text [] = codes "-"
losses_text (l ∷ more) = loss_text l ++ flat_map next_text more

-- A case: a line of the table, as one of a schedule.
abbrev pub digest_text : LostCase → List ℕ
digest_text c = codes "\t" ++ field (encode_lower c.digest)

abbrev pub lost_text : LostCase → List ℕ
lost_text c = losses_text c.losses.items ++ (digest_text c ++ ended_text (shown c.outcome) c.left)

abbrev pub table_text : List LostCase → List ℕ
table_text cases = names_text ++ flat_map lost_text cases
