-- A device's whole life: boots, power cuts at any of their operations, and what the running image does to the flash, in any number
-- and any order. What a boot then ends in is said of the flash on which the device last rested. docs/LIFE.md says this in words,
-- with the automaton as a table. That a test is taken back unless its image has set image-ok is from MCUboot's design document
-- ("swap types", "image trailer"); what else may happen to the flash, and when, is this project's own choice.
use Rattle.std.specs.Prelude.{◌≡◌, ◌≢◌, ◌⊎◌, ℕ, ◌==◌, Bool, true, false, not, ◌&&◌, ◌||◌, if◌then◌else◌, List, [], ◌∷◌, length, Option, Some, option_map, ◌+◌, ◌≤◌, take}
use Rattle.mc_flash.specs.{Flash.{Content, IsSized, put, size_of, with_bytes, CanTry, apply}, Geometry.{Geometry, IsLayout, fits}, declared.op.Op.{Op}}
use Rattle.mc_flash.specs.{declared.op.Op.TheVariants.{Copy, Erase, Program}, declared.op.Slot.{Slot}, declared.op.Slot.TheVariants.{Primary, Secondary}}
use Rattle.mc_image.specs.{Image.{IsBytes}, Valid.{Identity, id_of, is_valid}}
use Rattle.mc_trailer.specs.Trailer.{trailer_of, place, room}
use Rattle.mc_trailer.specs.declared.places.Field.TheVariants as field
use Rattle.mc_trailer.specs.{Tables.{is_good, is_set, is_unset, reverts_at}, declared.tables.Profile.{Profile}, declared.tables.Rules.{Rules}}
use Rattle.mc_trailer.specs.declared.tables.SwapType.{SwapType}
use Rattle.mc_trailer.specs.declared.tables.SwapType.TheVariants as kinds
use Rattle.mc_trailer.specs.declared.trailer.Trailer.{Trailer}
use Rattle.mc_boot.specs.Restart.{confirmed, may_confirm, start_flash, AreExchanged, BeginsImage, IsSettled, IsTested, forgets_reverts}
use Rattle.mc_boot.specs.{Plan.{image_size, plan, PowerOn, power_on}, Outcome.{outcome_of, cut_at, is_faulted, left_by, ops_of}, declared.kind.Kind.{Kind}}
use Rattle.mc_boot.specs.declared.kind.Kind.TheVariants as starts
use Rattle.mc_boot.specs.declared.outcome.BootResult.{BootResult}
use Rattle.mc_boot.specs.declared.outcome.BootResult.TheVariants as results

-- ---- what a device is like

-- The numbers of the types of a swap, as swap-info has them: test, perm and revert (docs/MODEL.md, "Trailers").
abbrev pub is_swap : ℕ → Bool
is_swap info = info == 2 || info == 3 || info == 4

-- The trailer of no swap under way: a boot that finds it in the primary goes on with none, whatever the secondary holds.
abbrev pub is_at_rest : Trailer → Bool
is_at_rest p = not (is_good p.magic && is_unset p.copy_done && is_swap p.swap_info)

-- A flash that a device can be delivered with: the primary begins with a valid image that fits, and no swap is under way there.
-- The rest of both slots may hold any bytes.
pub record IsDelivered (g : Geometry) (s : Content) : Type 0 where
  pub sized : IsSized g s
  pub primary : IsBytes s.primary
  pub secondary : IsBytes s.secondary
  pub valid : is_valid s.primary ≡ true
  pub fitting : fits g (image_size s.primary) ≡ true
  pub rest : is_at_rest (trailer_of g s Primary) ≡ true

-- ---- what can happen

-- Bytes that a running image may leave in the secondary: any, as many as it has.
pub record AreSecondary (g : Geometry) (bytes : List ℕ) : Type 0 where
  pub sized : length bytes ≡ size_of g Secondary
  pub numbers : IsBytes bytes

-- What can happen to a device (docs/LIFE.md, "What it says"). The power comes on and is lost after so many operations of the boot; it
-- comes on and the boot is left alone; the running image leaves the secondary with these bytes, by erases and writes of any kind and
-- number, whole or not; it confirms itself; a confirmation that is torn leaves these bytes at the primary's image-ok.
pub data Event : Type 0 where
  cut : (count : ℕ) → Event
  boot : Event
  store : (bytes : List ℕ) → Event
  confirm : Event
  mark : (bytes : List ℕ) → Event

-- Where a device is: what its flash contains; what it contained when the device last rested, so that only boots that were cut lie
-- between; and whether an image runs.
pub record Moment : Type 0 where
  pub content : Content
  pub rested : Content
  pub runs : Bool

-- At rest, and an image runs or the power is off.
abbrev pub resting : Content → Bool → Moment
resting s runs = record { content = s; rested = s; runs = runs }

-- The image runs after a boot whose result is to boot.
abbrev pub is_boot : BootResult → Bool
is_boot results.Boot = true
is_boot results.None = false
is_boot results.Panic = false
is_boot results.Fault = false

abbrev pub starts_image : PowerOn → Option Bool
starts_image x = option_map (λ o. is_boot o.result) (outcome_of x)

-- An event leads from one moment to another.
abbrev pub Leads : Rules → Geometry → Moment → Event → Moment → Type 0
Leads r g m (cut c) n =
    (t : Content) × (cut_at (power_on r g m.content) c ≡ Some t) × (n ≡ record { content = t; rested = m.rested; runs = false })
Leads r g m boot n =
    (t : Content) × (runs : Bool) × (left_by (power_on r g m.content) ≡ Some t) × (starts_image (power_on r g m.content) ≡ Some runs)
    × (n ≡ resting t runs)
Leads r g m (store bytes) n = (m.runs ≡ true) × AreSecondary g bytes × (n ≡ resting (with_bytes m.content Secondary bytes) true)
Leads r g m confirm n = (m.runs ≡ true) × (n ≡ resting (confirmed g m.content) true)
Leads r g m (mark bytes) n =
    (m.runs ≡ true) × (is_set (trailer_of g m.content Primary).copy_done ≡ true) × (length bytes ≤ room field.ImageOk)
    × (n ≡ resting (with_bytes m.content Primary (put m.content.primary (place g Primary field.ImageOk) bytes)) true)

-- A list of events, one after the other.
abbrev pub Lives : Rules → Geometry → Moment → List Event → Moment → Type 0
Lives r g m [] n = n ≡ m
Lives r g m (e ∷ events) n = (k : Moment) × Leads r g m e k × Lives r g k events n

-- ---- the life of the images, by name

-- The image of the primary is on trial: a test of it was finished, and it is not confirmed.
abbrev pub is_on_trial : Trailer → Bool
is_on_trial p = is_good p.magic && is_unset p.image_ok && is_set p.copy_done

-- The state of a device at rest, by names (docs/LIFE.md, "The automaton"): the image that the primary begins with, and whether it is on
-- trial; the image that the secondary begins with; and the type that the next boot will have.
pub record DeviceState : Type 0 where
  pub primary : Option Identity
  pub trial : Bool
  pub secondary : Option Identity
  pub next : SwapType

abbrev pub device_state : Rules → Geometry → Content → DeviceState
device_state r g s = record {
  primary = id_of s.primary;
  trial = is_on_trial (trailer_of g s Primary);
  secondary = id_of s.secondary;
  next = (plan (power_on r g s)).kind;
}

-- The images change places.
abbrev pub exchanged : DeviceState → Bool → SwapType → DeviceState
exchanged x trial next = record { primary = x.secondary; trial = trial; secondary = x.primary; next = next }

-- What a boot makes of it, however often it was cut: a test ends with the other image on trial, and a revert asked for; a swap that
-- stays and a revert with the other image for good. The others leave all as it was.
abbrev pub booted_by : SwapType → DeviceState → DeviceState
booted_by kinds.None x = x
booted_by kinds.Fail x = x
booted_by kinds.Panic x = x
booted_by kinds.Test x = exchanged x true kinds.Revert
booted_by kinds.Perm x = exchanged x false kinds.None
booted_by kinds.Revert x = exchanged x false kinds.None

abbrev pub booted : DeviceState → DeviceState
booted x = booted_by x.next x

-- A revert that was forgotten: the images stay where they are, the primary's on trial, and the next boot does nothing.
abbrev pub forgotten : DeviceState → DeviceState
forgotten x = record { primary = x.primary; trial = x.trial; secondary = x.secondary; next = kinds.None }

-- What a flash at rest asks a boot for: what the secondary asks for, if its magic is good; else that a trial is taken back. These are
-- the rows of the swap table (docs/MODEL.md, "Swap tables") in the words of the automaton.
abbrev pub asked_of : Profile → Bool → Trailer → SwapType
asked_of profile trial q =
    if is_good q.magic then (if is_unset q.image_ok then kinds.Test else if is_set q.image_ok then kinds.Perm else kinds.None)
    else if trial && reverts_at profile q.magic then kinds.Revert
    else kinds.None

-- What is asked for can be done where the secondary begins with a valid image that fits, and fails elsewhere.
abbrev pub can_swap : Geometry → List ℕ → Bool
can_swap g secondary = is_valid secondary && fits g (image_size secondary)

abbrev pub done_or_fails : SwapType → Bool → SwapType
done_or_fails kinds.None can = kinds.None
done_or_fails kind can = if can then kind else kinds.Fail

-- The image has confirmed itself. Only what the secondary asks for is still asked for.
abbrev pub confirmed_by : Bool → DeviceState → DeviceState
confirmed_by asked x = record { primary = x.primary; trial = false; secondary = x.secondary; next = if asked then x.next else kinds.None }

-- ---- what holds

-- A boot from x is left alone: it leaves z, no operation of it is refused, it does not panic and an image runs.
pub record EndsWell (x : PowerOn) (z : Content) : Type 0 where
  pub end : left_by x ≡ Some z
  pub whole : is_faulted x ≡ false
  pub not_panic : (plan x).kind ≢ kinds.Panic
  pub result : option_map (λ o. o.result) (outcome_of x) ≡ Some results.Boot
  pub valid : is_valid z.primary ≡ true

-- Byte for byte z is what a boot of s is to leave: as many sectors as the plan says are exchanged, and the trailers say that this was a
-- test, or that it stays; or, where the plan has no operation, all is as it was.
abbrev pub LeavesBytes : Rules → Geometry → SwapType → ℕ → Content → Content → Type 0
LeavesBytes r g kinds.None n s z = z ≡ s
LeavesBytes r g kinds.Fail n s z = z ≡ s
LeavesBytes r g kinds.Panic n s z = ⊥
LeavesBytes r g kinds.Test n s z = AreExchanged g n s z × IsTested (power_on r g z) × (may_confirm g z ≡ true)
LeavesBytes r g kinds.Perm n s z = AreExchanged g n s z × IsSettled (power_on r g z)
LeavesBytes r g kinds.Revert n s z = AreExchanged g n s z × IsSettled (power_on r g z)

-- z is what a boot of s is to leave, in bytes and in names.
pub record Leaves (r : Rules) (g : Geometry) (s z : Content) : Type 0 where
  pub bytes : LeavesBytes r g (plan (power_on r g s)).kind (plan (power_on r g s)).sectors s z
  pub names : device_state r g z ≡ booted (device_state r g s)

-- Unless it was a revert, power was lost, and the rules are those that can forget one then: the boot that is left alone finds
-- nothing to do.
pub record Forgets (r : Rules) (g : Geometry) (s u z : Content) : Type 0 where
  pub rules : forgets_reverts r.grain r.profile ≡ true
  pub next : (plan (power_on r g s)).kind ≡ kinds.Revert
  pub idle : (plan (power_on r g u)).list ≡ []
  pub stays : z ≡ u
  pub names : device_state r g z ≡ forgotten (device_state r g s)

-- The device lives: from where it has come to the next boot, if it is left alone, ends well, with a running image, and leaves
-- what the flash on which the device last rested asks for.
pub record LivesOn (r : Rules) (g : Geometry) (m : Moment) (z : Content) : Type 0 where
  pub well : EndsWell (power_on r g m.content) z
  pub leads : Leads r g m boot (resting z true)
  pub leaves : Leaves r g m.rested z ⊎ Forgets r g m.rested m.content z

-- By these rules, for every layout, every flash that a device can be delivered with and every list of events: the device lives. A
-- prefix of a list of events is a list of events, so that this says it of every boot of a life.
abbrev pub LifeLaw : Rules → Type 0
LifeLaw r =
    (g : Geometry) (s : Content) (runs : Bool) (events : List Event) (m : Moment)
    → IsLayout g → IsDelivered g s → Lives r g (resting s runs) events m
    → (z : Content) × LivesOn r g m z

-- What a flash at rest will do, by what is on trial and what stands in the secondary; what a confirmation changes of its state; and
-- that one that is torn leaves the image where it is.
pub record Predicts (r : Rules) (g : Geometry) (s : Content) : Type 0 where
  pub next : (plan (power_on r g s)).kind
      ≡ done_or_fails (asked_of r.profile (is_on_trial (trailer_of g s Primary)) (trailer_of g s Secondary)) (can_swap g s.secondary)
  pub confirms : may_confirm g s ≡ true
      → device_state r g (confirmed g s) ≡ confirmed_by (is_good (trailer_of g s Secondary).magic) (device_state r g s)
  pub marks : (bytes : List ℕ) → is_set (trailer_of g s Primary).copy_done ≡ true → length bytes ≤ room field.ImageOk
      → id_of (put s.primary (place g Primary field.ImageOk) bytes) ≡ id_of s.primary

abbrev pub NextLaw : Rules → Type 0
NextLaw r =
    (g : Geometry) (s : Content) (runs : Bool) (events : List Event) (m : Moment)
    → IsLayout g → IsDelivered g s → Lives r g (resting s runs) events m
    → Predicts r g m.rested

-- All that a running image leaves in the secondary.
abbrev pub AllStored : (Option Identity → Bool) → List Event → Type 0
AllStored K [] = Unit {0}
AllStored K (cut count ∷ events) = AllStored K events
AllStored K (boot ∷ events) = AllStored K events
AllStored K (store bytes ∷ events) = (K (id_of bytes) ≡ true) × AllStored K events
AllStored K (confirm ∷ events) = AllStored K events
AllStored K (mark bytes ∷ events) = AllStored K events

-- No image comes from nowhere: a test that the images at delivery pass, and all images that a running image ever leaves whole in
-- the secondary, is passed by the image that the next boot leaves in the primary.
abbrev pub OnlyLaw : Rules → Type 0
OnlyLaw r =
    (K : Option Identity → Bool) (g : Geometry) (s z : Content) (runs : Bool) (events : List Event) (m : Moment)
    → IsLayout g → IsDelivered g s → Lives r g (resting s runs) events m
    → K (id_of s.primary) ≡ true → K (id_of s.secondary) ≡ true → AllStored K events
    → left_by (power_on r g m.content) ≡ Some z → K (id_of z.primary) ≡ true

-- A running image works on the secondary: it erases a sector of it, or writes bytes there.
abbrev pub IsWork : Op → Type 0
IsWork (Erase Primary sector) = ⊥
IsWork (Erase Secondary sector) = Unit {0}
IsWork (Program Primary at bytes) = ⊥
IsWork (Program Secondary at bytes) = IsBytes bytes
IsWork (Copy from at to offset len) = ⊥

-- What an operation of such work leaves is one of the things that may be stored there: so a download, whole or stopped anywhere, and a
-- request are stores, one after the other.
abbrev pub WorkLaw : Type 0
WorkLaw =
    (g : Geometry) (op : Op) (s t : Content) → IsLayout g → IsSized g s → IsBytes s.secondary → IsWork op → CanTry g op
    → apply g op s ≡ Some t → AreSecondary g t.secondary × (t ≡ with_bytes s Secondary t.secondary)

-- The starts of two images are flashes that a device can be delivered with: what the restart law says of lists of cuts from there
-- is a life's beginning. (That of a revert is what a life leaves, one boot on.)
abbrev pub StartsLaw : Type 0
StartsLaw =
    (g : Geometry) (kind : Kind) (a b : List ℕ) (s : Content) → IsLayout g → BeginsImage g a → BeginsImage g b → kind ≢ starts.Revert
    → start_flash g kind a b ≡ Some s → IsDelivered g s

-- ---- wear

-- How often an operation erases a sector of a slot, and how often a list of them does.
abbrev pub erases : Slot → ℕ → Op → ℕ
erases Primary sector (Erase Primary i) = if i == sector then 1 else 0
erases Primary sector (Erase Secondary i) = 0
erases Secondary sector (Erase Primary i) = 0
erases Secondary sector (Erase Secondary i) = if i == sector then 1 else 0
erases slot sector (Program to at bytes) = 0
erases slot sector (Copy from at to offset len) = 0

abbrev pub all_erases : Slot → ℕ → List Op → ℕ
all_erases slot sector [] = 0
all_erases slot sector (op ∷ ops) = erases slot sector op + all_erases slot sector ops

-- No power-on erases a sector more than twice, cut or not, whatever the flash contains. So a life of n power-ons wears no sector by
-- more than 2 n erases, besides those of the running images.
abbrev pub WearLaw : Type 0
WearLaw = (x : PowerOn) (slot : Slot) (sector c : ℕ) → IsLayout x.geometry → all_erases slot sector (take c (ops_of x)) ≤ 2
