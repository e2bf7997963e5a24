-- Power that is lost within an operation of a boot, and what any number of such losses ends in (docs/MODEL.md, "Flash"). What an
-- operation leaves that power fails in is this project's own model of a flash.
use Rattle.std.specs.Int.{bit_at}
use Rattle.std.specs.Prelude.{◌*◌, ◌+◌, ◌<◌, ◌≤◌, Bool, List, Option, false, true, length, Some, [], slice_get, ℕ, ◌∷◌, ◌≡◌, ◌≢◌, ◌⊎◌}
use Rattle.mc_boot.specs.Life.{AllStored, EndsWell, Event, IsDelivered, Leads, Lives, Moment, boot, confirm, cut, is_at_rest, mark, resting, store}
use Rattle.mc_boot.specs.{Outcome.{after, at, left_by, ops_of}, Plan.{PowerOn, again, plan, power_on}}
use Rattle.mc_boot.specs.Restart.{AreBack, AreExchanged, BeginsImage, Holds, IsSettled, IsTested, start_flash}
use Rattle.mc_boot.specs.declared.kind.Kind.{Kind}
use Rattle.mc_flash.specs.{Flash.{Content, apply, byte, bytes_of}, Geometry.{Geometry, IsLayout}, declared.op.Op.{Op}, declared.op.Op.TheVariants.{Copy, Erase, Program}}
use Rattle.mc_flash.specs.{declared.op.Slot.{Slot}, declared.op.Slot.TheVariants.{Primary, Secondary}}
use Rattle.mc_image.specs.Valid.{Identity, id_of}
use Rattle.mc_trailer.specs.{Trailer.{trailer_of}, declared.tables.Rules.{Rules}, declared.tables.SwapType.{SwapType}}
use Rattle.mc_trailer.specs.declared.trailer.Flag.TheVariants as flags
use Rattle.mc_trailer.specs.declared.trailer.Magic.TheVariants as magics
use Rattle.mc_trailer.specs.declared.tables.SwapType.TheVariants as kinds
use Rattle.mc_trailer.specs.declared.tables.Profile.TheVariants as profiles
use Rattle.mc_boot.specs.declared.kind.Kind.TheVariants as starts

-- ---- an operation that is torn

-- How an erase fails within which power is lost: it only sets bits, so that a byte 0xff stays; or its sector may be left with any
-- bytes, as by one that first clears bits.
pub data Tearing : Type 0 where
  gently : Tearing
  roughly : Tearing

-- The bytes that an operation keeps even where it is torn: those that the whole operation would not change, and of a rough erase
-- those outside of its sector.
abbrev pub IsKept : Tearing → Geometry → Op → Content → Content → Slot → ℕ → Type 0
IsKept gently g op s whole o i = byte whole o i ≡ byte s o i
IsKept roughly g (Erase slot sector) s whole o i =
    o ≡ slot → (i < sector * g.sector) ⊎ (sector * g.sector + g.sector ≤ i)
IsKept roughly g (Program slot at bytes) s whole o i = byte whole o i ≡ byte s o i
IsKept roughly g (Copy from at to offset len) s whole o i = byte whole o i ≡ byte s o i

-- What can be left of s where power fails within an operation: the bytes that it keeps are as they were, and each other one may have
-- any value. The operation is not finished.
pub record IsTorn (how : Tearing) (g : Geometry) (op : Op) (s v : Content) : Type 0 where
  pub whole : Content
  pub makes : apply g op s ≡ Some whole
  pub kept : (o : Slot) (i : ℕ) → IsKept how g op s whole o i → byte v o i ≡ byte s o i
  pub sizes : (o : Slot) → length (bytes_of v o) ≡ length (bytes_of s o)
  pub unfinished : v ≢ whole

-- The same of a flash whose bits fail one by one: each bit is as it was or as the whole operation would make it.
pub record IsTornByBits (g : Geometry) (op : Op) (s v : Content) : Type 0 where
  pub whole : Content
  pub makes : apply g op s ≡ Some whole
  pub each : (o : Slot) (i k : ℕ)
      → (bit_at (byte v o i) k ≡ bit_at (byte s o i) k)
      ⊎ (bit_at (byte v o i) k ≡ bit_at (byte whole o i) k)
  pub sizes : (o : Slot) → length (bytes_of v o) ≡ length (bytes_of s o)
  pub unfinished : v ≢ whole

-- ---- boots in which power is lost

-- In the boot from x power is lost at its operation number c, before it or within it, and v is left.
pub record Loses (how : Tearing) (x : PowerOn) (c : ℕ) (v : Content) : Type 0 where
  pub op : Op
  pub before : Content
  pub next : slice_get (ops_of x) c ≡ Some op
  pub reached : at x c ≡ Some before
  pub leaves : (v ≡ before) ⊎ IsTorn how x.geometry op before v

-- Boot after boot loses power so, each from what the one before it left; u is what the last leaves.
abbrev pub Tears : Tearing → PowerOn → List ℕ → Content → Type 0
Tears how x [] u = u ≡ x.content
Tears how x (c ∷ cuts) u = (v : Content) × Loses how x c v × Tears how (again x v) cuts u

-- Bits that fail one by one are one way of it: so what holds of bytes that may have any value holds of them.
abbrev pub BitsLaw : Type 0
BitsLaw = (g : Geometry) (op : Op) (s v : Content) → IsTornByBits g op s v → IsTorn gently g op s v

-- ---- what every such list ends in

-- All transfers were made, but that is not sure: copy-done is bad. No boot goes on with the swap, and none takes it back.
pub record IsUnsure (x : PowerOn) : Type 0 where
  pub copy_done : (trailer_of x.geometry x.content Primary).copy_done ≡ flags.Bad
  pub next : (plan x).kind ≡ kinds.None
  pub idle : (plan x).list ≡ []

-- z is s with the first n sectors exchanged, byte for byte, and so with the images exchanged.
pub record IsMade (g : Geometry) (n : ℕ) (s z : Content) : Type 0 where
  pub swapped : AreExchanged g n s z
  pub primary : id_of z.primary ≡ id_of s.secondary
  pub secondary : id_of z.secondary ≡ id_of s.primary

-- The boot from u finds nothing to do and leaves z as it was, and the first n sectors of s stand in z where they were, byte for byte.
pub record IsDropped (r : Rules) (g : Geometry) (n : ℕ) (s u z : Content) : Type 0 where
  pub stays : z ≡ u
  pub next : (plan (power_on r g z)).kind ≡ kinds.None
  pub idle : (plan (power_on r g z)).list ≡ []
  pub back : AreBack g n s z
  pub primary : id_of z.primary ≡ id_of s.primary
  pub secondary : id_of z.secondary ≡ id_of s.secondary

-- Why: the secondary asks for a swap by a good magic, and its image-ok is neither set nor unset.
pub record IsUnclear (g : Geometry) (z : Content) : Type 0 where
  pub magic : (trailer_of g z Secondary).magic ≡ magics.Good
  pub image_ok : (trailer_of g z Secondary).image_ok ≡ flags.Bad

-- Or, a revert: the secondary's magic is bad, and the rules are those of the first profile.
pub record IsForgotten (r : Rules) (g : Geometry) (z : Content) : Type 0 where
  pub profile : r.profile ≡ profiles.One
  pub magic : (trailer_of g z Secondary).magic ≡ magics.Bad

-- By the first two profiles a swap is passed over where the secondary is unclear so, though it is under way.
pub record IsPassedOver (r : Rules) (g : Geometry) (n : ℕ) (s u z : Content) : Type 0 where
  pub rules : r.profile ≢ profiles.Three
  pub dropped : IsDropped r g n s u z
  pub unclear : IsUnclear g z

-- How a swap that stays, or a revert, ends where it is made: as that, or as a test, where only the secondary's image-ok was erased
-- before power failed.
abbrev pub EndsMade : Rules → Geometry → Content → Type 0
EndsMade r g z =
    IsTested (power_on r g z) ⊎ (IsSettled (power_on r g z) ⊎ IsUnsure (power_on r g z))

-- What the boot from u, which is left alone, makes of s, a flash at rest whose next boot has that type and swaps n sectors.
abbrev pub TurnsOut : Tearing → Rules → Geometry → SwapType → ℕ → Content → Content
    → Content → Type 0
TurnsOut how r g kinds.None n s u z = z ≡ s
TurnsOut how r g kinds.Fail n s u z = z ≡ s
TurnsOut how r g kinds.Panic n s u z = ⊥
TurnsOut gently r g kinds.Test n s u z =
    IsMade g n s z × (IsTested (power_on r g z) ⊎ IsUnsure (power_on r g z))
TurnsOut roughly r g kinds.Test n s u z =
    (IsMade g n s z × EndsMade r g z) ⊎ IsPassedOver r g n s u z
TurnsOut how r g kinds.Perm n s u z =
    (IsMade g n s z × EndsMade r g z) ⊎ IsPassedOver r g n s u z
TurnsOut how r g kinds.Revert n s u z =
    (IsMade g n s z × EndsMade r g z)
    ⊎ (IsDropped r g n s u z × (IsUnclear g z ⊎ IsForgotten r g z))

-- The boot from u is left alone: no operation of it is refused, it does not panic, an image runs, and it ends what s asked for, or drops
-- it. By the third profile no swap is left under way.
pub record EndsTorn (how : Tearing) (r : Rules) (g : Geometry) (s u z : Content) : Type 0 where
  pub well : EndsWell (power_on r g u) z
  pub turns : TurnsOut how r g (plan (power_on r g s)).kind (plan (power_on r g s)).sectors s u z
  pub rests : r.profile ≡ profiles.Three → is_at_rest (trailer_of g z Primary) ≡ true

-- By these rules, for every layout, every flash on which a device rests in its life, and every list of losses of power, of any length:
-- the boot that is then left alone ends so. A prefix of a list of losses is one, so that this says it of each boot on the way too.
abbrev pub TornLaw : Tearing → Rules → Type 0
TornLaw how r =
    (g : Geometry) (s : Content) (runs : Bool) (events : List Event) (m : Moment)
    (u : Content) (cuts : List ℕ)
    → IsLayout g → IsDelivered g s → Lives r g (resting s runs) events m
    → Tears how (power_on r g m.rested) cuts u
    → (z : Content) × EndsTorn how r g m.rested u z

-- A list of power cuts is a list of losses: so the law says of cuts, too, that the boot that is left alone ends well.
abbrev pub CutsLaw : Type 0
CutsLaw = (how : Tearing) (x : PowerOn) (cuts : List ℕ) (u : Content)
    → after x cuts ≡ Some u → Tears how x cuts u

-- ---- a device's whole life

-- What can happen to a device: what can happen where power is lost before operations only, and a loss within one, which leaves this.
pub data TornEvent : Type 0 where
  plain : (event : Event) → TornEvent
  tear : (count : ℕ) (left : Content) → TornEvent

-- A running image may store: by the third profile always, by the others where no swap is under way in the primary's trailer, which it
-- can read.
abbrev pub MayStore : Rules → Geometry → Content → Type 0
MayStore r g s = (r.profile ≡ profiles.Three) ⊎ (is_at_rest (trailer_of g s Primary) ≡ true)

abbrev pub IsAllowed : Rules → Geometry → Content → Event → Type 0
IsAllowed r g s (cut count) = Unit {0}
IsAllowed r g s boot = Unit {0}
IsAllowed r g s (store bytes) = MayStore r g s
IsAllowed r g s confirm = Unit {0}
IsAllowed r g s (mark bytes) = Unit {0}

abbrev pub LeadsTorn : Tearing → Rules → Geometry → Moment → TornEvent → Moment → Type 0
LeadsTorn how r g m (plain e) n = IsAllowed r g m.content e × Leads r g m e n
LeadsTorn how r g m (tear count left) n =
    Loses how (power_on r g m.content) count left
    × (n ≡ record { content = left; rested = m.rested; runs = false })

abbrev pub LivesTorn : Tearing → Rules → Geometry → Moment → List TornEvent → Moment → Type 0
LivesTorn how r g m [] n = n ≡ m
LivesTorn how r g m (e ∷ events) n =
    (k : Moment) × LeadsTorn how r g m e k × LivesTorn how r g k events n

-- By these rules, for every layout, every flash that a device can be delivered with and every list of such events: the next boot, left
-- alone, ends well, and ends what the flash asked for on which the device last rested, or drops it.
abbrev pub TornLifeLaw : Tearing → Rules → Type 0
TornLifeLaw how r =
    (g : Geometry) (s : Content) (runs : Bool) (events : List TornEvent) (m : Moment)
    → IsLayout g → IsDelivered g s → LivesTorn how r g (resting s runs) events m
    → (z : Content) × EndsTorn how r g m.rested m.content z

-- All that a running image leaves in the secondary.
abbrev pub AllStoredTorn : (Option Identity → Bool) → List TornEvent → Type 0
AllStoredTorn K [] = Unit {0}
AllStoredTorn K (plain e ∷ events) = AllStored K (e ∷ []) × AllStoredTorn K events
AllStoredTorn K (tear count left ∷ events) = AllStoredTorn K events

-- No image comes from nowhere: a test that the images at delivery pass, and all images that a running image ever leaves whole in
-- the secondary, is passed by the image that the next boot leaves in the primary.
abbrev pub TornOnlyLaw : Tearing → Rules → Type 0
TornOnlyLaw how r =
    (K : Option Identity → Bool) (g : Geometry) (s z : Content)
    (runs : Bool) (events : List TornEvent) (m : Moment)
    → IsLayout g → IsDelivered g s → LivesTorn how r g (resting s runs) events m
    → K (id_of s.primary) ≡ true → K (id_of s.secondary) ≡ true → AllStoredTorn K events
    → left_by (power_on r g m.content) ≡ Some z → K (id_of z.primary) ≡ true

-- ---- the starts of two images

-- The image that a begins with stands whole in the primary, and b's in the secondary.
abbrev pub StandIn : List ℕ → List ℕ → Content → Type 0
StandIn a b z = Holds a z.primary × Holds b z.secondary

-- The type of the boot from a start.
abbrev pub type_of : Kind → SwapType
type_of starts.None = kinds.None
type_of starts.Test = kinds.Test
type_of starts.Perm = kinds.Perm
type_of starts.Revert = kinds.Revert

-- From the start s of the images of a and b: the last boot, from u, ends so; where the swap was made the images stand exchanged, and
-- else where they were.
pub record EndsStart (how : Tearing) (r : Rules) (g : Geometry) (kind : Kind)
    (a b : List ℕ) (s u z : Content) : Type 0 where
  pub type : (plan (power_on r g s)).kind ≡ type_of kind
  pub ends : EndsTorn how r g s u z
  pub made : kind ≢ starts.None → IsMade g (plan (power_on r g s)).sectors s z → StandIn b a z
  pub stays : (z ≡ s) ⊎ IsDropped r g (plan (power_on r g s)).sectors s u z → StandIn a b z

-- By these rules, for every layout, kind of start and pair of images, and every list of losses of power.
abbrev pub TornStartsLaw : Tearing → Rules → Type 0
TornStartsLaw how r =
    (g : Geometry) (kind : Kind) (a b : List ℕ) (s u : Content) (cuts : List ℕ)
    → IsLayout g → BeginsImage g a → BeginsImage g b → start_flash g kind a b ≡ Some s
    → Tears how (power_on r g s) cuts u
    → (z : Content) × EndsStart how r g kind a b s u z

-- ---- that a swap is dropped occurs

-- In the boot of a start for an upgrade, by any rules of the first two profiles, there is a loss of power, with bits that fail one by
-- one, after which the next boot finds nothing to do, though the primary's trailer says that a swap is under way.
pub record Drops (x : PowerOn) : Type 0 where
  pub count : ℕ
  pub op : Op
  pub before : Content
  pub left : Content
  pub next : slice_get (ops_of x) count ≡ Some op
  pub reached : at x count ≡ Some before
  pub torn : IsTornByBits x.geometry op before left
  pub idle : (plan (again x left)).list ≡ []
  pub busy : is_at_rest (trailer_of x.geometry left Primary) ≡ false

abbrev pub DropsLaw : Type 0
DropsLaw =
    (r : Rules) (g : Geometry) (a b : List ℕ) (s : Content)
    → r.profile ≢ profiles.Three → IsLayout g → BeginsImage g a → BeginsImage g b
    → start_flash g starts.Perm a b ≡ Some s
    → Drops (power_on r g s)
