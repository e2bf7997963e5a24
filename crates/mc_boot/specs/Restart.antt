-- Start flashes, and what the restart theorem says of them, in one round and in two (docs/MODEL.md, "Start flashes").
use Rattle.std.specs.Prelude.{Bool, Err, List, Ok, Option, Result, Some, [], false, if◌then◌else◌, length, option_map, replicate, take, true, ℕ, ◌&&◌, ◌*◌, ◌++◌, ◌-◌, ◌∷◌, ◌≡◌, ◌≢◌}
use Rattle.mc_boot.specs.{Outcome.{after, is_faulted, left_by, outcome_of}, Plan.{PowerOn, again, image_ok_write, image_size, plain, plan, power_on}}
use Rattle.mc_boot.specs.declared.kind.Kind.{Kind}
use Rattle.mc_flash.specs.{Flash.{Content, is_blank, put, size_of, with_bytes}, Geometry.{Geometry, IsLayout, fits}, Usage.{Counts, Does, Seen}}
use Rattle.mc_flash.specs.{declared.flash.FlashError.{FlashError}, declared.flash.Grain.{Grain}, declared.op.Slot.{Slot}}
use Rattle.mc_flash.specs.declared.op.Slot.TheVariants.{Primary, Secondary}
use Rattle.mc_image.specs.{Image.{IsBytes}, Valid.{id_of, is_valid}}
use Rattle.mc_trailer.specs.{Tables.{is_good, is_set}, Trailer.{bytes_at, magic_bytes, one_unit, place, trailer_of}, declared.tables.Profile.{Profile}}
use Rattle.mc_trailer.specs.declared.tables.Rules.{Rules}
use Rattle.mc_flash.specs.declared.flash.FlashError.TheVariants as errors
use Rattle.mc_trailer.specs.declared.places.Field.TheVariants as field
use Rattle.mc_trailer.specs.declared.trailer.Flag.TheVariants as flags
use Rattle.mc_flash.specs.declared.flash.Grain.TheVariants as grains
use Rattle.mc_trailer.specs.declared.tables.SwapType.TheVariants as kinds
use Rattle.mc_trailer.specs.declared.tables.Profile.TheVariants as profiles
use Rattle.mc_boot.specs.declared.outcome.BootResult.TheVariants as results
use Rattle.mc_boot.specs.declared.kind.Kind.TheVariants as starts

-- The flashes that a swap starts from, of two images.

-- The image that the bytes begin with, without what follows it.
abbrev pub image_bytes : List ℕ → List ℕ
image_bytes bytes = take (image_size bytes) bytes

-- Bytes at the start of a slot, the rest 0xff.
abbrev pub filled : Geometry → Slot → List ℕ → List ℕ
filled g slot bytes = bytes ++ replicate (size_of g slot - length bytes) 255

-- Bytes at the start of each slot.
abbrev pub placed : Geometry → List ℕ → List ℕ → Content
placed g a b = record { primary = filled g Primary a; secondary = filled g Secondary b }

-- The secondary's magic is there.
abbrev pub with_magic : Geometry → Content → Content
with_magic g s = record { primary = s.primary; secondary = put s.secondary (place g Secondary field.Magic) magic_bytes }

-- And its image-ok, that byte alone.
abbrev pub with_image_ok : Geometry → Content → Content
with_image_ok g s = record { primary = s.primary; secondary = put s.secondary (place g Secondary field.ImageOk) (1 ∷ []) }

abbrev pub test_flash : Geometry → List ℕ → List ℕ → Content
test_flash g a b = with_magic g (placed g a b)

abbrev pub perm_flash : Geometry → List ℕ → List ℕ → Content
perm_flash g a b = with_image_ok g (with_magic g (placed g a b))

-- The start of the images that a and b begin with. That of a revert is what the whole swap of b and a for a test leaves, by
-- whole calls and the first profile, whatever the rules of the boots from there on.
unfoldable pub start_flash : Geometry → Kind → List ℕ → List ℕ → Option Content
start_flash g starts.None a b = Some (placed g (image_bytes a) (image_bytes b))
start_flash g starts.Test a b = Some (test_flash g (image_bytes a) (image_bytes b))
start_flash g starts.Perm a b = Some (perm_flash g (image_bytes a) (image_bytes b))
start_flash g starts.Revert a b = left_by (power_on plain g (test_flash g (image_bytes b) (image_bytes a)))

-- The image that the primary is to hold at the end, and the secondary's.
abbrev pub named : Kind → List ℕ → List ℕ → List ℕ
named starts.None a b = a
named starts.Test a b = b
named starts.Perm a b = b
named starts.Revert a b = b

abbrev pub other : Kind → List ℕ → List ℕ → List ℕ
other starts.None a b = b
other starts.Test a b = a
other starts.Perm a b = a
other starts.Revert a b = a

-- What every list of power cuts ends in, from a start of two valid images that fit.

-- Bytes that begin with a valid image which fits.
pub record BeginsImage (g : Geometry) (b : List ℕ) : Type 0 where
  pub bytes : IsBytes b
  pub valid : is_valid b ≡ true
  pub fitting : fits g (image_size b) ≡ true

-- The bytes of a slot begin with the image that b begins with, whole, and have its identity.
pub record Holds (b slot : List ℕ) : Type 0 where
  pub id : id_of slot ≡ id_of b
  pub whole : take (image_size b) slot ≡ image_bytes b

-- The first n sectors of the two slots of s stand exchanged in z, byte for byte.
pub record AreExchanged (g : Geometry) (n : ℕ) (s z : Content) : Type 0 where
  pub primary : take (n * g.sector) z.primary ≡ take (n * g.sector) s.secondary
  pub secondary : take (n * g.sector) z.secondary ≡ take (n * g.sector) s.primary

-- A finished test: it is not confirmed, and the next boot reverts it.
pub record IsTested (x : PowerOn) : Type 0 where
  pub image_ok : (trailer_of x.geometry x.content Primary).image_ok ≡ flags.Unset
  pub copy_done : (trailer_of x.geometry x.content Primary).copy_done ≡ flags.Set
  pub next : (plan x).kind ≡ kinds.Revert

-- A finished swap that stays: it is confirmed, and the next boot does nothing.
pub record IsSettled (x : PowerOn) : Type 0 where
  pub image_ok : (trailer_of x.geometry x.content Primary).image_ok ≡ flags.Set
  pub copy_done : (trailer_of x.geometry x.content Primary).copy_done ≡ flags.Set
  pub next : (plan x).kind ≡ kinds.None
  pub idle : (plan x).list ≡ []

-- What the kind of start asks for is done: the last boot began at u and left z.
abbrev pub IsSwapped : PowerOn → Kind → Content → Content → Type 0
IsSwapped start starts.None u z = (plan (again start u)).list ≡ []
IsSwapped start starts.Test u z = AreExchanged start.geometry (plan start).sectors start.content z × IsTested (again start z)
IsSwapped start starts.Perm u z = AreExchanged start.geometry (plan start).sectors start.content z × IsSettled (again start z)
IsSwapped start starts.Revert u z = AreExchanged start.geometry (plan start).sectors start.content z × IsSettled (again start z)

-- The boot from u is the last, and ends what the start of the images of a and b asked for: it leaves z, no operation of
-- it is refused, its type is no panic and its result is to boot; the images stand in their slots.
pub record EndsIn (start : PowerOn) (kind : Kind) (a b : List ℕ) (u z : Content) : Type 0 where
  pub end : left_by (again start u) ≡ Some z
  pub whole : is_faulted (again start u) ≡ false
  pub not_panic : (plan (again start u)).kind ≢ kinds.Panic
  pub boots : is_valid z.primary ≡ true
  pub result : option_map (λ o. o.result) (outcome_of (again start u)) ≡ Some results.Boot
  pub primary : Holds (named kind a b) z.primary
  pub secondary : Holds (other kind a b) z.secondary
  pub swapped : IsSwapped start kind u z

-- Where each write unit happens by itself, a cut can leave half of the secondary's magic while a revert is prepared. The
-- first profile reverts only where that magic is unset, and so forgets the revert then.
abbrev pub forgets_reverts : Grain → Profile → Bool
forgets_reverts grains.Call profile = false
forgets_reverts grains.Unit profiles.One = true
forgets_reverts grains.Unit profiles.Two = false
forgets_reverts grains.Unit profiles.Three = false

-- Each layout, kind and pair of images has a start.
abbrev pub StartsExist : Type 0
StartsExist =
    (g : Geometry) (kind : Kind) (a b : List ℕ) → IsLayout g → BeginsImage g a → BeginsImage g b
    → (s : Content) × (start_flash g kind a b ≡ Some s)

-- By these rules, for every layout, kind of start and pair of images, and every list of cuts of any length that can occur:
-- the boot from the flash that the cuts leave ends what the start asked for. A prefix of a list of cuts is a list of cuts,
-- so that this says it of each boot on the way too: none refuses an operation, none panics, and uncut each would end so.
abbrev pub RestartLaw : Rules → Type 0
RestartLaw r =
    (g : Geometry) (kind : Kind) (a b : List ℕ) (s u : Content) (cuts : List ℕ)
    → IsLayout g → BeginsImage g a → BeginsImage g b → (kind ≡ starts.Revert → forgets_reverts r.grain r.profile ≡ false)
    → start_flash g kind a b ≡ Some s → after (power_on r g s) cuts ≡ Some u
    → (z : Content) × EndsIn (power_on r g s) kind a b u z

-- How the image of the primary confirms itself, so that no boot reverts it. That it sets image-ok for that is from MCUboot's
-- design document ("image trailer"). When it may is this project's own choice.

-- It may where a swap was finished and nothing is written at image-ok: the primary's magic is good, its copy-done is set, and
-- each byte of the unit at image-ok is 0xff.
abbrev pub may_confirm : Geometry → Content → Bool
may_confirm g s =
    is_good (trailer_of g s Primary).magic
    && is_set (trailer_of g s Primary).copy_done
    && is_blank (bytes_at s Primary (place g Primary field.ImageOk) g.unit)

-- The content once the image has confirmed itself: image-ok is written where it may, and all else is as it was.
unfoldable pub confirmed : Geometry → Content → Content
confirmed g s =
    if may_confirm g s then with_bytes s Primary (put s.primary (place g Primary field.ImageOk) (one_unit g 1)) else s

-- The same where the image is to confirm itself, and the content as it is where it is not.
abbrev pub confirmed_if : Bool → Geometry → Content → Content
confirmed_if true g s = confirmed g s
confirmed_if false g s = s

-- What the one write counts.
abbrev pub one_write : Counts
one_write = record { entries = 1; saved = 0 }

-- What a confirmation does to a flash. True: image-ok may be written, and that write happened. False: it may not, and the flash
-- is as it was. Else an allocation failed for the write. It is never refused, since the bytes are 0xff.
abbrev pub Confirms : Seen → Result Bool FlashError → Seen → Type 0
Confirms old (Ok true) new =
    (may_confirm old.geometry old.content ≡ true) × Does (image_ok_write old.geometry Primary) old (Ok tt) new
Confirms old (Ok false) new = (may_confirm old.geometry old.content ≡ false) × (new ≡ old)
Confirms old (Err errors.Memory) new =
    (may_confirm old.geometry old.content ≡ true)
    × Does (image_ok_write old.geometry Primary) old (Err errors.Memory) new
Confirms old (Err errors.NotErased) new = ⊥

-- What a second round ends in: power-on with its cuts and one whole boot, and then the same again from the flash as it is, where
-- the image has confirmed itself or has not.

-- The first n sectors of the two slots of s stand in z again, byte for byte.
pub record AreBack (g : Geometry) (n : ℕ) (s z : Content) : Type 0 where
  pub primary : take (n * g.sector) z.primary ≡ take (n * g.sector) s.primary
  pub secondary : take (n * g.sector) z.secondary ≡ take (n * g.sector) s.secondary

-- A round from m that has no operation, and so no cut: it is at u, which is m.
pub record IsIdle (x : PowerOn) (u : Content) : Type 0 where
  pub idle : (plan x).list ≡ []
  pub uncut : u ≡ x.content

-- What the last boot of the second round, from u, ends in, of a start of the images of a and b. The first round left x; the image that
-- it left in the primary has confirmed itself or not.
abbrev pub EndsAgain : PowerOn → Kind → Bool → List ℕ → List ℕ → Content → Content → Content → Type 0
-- A test that was left alone is taken back: it ends as a revert of the exchanged images does, and all is where it was.
EndsAgain start starts.Test false a b x u z =
    EndsIn (again start x) starts.Revert b a u z × AreBack start.geometry (plan start).sectors start.content z
-- A test that was confirmed stays, as an upgrade does.
EndsAgain start starts.Test true a b x u z =
    EndsIn start starts.Perm a b u z × IsIdle (again start (confirmed_if true start.geometry x)) u
-- Of the others nothing is confirmed, and the first round's end stays.
EndsAgain start starts.None confirms a b x u z =
    EndsIn start starts.None a b u z × IsIdle (again start x) u × (confirmed_if confirms start.geometry x ≡ x)
EndsAgain start starts.Perm confirms a b x u z =
    EndsIn start starts.Perm a b u z × IsIdle (again start x) u × (confirmed_if confirms start.geometry x ≡ x)
EndsAgain start starts.Revert confirms a b x u z =
    EndsIn start starts.Revert a b u z × IsIdle (again start x) u × (confirmed_if confirms start.geometry x ≡ x)

-- One of the two rounds makes a revert.
abbrev pub has_revert : Kind → Bool → Bool
has_revert starts.None confirms = false
has_revert starts.Test true = false
has_revert starts.Test false = true
has_revert starts.Perm confirms = false
has_revert starts.Revert confirms = true

-- By these rules, for every layout, kind of start, pair of images and choice, and lists of cuts of any length in both rounds: the
-- boot from the flash that they leave ends so. Of the first round the restart law says what its last boot ends in.
abbrev pub RoundsLaw : Rules → Type 0
RoundsLaw r =
    (g : Geometry) (kind : Kind) (confirms : Bool) (a b : List ℕ) (s t x u : Content) (first second : List ℕ)
    → IsLayout g → BeginsImage g a → BeginsImage g b
    → (has_revert kind confirms ≡ true → forgets_reverts r.grain r.profile ≡ false)
    → start_flash g kind a b ≡ Some s → after (power_on r g s) first ≡ Some t → left_by (power_on r g t) ≡ Some x
    → after (power_on r g (confirmed_if confirms g x)) second ≡ Some u
    → (z : Content) × EndsAgain (power_on r g s) kind confirms a b x u z
