-- What the readings of a torn operation stand for, among all that it may leave.
use Rattle.std.specs.Int.{div_ceil}
use Rattle.std.specs.Prelude.{Bool, List, None, Option, Some, [], length, not, option_map, slice_get, slice_index, true, ℕ, ◌&&◌, ◌<◌, ◌∷◌, ◌≡◌, ◌≤◌, ◌⊎◌}
use Rattle.mc_boot.specs.{Life.{is_at_rest}, Outcome.{at, left_by, ops_of, outcome_of}, Plan.{PowerOn, again, image_size, images_of}, Torn.{IsTorn, Loses}}
use Rattle.mc_flash.specs.{Flash.{CanTry, Content, IsSized, apply, byte, bytes_of, is_blank}, Geometry.{Geometry, IsLayout}, declared.op.Op.{Op}}
use Rattle.mc_flash.specs.{declared.op.Slot.{Slot}, declared.op.Slot.TheVariants.{Primary}, facts.Layouts.{data_end}}
use Rattle.mc_image.specs.{Image.{IsBytes}, Valid.{Identity, id_of}}
use Rattle.mc_trailer.specs.{Tables.{is_good, is_resumed, is_unset}, Trailer.{bytes_at, trailer_of}, declared.tables.Rules.{Rules}, declared.trailer.Trailer.{Trailer}}
use Rattle.mc_tear.specs.Cases.{fields_of, if_named, is_case, names, reads_as, slot_of, tearing_of, torn, written_from}
use Rattle.mc_tear.specs.{Readings.{reading_of}, declared.reading.Entry.{Entry}, declared.reading.Reading.{Reading}, declared.torn.Erasing.{Erasing}}
use Rattle.mc_tear.specs.declared.reading.Entry.TheVariants as entries
use Rattle.mc_tear.specs.declared.torn.Erasing.TheVariants as erasings

-- The flash of a case is one that the torn operation may leave.
abbrev pub CasesAreTorn : Type 0
CasesAreTorn =
    (e : Erasing) (g : Geometry) (op : Op) (s whole : Content) (r : Reading)
    → IsLayout g → IsSized g s → CanTry g op → apply g op s ≡ Some whole → is_case e g op s r ≡ true
    → IsTorn (tearing_of e) g op s (torn e g op s r)

-- The unit with which an operation begins is not blank.
abbrev pub begins_written : Geometry → Op → Content → Bool
begins_written g op v = not (is_blank (bytes_at v (slot_of op) (written_from g op) g.unit))

abbrev pub is_entry_as : Entry → Bool → Bool
is_entry_as entries.Unset written = not written
is_entry_as entries.Written written = written

-- A flash is read as a reading says: in each field that the operation may change, and in no other is anything said.
pub record IsRead (e : Erasing) (g : Geometry) (op : Op) (s : Content) (r : Reading) (v : Content) : Type 0 where
  pub named : names (fields_of e g op s) r ≡ true
  pub fields : reads_as r (trailer_of g v (slot_of op)) ≡ true
  pub entry : if_named is_entry_as r.entry (begins_written g op v) ≡ true

-- Each flash that a torn operation may leave is read as one of the readings says, and so is the flash of that reading.
abbrev pub EachIsRead : Type 0
EachIsRead =
    (e : Erasing) (g : Geometry) (op : Op) (s v : Content)
    → IsLayout g → IsSized g s → CanTry g op → IsTorn (tearing_of e) g op s v
    → (n : ℕ) × (n < 192) × IsRead e g op s (reading_of n) v × IsRead e g op s (reading_of n) (torn e g op s (reading_of n))

-- ---- how the boots from there end

-- What stands for all that a torn operation may leave: what stood before it, what it makes whole, and the flashes of its cases.
abbrev pub IsListed : Erasing → Geometry → Op → Content → Content → Type 0
IsListed e g op s u =
    (u ≡ s)
    ⊎ ((apply g op s ≡ Some u)
    ⊎ ((r : Reading) × (is_case e g op s r ≡ true) × (u ≡ torn e g op s r)))

-- Whether a swap is under way in what a boot leaves.
abbrev pub rests : PowerOn → Option Bool
rests x = option_map (λ z. is_at_rest (trailer_of x.geometry z Primary)) (left_by x)

-- Two boots end alike: with one outcome, and with a swap under way afterwards in both or in neither.
pub record EndAlike (x y : PowerOn) : Type 0 where
  pub outcome : outcome_of x ≡ outcome_of y
  pub rest : rests x ≡ rests y

-- No image depends on the bytes of a trailer: bytes that are the same up to the trailer's sectors begin with the same image, and with
-- one of the same size.
abbrev pub ImagesApart : Geometry → Content → Type 0
ImagesApart g s =
    (slot : Slot) (bytes : List ℕ) → length bytes ≡ length (bytes_of s slot)
    → ((i : ℕ) → i < data_end g slot → slice_index bytes i ≡ byte s slot i)
    → (id_of bytes ≡ id_of (bytes_of s slot)) × (image_size bytes ≡ image_size (bytes_of s slot))

-- Where the boot from a flash goes on with a swap, it asks for no image; elsewhere none depends on a trailer.
abbrev pub AsksApart : Rules → Geometry → Content → Type 0
AsksApart r g v = (is_resumed r.profile g v ≡ true) ⊎ ImagesApart g v

-- Each slot begins with a valid image that ends before the sectors of its trailer.
abbrev pub ImagesInside : Geometry → Content → Type 0
ImagesInside g s =
    (slot : Slot) → IsBytes (bytes_of s slot)
    × ((i : Identity) × (id_of (bytes_of s slot) ≡ Some i) × (i.size ≤ data_end g slot))

-- Such images depend on no trailer.
abbrev pub InsideIsApart : Type 0
InsideIsApart = (g : Geometry) (s : Content) → IsLayout g → IsSized g s → ImagesInside g s → ImagesApart g s

-- Each flash that a torn operation of a boot may leave ends as one of those that stand for all, whatever flash the boot began with, if
-- no image that is asked for there, or in what is left at the end, depends on a trailer.
abbrev pub EachEnds : Type 0
EachEnds =
    (e : Erasing) (x : PowerOn) (n : ℕ) (op : Op) (s v z : Content)
    → IsLayout x.geometry → IsSized x.geometry x.content
    → slice_get (ops_of x) n ≡ Some op → at x n ≡ Some s → IsTorn (tearing_of e) x.geometry op s v
    → left_by (again x v) ≡ Some z → AsksApart x.rules x.geometry v → ImagesApart x.geometry z
    → (u : Content) × IsListed e x.geometry op s u × EndAlike (again x v) (again x u)

-- ---- losses of power one after another

-- The primary's trailer says that a swap is under way.
abbrev pub says_under_way : Trailer → Bool
says_under_way p = is_good p.magic && is_unset p.copy_done

-- Both slots begin with whole images, and the swap of which the primary's trailer says so is of as many sectors as they need.
pub record IsWhole (g : Geometry) (v : Content) : Type 0 where
  pub images : ImagesInside g v
  pub count : div_ceil (images_of v).size g.sector ≡ div_ceil (trailer_of g v Primary).swap_size g.sector

-- The boot from a flash goes on with a swap, and asks for no image; or no image depends on a trailer, and, where erases are rough and a swap
-- is said to be under way, both images are whole: the first transfer of that swap may have left any bytes behind them.
abbrev pub AsksSafely : Erasing → Rules → Geometry → Content → Type 0
AsksSafely e r g v =
    (is_resumed r.profile g v ≡ true)
    ⊎ (ImagesApart g v × (e ≡ erasings.Rough → says_under_way (trailer_of g v Primary) ≡ true → IsWhole g v))

-- Boot after boot loses power, before an operation or within it; v is what the last leaves, and each boot asks so.
abbrev pub TearsSafely : Erasing → PowerOn → List ℕ → Content → Type 0
TearsSafely e x [] v = v ≡ x.content
TearsSafely e x (c ∷ cuts) v =
    (w : Content) × Loses (tearing_of e) x c w × AsksSafely e x.rules x.geometry w × TearsSafely e (again x w) cuts v

-- What a loss leaves that is a cut before operation n, or a case of that operation.
abbrev pub LeavesCase : Erasing → PowerOn → ℕ → Option Reading → Content → Type 0
LeavesCase e x n None u = (n < length (ops_of x)) × (at x n ≡ Some u)
LeavesCase e x n (Some r) u =
    (op : Op) × (s : Content) × (slice_get (ops_of x) n ≡ Some op) × (at x n ≡ Some s)
    × (is_case e x.geometry op s r ≡ true) × (u ≡ torn e x.geometry op s r)

-- Boot after boot, so.
abbrev pub CasesLeave : Erasing → PowerOn → List (ℕ × Option Reading) → Content → Type 0
CasesLeave e x [] u = u ≡ x.content
CasesLeave e x (l ∷ losses) u =
    (t : Content) × LeavesCase e x l.0 l.1 t × CasesLeave e (again x t) losses u

-- Whatever any number of losses leave, before operations and within them, from whatever flash: the boot that is then left alone ends as
-- after as many cuts and cases.
abbrev pub EachChainEnds : Type 0
EachChainEnds =
    (e : Erasing) (x : PowerOn) (cuts : List ℕ) (v z : Content)
    → IsLayout x.geometry → IsSized x.geometry x.content → TearsSafely e x cuts v
    → left_by (again x v) ≡ Some z → ImagesApart x.geometry z
    → (losses : List (ℕ × Option Reading)) × (u : Content) × (length losses ≡ length cuts)
    × CasesLeave e x losses u × EndAlike (again x v) (again x u)
