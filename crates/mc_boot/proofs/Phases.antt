-- The phases of a swap, the plan of the boot in each, and fields by what is read of them.
use Rattle.std.proofs.{Common.{ap, arith, sym, ◌∙◌}, lemmas.List.Edits.{get_or-between}, lemmas.Slice.Eq.{bytes_eq-Decides}}
use Rattle.std.specs.Int.{div_ceil}
use Rattle.std.specs.Prelude.{Bool, List, Option, Some, [], false, if◌then◌else◌, is_none, max, refl, replicate, suc, true, zero, ℕ, ◌*◌, ◌+◌, ◌-◌, ◌<◌, ◌==◌, ◌^◌, ◌∷◌, ◌≡◌, ◌≢◌, ◌≤◌}
use Rattle.mc_boot.proofs.{Images.{HasImage, ImageLaws}, Moving.{Data}, Plans.{plan_new, plan_resumed}, Transfers.{Entries, entries_last, entries_not, left_at, other_number}}
use Rattle.mc_boot.specs.Plan.{Plan, PowerOn, again, confirms, first_left, image_size, images_of, is_test, new_list, new_plan, new_swap, nothing, number_of, plan, resumed_list}
use Rattle.mc_boot.specs.{Restart.{forgets_reverts}, declared.image.Images.{Images}}
use Rattle.mc_flash.specs.{Flash.{Content, IsSized, byte}, Geometry.{Geometry, IsLayout, greatest_sectors, in_pieces}, declared.flash.Grain.{Grain}, declared.op.Slot.{Slot}}
use Rattle.mc_flash.specs.declared.op.Slot.TheVariants.{Primary, Secondary}
use Rattle.mc_image.specs.Valid.{is_valid}
use Rattle.mc_trailer.specs.{Tables.{asks_another, is_resumed, reverts_at, table_of}, Trailer.{highest_entry, magic_bytes, magic_of, one_unit, place, size_bytes, trailer_of}}
use Rattle.mc_trailer.specs.{declared.places.Field.{Field}, declared.tables.Profile.{Profile}, declared.tables.SwapType.{SwapType}, declared.trailer.Flag.{Flag}}
use Rattle.mc_trailer.specs.facts.Fields.{FieldIs, FieldsAre, blank_fields, field_as, reads_absent, reads_copy_done, reads_good, reads_image_ok, reads_info, reads_not_good, reads_size}
use Rattle.mc_trailer.specs.facts.Tables.{asks_clearly}
use Rattle.mc_trailer.specs.declared.places.Field.TheVariants as field
use Rattle.mc_trailer.specs.declared.trailer.Flag.TheVariants as flags
use Rattle.mc_flash.specs.declared.flash.Grain.TheVariants as grains
use Rattle.mc_trailer.specs.declared.tables.SwapType.TheVariants as kinds
use Rattle.mc_trailer.specs.declared.trailer.Magic.TheVariants as magics

-- What holds before each operation of a swap, however often it was cut.

-- the size of the larger image of two slots
abbrev pub larger_size : Content → ℕ
larger_size s = max (image_size s.primary) (image_size s.secondary)

-- two valid images that fit, the larger of `size` bytes in n sectors
pub record Swap (g : Geometry) (start : Content) (size n : ℕ) : Type 0 where
  pub laws : ImageLaws
  pub ok : IsLayout g
  pub sized : IsSized g start
  pub primary : HasImage start.primary
  pub secondary : HasImage start.secondary
  pub larger : larger_size start ≡ size
  pub count : div_ceil size g.sector ≡ n
  pub some : 0 < n
  pub at_most : n ≤ greatest_sectors g
  pub small : size < 256 ^ 4

-- the types of swap that end as a test, or as one that stays
abbrev pub IsSwapOf : Bool → SwapType → Type 0
IsSwapOf b kinds.Test = b ≡ true
IsSwapOf b kinds.Perm = b ≡ false
IsSwapOf b kinds.Revert = b ≡ false
IsSwapOf b kind = ⊥

-- the fields of the primary while the swap runs, and at its end
abbrev pub opened : Geometry → SwapType → ℕ → Field → List ℕ
opened g kind size field.Magic = magic_bytes
opened g kind size field.ImageOk = if is_test kind then blank_fields field.ImageOk else one_unit g 1
opened g kind size field.CopyDone = blank_fields field.CopyDone
opened g kind size field.SwapInfo = one_unit g (number_of kind)
opened g kind size field.SwapSize = size_bytes g size

abbrev pub closed : Geometry → SwapType → ℕ → Field → List ℕ
closed g kind size field.CopyDone = one_unit g 1
closed g kind size f = opened g kind size f

-- the secondary's fields: nothing is asked; a test or an upgrade is asked for
abbrev pub unasked : Field → List ℕ
unasked field.Magic = replicate 16 255
unasked f = []

abbrev pub asked : Bool → Field → List ℕ
asked b field.Magic = magic_bytes
asked b field.ImageOk = (if b then 255 else 1) ∷ []
asked b f = []

-- the primary's fields after a test
abbrev pub tested : Field → List ℕ
tested field.Magic = magic_bytes
tested field.ImageOk = 255 ∷ []
tested field.CopyDone = 1 ∷ []
tested f = []

-- The magic of a trailer while it is made: unset; where a unit is written at once, only its last byte is 0xff for sure, since it is
-- written upward.
abbrev pub MagicUnset : Grain → Geometry → Slot → Content → Type 0
MagicUnset grains.Call g slot s = FieldIs g s slot field.Magic (replicate 16 255)
MagicUnset grains.Unit g slot s = byte s slot (place g slot field.Magic + 15) ≡ 255

-- a swap is asked for; the primary's trailer may hold anything
pub record Asked (g : Geometry) (start : Content) (n : ℕ) (b : Bool) (s : Content) : Type 0 where
  pub secondary : FieldsAre g s Secondary (asked b)
  pub data_ : Data g n start 0 s

-- the swap runs, and k transfers are made
pub record Under (g : Geometry) (start : Content) (size n : ℕ) (kind : SwapType) (k : ℕ) (s : Content) : Type 0 where
  pub primary : FieldsAre g s Primary (opened g kind size)
  pub entries : Entries g n k s
  pub secondary : FieldsAre g s Secondary unasked
  pub data_ : Data g n start k s

-- no other swap is asked for
abbrev pub NoOther : Profile → Geometry → Content → Type 0
NoOther p g s = asks_another p (trailer_of g s Primary) (trailer_of g s Secondary) ≡ false

-- the swap is made
pub record Done (g : Geometry) (start : Content) (size n : ℕ) (kind : SwapType) (s : Content) : Type 0 where
  pub primary : FieldsAre g s Primary (closed g kind size)
  pub secondary : FieldsAre g s Secondary unasked
  pub data_ : Data g n start (3 * n) s

abbrev pub Ended : Geometry → Content → ℕ → ℕ → Bool → Content → Type 0
Ended g start size n b s = (kind : SwapType) × IsSwapOf b kind × Done g start size n kind s

-- The plan of each phase.

-- a plan where the boot does not resume
pub new_is : (x : PowerOn) (kind : SwapType) (p : Plan) → is_resumed x.rules.profile x.geometry x.content ≡ false → table_of x.rules.profile x.geometry x.content ≡ kind
    → new_plan x.rules.grain x.geometry (images_of x.content) kind ≡ p → plan x ≡ p
new_is x kind p not_so of is = plan_new x not_so ∙ ap (new_plan x.rules.grain x.geometry (images_of x.content)) of ∙ is

pub swap_of : (b : Bool) (kind : SwapType) → IsSwapOf b kind → is_test kind ≡ b
swap_of b kind of = grind arith

-- the plan of a swap that runs
abbrev pub running : Geometry → SwapType → ℕ → ℕ → Bool → Plan
running g kind n k erases = record { kind = kind; sectors = n; list = resumed_list g n k erases false }

pub confirms_not : (b : Bool) (kind : SwapType) (image_ok : Flag) → is_test kind ≡ b → (b ≡ false → image_ok ≡ flags.Set) → confirms kind image_ok ≡ false
confirms_not it kind image_ok of set = grind arith

-- what the entries show: the first transfer that is left, and whether any is made
pub found : (g : Geometry) (n k : ℕ) (s : Content) → IsLayout g → IsSized g s → n ≤ greatest_sectors g → k ≤ 3 * n → Entries g n k s → (first_left g n (highest_entry g s) ≡ Some k)
    × (is_none (highest_entry g s) ≡ (k == 0))
found g n zero s ok sized at_most most en = let none = entries_not g n s ok sized en in (ap (first_left g n) none, ap (λ (o : Option ℕ). is_none o) none)
found g n (suc j) s ok sized at_most most en =
    let last = entries_last g n (suc j) s ok sized (omega (arith, at_most)) (omega arith) most en in
    (ap (first_left g n) last ∙ left_at g n (suc j) ok at_most (omega arith) most, ap (λ (o : Option ℕ). is_none o) last ∙ sym (other_number (suc j) 0 (λ e. omega (arith, e))))

-- the flag in the primary while the swap runs, and at its end
pub image_ok_is : (g : Geometry) (s : Content) (kind : SwapType) (b : Bool) → is_test kind ≡ b → FieldIs g s Primary field.ImageOk (if is_test kind then blank_fields field.ImageOk else one_unit g 1)
    → (trailer_of g s Primary).image_ok ≡ (if b then flags.Unset else flags.Set)
image_ok_is g s kind true of is = reads_image_ok g s Primary 255 (replicate 7 255) (field_as g s Primary field.ImageOk _ (replicate 8 255)
    (ap (λ (c : Bool). if c then replicate 8 255 else one_unit g 1) of) is)
image_ok_is g s kind false of is = reads_image_ok g s Primary 1 (replicate (g.unit - 1) 255)
    (field_as g s Primary field.ImageOk _ (one_unit g 1) (ap (λ (c : Bool). if c then replicate 8 255 else one_unit g 1) of) is)

pub plan_runs : (x : PowerOn) (size n : ℕ) (b : Bool) (kind : SwapType) (k : ℕ) (s : Content) → Swap x.geometry x.content size n → IsSwapOf b kind → k ≤ 3 * n
    → IsSized x.geometry s → FieldsAre x.geometry s Primary (opened x.geometry kind size) → Entries x.geometry n k s → NoOther x.rules.profile x.geometry s
    → plan (again x s) ≡ running (in_pieces x.rules.grain x.geometry) kind n k (k == 0)
plan_runs x size n b kind k s w of most sized are entries none =
    let good = reads_good x.geometry s Primary w.ok sized (are field.Magic) in
    let unset = reads_copy_done x.geometry s Primary 255 (replicate 7 255) (are field.CopyDone) in
    let info = reads_info x.geometry s Primary (number_of kind) (replicate (x.geometry.unit - 1) 255) (are field.SwapInfo) in
    let sized_is = reads_size x.geometry s Primary size (replicate (x.geometry.unit - 4) 255) w.ok sized w.small (are field.SwapSize) in
    let first = found x.geometry n k s w.ok sized w.at_most most entries in
    let settled = confirms_not b kind (trailer_of x.geometry s Primary).image_ok (swap_of b kind of)
    (λ stays. image_ok_is x.geometry s kind false (swap_of b kind of ∙ stays) (are field.ImageOk)) in
    plan_resumed (again x s) (rw none (rw good (rw unset refl)))
    ∙ (grind (arith, w.count, w.some, w.at_most, first.0, first.1))

-- the plan of a swap from its start
abbrev pub starting : Grain → Geometry → SwapType → ℕ → ℕ → Plan
starting c g kind size n = record { kind = kind; sectors = n; list = new_list c (in_pieces c g) kind size n }

pub new_swap_is : (c : Grain) (g : Geometry) (images : Images) (kind : SwapType) (size n : ℕ) → images.valid ≡ true → images.size ≡ size → div_ceil size g.sector ≡ n → n ≤ greatest_sectors g
    → new_swap c g images kind ≡ starting c g kind size n
new_swap_is c g images kind size n valid larger count at_most = grind arith

-- the images that the slots begin with, as a plan sees them
pub record SeesImages (s : Content) (size : ℕ) : Type 0 where
  pub valid : (images_of s).valid ≡ true
  pub larger : (images_of s).size ≡ size

pub sees_images : (s : Content) (size : ℕ) → is_valid s.secondary ≡ true → larger_size s ≡ size → SeesImages s size
unfolding images_of
sees_images s size valid larger = record { valid = valid; larger = larger }

-- what a swap that is asked for is called
abbrev pub kind_asked : Bool → SwapType
kind_asked b = if b then kinds.Test else kinds.Perm

pub flag_is : (g : Geometry) (s : Content) (e : Bool) → FieldsAre g s Secondary (asked e) → (trailer_of g s Secondary).image_ok ≡ (if e then flags.Unset else flags.Set)
flag_is g s true are = reads_image_ok g s Secondary 255 [] (are field.ImageOk)
flag_is g s false are = reads_image_ok g s Secondary 1 [] (are field.ImageOk)

pub plan_asked : (x : PowerOn) (size n : ℕ) (b : Bool) (s : Content) → Swap x.geometry x.content size n → SeesImages s size → Asked x.geometry x.content n b s
    → plan (again x s) ≡ starting x.rules.grain x.geometry (kind_asked b) size n
plan_asked x size n b s w sees u =
    let good = reads_good x.geometry s Secondary w.ok u.data_.sized (u.secondary field.Magic) in
    new_is (again x s) (kind_asked b) (starting x.rules.grain x.geometry (kind_asked b) size n) (not_on b good u.secondary)
    (table b good u.secondary) (swap b)
  where
    clear : (e : Bool) → (if e then flags.Unset else flags.Set) ≢ flags.Bad
    clear true = λ is. cc
    clear false = λ is. cc

    not_on : (e : Bool) → (trailer_of x.geometry s Secondary).magic ≡ magics.Good → FieldsAre x.geometry s Secondary (asked e) → is_resumed x.rules.profile x.geometry s ≡ false
    not_on e good are =
        let another = asks_clearly x.rules.profile (trailer_of x.geometry s Primary) (trailer_of x.geometry s Secondary) good (λ bad. absurd (clear e (sym (flag_is x.geometry s e are) ∙ bad))) in
        rw another (grind arith)

    table : (e : Bool) → (trailer_of x.geometry s Secondary).magic ≡ magics.Good → FieldsAre x.geometry s Secondary (asked e) → table_of x.rules.profile x.geometry s ≡ kind_asked e
    table true good are = rw good (rw (flag_is x.geometry s true are) refl)
    table false good are = rw good (rw (flag_is x.geometry s false are) refl)

    swap : (e : Bool) → new_plan x.rules.grain x.geometry (images_of s) (kind_asked e) ≡ starting x.rules.grain x.geometry (kind_asked e) size n
    swap true = new_swap_is x.rules.grain x.geometry (images_of s) kinds.Test size n sees.valid sees.larger w.count w.at_most
    swap false = new_swap_is x.rules.grain x.geometry (images_of s) kinds.Perm size n sees.valid sees.larger w.count w.at_most

-- after a swap: the trailers decide
pub plan_tested : (x : PowerOn) (size n : ℕ) → (trailer_of x.geometry x.content Primary).magic ≡ magics.Good → (trailer_of x.geometry x.content Primary).image_ok ≡ flags.Unset
    → (trailer_of x.geometry x.content Primary).copy_done ≡ flags.Set → reverts_at x.rules.profile (trailer_of x.geometry x.content Secondary).magic ≡ true
    → SeesImages x.content size → div_ceil size x.geometry.sector ≡ n → n ≤ greatest_sectors x.geometry → plan x ≡ starting x.rules.grain x.geometry kinds.Revert size n
plan_tested x size n good unset done reverts sees count at_most =
    new_is x kinds.Revert (starting x.rules.grain x.geometry kinds.Revert size n) (rw done (grind arith))
    (grind arith)
    (new_swap_is x.rules.grain x.geometry (images_of x.content) kinds.Revert size n sees.valid sees.larger count at_most)

pub plan_settled : (x : PowerOn) → (trailer_of x.geometry x.content Primary).copy_done ≡ flags.Set → (trailer_of x.geometry x.content Secondary).magic ≡ magics.Unset
    → (trailer_of x.geometry x.content Primary).image_ok ≡ flags.Set → plan x ≡ nothing kinds.None
plan_settled x done absent set = grind (arith, new_is)

-- no magic in either slot
pub plan_none : (x : PowerOn) → (trailer_of x.geometry x.content Primary).magic ≡ magics.Unset → (trailer_of x.geometry x.content Secondary).magic ≡ magics.Unset → plan x ≡ nothing kinds.None
plan_none x p q = grind (arith, new_is)

pub magic_unset_reverts : (c : Grain) (profile : Profile) (g : Geometry) (s : Content) → forgets_reverts c profile ≡ false → IsLayout g → IsSized g s → MagicUnset c g Secondary s
    → reverts_at profile (trailer_of g s Secondary).magic ≡ true
magic_unset_reverts it profile g s keeps ok sized magic_unset = grind (arith, reads_absent, reads_not_good)

-- The bytes of a trailer's fields, by what is read of them.

good_is : (xs : List ℕ) → magic_of xs ≡ magics.Good → xs ≡ magic_bytes
good_is xs is = (bytes_eq-Decides xs magic_bytes).0 (grind arith)

pub good_bytes : (g : Geometry) (s : Content) (slot : Slot) → (trailer_of g s slot).magic ≡ magics.Good → FieldIs g s slot field.Magic magic_bytes
unfolding trailer_of
good_bytes g s slot is i short within = grind (arith, get_or-between, good_is)

-- The secondary asks for a test or a swap that stays.
pub asked_from : (g : Geometry) (s : Content) (b : Bool) → (trailer_of g s Secondary).magic ≡ magics.Good → (trailer_of g s Secondary).image_ok ≡ (if b then flags.Unset else flags.Set)
    → FieldsAre g s Secondary (asked b)
unfolding trailer_of
asked_from g s b good flag field.Magic i short within = good_bytes g s Secondary good i short within
asked_from g s true good flag field.ImageOk i short within = grind arith
asked_from g s false good flag field.ImageOk i short within = grind arith
asked_from g s b good flag f i short within = absurd (omega (arith, short))

-- The primary's image is on trial.
pub tested_from : (g : Geometry) (s : Content) → (trailer_of g s Primary).magic ≡ magics.Good → (trailer_of g s Primary).image_ok ≡ flags.Unset → (trailer_of g s Primary).copy_done ≡ flags.Set
    → FieldsAre g s Primary tested
unfolding trailer_of
tested_from g s good unset set field.Magic i short within = good_bytes g s Primary good i short within
tested_from g s good unset set field.ImageOk i short within = grind arith
tested_from g s good unset set field.CopyDone i short within = grind arith
tested_from g s good unset set f i short within = absurd (omega (arith, short))
