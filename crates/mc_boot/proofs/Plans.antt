-- Plans, the steps of a boot through them, and what it reports at their end.
use Rattle.std.proofs.Common.{Fits, add-zero, arith, subst, sym, w32}
use Rattle.std.specs.Option.{is_some}
use Rattle.std.specs.Prelude.{Bool, Err, List, Ok, Option, Result, Some, false, is_none, not, option_map, slice_get, true, ℕ, ◌*◌, ◌+◌, ◌<◌, ◌∷◌, ◌≡◌, ◌≤◌}
use Rattle.mc_boot.proofs.{Courses.{drop_at_place, get_dropped}, Images.{valid_held}}
use Rattle.mc_boot.specs.{Boot.{Progress, Steps, StepsAlong, Turns, begun, progress, to_come}, Outcome.{report, result_of, shown}}
use Rattle.mc_boot.specs.Plan.{PowerOn, confirms, first_left, identity_of, images_of, new_plan, plan, plan_with, resumed_list, resumed_plan, resumed_swap}
use Rattle.mc_boot.specs.{declared.boot.Boot.{Boot}, declared.course.Course.{Course}, declared.image.ImageId.{ImageId}}
use Rattle.mc_boot.specs.declared.outcome.BootResult.{BootResult}
use Rattle.mc_flash.specs.{Geometry.{Geometry, IsLayout, greatest_sectors, in_pieces, trailer_sectors}, Usage.{Does, Seen}}
use Rattle.mc_flash.specs.{declared.flash.FlashError.{FlashError}, declared.op.Op.{Op}, declared.op.Slot.TheVariants.{Primary, Secondary}}
use Rattle.mc_flash.specs.facts.Usage.{few_trailer_sectors}
use Rattle.mc_image.specs.Valid.{id_of}
use Rattle.mc_trailer.specs.{Tables.{is_resumed, resumes_by, swap_type, table_of}, Trailer.{highest_entry, trailer_of}, declared.tables.Rules.{Rules}}
use Rattle.mc_trailer.specs.{declared.tables.SwapType.{SwapType}, declared.trailer.Flag.{Flag}, declared.trailer.Trailer.{Trailer}}
use Rattle.mc_flash.specs.declared.flash.FlashError.TheVariants as errors

-- A boot at power-on, as its plan says.

pub none_of : (r : Bool) (o : Option ℕ) → is_some o ≡ not r → r ≡ is_none o
none_of r o e = grind arith

-- a swap that was cut, at power-on
pub resumed_begun : (r : Rules) (g : Geometry) (image_ok : Flag) (highest : Option ℕ) (kind : SwapType) (n first : ℕ) (l : Geometry) (erases ok : Bool) → 0 < n → n ≤ greatest_sectors g
    → first_left g n highest ≡ Some first → l ≡ in_pieces r.grain g
    → erases ≡ is_none highest → ok ≡ confirms kind image_ok → (written : Option ℕ) → highest ≡ written
    → record { rules = r; kind = kind; to_come = resumed_list l n first erases ok; count = 0; faulted = false } ≡ begun r (resumed_swap r.grain g image_ok written kind n)
resumed_begun r g image_ok highest kind n first l erases ok some at_most first_is layout_is erases_is ok_is written is = grind arith

-- the two halves of a plan
pub plan_resumed : (x : PowerOn) → is_resumed x.rules.profile x.geometry x.content ≡ true
    → plan x ≡ resumed_plan x.rules.grain x.geometry (trailer_of x.geometry x.content Primary) (highest_entry x.geometry x.content)
unfolding plan plan_with
plan_resumed x it = grind arith

pub plan_new : (x : PowerOn) → is_resumed x.rules.profile x.geometry x.content ≡ false
    → plan x ≡ new_plan x.rules.grain x.geometry (images_of x.content) (table_of x.rules.profile x.geometry x.content)
unfolding plan plan_with
plan_new x it = grind arith

-- the boot that the trailers decide on is that of the plan
pub begun_resumed : (x : PowerOn) (p q : Trailer) (b : Bool) → p ≡ trailer_of x.geometry x.content Primary → q ≡ trailer_of x.geometry x.content Secondary
    → b ≡ resumes_by x.rules.profile p q → b ≡ true
    → begun x.rules (resumed_plan x.rules.grain x.geometry p (highest_entry x.geometry x.content)) ≡ begun x.rules (plan x)
begun_resumed from p q b first second is it = grind (arith, plan_resumed)

pub begun_new : (x : PowerOn) (p q : Trailer) (b : Bool) (kind : SwapType) → p ≡ trailer_of x.geometry x.content Primary → q ≡ trailer_of x.geometry x.content Secondary
    → b ≡ resumes_by x.rules.profile p q → b ≡ false
    → kind ≡ swap_type x.rules.profile p q → begun x.rules (new_plan x.rules.grain x.geometry (images_of x.content) kind) ≡ begun x.rules (plan x)
begun_new from p q b kind first second is it asks = grind (arith, plan_new)

-- One step of a boot.

boot_at : Rules → SwapType → Option Course → ℕ → Bool → Boot
boot_at rules kind course done faulted = record { rules = rules; kind = kind; course = course; done = done; faulted = faulted }

along : (p q : Progress) (op : Op) (rest : List Op) (old new : Seen) (result : Result (Unit {0}) FlashError) → p.to_come ≡ op ∷ rest → Turns rest p result q → Does op old result new
    → Steps p old result q new
along p q op rest old new result first turns does = subst (λ ops. StepsAlong ops p old result q new) (sym first) (turns, does)

module _ (b : Boot) (op : Op) (old new : Seen) (head : slice_get (to_come b) 0 ≡ Some op) where
  pub next_step : Does op old (Ok tt) new
      → Steps (progress b) old (Ok tt) (progress (record { rules = b.rules; kind = b.kind; course = b.course; done = b.done + 1; faulted = b.faulted })) new
  unfolding boot_at
  next_step does = grind (arith, boot_at, add-zero, get_dropped, along, drop_at_place)

  pub refused_step : Does op old (Err errors.NotErased) new
      → Steps (progress b) old (Err errors.NotErased) (progress (record { rules = b.rules; kind = b.kind; course = b.course; done = b.done; faulted = true })) new
  refused_step does = grind arith

-- What is reported of a boot, by what was read of the slots.

pub reported : (x : PowerOn) (kind next : SwapType) (ops : ℕ) (faulted boots : Bool) (result : BootResult) (primary secondary : Option ImageId)
    → result ≡ result_of kind faulted boots → boots ≡ is_some primary
    → option_map identity_of primary ≡ id_of x.content.primary → option_map identity_of secondary ≡ id_of x.content.secondary → next ≡ (plan x).kind
    → shown (record { result = result; kind = kind; ops = ops; primary = primary; secondary = secondary; next = next }) ≡ report x.rules x.geometry kind ops faulted x.content
unfolding report
reported from kind next ops faulted boots result primary secondary result_is boots_is first second next_is = grind (arith, valid_held)

-- How few sectors a trailer takes, by the count that a call gave, and how few transfers a swap has.

pub few_counted : (g : Geometry) (count : ℕ) → count ≡ trailer_sectors g → IsLayout g → count ≤ 262144
few_counted g count is ok = rw is (few_trailer_sectors g ok)

pub thrice : (n : ℕ) → n ≤ 1024 → Fits w32 (3 * n)
thrice n at_most = omega arith
