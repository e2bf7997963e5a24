-- How a boot on its way is seen: how far it has come, what a step does, and what is left of it.
use Rattle.std.proofs.Common.{subst, sym, ◌∙◌}
use Rattle.std.specs.Prelude.{Bool, Err, IfSome, List, None, Ok, Option, Result, Some, [], drop, false, if◌then◌else◌, length, slice_get, take, true, ℕ, ◌*◌, ◌+◌, ◌<◌, ◌∷◌, ◌≡◌, ◌≤◌}
use Rattle.mc_boot.specs.{Copies.{AreCopies, whole_copy}, Outcome.{applied, happening}, Plan.{Plan, PowerOn, new_list, plan, power_on, powered, resumed_list}, declared.boot.Boot.{Boot}}
use Rattle.mc_boot.specs.{declared.course.Course.{Course}, declared.course.Opening.{Opening}, declared.course.Opening.TheVariants.{New, Resumed}}
use Rattle.mc_boot.specs.{declared.transfer.Copies.{Copies}, declared.transfer.Transfer.{Transfer}}
use Rattle.mc_flash.specs.{Flash.{CanTry, Content, IsSized, sectors_of}, Geometry.{Geometry, in_pieces}}
use Rattle.mc_flash.specs.{Usage.{Counts, Does, Keeps, LeaveRoom, Seen, most_operations, most_saved, plus, saves}, declared.flash.FlashError.{FlashError}}
use Rattle.mc_flash.specs.{declared.flash.Grain.{Grain}, declared.op.Op.{Op}, facts.Spends.{keeps_both}}
use Rattle.mc_trailer.specs.{declared.tables.Rules.{Rules}, declared.tables.SwapType.{SwapType}}
use Rattle.mc_flash.specs.declared.flash.FlashError.TheVariants as errors

-- The operations of a course.

abbrev pub list_from : Grain → Geometry → ℕ → Opening → List Op
list_from c g n (New kind size) = new_list c g kind size n
list_from c g n (Resumed first erases image_ok) = resumed_list g n first erases image_ok

-- The operations of a whole course.
abbrev pub course_list : Course → List Op
course_list c = list_from c.grain c.layout c.sectors c.opening

-- None where there is no course.
abbrev pub whole_list : Option Course → List Op
whole_list None = []
whole_list (Some c) = course_list c

-- What callers see of a boot, and what a step does to it and to the flash.

-- A boot as callers see it: its rules and its type, the operations still to come, how many happened, and whether one was
-- refused.
pub record Progress : Type 0 where
  pub rules : Rules
  pub kind : SwapType
  pub to_come : List Op
  pub count : ℕ
  pub faulted : Bool

-- All operations of its plan.
abbrev pub all_of : Boot → List Op
all_of b = whole_list b.course

-- None after a refusal.
abbrev pub to_come : Boot → List Op
to_come b = if b.faulted then [] else drop b.done (whole_list b.course)

abbrev pub progress : Boot → Progress
progress b = record { rules = b.rules; kind = b.kind; to_come = to_come b; count = b.done; faulted = b.faulted }

-- The boot is one of a flash of that layout.
abbrev pub IsBootOf : Geometry → Boot → Type 0
IsBootOf g b = IfSome b.course (λ c. c.layout ≡ in_pieces c.grain g)

-- That operation is the next one of a boot; the flash can try it, and not many happened.
abbrev pub IsNextOp : Geometry → Boot → Op → Type 0
IsNextOp g b op = (slice_get (to_come b) 0 ≡ Some op) × CanTry g op × (b.done < 204000000)

-- At power-on.
abbrev pub begun : Rules → Plan → Progress
begun r p = record { rules = r; kind = p.kind; to_come = p.list; count = 0; faulted = false }

-- After an operation that happened.
abbrev pub stepped : Progress → List Op → Progress
stepped p rest = record { rules = p.rules; kind = p.kind; to_come = rest; count = p.count + 1; faulted = p.faulted }

-- After one that was refused.
abbrev pub refused : Progress → Progress
refused p = record { rules = p.rules; kind = p.kind; to_come = []; count = p.count; faulted = true }

-- What a boot becomes by the answer to its next operation: it happened; or it was refused, and the boot is at its end; or an
-- allocation failed, and nothing changed.
abbrev pub Turns : List Op → Progress → Result (Unit {0}) FlashError → Progress → Type 0
Turns rest p (Ok _) q = q ≡ stepped p rest
Turns rest p (Err errors.NotErased) q = q ≡ refused p
Turns rest p (Err errors.Memory) q = q ≡ p

-- The first operation to come; at the end nothing happens, and the answer is Ok.
abbrev pub StepsAlong : List Op → Progress → Seen → Result (Unit {0}) FlashError → Progress → Seen → Type 0
StepsAlong [] p old (Ok _) q new = (q ≡ p) × (new ≡ old)
StepsAlong [] p old (Err e) q new = ⊥
StepsAlong (op ∷ rest) p old result q new = Turns rest p result q × Does op old result new

-- A step of a boot that is at p, over a flash: the boot is at q then.
abbrev pub Steps : Progress → Seen → Result (Unit {0}) FlashError → Progress → Seen → Type 0
Steps p old result q new = StepsAlong p.to_come p old result q new

-- After so many operations that happened.
abbrev pub leapt : ℕ → Progress → Progress
leapt k p = record { rules = p.rules; kind = p.kind; to_come = drop k p.to_come; count = p.count + k; faulted = p.faulted }

-- Copies that are next were made as one; or that copy is refused, and nothing changed, or an allocation failed.
abbrev pub Leaps : Copies → Progress → Seen → Result Bool FlashError → Progress → Seen → Type 0
Leaps c p old (Ok true) q new =
    (q ≡ leapt c.count p) × Does (whole_copy c c.count) old (Ok tt) new × IsSized old.geometry old.content
    × CanTry old.geometry (whole_copy c c.count)
Leaps c p old (Ok false) q new = (q ≡ p) × (new ≡ old)
Leaps c p old (Err e) q new = (e ≡ errors.Memory) × (q ≡ p) × Does (whole_copy c c.count) old (Err e) new

-- That of some copies; or there are none, and nothing changed.
abbrev pub LeapsOn : Progress → Seen → Result Bool FlashError → Progress → Seen → Type 0
LeapsOn p old (Ok false) q new = (q ≡ p) × (new ≡ old)
LeapsOn p old result q new = (c : Copies) × AreCopies p.to_come 0 c.count c × Leaps c p old result q new

-- Where a boot is on its way: what was made of the plan of the flash at power-on, and what is still to come.

-- A boot from s by these rules has come to p, and its flash to t: the first operations of the plan happened, one by one,
-- and the rest is to come. Where one was refused it is the next one, and nothing is to come.
pub record HasCome (x : PowerOn) (p : Progress) (t : Content) : Type 0 where
  pub rules : p.rules ≡ x.rules
  pub kind : p.kind ≡ (plan x).kind
  pub within : p.count ≤ length (plan x).list
  pub happened : applied x.geometry (take p.count (plan x).list) x.content ≡ Some t
  pub rest : p.to_come ≡ (if p.faulted then [] else drop p.count (plan x).list)
  pub refused : p.faulted ≡ true → (happening x.geometry (drop p.count (plan x).list) t ≡ []) × (p.count < length (plan x).list)

-- How much a boot counts: how many operations, and how many bytes their erases save.

-- The bytes that operations save.
abbrev pub all_saves : Geometry → List Op → ℕ
all_saves g [] = 0
all_saves g (op ∷ rest) = saves g op + all_saves g rest

-- What a boot has still to count: the operations to come, and the bytes that they save.
abbrev pub left_of : Geometry → Progress → Counts
left_of g p = record { entries = length p.to_come; saved = all_saves g p.to_come }

-- What is counted and what is left to count are together no more than before.
abbrev pub CountsOn : Progress → Progress → Seen → Seen → Type 0
CountsOn p q old new = LeaveRoom new.usage.counts (left_of old.geometry q) (plus old.usage.counts (left_of old.geometry p))

-- At most so many operations, and at most so many bytes that they save.
pub record IsBounded (g : Geometry) (ops : List Op) (count saved : ℕ) : Type 0 where
  pub at_most : length ops ≤ count
  pub saves : all_saves g ops ≤ saved

-- What a boot at power-on is.

-- A boot by these rules from where a flash stands, which is of its slots' lengths: it is at the beginning of its plan and has
-- all operations of it. They are few, and what their erases save is little.
pub record IsCold (r : Rules) (f : Seen) (b : Boot) : Type 0 where
  pub boot : progress b ≡ begun r (plan (powered r f))
  pub list : all_of b ≡ (plan (powered r f)).list
  pub layout : IsBootOf f.geometry b
  pub at_most : length (progress b).to_come ≤ most_operations r.grain f.geometry
  pub saves : all_saves f.geometry (progress b).to_come ≤ most_saved f.geometry
  pub sized : IsSized f.geometry f.content

-- How a boot goes on, by steps.

-- A boot of a flash's layout stays on its way from the flash at power-on, with the same operations in all. The flash keeps
-- its layout and its checkpoints.
pub record GoesOn (old : Boot) (before : Seen) (new : Boot) (after : Seen) : Type 0 where
  pub come : (r : Rules) (s : Content) → HasCome (power_on r before.geometry s) (progress old) before.content → HasCome (power_on r before.geometry s) (progress new) after.content
  pub layout : IsBootOf after.geometry new
  pub whole : all_of new ≡ all_of old
  pub keeps : Keeps before after

-- or some, and some more.
pub goes_further : (a : Boot) (x : Seen) (b : Boot) (y : Seen) (c : Boot) (z : Seen) → GoesOn a x b y → GoesOn b y c z → GoesOn a x c z
goes_further a x b y c z first more = record {
  come = λ r s began.
      let P : Geometry → Type 0 = λ g. HasCome (power_on r g s) (progress b) y.content in
      let Q : Geometry → Type 0 = λ g. HasCome (power_on r g s) (progress c) z.content in
      subst Q first.keeps.geometry (more.come r s (subst P (sym first.keeps.geometry) (first.come r s began)));
  layout = more.layout;
  whole = more.whole ∙ first.whole;
  keeps = keeps_both x y z first.keeps more.keeps;
}

-- The transfers that a layout has room for.

-- Source, target and entry are there, and in one slot the target is the sector after the source.
pub record IsInside (g : Geometry) (t : Transfer) : Type 0 where
  pub from : t.from_sector < sectors_of g t.from
  pub to : t.to_sector < sectors_of g t.to
  pub entry : t.entry < 3 * g.max_sectors
  pub apart : t.from ≡ t.to → t.from_sector + 1 ≡ t.to_sector
