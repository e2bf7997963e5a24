-- Schedules of power cuts: which can occur, and what they come to (docs/MODEL.md, "Schedules of power cuts").
use Rattle.std.specs.Prelude.{List, None, Some, [], false, is_some, length, take, true, ℕ, ⊤, ◌+◌, ◌<◌, ◌≡◌, ◌≤◌}
use Rattle.mc_boot.specs.{Boot.{HasCome, Progress}, Outcome.{Report, after, left_by, outcome_of, shown}, Plan.{PowerOn, again, power_on}}
use Rattle.mc_boot.specs.{Restart.{BeginsImage, EndsIn, forgets_reverts, named, other, start_flash}, declared.kind.Kind.{Kind}}
use Rattle.mc_boot.specs.declared.outcome.Outcome.{Outcome}
use Rattle.mc_explore.specs.declared.replays.ReplayError.{ReplayError}
use Rattle.mc_flash.specs.{Flash.{Content}, Usage.{Seen}}
use Rattle.mc_image.specs.Valid.{id_of}
use Rattle.mc_trailer.specs.declared.tables.Rules.{Rules}
use Rattle.mc_explore.specs.declared.replays.ReplayError.TheVariants as errors
use Rattle.mc_boot.specs.declared.outcome.BootResult.TheVariants as results
use Rattle.mc_boot.specs.declared.kind.Kind.TheVariants as starts

-- The schedules of power cuts that can occur: this project's own choice. Their order is that of the paths of a tree.

-- From that flash the cuts can occur, one after another: each boot makes more operations than its cut says.
abbrev pub CanOccur : PowerOn → List ℕ → Type 0
CanOccur x l = is_some (after x l) ≡ true

-- The schedules of at most so many cuts that can occur.
abbrev pub IsMember : PowerOn → ℕ → List ℕ → Type 0
IsMember x bound l = (length l ≤ bound) × CanOccur x l

-- One schedule, cut by cut.

-- A boot that has come to p on this flash ends with that outcome.
abbrev pub EndsWith : Seen → Progress → Outcome → Type 0
EndsWith f p outcome =
    (r : Rules) (s : Content) → HasCome (power_on r f.geometry s) p f.content → outcome_of (power_on r f.geometry s) ≡ Some (shown outcome)

-- The cuts from s can occur, and the uncut boot from what they leave has that outcome and leaves z.
pub record IsReplayed (x : PowerOn) (cuts : List ℕ) (outcome : Report) (z : Content) : Type 0 where
  pub cut : Content
  pub occurs : after x cuts ≡ Some cut
  pub outcome_is : outcome_of (again x cut) ≡ Some outcome
  pub left : left_by (again x cut) ≡ Some z

-- The cuts before that one can occur, and the one there can't.
pub record CannotOccurAt (x : PowerOn) (cuts : List ℕ) (index : ℕ) : Type 0 where
  pub inside : index < length cuts
  pub cut : Content
  pub before : after x (take index cuts) ≡ Some cut
  pub not_there : after x (take (index + 1) cuts) ≡ None

-- What is refused: the first cut that can't occur, unless memory ran out.
abbrev pub RefusesReplay : PowerOn → List ℕ → ReplayError → Type 0
RefusesReplay x cuts (errors.CannotOccur index) = CannotOccurAt x cuts index
RefusesReplay x cuts errors.Memory = ⊤

-- The outcome of the boot after the cuts: the named image in the primary, the other in the secondary. Where no swap is asked
-- for there is no operation at all: it makes none, and none came before it, so that nothing was cut.
pub record IsSwapOutcome (kind : Kind) (a b : List ℕ) (cuts : List ℕ) (outcome : Report) : Type 0 where
  pub result : outcome.result ≡ results.Boot
  pub primary : outcome.primary ≡ id_of (named kind a b)
  pub secondary : outcome.secondary ≡ id_of (other kind a b)
  pub idle : kind ≡ starts.None → (outcome.ops ≡ 0) × (cuts ≡ [])

-- From the start of two valid images that fit, under rules that do not forget reverts, a replay that is not refused ends
-- what the start asks for: the boot after the cuts leaves z, its result is to boot, and the images stand in their slots.
abbrev pub Restarts : PowerOn → List ℕ → Report → Content → Type 0
Restarts x cuts outcome z =
    (kind : Kind) (a b : List ℕ) → BeginsImage x.geometry a → BeginsImage x.geometry b → (kind ≡ starts.Revert → forgets_reverts x.rules.grain x.rules.profile ≡ false)
    → start_flash x.geometry kind a b ≡ Some x.content
    → (u : Content) × (after x cuts ≡ Some u) × EndsIn x kind a b u z × IsSwapOutcome kind a b cuts outcome
