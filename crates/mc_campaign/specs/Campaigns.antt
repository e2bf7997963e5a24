-- Campaigns of power cuts in two rounds: which can occur, and what they come to (docs/MODEL.md, "Campaigns of power cuts").
use Rattle.std.specs.Prelude.{Bool, List, Some, [], if◌then◌else◌, length, ℕ, ⊤, ◌+◌, ◌==◌, ◌∷◌, ◌≡◌, ◌≤◌, ◌⊎◌}
use Rattle.mc_boot.specs.{Outcome.{Report, after, left_by}, Plan.{PowerOn, again}, Restart.{confirmed_if}}
use Rattle.mc_explore.specs.{Schedules.{CannotOccurAt}, declared.replays.ReplayError.{ReplayError}}
use Rattle.mc_flash.specs.Flash.{Content}
use Rattle.mc_tree.specs.Tree.{PairsPrecede}
use Rattle.mc_explore.specs.declared.replays.ReplayError.TheVariants as errors
use Rattle.mc_explore.specs.Schedules as schedules

-- Campaigns of power cuts in two rounds.

-- A campaign is one list of cuts: of each its round, and after how many operations of its boot the power is lost. No round is less
-- than the one before it, of which the first is stated, and none is more than 2.
abbrev pub AscendFrom : ℕ → List (ℕ × ℕ) → Type 0
AscendFrom round [] = Unit {0}
AscendFrom round (cut ∷ cuts) = (round ≤ cut.0) × (cut.0 ≤ 2) × AscendFrom cut.0 cuts

-- Rounds of 1 or 2 that never decrease.
abbrev pub IsInOrder : List (ℕ × ℕ) → Type 0
IsInOrder cuts = AscendFrom 1 cuts

-- The cuts of a round.
abbrev pub in_round : ℕ → List (ℕ × ℕ) → List ℕ
in_round round [] = []
in_round round (cut ∷ cuts) = if cut.0 == round then cut.1 ∷ in_round round cuts else in_round round cuts

-- The campaigns that can occur, and their order: this project's own choice.

-- Rounds of 1 or 2 never decrease. The cuts of the first round can occur, one after another. The uncut boot from the flash that they leave ends the
-- round; there the image confirms itself or not, and from what is then there the cuts of the second round can occur.
pub record CanOccur (x : PowerOn) (confirms : Bool) (c : List (ℕ × ℕ)) : Type 0 where
  pub in_order : IsInOrder c
  pub cut : Content
  pub first : after x (in_round 1 c) ≡ Some cut
  pub left : Content
  pub left_is : left_by (again x cut) ≡ Some left
  pub second : schedules.CanOccur (again x (confirmed_if confirms x.geometry left)) (in_round 2 c)

-- Those of at most so many cuts, of both rounds together.
abbrev pub IsMember : PowerOn → Bool → ℕ → List (ℕ × ℕ) → Type 0
IsMember x confirms bound c = (length c ≤ bound) × CanOccur x confirms c

-- A proper prefix comes before a campaign, else the first cut that differs decides, by its round and then by its number.
abbrev pub Precedes : List (ℕ × ℕ) → List (ℕ × ℕ) → Type 0
Precedes = PairsPrecede

-- One campaign, round by round.

-- The cuts of the first round can occur, and the uncut boot after them has the outcome `one` and leaves `middle`. So it is
-- with those of the second round, from what `middle` is once the image has confirmed itself, where it does.
pub record AreReplayed (x : PowerOn) (confirms : Bool) (c : List (ℕ × ℕ)) (one two : Report) (z : Content) : Type 0 where
  pub middle : Content
  pub first : schedules.IsReplayed x (in_round 1 c) one middle
  pub second : schedules.IsReplayed (again x (confirmed_if confirms x.geometry middle)) (in_round 2 c) two z

-- The second round begins with y: the cuts of the first can occur, the uncut boot after them leaves `middle`, and y is that, once the
-- image has confirmed itself, where it does.
pub record BeginsSecond (x : PowerOn) (confirms : Bool) (cuts : List ℕ) (y : PowerOn) : Type 0 where
  pub one : Report
  pub middle : Content
  pub first : schedules.IsReplayed x cuts one middle
  pub begins : y ≡ again x (confirmed_if confirms x.geometry middle)

-- The first round ends, and the first cut that can't occur is of the second.
pub record CannotOccurLater (x : PowerOn) (confirms : Bool) (c : List (ℕ × ℕ)) (index : ℕ) : Type 0 where
  pub one : Report
  pub middle : Content
  pub first : schedules.IsReplayed x (in_round 1 c) one middle
  pub later : ℕ
  pub second : CannotOccurAt (again x (confirmed_if confirms x.geometry middle)) (in_round 2 c) later
  pub index_is : index ≡ length (in_round 1 c) + later

-- What is refused: the first cut that can't occur, by its number among those of both rounds, unless memory ran out.
abbrev pub RefusesCampaign : PowerOn → Bool → List (ℕ × ℕ) → ReplayError → Type 0
RefusesCampaign x confirms c (errors.CannotOccur index) = CannotOccurAt x (in_round 1 c) index ⊎ CannotOccurLater x confirms c index
RefusesCampaign x confirms c errors.Memory = ⊤
