-- Two rounds that are replayed one after the other.
use Rattle.std.proofs.Common.{subst}
use Rattle.std.specs.Prelude.{Bool, List, ℕ, ◌≡◌}
use Rattle.mc_boot.specs.{Outcome.{Report}, Plan.{PowerOn, again}, Restart.{confirmed_if}}
use Rattle.mc_campaign.specs.Campaigns.{AreReplayed, in_round}
use Rattle.mc_explore.specs.Schedules.{IsReplayed}
use Rattle.mc_flash.specs.Flash.{Content}

module _ (start : PowerOn) (confirms : Bool) (c : List (ℕ × ℕ)) where
  -- The first round ended, and the second begins there.
  module _ (one : Report) (middle : Content) (first : IsReplayed start (in_round 1 c) one middle) (then : PowerOn) (begins : then ≡ again start (confirmed_if confirms start.geometry middle))
      (cuts : List ℕ) (are : cuts ≡ in_round 2 c) where
    -- The second round ends too.
    pub replayed_both : (two : Report) (z : Content) → IsReplayed then cuts two z → AreReplayed start confirms c one two z
    replayed_both two z done = record {
      middle = middle;
      first = first;
      second = subst (λ x. IsReplayed x (in_round 2 c) two z) begins (subst (λ l. IsReplayed then l two z) are done);
    }
