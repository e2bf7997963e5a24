-- The sections of the boots of a schedule.
use Rattle.std.specs.Prelude.{List, None, Option, Some, [], length, ℕ, ◌+◌, ◌++◌, ◌<◌, ◌∷◌, ◌≡◌}
use Rattle.std.proofs.Common.{ap, subst, ◌∙◌}
use Rattle.mc_boot.specs.{Outcome.{Report, ops_of, outcome_of, shown}, Plan.{PowerOn, again}}
use Rattle.mc_explore.specs.{Schedules.{CanOccur}, declared.one_round.OneRound.{OneRound}, facts.Children.{IsAtChild}}
use Rattle.mc_explore.specs.{declared.one_round.Summary.{Summary}, facts.Occurring.{allowed_occurs, occurs_allowed}, inner.LastCuts.{boot_at}, inner.OneRound.{begun_of, one_round_is}}
use Rattle.mc_explore.specs.Boots.{at_cut, boots}
use Rattle.mc_flash.specs.Flash.{Content}
use Rattle.mc_trace.specs.{Frames.{boot_frames, boot_section, end_of, end_text, heading, heading_of, sections_text}, declared.frame.Look.{Look}, inner.Walking.{model_of}}
use Rattle.mc_tree.specs.facts.Order.{landed-push}
use Rattle.mc_walk.specs.Walks.{IsThere, Walked}

module _ (look : Look) (start : Content) (boot : ℕ) (x : PowerOn) where
  module _ (o : Report) (is : outcome_of x ≡ Some o) where
    -- The section of a boot with that outcome.
    pub section_is : (cut : Option ℕ) → boot_section look start boot x cut ≡ heading look.form x.geometry boot o ++ boot_frames look start boot x cut
    section_is cut = ap (λ r. heading_of look.form x.geometry boot r ++ boot_frames look start boot x cut) is

    -- The last one, where there is no cut.
    pub last_is : (cuts : List ℕ) → cuts ≡ [] → sections_text look start boot x cuts ≡ boot_section look start boot x None ++ end_text look.form look.expectation o
    last_is cuts none = ap (sections_text look start boot x) none ∙ ap (λ r. boot_section look start boot x None ++ end_of look r) is

  -- One that is cut.
  pub next_is : (cuts : List ℕ) (cut : ℕ) (rest : List ℕ) → cuts ≡ cut ∷ rest
      → sections_text look start boot x cuts ≡ boot_section look start boot x (Some cut) ++ sections_text look start (boot + 1) (again x (at_cut x cut)) rest
  next_is cuts cut rest is = ap (sections_text look start boot x) is

-- The outcome of the boot from the node where a walk stands.
pub outcome_here : (start : PowerOn) (w : Walked OneRound) (summary : Summary) → begun_of w ≡ start → IsThere (model_of w.flash_tree) w summary
    → outcome_of (boot_at start w.path) ≡ Some (shown summary.outcome)
outcome_here start w summary is there = subst (λ x. outcome_of (boot_at x w.path) ≡ Some (shown summary.outcome)) is (rw (one_round_is (begun_of w)) at there).summary_is.1.outcome_is

-- The boot from the child at a cut.
pub child_boot : (start : PowerOn) (old at : Walked OneRound) (cut : ℕ) → IsAtChild model_of old cut at
    → boot_at start at.path ≡ again (boot_at start old.path) (at_cut (boot_at start old.path) cut)
child_boot start old at cut here = ap (boot_at start) here.path ∙ landed-push boots start old.path cut

-- Where cuts can occur, so can the first, and the rest after it.
pub first_occurs : (x : PowerOn) (cut : ℕ) (rest : List ℕ) → CanOccur x (cut ∷ rest) → (cut < length (ops_of x)) × CanOccur (again x (at_cut x cut)) rest
first_occurs x cut rest some = let a = occurs_allowed x (cut ∷ rest) some in (a.0, allowed_occurs (again x (at_cut x cut)) rest a.1)
