-- How the end of a boot is found: by the boot, which was run, or by the one that it goes on with.
use Rattle.std.proofs.{Common.{ap, sym, ◌∙◌}, lemmas.Option.{same_Some}}
use Rattle.std.specs.Prelude.{Bool, Some, length, option_map, refl, ℕ, ◌≡◌}
use Rattle.mc_boot.specs.{Boot.{Progress}, Outcome.{Report, is_faulted, left_by, ops_of, outcome_of, report, shown}, Plan.{PowerOn, again, plan}, facts.Run.{left_defined}}
use Rattle.mc_boot.specs.declared.outcome.Outcome.{Outcome}
use Rattle.mc_explore.specs.{Boots.{at_cut, boots, content_or}, declared.one_round.Summary.{Summary}, facts.Occurring.{at_zero}}
use Rattle.mc_explore.specs.inner.OneRound.{IsSummary}
use Rattle.mc_flash.specs.Flash.{Content}
use Rattle.mc_tears.specs.Ends.{end_of, is_busy, left_of, shown_end}
use Rattle.mc_tears.specs.Tears.{cut_end}
use Rattle.mc_tears.specs.{declared.end.Whole.{Whole}, inner.Standing.{IsWhole, LeavesBytes}}

pub left_is : (x : PowerOn) (z : Content) → left_by x ≡ Some z → left_of x ≡ z
left_is x z is = ap (content_or x.content) is

-- Both leave the same.
pub left_same : (x y : PowerOn) → left_by y ≡ left_by x → left_of y ≡ left_of x
left_same x y same =
    let left = left_defined x in
    left_is y left.0 (same ∙ left.1) ∙ sym (left_is x left.0 left.1)

pub report_is : (x : PowerOn) (o : Report) → outcome_of x ≡ Some o → o ≡ report x.rules x.geometry (plan x).kind (length (ops_of x)) (is_faulted x) (left_of x)
unfolding outcome_of
report_is x o is =
    let left = left_defined x in
    let reported : Content → Report = λ z. report x.rules x.geometry (plan x).kind (length (ops_of x)) (is_faulted x) z in
    same_Some o (reported (left_of x)) (sym is ∙ ap (option_map reported) left.1 ∙ ap (λ z. Some (reported z)) (sym (left_is x left.0 left.1)))

-- What is reported of a boot, and whether it leaves a swap under way, is its end.
pub end_is : (x : PowerOn) (outcome : Outcome) (busy : Bool) → outcome_of x ≡ Some (shown outcome) → busy ≡ is_busy x.geometry (left_of x)
    → shown_end (record { outcome = outcome; busy = busy }) ≡ end_of x
unfolding end_of
end_is x outcome busy reported is = rw (report_is x (shown outcome) reported, is) refl

pub whole_end : (x : PowerOn) (whole : Whole) → IsWhole x whole → shown_end (record { outcome = whole.summary.outcome; busy = whole.busy }) ≡ end_of x
whole_end x whole is = end_is x whole.summary.outcome whole.busy is.summary.outcome_is is.busy

-- A boot goes on with the one that was cut, so that both leave the same.
pub derived_end : (x : PowerOn) (n : ℕ) (whole : Whole) (summary : Summary) → IsWhole x whole → IsSummary (boots.child x n) summary → left_by (boots.child x n) ≡ left_by x
    → shown_end (record { outcome = summary.outcome; busy = whole.busy }) ≡ cut_end x n
derived_end x n whole summary is there same =
    end_is (again x (at_cut x n)) summary.outcome whole.busy there.outcome_is (is.busy ∙ ap (is_busy x.geometry) (sym (left_same x (again x (at_cut x n)) same)))

pub derived_bytes : (x : PowerOn) (n : ℕ) → left_by (boots.child x n) ≡ left_by x → LeavesBytes x → LeavesBytes (again x (at_cut x n))
derived_bytes x n same is =
    let left = left_same x (again x (at_cut x n)) same in
    record { sized = rw left is.sized; primary = rw left is.primary; secondary = rw left is.secondary }

-- Before the first operation nothing has changed.
pub first_end : (x : PowerOn) → end_of x ≡ cut_end x 0
first_end x = ap (λ s. end_of (again x s)) (at_zero x)

-- The boot that was run has made nothing yet.
pub none_made : (x : PowerOn) (summary : Summary) → IsSummary x summary → summary.boot.done ≡ 0
none_made x summary is = ap (λ (p : Progress). p.count) is.boot_is
