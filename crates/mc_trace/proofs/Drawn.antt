-- A page that is drawn.
use Rattle.std.specs.Prelude.{Err, IfErr, List, Ok, OnErr, OnOk, Option, Result, ℕ, ◌≡◌, ◌⊎◌}
use Rattle.std.proofs.Common.{ap, inr, refl}
use Rattle.mc_boot.specs.{Plan.{PowerOn}}
use Rattle.mc_explore.specs.{Schedules.{CanOccur}, declared.expectation.Expectation.{Expectation}}
use Rattle.mc_start.specs.Start.{Started, begun}
use Rattle.mc_tear.specs.declared.torn.Erasing.{Erasing}
use Rattle.mc_trace.specs.{Picture.{BeginsPicture, Draws, IsPicture, IsVerdict, page_by, page_look}, Sectors.{RefusesWalk}, Trace.{RefusesTrace}}
use Rattle.mc_trace.specs.declared.error.TraceError.{TraceError}
use Rattle.mc_trace.specs.declared.error.TraceError.TheVariants as errors
use Rattle.mc_trace.specs.{declared.picture.Verdict.{Verdict}, declared.frame.Look.{Look}, declared.trace.Span.{Span}, inner.Boots.{WritesText}}
use Rattle.mc_trace.proofs.Tracing.{no_refusal}

module _ (version : List ℕ) (e : Expectation) (span : Span) (torn : Option Erasing) (s : Started) (cuts : List ℕ) (look : Look) (v : Verdict) (is : IsVerdict e (begun s) v)
    (look_is : look ≡ page_look s.geometry e span torn) (before after : Option (List ℕ)) where
  abbrev pub text : List ℕ
  text = page_by look version s cuts v

  picture_is : IsPicture version e span torn s cuts text
  picture_is = (v, is, ap (λ (l : Look). page_by l version s cuts v) look_is)

  pub drawn : {A E : Type 0} (r : Result A E) → WritesText r before after text → OnOk r (Draws version e span torn s cuts before after)
  drawn (Ok _) out = (text, picture_is, out)
  drawn (Err _) out = tt

  pub begins : {A E : Type 0} (r : Result A E) → WritesText r before after text → OnErr r ((after ≡ before) ⊎ BeginsPicture version e span torn s cuts before after)
  begins (Ok _) out = tt
  begins (Err _) out = inr (text, picture_is, out)

-- Memory and a failed write are no refusals, and what was replayed can occur.
pub refused : {A W : Type 0} (start : PowerOn) (cuts : List ℕ) (old new : W) (r : Result A TraceError)
    → IfErr r (λ e. (e ≡ errors.Memory) ⊎ (e ≡ errors.Write)) → IfErr r (RefusesTrace start cuts old new)
refused start cuts old new (Ok _) err = tt
refused start cuts old new (Err e) err = no_refusal start cuts old new e err

-- What refuses a walk refuses what would be written, and nothing is.
pub refused_walk : {W : Type 0} (start : PowerOn) (cuts : List ℕ) (writer : W) (e : TraceError) → RefusesWalk start cuts e → RefusesTrace start cuts writer writer e
refused_walk start cuts writer (errors.CannotOccur index) why = (why, refl)
refused_walk start cuts writer errors.Memory why = tt
refused_walk start cuts writer errors.Write why = tt

pub occurs : {A E : Type 0} (start : PowerOn) (cuts : List ℕ) (r : Result A E) → CanOccur start cuts → OnOk r (CanOccur start cuts)
occurs start cuts (Ok _) is = is
occurs start cuts (Err _) is = tt
