-- A page that is asked for, or its survey, with what of it is right, and the verdict on its rows.
use Rattle.std.specs.Prelude.{◌≡◌, ℕ, List, Option, Ok, Err, ◌++◌, ◌⊎◌, option_map}
use Rattle.mc_explore.specs.{Pages.{Page, Shown, ShownBegan, page_at, page_text}, Right.{rights_by}, Subject.{Explored, Subject, rows_of}, Survey.{tally_by, tally_text}}
use Rattle.mc_explore.specs.{declared.expectation.Expectation.{Expectation}, declared.rights.RightsOf.{RightsOf}, declared.subject.Fields.{Fields}}
use Rattle.mc_explore.specs.declared.error.ExploreError.TheVariants as errors
use Rattle.mc_options.specs.declared.refusal.Refusal.{Refusal}
use Rattle.mc_options.specs.declared.refusal.Refusal.TheVariants as refusals
use Rattle.mc_options.specs.Requests.{End, IsAnswered, IsUnwritten}
use Rattle.mc_verdict.specs.{Sessions.{BeginsAs, Explores, ends_of, or_any}, Verdicts.{IsExpectation, IsVerdict, is_of_slots, is_whole, lines_of}}
use Rattle.mc_verdict.specs.{declared.explore.Exploration.{Exploration}, declared.verdict.Asked.{Asked}}

-- Rows end early: memory fails, or the explorer has failed.
abbrev pub IsStopped : Refusal → Type 0
IsStopped r = (r ≡ refusals.Explore errors.Memory) ⊎ (r ≡ refusals.Explore errors.Failed)

-- A write of a page fails.
abbrev pub IsPageUnwritten : Refusal → Type 0
IsPageUnwritten r = r ≡ refusals.Explore errors.Write

module _ {C K R U : Type 0} (x : Subject C K R U) (fields : U → Fields C K) (e : Exploration C U K) where
  -- There is no explorer; or its rows end early.
  abbrev pub IsUncounted : Refusal → Type 0
  IsUncounted r = Explores x fields e (Err r) ⊎ IsStopped r

  -- A beginning of the page is out.
  pub record PrintBegan (before after : Option (List ℕ)) : Type 0 where
    pub explorer : Explored C K
    pub begins : BeginsAs x fields e (Ok explorer)
    pub out : ShownBegan (rows_of x) e.range.until explorer.state e.extent.limit before after

  -- Nothing is out where there is no explorer, and else a beginning of the page.
  abbrev pub PrintBreaks : Option (List ℕ) → Option (List ℕ) → Refusal → Type 0
  PrintBreaks before after r = (Explores x fields e (Err r) × (after ≡ before)) ⊎ ((IsStopped r ⊎ IsPageUnwritten r) × PrintBegan before after)

  module _ (a : Asked) where
    -- What a page that is asked for has.
    pub record PageAsked : Type 0 where
      pub explorer : Explored C K
      pub begins : BeginsAs x fields e (Ok explorer)
      pub of : Shown (rows_of x) e.range.until explorer.state
      pub expectation : Option Expectation
      pub expects : IsExpectation a (ends_of e.images_return e.start.named) (Ok expectation)

    abbrev pub page_of : PageAsked → Page R U
    page_of p = page_at (rows_of x) p.explorer.state e.extent.limit p.of.shown

    abbrev pub rights_of : PageAsked → Option (RightsOf K)
    rights_of p = option_map (λ w. rights_by x.ends x.key w (page_of p).rows) p.expectation

    -- It ends with the verdict on these rows.
    abbrev pub EndsPage : PageAsked → End → Type 0
    EndsPage p = IsVerdict x.ends a.all_boot (is_of_slots a) (or_any p.expectation) (page_of p).rows (rights_of p) (is_whole (page_of p))

    -- The rows, where to go on, and how many of these rows are right where that is asked; when there is no page, and when it ends early.
    abbrev pub page_asked_text : PageAsked → List ℕ
    page_asked_text p = page_text (rows_of x) (page_of p) ++ lines_of x (rights_of p)

    abbrev pub RefusesPage : Refusal → Type 0
    RefusesPage r = IsExpectation a (ends_of e.images_return e.start.named) (Err r) ⊎ Explores x fields e (Err r)

    abbrev pub IsCutShort : Refusal → Type 0
    IsCutShort r = IsUncounted r ⊎ (IsPageUnwritten r ⊎ IsUnwritten r)

    abbrev pub AnswersPage : Option (List ℕ) → Option (List ℕ) → End → Type 0
    AnswersPage = IsAnswered page_asked_text EndsPage RefusesPage IsCutShort

    -- How many rows, and of each kind, where to go on, and how many are right where that is asked; and when there is none of it.
    abbrev pub survey_asked_text : PageAsked → List ℕ
    survey_asked_text p = tally_text x (tally_by x.ends (page_of p)) ++ lines_of x (rights_of p)

    abbrev pub RefusesSurvey : Refusal → Type 0
    RefusesSurvey r = IsExpectation a (ends_of e.images_return e.start.named) (Err r) ⊎ IsUncounted r

    abbrev pub AnswersSurvey : Option (List ℕ) → Option (List ℕ) → End → Type 0
    AnswersSurvey = IsAnswered survey_asked_text EndsPage RefusesSurvey IsUnwritten
