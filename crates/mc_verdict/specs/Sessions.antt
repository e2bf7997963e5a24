-- The starts and the explorations that the options of a command give.
use Rattle.std.specs.Prelude.{◌≡◌, ◌⊎◌, ℕ, Bool, List, Option, Some, None, Result, Ok, Err, false, not, option_map, true, unwrap_or}
use Rattle.clap.specs.declared.parser.matches.Found.{Found}
use Rattle.mc_boot.specs.{Plan.{PowerOn}, declared.kind.Kind.{Kind}}
use Rattle.mc_boot.specs.declared.kind.Kind.TheVariants as starts
use Rattle.mc_cli.specs.Files.{Holds}
use Rattle.mc_explore.specs.{Census.{IsCensus}, Pages.{ShownIsOut}, Right.{AreRights, SurveysRows}}
use Rattle.mc_explore.specs.{Subject.{Explored, GoesOnBeyond, Resumes, StandsBefore, State, Subject, at_start, rows_of}, declared.error.ExploreError.{ExploreError}}
use Rattle.mc_explore.specs.declared.error.ExploreError.TheVariants as errors
use Rattle.mc_explore.specs.declared.expectation.Expectation.{Expectation}
use Rattle.mc_explore.specs.{declared.rights.RightsOf.{RightsOf}, declared.subject.Fields.{Fields}, declared.tally.TallyOf.{TallyOf}}
use Rattle.mc_image.specs.Valid.{Identity}
use Rattle.mc_start.specs.{Cursor.{IsCursor, cursor_text}, Start.{begun}, declared.cursor.Cursor.{Cursor}}
use Rattle.mc_campaign.specs.declared.cursor.CampaignCursor.{CampaignCursor}
use Rattle.mc_campaign.specs.Texts as campaigns
use Rattle.mc_options.specs.{Arguments.{GivesExtent, GivesFlash, GivesRange}, Numbers.{GivesNumber}, Refusals.{InTurn, LacksExtent, LacksFlash, LacksRange, LacksRequired}, Sources.{FailsSource, IsStartOf}}
use Rattle.mc_verdict.specs.{Shortest.{IsShortest, anything}, Verdicts.{IsExpectation, GivesAsked, IsJudged, LacksEnds, NeverJudged}, declared.verdict.Asked.{Asked}, declared.census.Counts.{Counts}, declared.census.Wanted.{Wanted}}
use Rattle.mc_verdict.specs.declared.explore.Exploration.{Exploration}
use Rattle.mc_options.specs.declared.numbers.NumberOption.TheVariants as numbers
use Rattle.mc_options.specs.{declared.options.FlashOptions.{FlashOptions}, declared.options.Source.{Source}}
use Rattle.mc_options.specs.declared.options.Source.TheVariants as sources
use Rattle.mc_options.specs.declared.refusal.Refusal.{Refusal}
use Rattle.mc_options.specs.declared.refusal.Refusal.TheVariants as refusals

-- Whether the images of a source lie at the end where they would without the swap, by the kind of its start and what is chosen.
abbrev pub images_return : {C : Type 0} → (Kind → C → Bool) → Source → C → Bool
images_return returns (sources.Flash path) choice = false
images_return returns (sources.Images kind a b) choice = returns kind choice

-- So it is after two rounds of a test that does not confirm itself.
abbrev pub is_left_alone : Kind → Bool → Bool
is_left_alone starts.None confirms = false
is_left_alone starts.Test confirms = not confirms
is_left_alone starts.Perm confirms = false
is_left_alone starts.Revert confirms = false

-- The image that is to lie in the primary at the end, and the one in the secondary.
abbrev pub ends_of : Bool → Option (Identity × Identity) → Option (Identity × Identity)
ends_of images_return None = None
ends_of true (Some (one, other)) = Some (other, one)
ends_of false (Some (one, other)) = Some (one, other)

-- What is to be right, or anything.
abbrev pub or_any : Option Expectation → Expectation
or_any e = unwrap_or e anything

-- The arguments give an exploration: its start, what is chosen, how far it goes, which rows it gives, and what is asked of them, of a layout
-- that swaps.
pub record GivesExploration {C K R U : Type 0} (x : Subject C K R U) (IsChoice : Found → C → Type 0) (returns : Kind → C → Bool)
    (holds : Holds) (found : Found) (a : Asked) (e : Exploration C U K) : Type 0 where
  pub options : FlashOptions
  pub options_given : GivesFlash found options
  pub start : IsStartOf holds options e.start
  pub choice : IsChoice found e.choice
  pub images_return : e.images_return ≡ images_return returns options.source e.choice
  pub extent : GivesExtent found e.extent
  pub range : GivesRange x.cursor_text x.key_text found e.range
  pub asked : GivesAsked found a
  pub judged : IsJudged a options.layout

-- A text is that of no cursor.
abbrev pub IsNoCursor : List ℕ → Type 0
IsNoCursor text = (c : Cursor) → IsCursor c → text ≡ cursor_text c → ⊥

abbrev pub IsNoCampaignCursor : List ℕ → Type 0
IsNoCampaignCursor text = (c : CampaignCursor) → campaigns.IsCursor c → text ≡ campaigns.cursor_text c → ⊥

-- What is asked is asked of a layout that never swaps; or a file of the source is refused.
abbrev pub FailsAsked : Holds → Asked → FlashOptions → Refusal → Type 0
FailsAsked holds a o e = NeverJudged a o.layout e ⊎ (IsJudged a o.layout × FailsSource holds o.layout o.source e)

-- They give no exploration, whose cursors and keys have such texts.
abbrev pub LacksExploration : {C K R U : Type 0} → Subject C K R U → (List ℕ → Type 0) → (List ℕ → Type 0) → Holds → Found → Refusal → Type 0
LacksExploration x IsNoCursor IsNoKey holds found =
    InTurn (GivesAsked found) (LacksEnds found) (λ asked.
    InTurn (GivesFlash found) (LacksFlash found) (λ options.
    InTurn (GivesExtent found) (LacksExtent found) (λ extent.
    InTurn (GivesRange x.cursor_text x.key_text found) (LacksRange IsNoCursor IsNoKey found) (λ range. FailsAsked holds asked options))))

-- They give no census.
abbrev pub LacksCensus : Holds → Found → Refusal → Type 0
LacksCensus holds found =
    InTurn (GivesFlash found) (LacksFlash found) (λ options.
    InTurn (GivesNumber found numbers.Cuts) (LacksRequired found numbers.Cuts) (λ cuts.
    InTurn (GivesAsked found) (LacksEnds found) (λ asked. FailsAsked holds asked options)))

module _ {C K R U : Type 0} (x : Subject C K R U) (fields : U → Fields C K) where
  -- An explorer after a key, with a key next, after that of the cursor, or at the start; or why there is none.
  abbrev pub Begins : PowerOn → C → ℕ → Option K → Option K → Option U → Result (Explored C K) ExploreError → Type 0
  Begins start choice bound (Some last) from cursor made = GoesOnBeyond x start choice bound last made
  Begins start choice bound None (Some first) cursor made = StandsBefore x start choice bound first made
  Begins start choice bound None None (Some cursor) made = Resumes x start choice bound (fields cursor) made
  Begins start choice bound None None None (Ok explorer) = explorer.state ≡ at_start start choice bound
  Begins start choice bound None None None (Err e) = e ≡ errors.Memory

  -- The explorer of an exploration.
  abbrev pub BeginsAs : Exploration C U K → Result (Explored C K) ExploreError → Type 0
  BeginsAs e = Begins (begun e.start) e.choice e.extent.cuts e.range.after e.range.from e.range.cursor

  -- The explorer that the options give, or why the program has none.
  abbrev pub Explores : Exploration C U K → Result (Explored C K) Refusal → Type 0
  Explores e (Ok explorer) = BeginsAs e (Ok explorer)
  Explores e (Err (refusals.Explore error)) = BeginsAs e (Err error)
  Explores e (Err _) = ⊥

  -- The tally of the rows that the options give, and how many of them are right.
  pub record TalliesUntil (e : Exploration C U K) (expectation : Expectation) (tally : TallyOf U) (rights : RightsOf K) : Type 0 where
    pub explorer : Explored C K
    pub begins : BeginsAs e (Ok explorer)
    pub new : State C K
    pub counts : SurveysRows x expectation e.range.until explorer.state new e.extent.limit tally rights

  -- And only where something is expected of the slots.
  pub record TalliesFor (e : Exploration C U K) (expectation : Option Expectation) (tally : TallyOf U) (shown : Option (RightsOf K)) : Type 0 where
    pub rights : RightsOf K
    pub tallies : TalliesUntil e (or_any expectation) tally rights
    pub shown_is : shown ≡ option_map (λ _. rights) expectation

  -- The page of the rows that the options give is out.
  pub record PrintsUntil (e : Exploration C U K) (before after : Option (List ℕ)) : Type 0 where
    pub explorer : Explored C K
    pub begins : BeginsAs e (Ok explorer)
    pub new : State C K
    pub out : ShownIsOut (rows_of x) e.range.until explorer.state new e.extent.limit before after

-- The arguments give a census: its start, what is chosen, the most cuts, and what is asked of the rows, of a layout that swaps.
pub record GivesWanted {C : Type 0} (IsChoice : Found → C → Type 0) (returns : Kind → C → Bool) (holds : Holds) (found : Found) (w : Wanted C) : Type 0 where
  pub options : FlashOptions
  pub options_given : GivesFlash found options
  pub start : IsStartOf holds options w.start
  pub choice : IsChoice found w.choice
  pub images_return : w.images_return ≡ images_return returns options.source w.choice
  pub cuts : GivesNumber found numbers.Cuts w.cuts
  pub asked : GivesAsked found w.asked
  pub judged : IsJudged w.asked options.layout

module _ {C K R U : Type 0} (x : Subject C K R U) where
  -- What of the rows of a start is right, where that is asked.
  abbrev pub AreRightsIf : Option Expectation → PowerOn → C → ℕ → Option (RightsOf K) → Type 0
  AreRightsIf None start choice bound None = Unit {0}
  AreRightsIf (Some e) start choice bound (Some rights) = AreRights x e start choice bound rights
  AreRightsIf None start choice bound (Some rights) = ⊥
  AreRightsIf (Some e) start choice bound None = ⊥

  -- The shortest row that is not right, where that is asked.
  abbrev pub IsShortestIf : Option Expectation → PowerOn → C → ℕ → Option K → Type 0
  IsShortestIf None start choice bound key = key ≡ None
  IsShortestIf (Some e) start choice bound key = IsShortest x e start choice bound key

  -- Its census, what of it is right as is asked, and the shortest rows that do not end so.
  pub record AreCounts (w : Wanted C) (c : Counts K) : Type 0 where
    pub comes_to : IsCensus x (begun w.start) w.choice w.cuts c.census
    pub expectation : Option Expectation
    pub expects : IsExpectation w.asked (ends_of w.images_return w.start.named) (Ok expectation)
    pub rights : AreRightsIf expectation (begun w.start) w.choice w.cuts c.rights
    pub not_boot : IsShortest x anything (begun w.start) w.choice w.cuts c.shortest.not_boot
    pub not_right : IsShortestIf expectation (begun w.start) w.choice w.cuts c.shortest.not_right
