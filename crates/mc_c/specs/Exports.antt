-- What a caller in another language asks for, and what it finds in its buffers (docs/LIBRARY.md).
use Rattle.std.specs.Prelude.{Bool, true, false, ◌≡◌, ◌⊎◌, ℕ, ◌<◌, ◌≤◌, ◌==◌, if◌then◌else◌, List, [], length, take, Option, Some, None, option_and_then, option_map, Result, Ok, Err, Vec}
use Rattle.std.specs.declared.alloc.Global.{Global}
use Rattle.mc_flash.specs.{Flash.{Content}, Geometry.{Geometry, of_numbers, refusal_of}, declared.flash.Grain.{Grain}}
use Rattle.mc_flash.specs.declared.flash.Grain.TheVariants as grains
use Rattle.mc_trailer.specs.declared.tables.Profile.{Profile}
use Rattle.mc_trailer.specs.declared.tables.Profile.TheVariants as profiles
use Rattle.mc_trailer.specs.declared.tables.Rules.{Rules}
use Rattle.mc_boot.specs.{Outcome.{Report, after, outcome_text}, Plan.{PowerOn, again}}
use Rattle.mc_boot.specs.declared.kind.Kind.TheVariants as kinds
use Rattle.mc_start.specs.{Start.{Started, Starts, Gives, begun, of_flash}, declared.start.StartError.{StartError}}
use Rattle.mc_explore.specs.{Census.{IsCensus, census_text}, Page.{PageIsOut}, Rows.{State, after_key, at_start, subject}}
use Rattle.mc_explore.specs.{Schedules.{CannotOccurAt, IsMember, IsReplayed}, declared.census.CensusOf.{CensusOf}}
use Rattle.mc_explore.specs.declared.error.ExploreError.TheVariants as explored
use Rattle.mc_explore.specs.declared.replays.ReplayError.TheVariants as replays
use Rattle.mc_trace.specs.{Sectors.{IsAt, picture, slots_bytes}, Trace.{trace_text}}
use Rattle.mc_trace.specs.declared.error.TraceError.TheVariants as traces
use Rattle.mc_trace.specs.declared.sectors.Moment.TheVariants as moments
use Rattle.mc_trace.specs.declared.sectors.View.{View}
use Rattle.mc_trace.specs.declared.cells.Words.TheVariants as words
use Rattle.mc_trace.specs.declared.trace.Span.{Span}
use Rattle.mc_explore.specs.declared.expectation.Wanted.TheVariants as wanted
use Rattle.mc_tear.specs.declared.torn.Erasing.TheVariants as erasings
use Rattle.mc_tears.specs.{Tears.{tears_text}, declared.cases.Asked.{Asked}}
use Rattle.mc_options.specs.{Statuses.{status_of}, declared.refusal.Refusal.{Refusal}}
use Rattle.mc_options.specs.declared.refusal.Refusal.TheVariants as refusals
use Rattle.mc_c.specs.declared.source.Origin.{Origin}
use Rattle.mc_c.specs.declared.source.Origin.TheVariants as origins
use Rattle.mc_c.specs.declared.source.Source.{Source}

-- A source, in numbers.

abbrev pub layout_of : Source → Geometry
layout_of n = of_numbers n.sector n.unit n.max_sectors n.chunk n.primary n.secondary

abbrev pub grain_of : ℕ → Option Grain
grain_of n = if n == 0 then Some grains.Call else if n == 1 then Some grains.Unit else None

abbrev pub profile_of : ℕ → Option Profile
profile_of n =
    if n == 1 then Some profiles.One else if n == 2 then Some profiles.Two
    else if n == 3 then Some profiles.Three else None

abbrev pub rules_of : Source → Option Rules
rules_of n = option_and_then (λ grain. option_map (λ profile. record { grain = grain; profile = profile }) (profile_of n.profile)) (grain_of n.grain)

-- Two images, of a kind; or a flash.
abbrev pub origin_of : ℕ → Option Origin
origin_of n =
    if n == 0 then Some (origins.Images kinds.None)
    else if n == 1 then Some (origins.Images kinds.Test)
    else if n == 2 then Some (origins.Images kinds.Perm)
    else if n == 3 then Some (origins.Images kinds.Revert)
    else if n == 4 then Some origins.Flash
    else None

-- The start of such bytes, under the rules where no others are given, or why there is none.
abbrev pub MakesOf : Origin → Geometry → List ℕ → List ℕ → Result Started StartError → Type 0
MakesOf (origins.Images kind) g a b result = Starts g kind a b result
MakesOf origins.Flash g a b result = Gives g result (of_flash g a)

-- Its numbers name rules, and what the bytes are.
pub record Names (n : Source) : Type 0 where
  pub rules : Rules
  pub origin : Origin
  pub rules_are : rules_of n ≡ Some rules
  pub origin_is : origin_of n.kind ≡ Some origin

abbrev pub under : Rules → Started → Started
under rules s = record { geometry = s.geometry; rules = rules; content = s.content; named = s.named }

-- The start that a source makes of its bytes, or the first reason why it makes none: its numbers, its layout, its bytes.
abbrev pub Makes : Source → List ℕ → List ℕ → Result Started Refusal → Type 0
Makes n a b (Ok s) =
    (names : Names n) × (refusal_of (layout_of n) ≡ None) × (plain : Started) × MakesOf names.origin (layout_of n) a b (Ok plain)
    × (s ≡ under names.rules plain)
Makes n a b (Err refusals.Argument) = (rules_of n ≡ None) ⊎ (origin_of n.kind ≡ None)
Makes n a b (Err (refusals.Layout e)) = Names n × (refusal_of (layout_of n) ≡ Some e)
Makes n a b (Err (refusals.Start e)) = (names : Names n) × (refusal_of (layout_of n) ≡ None) × MakesOf names.origin (layout_of n) a b (Err e)
Makes n a b (Err _) = ⊥

-- What an engine answers.

-- A text, or why there is none.
abbrev pub Answer : Type 0
Answer = Result (Vec ℕ Global) Refusal

-- That text; or the first cut that can't occur, unless an allocation failed.
abbrev pub TextOf : PowerOn → List ℕ → (List ℕ → Type 0) → Answer → Type 0
TextOf x cuts Is (Ok text) = Is text.items
TextOf x cuts Is (Err (refusals.Replay (replays.CannotOccur index))) = CannotOccurAt x cuts index
TextOf x cuts Is (Err (refusals.Trace (traces.CannotOccur index))) = CannotOccurAt x cuts index
TextOf x cuts Is (Err e) = status_of e ≡ 3

-- Of the start that a source makes it is what an engine says. Without one it is why there is none.
abbrev pub AnswerOf : (Started → Answer → Type 0) → Source → List ℕ → List ℕ → Answer → Type 0
AnswerOf Says n a b answer =
    ((s : Started) × Makes n a b (Ok s) × Says s answer) ⊎ ((e : Refusal) × (answer ≡ Err e) × Makes n a b (Err e))

-- A start and a schedule; or there are more cuts than one has, or the source makes no start.
abbrev pub Begins : Source → List ℕ → List ℕ → List ℕ → Result (Started × List ℕ) Refusal → Type 0
Begins n a b cuts (Ok at) = (length cuts ≤ 16) × Makes n a b (Ok at.0) × (at.1 ≡ cuts)
Begins n a b cuts (Err e) = ((16 < length cuts) × (e ≡ refusals.Argument)) ⊎ ((length cuts ≤ 16) × Makes n a b (Err e))

-- More cuts than a schedule has, or as many and what an engine says of them.
abbrev pub OfSchedule : (Started → List ℕ → List ℕ → Type 0) → Source → List ℕ → List ℕ → List ℕ → Answer → Type 0
OfSchedule Is n a b cuts answer =
    ((16 < length cuts) × (answer ≡ Err refusals.Argument))
    ⊎ ((length cuts ≤ 16) × AnswerOf (λ s. TextOf (begun s) cuts (Is s cuts)) n a b answer)

-- The trace of a schedule, with those operations of each boot that lie in a span.
abbrev pub is_trace : Span → Started → List ℕ → List ℕ → Type 0
is_trace span s cuts text = text ≡ trace_text span (begun s) cuts

abbrev pub IsTrace : Span → Source → List ℕ → List ℕ → List ℕ → Answer → Type 0
IsTrace span = OfSchedule (is_trace span)

abbrev pub span_of : ℕ → ℕ → Span
span_of from to = record { from = from; to = to }

-- What lies in each sector.
abbrev pub is_picture : View → Started → List ℕ → List ℕ → Type 0
is_picture v s cuts text = (u : Content) × IsAt v.moment (begun s) cuts u × (text ≡ picture v.words s.geometry s.content u)

abbrev pub IsPicture : View → Source → List ℕ → List ℕ → List ℕ → Answer → Type 0
IsPicture v = OfSchedule (is_picture v)

abbrev pub view_of : Bool → Bool → View
view_of end all = record { moment = if end then moments.AtEnd else moments.AtCut; words = if all then words.All else words.Plain }

-- The flash when its last cut falls.
abbrev pub is_at_cut : Started → List ℕ → List ℕ → Type 0
is_at_cut s cuts bytes = (u : Content) × (after (begun s) cuts ≡ Some u) × (bytes ≡ slots_bytes u)

abbrev pub IsFlashAtCut : Source → List ℕ → List ℕ → List ℕ → Answer → Type 0
IsFlashAtCut = OfSchedule is_at_cut

-- The outcome of the uncut boot after it, and the flash that this leaves.
abbrev pub is_outcome : Started → List ℕ → List ℕ → Type 0
is_outcome s cuts text = (r : Report) × (z : Content) × IsReplayed (begun s) cuts r z × (text ≡ outcome_text r)

abbrev pub IsOutcome : Source → List ℕ → List ℕ → List ℕ → Answer → Type 0
IsOutcome = OfSchedule is_outcome

abbrev pub is_left : Started → List ℕ → List ℕ → Type 0
is_left s cuts bytes = (r : Report) × (z : Content) × IsReplayed (begun s) cuts r z × (bytes ≡ slots_bytes z)

abbrev pub IsFlashLeft : Source → List ℕ → List ℕ → List ℕ → Answer → Type 0
IsFlashLeft = OfSchedule is_left

-- What torn operations of the uncut boot after it lead to, where nothing is expected of the slots.
abbrev pub asked_of : Bool → Bool → Asked
asked_of rough all = record {
  erasing = if rough then erasings.Rough else erasings.Gentle;
  all = all;
  expectation = record { primary = wanted.Anything; secondary = wanted.Anything };
}

abbrev pub is_tears : Asked → Started → List ℕ → List ℕ → Type 0
is_tears asked s cuts text = (u : Content) × (after (begun s) cuts ≡ Some u) × (text ≡ tears_text asked (again (begun s) u))

abbrev pub IsTears : Asked → Source → List ℕ → List ℕ → List ℕ → Answer → Type 0
IsTears asked = OfSchedule (is_tears asked)

-- The census of at most so many cuts.
abbrev pub is_census : Started → ℕ → List ℕ → Type 0
is_census s bound text = (census : CensusOf (List ℕ)) × IsCensus subject (begun s) tt bound census × (text ≡ census_text subject census)

abbrev pub IsCensusText : Source → List ℕ → List ℕ → ℕ → Answer → Type 0
IsCensusText n a b bound answer =
    ((16 < bound) × (answer ≡ Err refusals.Argument))
    ⊎ ((bound ≤ 16) × AnswerOf (λ s. TextOf (begun s) [] (λ text. (census : CensusOf (List ℕ))
    × IsCensus subject (begun s) tt bound census × (text ≡ census_text subject census))) n a b answer)

-- From the first row on, or after a schedule.
abbrev pub state_at : PowerOn → ℕ → Bool → List ℕ → State
state_at x bound true last = at_start x bound
state_at x bound false last = after_key x bound last

-- That schedule is none of those to go through, unless an allocation failed.
abbrev pub RefusesPage : PowerOn → ℕ → Bool → List ℕ → Refusal → Type 0
RefusesPage x bound first last (refusals.Explore explored.CannotOccur) = (first ≡ false) × (IsMember x bound last → ⊥)
RefusesPage x bound first last e = status_of e ≡ 3

-- The page of the first so many rows to come.
abbrev pub PageOf : PowerOn → ℕ → Bool → List ℕ → ℕ → Answer → Type 0
PageOf x bound first last limit (Ok text) = (new : State) × PageIsOut (state_at x bound first last) new limit (Some []) (Some text.items)
PageOf x bound first last limit (Err e) = RefusesPage x bound first last e

abbrev pub IsPage : Source → List ℕ → List ℕ → ℕ → Bool → List ℕ → ℕ → Answer → Type 0
IsPage n a b bound first last limit answer =
    (((16 < bound) ⊎ ((16 < length last) ⊎ (limit ≡ 0))) × (answer ≡ Err refusals.Argument))
    ⊎ ((bound ≤ 16) × (length last ≤ 16) × (1 ≤ limit) × AnswerOf (λ s. PageOf (begun s) bound first last limit) n a b answer)

-- What the caller finds.

-- A buffer has as much of a text as it has room for, and the length is that of the text.
abbrev pub Holds : List ℕ → ℕ → List ℕ → Type 0
Holds buffer count text = (count ≡ length text) × (take count buffer ≡ take (length buffer) text)

-- 0 and the text, or the status of the refusal, and the line of it.
abbrev pub IsGiven : Answer → ℕ → List ℕ → ℕ → Type 0
IsGiven (Ok text) status buffer count = (status ≡ 0) × Holds buffer count text.items
IsGiven (Err e) status buffer count = (status ≡ status_of e) × ((line : List ℕ) × Holds buffer count line)
