-- The frames of a schedule as a page that a browser shows, with what all schedules come to: this project's own text (docs/FORMAT.md, "Pictures").
use Rattle.std.specs.Io.KnownBytes.{Appends}
use Rattle.std.specs.Prelude.{Bool, List, Option, codes, if◌then◌else◌, is_none, nat_lt, ℕ, ◌++◌, ◌+◌, ◌≡◌}
use Rattle.mc_boot.specs.Plan.{PowerOn}
use Rattle.mc_explore.specs.{Census.{IsCensus, census_text}, Right.{AreRights, Rights, rights_text}, Rows.{subject}, declared.expectation.Expectation.{Expectation}}
use Rattle.mc_flash.specs.Geometry.{Geometry}
use Rattle.mc_output.specs.Text.{AppendsPrefix}
use Rattle.mc_start.specs.Start.{Started, begun}
use Rattle.mc_tear.specs.declared.torn.Erasing.{Erasing}
use Rattle.mc_trace.specs.{Frames.{header_text, sections_text}, declared.frame.Look.{Look}, declared.page.TheConstants.{HEAD, LEGEND, NOTE}, declared.picture.Verdict.{Verdict}}
use Rattle.mc_trace.specs.declared.trace.Span.{Span}
use Rattle.mc_trace.specs.declared.frame.Form.TheVariants as forms

-- What all schedules of at most 16 cuts from a start come to, and how many of them are right.
pub record IsVerdict (e : Expectation) (start : PowerOn) (verdict : Verdict) : Type 0 where
  pub census : IsCensus subject start tt 16 verdict.census
  pub rights : AreRights subject e start tt 16 verdict.rights

-- Sectors that go on with one another are one cell where the slots have more than 24 sectors.
abbrev pub page_look : Geometry → Expectation → Span → Option Erasing → Look
page_look g e span torn = record { form = forms.Page; merges = nat_lt 24 (g.primary + g.secondary); expectation = e; span = span; torn = torn }

-- What is right of all, or what is not.
abbrev pub right_begin : Bool → List ℕ
right_begin right = if right then codes "<pre class=\"y\">" else codes "<pre class=\"u\">"

abbrev pub rights_begin : Rights → List ℕ
rights_begin rights = right_begin (is_none rights.first_not_right) ++ rights_text subject rights

abbrev pub verdict_text : Verdict → List ℕ
verdict_text v = rights_begin v.rights ++ census_text subject v.census

abbrev pub opening_text : Verdict → List ℕ
opening_text v = HEAD.now ++ (verdict_text v ++ NOTE.now)

abbrev pub page_by : Look → List ℕ → Started → List ℕ → Verdict → List ℕ
page_by look version s cuts v =
    opening_text v ++ (header_text version s look.expectation cuts ++ (LEGEND.now ++ sections_text look s.content 0 (begun s) cuts))

abbrev pub page_text : List ℕ → Expectation → Span → Option Erasing → Started → List ℕ → Verdict → List ℕ
page_text version e span torn s cuts v = page_by (page_look s.geometry e span torn) version s cuts v

-- The page of a schedule, with the operations of each boot whose numbers lie in a span, and with their torn cases where these are asked for.
abbrev pub IsPicture : List ℕ → Expectation → Span → Option Erasing → Started → List ℕ → List ℕ → Type 0
IsPicture version e span torn s cuts text = (v : Verdict) × IsVerdict e (begun s) v × (text ≡ page_text version e span torn s cuts v)

-- It comes out whole, or a prefix of it.
abbrev pub Draws : List ℕ → Expectation → Span → Option Erasing → Started → List ℕ → Option (List ℕ) → Option (List ℕ) → Type 0
Draws version e span torn s cuts before after = (text : List ℕ) × IsPicture version e span torn s cuts text × Appends before after text

abbrev pub BeginsPicture : List ℕ → Expectation → Span → Option Erasing → Started → List ℕ → Option (List ℕ) → Option (List ℕ) → Type 0
BeginsPicture version e span torn s cuts before after = (text : List ℕ) × IsPicture version e span torn s cuts text × AppendsPrefix before after text
