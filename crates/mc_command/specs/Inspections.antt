-- What a dump is, and where it occurs in a swap of two images.
use Rattle.std.specs.Prelude.{Bool, Err, List, None, Ok, Option, Some, codes, false, length, ℕ, ◌&&◌, ◌++◌, ◌^◌, ◌≡◌, ◌≤◌, ◌⊎◌}
use Rattle.clap.specs.{Words.{first_value}, declared.parser.matches.Found.{Found as Words}}
use Rattle.mc_actions.specs.Layouts.{yes_or_no}
use Rattle.mc_boot.specs.declared.kind.Kind.{Kind}
use Rattle.mc_cli.specs.Files.{Holds}
use Rattle.mc_boot.specs.declared.kind.Kind.TheVariants as kinds
use Rattle.mc_explore.specs.Rows.{subject}
use Rattle.mc_flash.specs.{Flash.{Content}, Geometry.{Geometry}}
use Rattle.mc_flash.specs.declared.flash.FlashError.TheVariants as flashes
use Rattle.mc_options.specs.{Arguments.{GivesLayout, GivesRules, kind_text}, Refusals.{GivesOne, HasText, InTurn, LacksLayout, LacksOption, LacksRules}, Requests.{End, IsAnswered, IsDone, IsUnwritten}, Sources.{FailsFlash, IsFlashed, Reads, RefusesFile}, declared.refusal.Refusal.{Refusal}}
use Rattle.mc_options.specs.declared.refusal.Refusal.TheVariants as refusals
use Rattle.mc_start.specs.{Start.{Started, Starts, begun}, declared.start.StartError.{StartError}}
use Rattle.mc_trace.specs.Inspection.{inspection_text}
use Rattle.mc_trace.specs.declared.error.TraceError.TheVariants as errors
use Rattle.mc_trailer.specs.declared.tables.Rules.{Rules}
use Rattle.mc_vectors.specs.{Cases.{AtMost}, Locating.{IsNearest, located_text}}
use Rattle.mc_verdict.specs.{Requests.{CensusAsked, EndsCensus, RefusesCensus, counts_text}, Verdicts.{GivesAsked, IsJudged, LacksEnds, NeverJudged}}
use Rattle.mc_command.specs.{declared.inspect.Found.{Found}, declared.inspect.Images.{Images}, declared.inspect.Inspected.{Inspected}, declared.inspect.LocateAsked.{LocateAsked}}

-- The image in the primary at the start of a swap of that kind, and the one in the secondary: a revert takes the test of b back.
abbrev pub first_of : {A : Type 0} → Kind → A → A → A
first_of kinds.None a b = a
first_of kinds.Test a b = a
first_of kinds.Perm a b = a
first_of kinds.Revert a b = b

abbrev pub second_of : {A : Type 0} → Kind → A → A → A
second_of kind a b = first_of kind b a

-- The start of a swap of that kind of the images, by those rules.
pub record IsSwapOf (images : Images) (g : Geometry) (r : Rules) (kind : Kind) (s : Started) : Type 0 where
  pub plain : Started
  pub made : Starts g kind (first_of kind images.a.items images.b.items) (second_of kind images.a.items images.b.items) (Ok plain)
  pub start_is : s ≡ record { geometry = plain.geometry; rules = r; content = plain.content; named = plain.named }

-- Of the schedules of at most 16 cuts of the swap of that kind, the one that is found is the first whose flash is nearest.
pub record IsFound (images : Images) (flash : Started) (found : Found) : Type 0 where
  pub start : Started
  pub swap : IsSwapOf images flash.geometry flash.rules found.kind start
  pub nearest : IsNearest (begun start) (AtMost 16) flash.content found.located.schedule

-- The words give the layout of a dump, its file, whose bytes it has, and the rules of the boots from there.
pub record GivesDump (holds : Holds) (words : Words) (s : Started) : Type 0 where
  pub layout : GivesLayout words s.geometry
  pub rules : GivesRules words s.rules
  pub bytes : HasText words (codes "flash") (λ path. IsFlashed holds s.geometry path s.content)

-- And two known images by their files, or none.
abbrev pub GivesKnown : Holds → Words → Option Images → Type 0
GivesKnown holds words None = (first_value words (codes "known-a") ≡ None) × (first_value words (codes "known-b") ≡ None)
GivesKnown holds words (Some images) =
    HasText words (codes "known-a") (λ path. Reads (holds path) (2 ^ 24) images.a.items)
    × HasText words (codes "known-b") (λ path. Reads (holds path) (2 ^ 24) images.b.items)

-- And what is asked of all schedules of at most 16 cuts from there.
pub record GivesInspect (holds : Holds) (words : Words) (i : Inspected) : Type 0 where
  pub dump : GivesDump holds words i.wanted.start
  pub images : GivesKnown holds words i.images
  pub asked : GivesAsked words i.wanted.asked
  pub judged : IsJudged i.wanted.asked i.wanted.start.geometry
  pub cuts : i.wanted.cuts ≡ 16
  pub plain : i.wanted.images_return ≡ false

-- Where it occurs in their swaps is asked.
pub record GivesLocate (holds : Holds) (words : Words) (l : LocateAsked) : Type 0 where
  pub dump : GivesDump holds words l.flash
  pub images : GivesKnown holds words (Some l.images)

-- The words give no dump; of two known images one alone is named, or a file is not read; and why there is nothing to inspect, or to locate.
abbrev pub LacksDump : Words → Refusal → Type 0
LacksDump words e = (LacksLayout words e ⊎ LacksRules words e) ⊎ LacksOption words (codes "flash") e

-- The file of an option is not read.
abbrev pub IsUnread : Holds → Words → List ℕ → ℕ → Refusal → Type 0
IsUnread holds words name limit e = HasText words name (λ path. RefusesFile (holds path) limit e)

abbrev pub LacksKnown : Holds → Words → Refusal → Type 0
LacksKnown holds words e =
    ((e ≡ refusals.Source) × GivesOne words (codes "known-a") (codes "known-b"))
    ⊎ (IsUnread holds words (codes "known-a") (2 ^ 24) e ⊎ IsUnread holds words (codes "known-b") (2 ^ 24) e)

-- The file of the dump is not read, or its bytes make no start.
abbrev pub FailsDump : Holds → Words → Refusal → Type 0
FailsDump holds words e = (g : Geometry) × GivesLayout words g × HasText words (codes "flash") (λ path. FailsFlash holds g path e)

abbrev pub LacksInspect : Holds → Words → Refusal → Type 0
LacksInspect holds words =
    InTurn (GivesLayout words) (LacksDump words) (λ layout.
    InTurn (GivesAsked words) (LacksEnds words) (λ asked e.
    NeverJudged asked layout e ⊎ (IsJudged asked layout × (LacksKnown holds words e ⊎ FailsDump holds words e))))

abbrev pub LacksLocate : Holds → Words → Refusal → Type 0
LacksLocate holds words =
    InTurn (GivesLayout words) (LacksDump words) (λ layout e.
    LacksKnown holds words e ⊎ (((e ≡ refusals.Source) × (first_value words (codes "known-a") ≡ None)) ⊎ FailsDump holds words e))

-- What the slots would hold with the known images, if they are given.
abbrev pub AreNamed : Inspected → Option Content → Type 0
AreNamed i None = i.images ≡ None
AreNamed i (Some content) =
    (images : Images) × (i.images ≡ Some images) × (s : Started) × IsSwapOf images i.wanted.start.geometry i.wanted.start.rules kinds.None s × (content ≡ s.content)

-- The known images are refused for a swap of that kind, or an allocation failed.
abbrev pub RefusesSwap : Images → Geometry → Kind → Refusal → Type 0
RefusesSwap images g kind e =
    (error : StartError) × (e ≡ refusals.Start error)
    × Starts g kind (first_of kind images.a.items images.b.items) (second_of kind images.a.items images.b.items) (Err error)

abbrev pub RefusesNamed : Inspected → Refusal → Type 0
RefusesNamed i e = (images : Images) × (i.images ≡ Some images) × RefusesSwap images i.wanted.start.geometry kinds.None e

-- What a dump is, with the census from there.
pub record Inspection (i : Inspected) : Type 0 where
  pub census : CensusAsked subject i.wanted
  pub named : Option Content
  pub are : AreNamed i named

abbrev pub AnswersInspect : Inspected → Option (List ℕ) → Option (List ℕ) → End → Type 0
AnswersInspect i =
    IsAnswered (λ (a : Inspection i). inspection_text (begun i.wanted.start) a.named ++ counts_text subject a.census.counts)
    (λ a. EndsCensus subject i.wanted a.census) (λ e. RefusesCensus i.wanted e ⊎ (RefusesNamed i e ⊎ (e ≡ refusals.Trace errors.Memory)))
    (λ e. IsUnwritten e ⊎ (e ≡ refusals.Trace errors.Write))

-- Where a flash occurs in the three swaps of two images: the nearest of them.
abbrev pub far : Found → ℕ
far found = length found.located.differs.items

pub record LocatedIn (l : LocateAsked) : Type 0 where
  pub test : Found
  pub test_is : (test.kind ≡ kinds.Test) × IsFound l.images l.flash test
  pub perm : Found
  pub perm_is : (perm.kind ≡ kinds.Perm) × IsFound l.images l.flash perm
  pub revert : Found
  pub revert_is : (revert.kind ≡ kinds.Revert) × IsFound l.images l.flash revert
  pub found : Found
  pub one_of : (found ≡ test) ⊎ ((found ≡ perm) ⊎ (found ≡ revert))
  pub nearest : (far found ≤ far test) × (far found ≤ far perm) × (far found ≤ far revert)

-- No number of cuts leaves a nearer one in any of them.
abbrev pub are_whole : {l : LocateAsked} → LocatedIn l → Bool
are_whole a = a.test.located.whole && a.perm.located.whole && a.revert.located.whole

abbrev pub IsNearestOf : LocateAsked → Found × Bool → Type 0
IsNearestOf l found = (a : LocatedIn l) × (a.found ≡ found.0) × (are_whole a ≡ found.1)

abbrev pub swap_text : {l : LocateAsked} → LocatedIn l → List ℕ
swap_text a =
    (codes "swap " ++ (kind_text a.found.kind ++ codes "\n")) ++ (located_text a.found.located ++ (codes "all " ++ (yes_or_no (are_whole a) ++ codes "\n")))

-- There is none: the images are refused for one of these swaps, or an allocation failed.
abbrev pub FailsFind : LocateAsked → Kind → Refusal → Type 0
FailsFind l kind e = RefusesSwap l.images l.flash.geometry kind e ⊎ (e ≡ refusals.Flash flashes.Memory)

abbrev pub RefusesLocate : LocateAsked → Refusal → Type 0
RefusesLocate l e = FailsFind l kinds.Test e ⊎ (FailsFind l kinds.Perm e ⊎ FailsFind l kinds.Revert e)

abbrev pub AnswersLocate : LocateAsked → Option (List ℕ) → Option (List ℕ) → End → Type 0
AnswersLocate l = IsAnswered (λ (a : LocatedIn l). swap_text a) IsDone (λ e. RefusesLocate l e ⊎ (e ≡ refusals.Memory)) IsUnwritten
