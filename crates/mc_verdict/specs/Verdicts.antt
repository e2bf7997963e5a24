-- What is to be right at the end, and how a survey and a census end.
use Rattle.std.specs.Prelude.{◌≡◌, ◌⊎◌, ℕ, Bool, true, false, List, Option, Some, None, [], Result, Ok, Err, IfSome, codes, if◌then◌else◌, is_none, is_some, length, not, ◌&&◌, ◌||◌, ◌<◌, ◌==◌}
use Rattle.clap.specs.{Words.{first_value}, declared.parser.matches.Found.{Found}}
use Rattle.mc_boot.specs.Outcome.{Report}
use Rattle.mc_explore.specs.{Pages.{Page}, Right.{AllEndRight, IsBytesOf, Wants, rights_by, rights_text}, Subject.{Subject}, Survey.{AllEndInBoot}}
use Rattle.mc_explore.specs.{declared.expectation.Expectation.{Expectation}, declared.expectation.Wanted.{Wanted}, declared.rights.RightsOf.{RightsOf}}
use Rattle.mc_flash.specs.Geometry.{Geometry}
use Rattle.mc_image.specs.{Valid.{Identity}, declared.error.VersionError.{VersionError}}
use Rattle.mc_options.specs.{Arguments.{IsFlag}, Refusals.{HasText}, declared.refusal.Refusal.{Refusal}}
use Rattle.mc_verdict.specs.{declared.verdict.Asked.{Asked}, declared.verdict.Ends.{Ends}}
use Rattle.mc_explore.specs.declared.expectation.Wanted.TheVariants as wanted
use Rattle.mc_options.specs.declared.refusal.Refusal.TheVariants as refusals

-- The text of an option is that of what a slot is to hold, or the option is left out.
abbrev pub MayGiveWanted : Found → List ℕ → Option Wanted → Type 0
MayGiveWanted found name None = first_value found name ≡ None
MayGiveWanted found name (Some w) = (text : List ℕ) × (first_value found name ≡ Some text) × Wants text w

-- The arguments give what the slots hold at the end.
pub record GivesEnds (found : Found) (e : Ends) : Type 0 where
  pub primary : MayGiveWanted found (codes "expect-primary") e.primary
  pub secondary : MayGiveWanted found (codes "expect-secondary") e.secondary

-- The arguments give what each row is to be.
pub record GivesAsked (found : Found) (a : Asked) : Type 0 where
  pub ends : GivesEnds found a.ends
  pub all_right : IsFlag found (codes "all-right") a.all_right
  pub all_boot : IsFlag found (codes "all-boot") a.all_boot

-- The text of an option is none of what a slot may hold.
abbrev pub IsNotWanted : List ℕ → Type 0
IsNotWanted text = (w : Wanted) → IsBytesOf w → Wants text w → ⊥

abbrev pub LacksWanted : Found → List ℕ → Refusal → Type 0
LacksWanted found name e = ((error : VersionError) × (e ≡ refusals.Version error)) × HasText found name IsNotWanted

abbrev pub LacksEnds : Found → Refusal → Type 0
LacksEnds found e = LacksWanted found (codes "expect-primary") e ⊎ LacksWanted found (codes "expect-secondary") e

-- Something is asked of the slots.
abbrev pub is_of_slots : Asked → Bool
is_of_slots a = is_some a.ends.primary || is_some a.ends.secondary || a.all_right

-- Anything is asked.
abbrev pub is_any : Asked → Bool
is_any a = is_of_slots a || a.all_boot

-- MCUboot swaps nothing where a slot has more sectors than the trailer has room for; the secondary has no more than the primary.
abbrev pub NeverSwaps : Geometry → Type 0
NeverSwaps g = g.max_sectors < g.primary

-- A verdict is asked of no layout that never swaps; or of one.
abbrev pub IsJudged : Asked → Geometry → Type 0
IsJudged a g = is_any a ≡ true → NeverSwaps g → ⊥

abbrev pub NeverJudged : Asked → Geometry → Refusal → Type 0
NeverJudged a g e = (e ≡ refusals.NeverSwaps) × (is_any a ≡ true) × NeverSwaps g

-- What is wanted of a slot: what is known of it; else, where each row is to be right, the image that is to lie there at the end.
abbrev pub wanted_of : Option Wanted → Bool → Option Identity → Option Wanted
wanted_of (Some w) all id = Some w
wanted_of None false id = Some wanted.Anything
wanted_of None true None = None
wanted_of None true (Some id) = Some (wanted.Digest id.digest)

abbrev both : Option Wanted → Option Wanted → Option Expectation
both (Some p) (Some s) = Some (record { primary = p; secondary = s })
both (Some p) None = None
both None s = None

-- What is asked of both slots of a start with those images, the named one and the other. Nothing where that is not known of a slot.
abbrev pub expectation_of : Asked → Option (Identity × Identity) → Option Expectation
expectation_of a None = both (wanted_of a.ends.primary a.all_right None) (wanted_of a.ends.secondary a.all_right None)
expectation_of a (Some ids) = both (wanted_of a.ends.primary a.all_right (Some ids.0)) (wanted_of a.ends.secondary a.all_right (Some ids.1))

-- The expectation, where one is asked for; it is refused where it is not known of a slot.
abbrev pub IsExpectation : Asked → Option (Identity × Identity) → Result (Option Expectation) Refusal → Type 0
IsExpectation a named (Ok None) = is_of_slots a ≡ false
IsExpectation a named (Ok (Some e)) = (is_of_slots a ≡ true) × (expectation_of a named ≡ Some e)
IsExpectation a named (Err refusal) = (refusal ≡ refusals.Expectation) × (is_of_slots a ≡ true) × (expectation_of a named ≡ None)

-- What is wanted of a slot: what is given; else the image that is to lie there, where it is known; else anything.
abbrev pub wanted_or_any : Option Wanted → Option Identity → Wanted
wanted_or_any (Some w) id = w
wanted_or_any None (Some id) = wanted.Digest id.digest
wanted_or_any None None = wanted.Anything

-- What is right of a start with those images, the named one and the other.
abbrev pub expected_ends : Ends → Option (Identity × Identity) → Expectation
expected_ends e None = record { primary = wanted_or_any e.primary None; secondary = wanted_or_any e.secondary None }
expected_ends e (Some ids) = record { primary = wanted_or_any e.primary (Some ids.0); secondary = wanted_or_any e.secondary (Some ids.1) }

-- What was counted of some rows of what is explored, if that was asked for.
abbrev pub AreCounted : {C K R U : Type 0} → Subject C K R U → Expectation → List R → Option (RightsOf K) → Type 0
AreCounted x e rows rights = IfSome rights (λ r. r ≡ rights_by x.ends x.key e rows)

-- The lines of it.
abbrev pub lines_of : {C K R U : Type 0} → Subject C K R U → Option (RightsOf K) → List ℕ
lines_of x None = []
lines_of x (Some rights) = rights_text x rights

-- There are rows, and the page does not go on.
abbrev pub is_whole : {R U : Type 0} → Page R U → Bool
is_whole page = is_none page.goes_on && not (length page.rows == 0)

-- The first of what was asked for that does not hold: that each row boots, that each is right, and that there are no more.
abbrev pub verdict_of : Bool → Bool → Bool → Bool → Bool → Result (Unit {0}) Refusal
verdict_of of_boots of_slots boots right whole =
    if of_boots && not boots then Err refusals.NotAllBoot
    else if of_slots && not right then Err refusals.NotAllRight
    else if (of_slots || of_boots) && not whole then Err refusals.NotWhole
    else Ok tt

-- How a survey or a census of some rows ends: with the first of what was asked for that does not hold. A part of the rows to come is
-- no verdict.
abbrev pub IsVerdict : {R K : Type 0} → (R → Report) → Bool → Bool → Expectation → List R → Option (RightsOf K) → Bool → Result (Unit {0}) Refusal → Type 0
IsVerdict ends of_boots of_slots e rows rights whole (Ok done) =
    (of_boots ≡ true → AllEndInBoot ends rows) × (of_slots ≡ true → IfSome rights (λ _. AllEndRight ends e rows))
    × ((of_slots || of_boots) ≡ true → whole ≡ true)
IsVerdict ends of_boots of_slots e rows rights whole (Err refusals.NotAllBoot) = (of_boots ≡ true) × (AllEndInBoot ends rows → ⊥)
IsVerdict ends of_boots of_slots e rows rights whole (Err refusals.NotAllRight) = (of_slots ≡ true) × (AllEndRight ends e rows → ⊥)
IsVerdict ends of_boots of_slots e rows rights whole (Err refusals.NotWhole) = ((of_slots || of_boots) ≡ true) × (whole ≡ false)
IsVerdict ends of_boots of_slots e rows rights whole (Err refusal) = ⊥
