-- What the slots are to hold at the end, which outcomes are right then, and how many rows have them.
use Rattle.std.specs.{List.{find}, Option.{option_or}}
use Rattle.std.specs.Prelude.{All, Bool, List, None, Option, Some, codes, count_by, false, if◌then◌else◌, length, not, option_map, true, ℕ, ◌&&◌, ◌++◌, ◌+◌, ◌==◌, ◌≡◌}
use Rattle.std.specs.Str.{bytes_eq}
use Rattle.hex.specs.Hex.{IsBytes, encode_lower}
use Rattle.mc_boot.specs.{Outcome.{Report}, Plan.{PowerOn}}
use Rattle.mc_explore.specs.{Census.{count_text, cut_number, key_or_none}, Subject.{Subject, rows_of}, Survey.{is_boot, tally_by}}
use Rattle.mc_explore.specs.{declared.expectation.Expectation.{Expectation}, declared.expectation.Wanted.{Wanted}, declared.rights.RightsOf.{RightsOf}}
use Rattle.mc_explore.specs.declared.tally.TallyOf.{TallyOf}
use Rattle.mc_image.specs.{Valid.{Identity}, VersionText.{Names}, declared.version.Version.{Version}}
use Rattle.mc_boot.specs.declared.outcome.BootResult.TheVariants as results
use Rattle.mc_explore.specs.declared.expectation.Wanted.TheVariants as wanted
use Rattle.mc_explore.specs.Pages as pages
use Rattle.mc_explore.specs.Subject as states

-- What a slot is to hold, and its text: a version, no image, or an image by the digits of its digest.
abbrev pub Wants : List ℕ → Wanted → Type 0
Wants text wanted.Anything = ⊥
Wants text wanted.Nothing = text ≡ codes "none"
Wants text (wanted.Version version) = Names text version
Wants text (wanted.Digest digest) = text ≡ encode_lower digest

-- A digest that can be written: 32 bytes.
abbrev pub IsBytesOf : Wanted → Type 0
IsBytesOf wanted.Anything = Unit {0}
IsBytesOf wanted.Nothing = Unit {0}
IsBytesOf (wanted.Version version) = Unit {0}
IsBytesOf (wanted.Digest digest) = (length digest ≡ 32) × IsBytes digest

abbrev pub is_version : Version → Version → Bool
is_version v w = v.major == w.major && v.minor == w.minor && v.revision == w.revision && v.build == w.build

-- A slot holds what is wanted.
abbrev pub is_held : Wanted → Option Identity → Bool
is_held wanted.Anything held = true
is_held wanted.Nothing None = true
is_held wanted.Nothing (Some id) = false
is_held (wanted.Version version) None = false
is_held (wanted.Version version) (Some id) = is_version id.version version
is_held (wanted.Digest digest) None = false
is_held (wanted.Digest digest) (Some id) = bytes_eq id.digest digest

-- Each slot holds what is wanted of it; and the boot ends well besides.
abbrev pub is_met : Expectation → Report → Bool
is_met e o = is_held e.primary o.primary && is_held e.secondary o.secondary

abbrev pub is_right : Expectation → Report → Bool
is_right e o = is_met e o && is_boot o.result

-- Rows of whatever is explored are right by how each of them ends.
abbrev pub AllEndRight : {R : Type 0} → (R → Report) → Expectation → List R → Type 0
AllEndRight ends e rows = All (λ row. is_right e (ends row) ≡ true) rows

-- How many rows are right, cut off at the largest 128-bit number, and the key of the first one that is not.
abbrev pub rights_by : {R K : Type 0} → (R → Report) → (R → K) → Expectation → List R → RightsOf K
rights_by ends key e rows = record {
  right = cut_number (count_by (λ row. is_right e (ends row)) rows);
  first_not_right = option_map key (find (λ row. not (is_right e (ends row))) rows);
}

-- Of no rows, and with one row more of that key, which ends so.
abbrev pub no_rights : {K : Type 0} → RightsOf K
no_rights = record { right = 0; first_not_right = None }

abbrev pub one_judged_more : {K : Type 0} → Expectation → K → Report → RightsOf K → RightsOf K
one_judged_more e key report r =
    if is_right e report then record { right = cut_number (r.right + 1); first_not_right = r.first_not_right }
    else record { right = r.right; first_not_right = option_or r.first_not_right (Some key) }

-- The page of the rows to come before a key has that tally, and so many of its rows are right; and its rows are taken.
abbrev pub SurveysRows : {C K R U : Type 0} → Subject C K R U → Expectation → Option K → states.State C K → states.State C K → ℕ → TallyOf U → RightsOf K → Type 0
SurveysRows {C} {K} {R} {U} x e until old new limit tally rights =
    (page : pages.Page R U) × pages.TakesPage (rows_of x) until old new limit page × (tally ≡ tally_by x.ends page) × (rights ≡ rights_by x.ends x.key e page.rows)

-- Of the one list of the rows of a start, under a choice, for at most so many cuts, so many are right.
pub record AreRights {C K R U : Type 0} (x : Subject C K R U) (e : Expectation) (start : PowerOn) (choice : C) (bound : ℕ) (rights : RightsOf K) : Type 0 where
  pub rows : List R
  pub rest : pages.IsRest (rows_of x) (states.at_start start choice bound) rows
  pub rights_are : rights ≡ rights_by x.ends x.key e rows

-- How many schedules are right, and the first that is not.
abbrev pub Rights : Type 0
Rights = RightsOf (List ℕ)

-- Two lines.
abbrev pub rights_text : {C K R U : Type 0} → Subject C K R U → RightsOf K → List ℕ
rights_text x r = codes "right " ++ (count_text r.right ++ (codes "\nfirst-not-right " ++ (key_or_none x.key_text r.first_not_right ++ codes "\n")))

-- How a row counts where only a right outcome is to count as a boot: any other boot counts as none.
abbrev pub judged : Expectation → Report → Report
judged e o = if not (is_met e o) && is_boot o.result then record o { result = results.None } else o
