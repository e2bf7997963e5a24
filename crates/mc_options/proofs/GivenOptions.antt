-- What arguments give is given in one way.
use Rattle.std.specs.Prelude.{◌≡◌, ◌⊎◌, ℕ, List, true, false, Option, Some, None, Result, Ok, Err, codes}
use Rattle.std.proofs.Common.{sym, ap, ◌∙◌, refl, inl, inr}
use Rattle.clap.specs.{declared.parser.matches.Found.{Found}, Words.{first_value}}
use Rattle.mc_flash.specs.declared.layout.LayoutError.{LayoutError}
use Rattle.mc_image.specs.{declared.error.VersionError.{VersionError}, declared.version.Version.{Version}, VersionText.{Names}}
use Rattle.mc_options.specs.Numbers.{GivesNoNumber}
use Rattle.mc_options.specs.declared.numbers.NumberOption.TheVariants as numbers
use Rattle.mc_trace.specs.declared.wear.Times.{Times}
use Rattle.mc_options.specs.{Arguments.{GivesSource, MayGiveTimes, RefusesSource, is_source, Judges}, declared.options.Source.{Source}}
use Rattle.mc_options.specs.declared.options.Source.TheVariants as sources
use Rattle.mc_options.specs.declared.refusal.Refusal.{Refusal}
use Rattle.mc_options.specs.declared.refusal.Refusal.TheVariants as refusals

pub not_ok : false ≡ true → ⊥
not_ok e = cc

-- Where a text of one of both times says no number, no times are given.
pub no_times : {P : Type 0} (found : Found) (times : Option Times) → MayGiveTimes found times
    → GivesNoNumber found numbers.EraseUs ⊎ GivesNoNumber found numbers.WriteUs → P
no_times found None given (inl none) = absurd (none None given.0)
no_times found None given (inr none) = absurd (none None given.1)
no_times found (Some times) given (inl none) = absurd (none (Some times.erase_us) given.0)
no_times found (Some times) given (inr none) = absurd (none (Some times.write_us) given.1)

abbrev refused : VersionError → Result Version VersionError
refused e = Err e

pub no_version : {P : Type 0} (found : Found) (a b : List ℕ) (v : Version) (e : VersionError) → first_value found (codes "version") ≡ Some a
    → first_value found (codes "version") ≡ Some b → Names b v → ((w : Version) → Names a w → refused e ≡ Ok w) → P
no_version found a b v e at_a at_b names only =
    let same : a ≡ b = let both = sym at_a ∙ at_b in cc in
    let read : refused e ≡ Ok v = only v (rw same names) in
    absurd (cc)

pub names_none : (text : List ℕ) (e : VersionError) → ((w : Version) → Names text w → refused e ≡ Ok w) → (w : Version) → Names text w → ⊥
names_none text e only w names = let read : refused e ≡ Ok w = only w names in absurd (cc)

-- Where a source is given, none is refused.
pub source_given : (found : Found) (s : Source) → GivesSource found s → is_source found ≡ true
source_given found (sources.Flash path) given = rw (given.0, given.1, given.2, given.3) refl
source_given found (sources.Images kind a b) given = rw (given.0, given.1, given.2, given.3) refl

pub not_refused : {P : Type 0} (found : Found) (s : Source) (r : Refusal) → GivesSource found s → RefusesSource found r → P
not_refused found s refusals.Source given refused = let both : true ≡ false = sym (source_given found s given) ∙ refused in absurd (cc)
not_refused found (sources.Flash path) refusals.Argument given refused = let both : None ≡ Some path.now = sym refused.1 ∙ given.0 in absurd (cc)
not_refused found (sources.Images kind a b) refusals.Argument given refused = absurd (refused.2 kind given.1)
not_refused found s _ given refused = absurd refused

-- A source that does not go together is refused as that alone.
pub refused_source : (found : Found) (r : Refusal) → RefusesSource found r → is_source found ≡ false → r ≡ refusals.Source
refused_source found refusals.Source refused none = refl
refused_source found refusals.Argument refused none = let both : true ≡ false = sym refused.0 ∙ none in absurd (cc)
refused_source found _ refused none = absurd refused

pub not_given : {P : Type 0} (found : Found) (s : Source) → GivesSource found s → is_source found ≡ false → P
not_given found s given none = let both : true ≡ false = sym (source_given found s given) ∙ none in absurd (cc)

-- What is judged of a layout is judged of the options that have it.
pub judges_err : (A B : Type 0) (o : Option LayoutError) (e : Refusal) → Judges {A = A} o (Err e) → Judges {A = B} o (Err e)
judges_err A B None e judged = absurd (cc)
judges_err A B (Some l) e judged = let same : e ≡ refusals.Layout l = cc in ap (λ (x : Refusal). Err x) same

pub judges_ok : {A B : Type 0} (o : Option LayoutError) (a : A) (b : B) → Judges o (Ok a) → Judges o (Ok b)
judges_ok None a b judged = refl
judges_ok (Some l) a b judged = absurd (cc)
