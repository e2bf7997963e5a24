-- How a command answers what it is asked for: what is out at the end, and how it ends.
use Rattle.std.specs.{Prelude.{◌≡◌, ℕ, List, Ok, Option, Result, Err, ◌⊎◌}, Io.KnownBytes.{Appends}}
use Rattle.mc_options.specs.declared.refusal.Refusal.{Refusal}
use Rattle.mc_options.specs.declared.refusal.Refusal.TheVariants as refusals
use Rattle.mc_output.specs.Text.{AppendsPrefix}

-- How a command ends.
abbrev pub End : Type 0
End = Result (Unit {0}) Refusal

-- A request is answered, whose answers have that text and end so: all of an answer's text is out; or it is refused before a byte is
-- out; or it breaks, and a beginning of an answer's text is out.
abbrev pub IsAnswered : {A : Type 0} → (A → List ℕ) → (A → End → Type 0) → (Refusal → Type 0) → (Refusal → Type 0) → Option (List ℕ) → Option (List ℕ) → End → Type 0
IsAnswered {A} text Ends Refuses Breaks before after end =
    ((a : A) × Ends a end × Appends before after (text a))
    ⊎ (((e : Refusal) × (end ≡ Err e) × Refuses e × (after ≡ before))
    ⊎ ((e : Refusal) × (end ≡ Err e) × Breaks e × (a : A) × AppendsPrefix before after (text a)))

-- The words of a command line are answered: they give a request, which is; or they, or the files that they name, are refused for a reason,
-- before a byte is out.
abbrev pub IsRun : {W : Type 0} → (W → Type 0) → (Refusal → Type 0) → (W → Option (List ℕ) → Option (List ℕ) → End → Type 0) → Option (List ℕ) → Option (List ℕ) → End → Type 0
IsRun {W} Gives Lacks Answers before after end =
    ((w : W) × Gives w × Answers w before after end) ⊎ ((e : Refusal) × (end ≡ Err e) × Lacks e × (after ≡ before))

-- Each answer ends so: all is done.
abbrev pub IsDone : {A : Type 0} → A → End → Type 0
IsDone a end = end ≡ Ok tt

-- A write fails.
abbrev pub IsUnwritten : Refusal → Type 0
IsUnwritten e = e ≡ refusals.Write
