-- What is asked of an image, and what answers it.
use Rattle.std.specs.{Io.KnownBytes.{Keeps}, Prelude.{Err, List, None, Ok, Option, Result, Some, codes, ℕ, ◌≡◌, ◌⊎◌}, Borrow.{Bor}}
use Rattle.clap.specs.{Words.{first_value}, declared.parser.matches.Found.{Found}}
use Rattle.mc_actions.specs.declared.creation.Creation.{Creation}
use Rattle.mc_cli.specs.Files.{Holds, MayBeOne}
use Rattle.mc_imgtool.specs.{Created.{created}, declared.error.ToolError.{ToolError}}
use Rattle.mc_imgtool.specs.Engines as engines
use Rattle.mc_options.specs.{Arguments.{GivesCreate, IsFlag}, Outfiles.{IsUnfinished}, Refusals.{LacksCreate, LacksOption}, Requests.{End}, declared.refusal.Refusal.{Refusal}}
use Rattle.mc_options.specs.declared.refusal.Refusal.TheVariants as refusals

-- The words name the file of an image, or standard input.
abbrev pub GivesInfile : Found → Option (Bor (List ℕ)) → Type 0
GivesInfile found None = (first_value found (codes "INFILE") ≡ None) ⊎ (first_value found (codes "INFILE") ≡ Some (codes "-"))
GivesInfile found (Some path) = first_value found (codes "INFILE") ≡ Some path.now

-- They say what `create` is to make, of which file, and where to.
pub record GivesCreation (found : Found) (c : Creation) : Type 0 where
  pub options : GivesCreate found c.options
  pub infile : first_value found (codes "INFILE") ≡ Some c.infile.now
  pub outfile : first_value found (codes "OUTFILE") ≡ Some c.outfile.now
  pub keep : IsFlag found (codes "keep") c.keep

abbrev pub LacksCreation : Found → Refusal → Type 0
LacksCreation found e = LacksCreate found e ⊎ (LacksOption found (codes "INFILE") e ⊎ LacksOption found (codes "OUTFILE") e)

-- A command ends as the image tool does.
abbrev pub tool_end : Result (Unit {0}) ToolError → End
tool_end (Ok done) = Ok done
tool_end (Err e) = Err (refusals.Tool e)

-- The text that is wanted for an input is out, or it is refused; of the input all is known, or nothing.
pub record AnswersInput (wanted : List ℕ → Result (List ℕ) ToolError) (known before after : Option (List ℕ)) (end : End) : Type 0 where
  pub result : Result (Unit {0}) ToolError
  pub answers : engines.Answers wanted known before after result
  pub end_is : end ≡ tool_end result

-- So it is of what a file holds, where that is known; or the file cannot be opened, of which it is not known.
abbrev pub AnswersFile : (Option (List ℕ) → Option (List ℕ) → Option (List ℕ) → End → Type 0) → Option (List ℕ) → Option (List ℕ) → Option (List ℕ) → End → Type 0
AnswersFile OfInput held before after end =
    ((end ≡ Err refusals.Open) × (held ≡ None) × (after ≡ before))
    ⊎ ((known : Option (List ℕ)) × Keeps held known × OfInput known before after end)

-- Of a file, or of standard input.
abbrev pub AnswersInfile : (List ℕ → Result (List ℕ) ToolError) → Holds → Option (Bor (List ℕ)) → Option (List ℕ) → Option (List ℕ) → Option (List ℕ) → End → Type 0
AnswersInfile wanted holds None known before after end = AnswersInput wanted known before after end
AnswersInfile wanted holds (Some path) known before after end = AnswersFile (AnswersInput wanted) (holds path.now) before after end

-- A hyphen stands for standard input and output.
abbrev pub IsStandard : Bor (List ℕ) → Type 0
IsStandard path = path.now ≡ codes "-"

-- The image that is wanted for an input goes to a file, and nothing to standard output; or it is refused, or the file is not written.
pub record WritesInput (wanted : List ℕ → Result (List ℕ) ToolError) (known before after : Option (List ℕ)) (end : End) : Type 0 where
  pub unprinted : after ≡ before
  pub ends : ((old : Option (List ℕ)) × (new : Option (List ℕ)) × AnswersInput wanted known old new end)
      ⊎ ((e : Refusal) × (end ≡ Err e) × IsUnfinished (λ r. ⊥) e)

-- It goes to standard output, or to its file.
pub record MakesImage (c : Creation) (known before after : Option (List ℕ)) (end : End) : Type 0 where
  pub printed : IsStandard c.outfile → AnswersInput (created c.options) known before after end
  pub written : (IsStandard c.outfile → ⊥) → WritesInput (created c.options) known before after end

-- The image of the payload is made; but a payload is not written over.
pub record AnswersCreate (c : Creation) (holds : Holds) (known before after : Option (List ℕ)) (end : End) : Type 0 where
  pub piped : IsStandard c.infile → MakesImage c known before after end
  pub read : (IsStandard c.infile → ⊥)
      → ((end ≡ Err refusals.SameFile) × (after ≡ before) × MayBeOne holds c.infile.now c.outfile.now)
      ⊎ AnswersFile (MakesImage c) (holds c.infile.now) before after end
  pub apart : (IsStandard c.infile → ⊥) → c.infile.now ≡ c.outfile.now → end ≡ Err refusals.SameFile
