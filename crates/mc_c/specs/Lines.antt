-- A whole command line over files in memory (docs/LIBRARY.md).
use Rattle.std.specs.Prelude.{Bool, List, Some, [], ℕ, ◌==◌, ◌≡◌, ◌⊎◌}
use Rattle.std.specs.List.{slice_split}
use Rattle.std.specs.Str.{IsUtf8}
use Rattle.mc_c.specs.{Disks.{bytes_at}, Exports.{Holds}, declared.disk.Disk.{Disk}}
use Rattle.mc_command.specs.Commands.{RunsLine}
use Rattle.mc_options.specs.{Statuses.{status_of}, declared.refusal.Refusal.{Refusal}}
use Rattle.mc_options.specs.declared.refusal.Refusal.TheVariants as refusals

-- A zero byte parts the words of a line.
abbrev pub words_in : List ℕ → List (List ℕ)
words_in = slice_split (λ b. b == 0)

-- Bytes are no command line: they are no text, or an allocation failed.
abbrev pub IsNoLine : List ℕ → Refusal → Type 0
IsNoLine words e = ((e ≡ refusals.NotText) × (IsUtf8 words → ⊥)) ⊎ (e ≡ refusals.Memory)

-- The line is run, whose files hold that, and prints that; or it is none, and nothing is printed.
abbrev pub RunsOver : Disk → List ℕ → List ℕ → List ℕ → ℕ → Type 0
RunsOver disk words input printed status =
    ((failed : Bool) × RunsLine (words_in words) (bytes_at disk) (Some input) (Some []) (Some printed) failed status)
    ⊎ ((e : Refusal) × IsNoLine words e × (printed ≡ []) × (status ≡ status_of e))

-- Over files of these bytes, and as much of what is printed as fits is in the buffer.
pub record RunsCall (files : List ℕ × List ℕ × List ℕ) (words input buffer : List ℕ) (count status : ℕ) : Type 0 where
  pub disk : Disk
  pub a : disk.a.now ≡ files.0
  pub b : disk.b.now ≡ files.1
  pub c : disk.c.now ≡ files.2
  pub printed : List ℕ
  pub runs : RunsOver disk words input printed status
  pub holds : Holds buffer count printed
