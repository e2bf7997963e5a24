use Rattle.std.proofs.Common.{List, take, ℕ}
use Rattle.std.specs.List.{All}
use Rattle.mc_options.specs.LayoutFiles.{SaysOption}
use Rattle.mc_options.proofs.layout_file.option_in.Given as goal

abbrev pub invariant-loop-option : goal.invariant-loop-option
invariant-loop-option l = All (λ option. (value : List ℕ) → SaysOption l.said option value → ⊥) (take l.option-index l.option-items)
