use Rattle.std.proofs.Common.{List, arith, subst, ℕ}
use Rattle.std.proofs.lemmas.List.{Elements.{All-contains, All-more}, take_all}
use Rattle.std.specs.List.{All}
use Rattle.mc_options.specs.LayoutFiles.{SaysOption}
use Rattle.mc_options.specs.{declared.layout_file.TheConstants.{OPTIONS}, declared.numbers.NumberOption.{NumberOption}}
use Rattle.mc_options.proofs.layout_file.option_in.Goals as goal

abbrev SaysNone : List ℕ → NumberOption → Type 0
SaysNone said option = (value : List ℕ) → SaysOption said option value → ⊥

pub loop-option-preserved : goal.loop-option-preserved
loop-option-preserved c =
    let none = c.value_of.ensures in
    All-more (SaysNone c.args.said.now) OPTIONS c.loop-option.option-index _ c.loop-option-test.true c.loop-option.invariant (rw c.in_default.is at none)

pub returns : goal.returns
returns c = λ option value is.
    All-contains (SaysNone c.args.said.now) OPTIONS option
    (subst (All (SaysNone c.args.said.now)) (take_all c.loop-option.option-index OPTIONS (omega (arith, c.loop-option-test.false))) c.loop-option.invariant) is value
