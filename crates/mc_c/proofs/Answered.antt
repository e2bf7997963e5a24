-- What a caller is told of an engine that was asked of a source and a schedule.
use Rattle.std.specs.Prelude.{List, Ok, ℕ}
use Rattle.std.proofs.Common.{inl, inr, subst}
use Rattle.mc_start.specs.Start.{Started, begun}
use Rattle.mc_c.specs.{Exports.{Answer, Begins, OfSchedule, TextOf}, declared.source.Source.{Source}}

module _ (Is : Started → List ℕ → List ℕ → Type 0) (n : Source) (a b cuts : List ℕ) where
  pub of_engine : (at : Started × List ℕ) → Begins n a b cuts (Ok at) → (answer : Answer) → TextOf (begun at.0) at.1 (Is at.0 at.1) answer → OfSchedule Is n a b cuts answer
  of_engine at begins answer text = inr (begins.0, inl (at.0, begins.1, subst (λ l. TextOf (begun at.0) l (Is at.0 l) answer) begins.2 text))
