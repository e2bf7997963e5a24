use Rattle.std.specs.Prelude.{ℕ}
use Rattle.mc_explore.specs.facts.Children.{HasCome}
use Rattle.mc_start.specs.Start.{begun}
use Rattle.mc_vectors.specs.inner.Searching.{IsExpanding, IsReady}
use Rattle.mc_vectors.proofs.Arrived.{model_of}
use Rattle.mc_vectors.proofs.search.Search.expand.Given as goal
use Rattle.mc_vectors.proofs.search.Search.expand.Given.{Over}

-- So many children are gone through.
pub record IsGone (g : Over) (l : goal.Live-loop-number g) : Type 0 where
  pub come : HasCome model_of l.initial.walk l.number l.walk
  pub ready : IsReady l.fn.start.geometry.sector l.self
  pub gone : (bound index : ℕ) → IsExpanding (begun l.fn.start) bound l.initial.self.cases.items index 0 l.fn.case
      → IsExpanding (begun l.fn.start) bound l.self.cases.items index l.number l.fn.case

abbrev pub invariant-loop-number : goal.invariant-loop-number
invariant-loop-number g l = IsGone g l
