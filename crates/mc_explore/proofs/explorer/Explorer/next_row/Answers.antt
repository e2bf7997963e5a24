use Rattle.std.proofs.Common.{Some, None, Option, option_map, sym}
use Rattle.std.specs.Prelude.{IfOk, IfSome, Result, Ok, Err}
use Rattle.mc_explore.specs.{Rows.{subject, RowRestarts, State, shown_row}, declared.error.ExploreError.{ExploreError}, declared.row.Row.{Row}}
use Rattle.mc_explore.specs.Subject as states
use Rattle.mc_explore.proofs.explorer.Explorer.next_row.Goals as goal

by_cases : (r : Result (Option Row) ExploreError) (s : State) → IfOk r (λ found. states.Restarts subject s (option_map shown_row found))
    → IfOk r (λ found. IfSome found (λ row. RowRestarts s.start (shown_row row)))
by_cases (Ok (Some row)) s is = is
by_cases (Ok None) s is = tt
by_cases (Err e) s is = tt

pub returns-clause-restarts : goal.returns-clause-restarts
returns-clause-restarts g c = rw (sym c.self.view_is) (by_cases c.next_row.result c.self.inside.inner.state c.next_row.ensures.restarts)
