-- The list of schedules, and pages that are continued from their cursors.
use Rattle.std.proofs.Common.{◌≡◌, ℕ, ◌<◌, false, List, [], ◌∷◌, ◌++◌, length, take, inl, inr, subst, arith}
use Rattle.mc_tree.specs.Tree.{Precedes}
use Rattle.mc_explore.specs.{Page.{last_schedule, state_past}, Rows.{IsRest, schedules, after_key, State, ShownRow}, facts.Listed.{schedules_are_lawful}}
use Rattle.mc_explore.specs.facts.Listings.{in_order, past_page}

one_is_later : Precedes (1 ∷ []) (0 ∷ 17 ∷ []) → ⊥
one_is_later (inl less) = omega (arith, less)
one_is_later (inr same) = omega (arith, same.0)

pub longer_first : (state : State) (prefix between rest : List ShownRow) (first later : ShownRow) → first.schedule ≡ 1 ∷ [] → later.schedule ≡ 0 ∷ 17 ∷ []
    → IsRest state (prefix ++ first ∷ (between ++ later ∷ rest)) → ⊥
longer_first state prefix between rest first later one two r =
    let before = in_order schedules schedules_are_lawful state prefix between rest first later r in
    one_is_later (subst (Precedes (1 ∷ [])) two (subst (λ l. Precedes l later.schedule) one before))

-- After a full page an explorer is where one begins that goes on from its cursor.
pub page_resumes : (state : State) (rows : List ShownRow) (limit : ℕ) → state.failed ≡ false → 0 < limit → length (take limit rows) ≡ limit
    → state_past state limit rows ≡ after_key state.start state.bound (last_schedule [] (take limit rows))
page_resumes state rows limit no_allocation_failed some full = grind (arith, past_page, schedules_are_lawful)
