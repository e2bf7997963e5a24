-- The one list of the rows to come, whatever they are.
use Rattle.std.specs.Prelude.{All, Bool}
use Rattle.std.proofs.Common.{◌≡◌, ℕ, zero, suc, ◌<◌, List, [], ◌∷◌, ◌++◌, length, take, None, refl, ap, ◌∙◌, arith}
use Rattle.mc_tree.specs.Tree.{Chain, JoinUp, last_key, Position, After, IsPastIn}
use Rattle.mc_tree.specs.Tree as lists
use Rattle.mc_tree.specs.facts.Joined as joined
use Rattle.mc_tree.specs.facts.OneList as lists_facts
use Rattle.mc_explore.specs.Pages.{Listing, IsLawful, IsRest, IsFirst, FindsRow, state_past}

module _ {S K R C : Type 0} (l : Listing S K R C) (laws : IsLawful l) where
  -- After a row that was given the others are to come.
  pub rest_moved : (state : S) (k : K) (rows : List R) → lists.IsRest l.Before l.key (l.IsRow state) (After k) rows → IsRest l (l.moved_to state k) rows
  rest_moved state k rows r = grind arith

  -- The next row is the first of them.
  pub rest_next : (state : S) (row : R) (rows : List R) → IsFirst l state row → IsRest l state rows
      → (rest : List R) × (rows ≡ row ∷ rest) × IsRest l (l.moved_to state (l.key row)) rest
  rest_next state row rows f r =
      let n = lists_facts.rest_next l.Before laws.order l.key (l.IsRow state) (l.position state) row rows f.is_row f.past f.none_between r in
      (n.0, n.1, rest_moved state (l.key row) n.0 n.2)

  pub rest_over : (state : S) (rows : List R) → FindsRow l state None → IsRest l state rows → rows ≡ []
  rest_over state = lists_facts.rest_over l.Before laws.order l.key (l.IsRow state) (l.position state)

  module _ (state : S) where
    pub one_rest : (xs ys : List R) → IsRest l state xs → IsRest l state ys → xs ≡ ys
    one_rest = lists_facts.one_rest l.Before laws.order l.key (l.IsRow state) (l.position state)

    -- Past the first of them the others are to come.
    pub rest_tail : (row : R) (rows : List R) → IsRest l state (row ∷ rows) → IsRest l (l.moved_to state (l.key row)) rows
    rest_tail row rows r = rest_moved state (l.key row) rows (lists_facts.rest_tail l.Before laws.order l.key (l.IsRow state) (l.position state) row rows r)

    -- Each comes before those that stand after it.
    pub in_order : (prefix between rest : List R) (first later : R) → IsRest l state (prefix ++ first ∷ (between ++ later ∷ rest)) → l.Before (l.key first) (l.key later)
    in_order = lists_facts.in_order l.Before laws.order l.key (l.IsRow state) (l.position state)

    -- The rows of pages that are continued one after another.
    pub pages_join : (limits : List ℕ) (whole rows : List R) (ended : Bool) → All (λ n. 0 < n) limits → IsRest l state whole
        → Chain l.Before l.key l.no_key (l.IsRow state) (l.position state) limits ended rows → JoinUp whole rows ended
    pages_join limits = joined.pages_join l.Before laws.order l.key l.no_key (l.IsRow state) limits (l.position state)

  -- After a full page one is after its last row.
  pub past_page : (limit : ℕ) (state : S) (rows : List R) → 0 < limit → length (take limit rows) ≡ limit
      → state_past l state limit rows ≡ l.moved_to state (last_key l.key l.no_key (take limit rows))
  unfolding state_past
  past_page zero state rows some full = absurd (omega (arith, some))
  past_page (suc k) state [] some full = absurd (omega (arith, full))
  past_page (suc zero) state (row ∷ rows) some full = refl
  past_page (suc (suc k)) state (row ∷ rows) some full =
      let last : K = last_key l.key l.no_key (take (suc k) rows) in
      past_page (suc k) (l.moved_to state (l.key row)) rows (omega arith) (omega (arith, full)) ∙ laws.moved_again state (l.key row) last
      ∙ ap (l.moved_to state) (joined.last_same l.key l.no_key (l.key row) (take (suc k) rows) (omega (arith, full)))
