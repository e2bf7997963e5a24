-- The rows of pages that are continued one after another.
use Rattle.std.specs.Prelude.{◌≡◌, ◌⊎◌, ℕ, zero, suc, ◌+◌, ◌<◌, Bool, true, List, [], ◌∷◌, ◌++◌, length, take, drop, All, refl}
use Rattle.std.proofs.{Common.{inl, inr, arith, sym, ap, subst, ◌∙◌, append-nil}, Math.Seq.{take-add}, lemmas.List.{length-take, take-append-drop, take_all}}
use Rattle.std.proofs.lemmas.List.Elements.{All-head, All-tail}
use Rattle.mc_tree.specs.{Tree.{Position, After, IsRest, last_key, Chain, JoinUp}, facts.OneList.{one_rest, rest_tail}, facts.Order.{IsOrder}}

module _ {R : Type 0} where
  -- After a full page the rest of the chain is a prefix of the others.
  full_page : (limit : ℕ) (whole page more rows : List R) (ended : Bool) → rows ≡ page ++ more → page ≡ take limit whole
      → JoinUp (drop limit whole) more ended → JoinUp whole rows ended
  full_page limit whole page more rows ended joined first beyond =
      let with_page : List R → List R = λ xs. page ++ xs in record {
        prefix = (
          limit + beyond.prefix.0,
          joined ∙ ap with_page beyond.prefix.1 ∙ ap (λ (xs : List R). xs ++ take beyond.prefix.0 (drop limit whole)) first ∙ sym (take-add limit beyond.prefix.0 whole),
        );
        all = λ is. joined ∙ ap with_page (beyond.all is) ∙ ap (λ (xs : List R). xs ++ drop limit whole) first ∙ take-append-drop limit whole;
      }

  -- A page that is not full has all rows.
  short_page : (limit : ℕ) (whole page more rows : List R) (ended : Bool) → rows ≡ page ++ more → page ≡ take limit whole
      → length page < limit → more ≡ [] → JoinUp whole rows ended
  short_page limit whole page more rows ended joined first short none = grind (arith, length-take, append-nil, take_all)

pub last_same : {K R : Type 0} (key : R → K) (a b : K) (rows : List R) → 0 < length rows → last_key key a rows ≡ last_key key b rows
last_same key a b [] some = absurd (omega (arith, some))
last_same key a b (row ∷ rows) some = refl

module _ {K R : Type 0} (Before : K → K → Type 0) (order : IsOrder Before) (key : R → K) (no_key : K) (IsRow : R → Type 0) where
  -- Where one is past a page.
  abbrev past_page : List R → Position K
  past_page page = After (last_key key no_key page)

  -- A chain goes on past a page.
  abbrev FollowsPage : List ℕ → List R → Bool → List R → Type 0
  FollowsPage limits page ended more = Chain Before key no_key IsRow (past_page page) limits ended more

  -- Past a full page the others are to come.
  pub rest_past : (limit : ℕ) (position : Position K) (rows : List R) → 0 < limit → length (take limit rows) ≡ limit
      → IsRest Before key IsRow position rows → IsRest Before key IsRow (past_page (take limit rows)) (drop limit rows)
  rest_past zero position rows some full rest = absurd (omega (arith, some))
  rest_past (suc k) position [] some full rest = absurd (omega (arith, full))
  rest_past (suc zero) position (row ∷ rows) some full rest = rest_tail Before order key IsRow position row rows rest
  rest_past (suc (suc k)) position (row ∷ rows) some full rest =
      let on = rest_past (suc k) (After (key row)) rows (omega arith) (omega (arith, full)) (rest_tail Before order key IsRow position row rows rest) in
      let last = last_same key no_key (key row) (take (suc k) rows) (omega (arith, full)) in
      subst (λ l. IsRest Before key IsRow (After l) (drop (suc k) rows)) last on

  pub pages_join : (limits : List ℕ) (position : Position K) (whole rows : List R) (ended : Bool) → All (λ n. 0 < n) limits
      → IsRest Before key IsRow position whole → Chain Before key no_key IsRow position limits ended rows → JoinUp whole rows ended
  pages_join [] position whole rows ended some rest chain = grind arith
  pages_join (limit ∷ limits) position whole rows ended some rest (page, more, is_page, joined, on) =
      let first : page ≡ take limit whole = is_page.first ∙ ap (take limit) (one_rest Before order key IsRow position is_page.all whole is_page.rest rest) in
      by (pages_join limits (past_page page) (drop limit whole) more ended (All-tail (λ n. 0 < n) limit limits some)) on first
    where
      by : (IsRest Before key IsRow (past_page page) (drop limit whole) → FollowsPage limits page ended more → JoinUp (drop limit whole) more ended)
          → ((length page ≡ limit) × FollowsPage limits page ended more) ⊎ ((length page < limit) × (limits ≡ []) × (ended ≡ true) × (more ≡ []))
          → page ≡ take limit whole → JoinUp whole rows ended
      by go (inr last) first = short_page limit whole page more rows ended joined first last.0 last.3
      by go (inl next) first =
          let full : length (take limit whole) ≡ limit = sym (ap (λ (xs : List R). length xs) first) ∙ next.0 in
          let past = rest_past limit position whole (All-head (λ n. 0 < n) limit limits some) full rest in
          full_page limit whole page more rows ended joined first (go (subst (λ xs. IsRest Before key IsRow (past_page xs) (drop limit whole)) (sym first) past) next.1)
