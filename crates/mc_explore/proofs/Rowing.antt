-- The next row, by how a tour stands with the last one, also where the outcomes of last cuts are kept.
use Rattle.std.proofs.{Common.{add-one, ap, arith, length-append, subst, sym, ◌∙◌}}
use Rattle.std.specs.Prelude.{Bool, IfSome, IsSomeAnd, List, None, Option, Some, [], false, is_some, length, refl, suc, true, zero, ℕ, ◌++◌, ◌+◌, ◌-◌, ◌<◌, ◌∷◌, ◌≡◌, ◌≢◌, ◌≤◌}
use Rattle.mc_explore.proofs.CutsAlong.{row_up}
use Rattle.mc_explore.specs.{declared.ahead.Ahead.{Ahead}, declared.ahead.RowsAhead.{RowsAhead}, declared.boot_row.BootRow.{BootRow}, inner.BootRows.{counted_up}}
use Rattle.mc_explore.specs.inner.Exploring.{AreAllowed, AreBeyond, AreCountedUp, AreFresh, FindsRow, IsAtPhase, IsCountedUp, IsInStep, IsRowing, IsSpent, IsTouring, IsWithin, Rowed, StandsFor, TakesCountedUp, last_of, one_taken, with_last}
use Rattle.mc_tree.specs.{Tree.{After, IsNext, Position, landed}, facts.Order.{allowed-push, next_after, next_below}}
use Rattle.mc_walk.specs.{TreeModel.{TreeModel}, Walks.{IsPath, Toured, Visits, Walked, position_of}}
use Rattle.mc_walk.specs.{declared.tour.Phase.{Phase}, declared.tour.Phase.TheVariants.{Broken, Done, Fresh, Going}}
use Rattle.mc_walk.specs.facts.Same.{path_back, same_back}

-- The next row, by how a tour stands with the last one.

last_more : (path : List ℕ) (n : ℕ) → with_last path (n + 1) ≡ path ++ n ∷ []
last_more path n = ap (with_last path) (add-one n)

-- What a value is found to be, where there is one.
pub some_found : {R : Type 0} (P : R → Type 0) (Q : Option R → Type 0) (o : Option R) → IsSomeAnd o P → ((r : R) → P r → Q (Some r)) → Q o
some_found P Q None is there = absurd is
some_found P Q (Some r) is there = there r is

module _ {B N A T H : Type 0} (model : B → TreeModel N A T) (holds : B → H → Type 0) (is_ahead : B → H → List ℕ → Ahead → ℕ → Type 0) where
  -- Where no further path is, the position is after the last one.

  -- A row ahead is to come.
  module _ (t : Toured B) (kept : H) (path : List ℕ) (x : RowsAhead) (inv : IsTouring model holds is_ahead t kept path (Some x)) (lt : x.next < x.count) where
    works : t.phase ≢ Broken
    works is = omega (arith, inv.spent is, lt)

    pub step : IsInStep model holds is_ahead t kept path (Some x)
    step = inv.sound works

    going : t.phase ≡ Going
    going = by t.phase refl
      where
        by : (p : Phase) → t.phase ≡ p → p ≡ Going
        by Fresh is = let none : Some x ≡ None = subst (IsAtPhase model holds is_ahead t.walk kept path (Some x)) is step.stands in absurd cc
        by Going is = refl
        by Done is = let over = subst (IsAtPhase model holds is_ahead t.walk kept path (Some x)) is step.stands in absurd (omega (arith, over.1, lt))
        by Broken is = absurd (works is)

    there : IsAtPhase model holds is_ahead t.walk kept path (Some x) Going
    there = subst (IsAtPhase model holds is_ahead t.walk kept path (Some x)) going step.stands

    pub ahead_there : AreBeyond model is_ahead t.walk kept path x
    ahead_there = there.1

    next_is : IsNext (IsPath (model t.walk.flash_tree) t.walk) (After (with_last path x.next)) (path ++ x.next ∷ [])
    next_is = by x.next (omega (arith, lt, ahead_there.count_is))
      where
        by : (n : ℕ) → n < (model t.walk.flash_tree).tree.width (landed (model t.walk.flash_tree).tree (model t.walk.flash_tree).root path)
            → IsNext (IsPath (model t.walk.flash_tree) t.walk) (After (with_last path n)) (path ++ n ∷ [])
        by zero lt =
            let tree = (model t.walk.flash_tree).tree in
            let root = (model t.walk.flash_tree).root in
            let deep = ahead_there.deep in
            next_below tree root t.walk.bound path (omega (arith, deep, length-append path (0 ∷ [])), allowed-push tree root path 0 ahead_there.listed.1 lt)
        by (suc n) lt =
            let tree = (model t.walk.flash_tree).tree in
            let root = (model t.walk.flash_tree).root in
            let P : ℕ → Type 0 = λ m. IsNext (IsPath (model t.walk.flash_tree) t.walk) (After (path ++ n ∷ [])) (path ++ m ∷ []) in
            subst P (add-one n) (next_after tree root t.walk.bound path n ahead_there.deep (allowed-push tree root path n ahead_there.listed.1 (omega (arith, lt))) (omega (arith, lt)))

    pub last_there : with_last path (x.next + 1) ≡ path ++ x.next ∷ []
    last_there = last_more path x.next

    pub next_ahead : IsNext (IsPath (model t.walk.flash_tree) t.walk) (position_of t.phase (with_last path x.next)) (with_last path (x.next + 1))
    next_ahead =
        let P : Phase → List ℕ → Type 0 = λ p l. IsNext (IsPath (model t.walk.flash_tree) t.walk) (position_of p (with_last path x.next)) l in
        subst (λ p. P p (with_last path (x.next + 1))) (sym going) (subst (P Going) (sym last_there) next_is)

    pub going_there : t.phase ≡ Going
    going_there = going

    -- It is taken.
    pub touring_taken : (near counted_up : ℕ) → IsTouring model holds is_ahead t kept path (Some (one_taken x near counted_up))
    touring_taken near counted_up =
        let taken : RowsAhead = one_taken x near counted_up in
        let b = ahead_there in
        let beyond : AreBeyond model is_ahead t.walk kept path taken =
        record { deep = b.deep; listed = b.listed; are = b.are; count_is = b.count_is; some = b.some; small = b.small } in
        record {
          spent = λ is. absurd (works is);
          sound = λ _. record {
            at_most = step.at_most;
            holds_there = step.holds_there;
            stands = subst (IsAtPhase model holds is_ahead t.walk kept path (Some taken)) (sym going) (there.0, beyond);
          };
        }

    -- All children are there.
    pub all_allowed : AreAllowed (model t.walk.flash_tree) path x.count
    all_allowed i lt =
        let k = model t.walk.flash_tree in
        allowed-push k.tree k.root path i ahead_there.listed.1 (omega (arith, lt, ahead_there.count_is))

  -- A walk stands at that path, and these rows are ahead; and what was kept goes over.
  pub record HasArrived (w : Walked B) (kept kept' : H) (path' : List ℕ) (ahead' : Option RowsAhead) : Type 0 where
    pub path_is : path' ≡ w.path
    pub keeps : holds w.flash_tree kept → holds w.flash_tree kept'
    pub are : IfSome ahead' (AreFresh model is_ahead w kept' path')

  -- No row ahead is to come.
  module _ (t : Toured B) (kept : H) (path : List ℕ) (ahead : Option RowsAhead) (inv : IsTouring model holds is_ahead t kept path ahead) (spent : IfSome ahead IsSpent)
      (works : t.phase ≢ Broken) where
    abbrev here : Position (List ℕ)
    here = position_of t.phase (last_of path ahead)

    stands_by : (p : Phase) (o : Option RowsAhead) → IsAtPhase model holds is_ahead t.walk kept path o p → IfSome o IsSpent
        → StandsFor model (is_some o) (record { walk = t.walk; phase = p }) (position_of p (last_of path o))
    stands_by Fresh None at left = refl
    stands_by Going None at left = ap (λ l. After l) at.0
    stands_by Done None at left = at.0
    stands_by Broken None at left = refl
    stands_by Fresh (Some x) at left = absurd cc
    stands_by Done (Some x) at left = at.0
    stands_by Broken (Some x) at left = refl
    stands_by Going (Some x) at left = by x.next left
      where
        by : (n : ℕ) → x.count ≤ n → StandsFor model true (record { walk = t.walk; phase = Going }) (After (with_last path n))
        by zero le = absurd (omega (arith, le, at.1.some))
        by (suc n) le =
            let width = ap (λ l. (model t.walk.flash_tree).tree.width (landed (model t.walk.flash_tree).tree (model t.walk.flash_tree).root l)) at.0 in
            record {
              number = n;
              position_is = ap (λ l. After (l ++ n ∷ [])) at.0;
              last = omega (arith, width, at.1.count_is, le);
              deep = omega (arith, at.1.deep, ap length at.0);
            }

    pub stands_for : (b : Bool) → b ≡ is_some ahead → StandsFor model b t here
    stands_for b is = subst (λ z. StandsFor model z t here) (sym is) (stands_by t.phase ahead (inv.sound works).stands spent)

    -- The tour went to the next node.
    module _ (new : Toured B) (v : Visits (model t.walk.flash_tree) t here true new) where
      pub stands_next : new.walk.stands ≡ true
      stands_next = v.3

      pub few_next : new.walk.bound ≤ 16
      few_next = omega (arith, (inv.sound works).at_most, v.1.bound)

      pub listed_there : IsPath (model new.walk.flash_tree) new.walk new.walk.path
      listed_there = path_back model new.walk t.walk new.walk.path (same_back model t.walk new.walk v.1) v.0.listed

      -- The rows ahead of that node.
      module _ (kept' : H) (path' : List ℕ) (ahead' : Option RowsAhead) (a : HasArrived new.walk kept kept' path' ahead') where
        beyond : (o : Option RowsAhead) → IfSome o (AreFresh model is_ahead new.walk kept' path') → IfSome o (AreBeyond model is_ahead new.walk kept' path')
        beyond None are = tt
        beyond (Some x) are = are.beyond

        none_taken : (o : Option RowsAhead) → IfSome o (AreFresh model is_ahead new.walk kept' path') → last_of path' o ≡ path'
        none_taken None are = refl
        none_taken (Some x) are = ap (with_last path') are.fresh

        pub last_next : last_of path' ahead' ≡ new.walk.path
        last_next = none_taken ahead' a.are ∙ a.path_is

        pub path_next : IsNext (IsPath (model t.walk.flash_tree) t.walk) here (last_of path' ahead')
        path_next = subst (IsNext (IsPath (model t.walk.flash_tree) t.walk) here) (sym last_next) v.0

        pub rowing_next : IsTouring model holds is_ahead new kept' path' ahead'
        rowing_next = grind arith

    -- Or there is none.
    module _ (new : Toured B) (v : Visits (model t.walk.flash_tree) t here false new) where
      pub rowing_over : IsTouring model holds is_ahead new kept path ahead
      rowing_over = grind arith

-- Rows that are the last one with its last cut counted up.
module _ {B R N A T H : Type 0} (model : B → TreeModel N A T) (is_row : B → List ℕ → R → Type 0) (up : ℕ → R → R)
    (holds : B → H → Type 0) (is_ahead : B → H → List ℕ → Ahead → ℕ → Type 0) (up_more : (row : R) (j : ℕ) → up (j + 1) (up 1 row) ≡ up (j + 2) row)
    (t : Toured B) (kept : H) (path : List ℕ) (a : RowsAhead) (row : R) (inv : IsRowing model is_row up holds is_ahead t kept path (Some a) (Some row))
    (some : 1 ≤ a.counted_up) where
  abbrev taken : RowsAhead
  taken = one_taken a a.near (a.counted_up - 1)

  left : a.next < a.count
  left = omega (arith, inv.within, some)

  working : t.phase ≢ Broken
  working is = omega (arith, inv.touring.spent is, left)

  abbrev At : List ℕ → R → Type 0
  At l r = is_row t.walk.flash_tree l r

  pub rowing_counted : IsRowing model is_row up holds is_ahead t kept path (Some taken) (Some (up 1 row))
  rowing_counted = record {
    touring = touring_taken model holds is_ahead t kept path a inv.touring left a.near (a.counted_up - 1);
    within = omega (arith, inv.within, some);
    counted = λ works j lt.
        let there = inv.counted works (j + 1) (omega (arith, lt)) in
        let number : a.next + (j + 1) ≡ a.next + 1 + j = omega arith in
        let two : j + 1 + 1 ≡ j + 2 = omega arith in
        subst (At (path ++ (a.next + 1 + j) ∷ [])) (ap (λ n. up n row) two ∙ sym (up_more row j)) (subst (λ n. At (path ++ n ∷ []) (up (j + 1 + 1) row)) number there);
  }

  pub finds_counted : (was is : Option R) → FindsRow model is_row (record { walk = t.walk; phase = t.phase; last = with_last path a.next; row = was }) (Some (up 1 row))
      (record { walk = t.walk; phase = t.phase; last = with_last path (a.next + 1); row = is })
  finds_counted was is =
      let there = inv.counted working 0 (omega (arith, some)) in
      let number : a.next + 0 ≡ a.next = omega arith in
      let one : 0 + 1 ≡ 1 = omega arith in
      let last = last_there model holds is_ahead t kept path a inv.touring left in (
        next_ahead model holds is_ahead t kept path a inv.touring left,
        subst (λ l. At l (up 1 row)) (sym last) (subst (λ n. At (path ++ a.next ∷ []) (up n row)) one (subst (λ n. At (path ++ n ∷ []) (up (0 + 1) row)) number there)),
        record { flash_tree = refl; bound = refl },
        going_there model holds is_ahead t kept path a inv.touring left,
      )

-- One of them is taken, where there is one.
module _ {B N A T H : Type 0} (model : B → TreeModel N A T) (is_row : B → List ℕ → BootRow → Type 0)
    (holds : B → H → Type 0) (is_ahead : B → H → List ℕ → Ahead → ℕ → Type 0) (t : Toured B) (kept : H) (path : List ℕ) (ahead ahead' : Option RowsAhead) (row row' : Option BootRow)
    (inv : IsRowing model is_row counted_up holds is_ahead t kept path ahead row) (takes : TakesCountedUp ahead ahead') (counted : IsCountedUp row row') where
  inv_of : IsRowing model is_row counted_up holds is_ahead t kept path (Some takes.0) (Some counted.before)
  inv_of =
      let P = IsRowing model is_row counted_up holds is_ahead t kept path in
      subst (λ r. P (Some takes.0) r) counted.was (subst (λ a. P a row) takes.1 inv)

  pub rowing_taken : IsRowing model is_row counted_up holds is_ahead t kept path ahead' row'
  rowing_taken =
      let P = IsRowing model is_row counted_up holds is_ahead t kept path in
      subst (λ r. P ahead' r) (sym counted.is)
      (subst (λ a. P a (Some (counted_up 1 counted.before))) (sym takes.3)
      (rowing_counted model is_row counted_up holds is_ahead row_up t kept path takes.0 counted.before inv_of takes.2))

  pub works_taken : t.phase ≢ Broken
  works_taken = working model is_row counted_up holds is_ahead row_up t kept path takes.0 counted.before inv_of takes.2

  pub finds_taken : (was is : Option BootRow) → FindsRow model is_row (record { walk = t.walk; phase = t.phase; last = last_of path ahead; row = was }) row'
      (record { walk = t.walk; phase = t.phase; last = last_of path ahead'; row = is })
  finds_taken was is =
      let old : Option RowsAhead → Rowed B BootRow = λ a. record { walk = t.walk; phase = t.phase; last = last_of path a; row = was } in
      let new : Option RowsAhead → Rowed B BootRow = λ a. record { walk = t.walk; phase = t.phase; last = last_of path a; row = is } in
      let F = FindsRow model is_row in
      subst (λ r. F (old ahead) r (new ahead')) (sym counted.is)
      (subst (λ a. F (old a) (Some (counted_up 1 counted.before)) (new ahead')) (sym takes.1)
      (subst (λ a. F (old (Some takes.0)) (Some (counted_up 1 counted.before)) (new a)) (sym takes.3)
      (finds_counted model is_row counted_up holds is_ahead row_up t kept path takes.0 counted.before inv_of takes.2 was is)))

-- Where no row ahead is known to be the last one with its last cut counted up.
module _ {B R N A T H : Type 0} (model : B → TreeModel N A T) (is_row : B → List ℕ → R → Type 0) (up : ℕ → R → R)
    (holds : B → H → Type 0) (is_ahead : B → H → List ℕ → Ahead → ℕ → Type 0) (t : Toured B) (kept : H) (path : List ℕ) (ahead : Option RowsAhead) where
  -- After a row that was come to.
  pub rowing_arrived : (row : Option R) → IsTouring model holds is_ahead t kept path ahead → IfSome ahead (AreFresh model is_ahead t.walk kept path)
      → IsRowing model is_row up holds is_ahead t kept path ahead row
  rowing_arrived row touring fresh = record { touring = touring; within = within ahead fresh; counted = λ works. counted ahead row fresh }
    where
      within : (o : Option RowsAhead) → IfSome o (AreFresh model is_ahead t.walk kept path) → IfSome o IsWithin
      within None fresh = tt
      within (Some a) fresh = omega (arith, fresh.fresh, fresh.none)

      counted : (o : Option RowsAhead) (row : Option R) → IfSome o (AreFresh model is_ahead t.walk kept path)
          → IfSome o (λ a. IfSome row (λ r. AreCountedUp is_row up t.walk.flash_tree path r a))
      counted None row fresh = tt
      counted (Some a) None fresh = tt
      counted (Some a) (Some r) fresh = λ j lt. absurd (omega (arith, lt, fresh.none))

  -- Where there is no row.
  abbrev no_row : Option R
  no_row = None

  pub rowing_none : IsTouring model holds is_ahead t kept path ahead → IfSome ahead IsWithin → IsRowing model is_row up holds is_ahead t kept path ahead None
  rowing_none touring within = record { touring = touring; within = within; counted = λ works. none ahead }
    where
      none : (o : Option RowsAhead) → IfSome o (λ a. IfSome no_row (λ r. AreCountedUp is_row up t.walk.flash_tree path r a))
      none None = tt
      none (Some a) = tt

-- Before the first row, and after that of a path.
pub rowing_begun : {B R N A T H : Type 0} (model : B → TreeModel N A T) (is_row : B → List ℕ → R → Type 0) (up : ℕ → R → R) (holds : B → H → Type 0)
    (is_ahead : B → H → List ℕ → Ahead → ℕ → Type 0) (w : Walked B) (p : Phase) (kept : H) (path : List ℕ) → IsAtPhase model holds is_ahead w kept path None p → w.bound ≤ 16
    → holds w.flash_tree kept → IsRowing model is_row up holds is_ahead (record { walk = w; phase = p }) kept path None None
rowing_begun model is_row up holds is_ahead w p kept path at at_most kept_is = record {
  touring = record { spent = λ _. tt; sound = λ _. record { at_most = at_most; holds_there = kept_is; stands = at } };
  within = tt;
  counted = λ _. tt;
}
