use Rattle.std.proofs.Common.{◌≡◌, ◌+◌, ◌<◌, ◌≤◌, ◌++◌, ◌∷◌, [], Bool, true, false, Option, Some, ℕ, refl, sym, ap, arith, subst, ◌∙◌}
use Rattle.std.specs.Prelude.{IfSome, IsSomeAnd, None}
use Rattle.mc_walk.specs.Walks.{Visits, position_of, IsPath, Walked}
use Rattle.mc_explore.specs.{declared.ahead.RowsAhead.{RowsAhead}, declared.boot_row.BootRow.{BootRow}, declared.rounds.BootTree.{BootTree}}
use Rattle.mc_explore.specs.inner.{BootRows.{AreAhead, AreKeptOf, IsRowIn, counted_up}, BootTree.{model_of}, Exploring.{AreBeyond, AreCountedUp, FindsRow, IsSpent, IsTouring, IsWithin, Rowed, last_of, with_last}}
use Rattle.mc_explore.proofs.Rowing.{HasArrived, ahead_there, all_allowed, few_next, going_there, last_next, last_there, listed_there, next_ahead, path_next, rowing_arrived, rowing_next, rowing_none, rowing_over, touring_taken, stands_for, stands_next, some_found, step}
use Rattle.mc_explore.proofs.rows.Rows.go_on.Given.{Over}
use Rattle.mc_explore.proofs.rows.Rows.go_on.Goals as goal
use Rattle.mc_explore.proofs.rows.Rows.go_on.Goals.{After-row_ahead-self-inside, After-tell-self-inside, In-Some, In_ok-next_node, in_default-via-in-None-1, in_default-via-in-Some+else-rows}

-- ---- a row ahead

inv : (g : Over) (c : In-Some g) → IsTouring model_of AreKeptOf AreAhead c.self.inside.tour c.self.inside.kept c.self.inside.path (Some c.in-Some.rows)
inv g c = subst (IsTouring model_of AreKeptOf AreAhead c.self.inside.tour c.self.inside.kept c.self.inside.path) c.in-Some.is c.self.invariant.touring

beyond : (g : Over) (c : In-Some g) → c.in-Some.rows.next < c.in-Some.rows.count → AreBeyond model_of AreAhead c.self.inside.tour.walk c.self.inside.kept c.self.inside.path c.in-Some.rows
beyond g c lt = let s = c.self.inside in ahead_there model_of AreKeptOf AreAhead s.tour s.kept s.path c.in-Some.rows (inv g c) lt

pub row_ahead-self-inside-requires-clause-short : goal.row_ahead-self-inside-requires-clause-short
row_ahead-self-inside-requires-clause-short g c =
    let a = (goal.at.row_ahead-self-inside-requires-clause-short g c).In-Some in
    let s = c.self.inside in
    omega (arith, (beyond g a c.if-rows.true).deep, (step model_of AreKeptOf AreAhead s.tour s.kept s.path c.in-Some.rows (inv g a) c.if-rows.true).at_most)

pub row_ahead-self-inside-requires-clause-kept : goal.row_ahead-self-inside-requires-clause-kept
row_ahead-self-inside-requires-clause-kept g c =
    let a = (goal.at.row_ahead-self-inside-requires-clause-kept g c).In-Some in
    let s = c.self.inside in
    rw c.flash_tree-flash_tree.ensures (rw c.walk.ensures (step model_of AreKeptOf AreAhead s.tour s.kept s.path c.in-Some.rows (inv g a) c.if-rows.true).holds_there)

pub row_ahead-self-inside-requires-clause-are : goal.row_ahead-self-inside-requires-clause-are
row_ahead-self-inside-requires-clause-are g c =
    let a = (goal.at.row_ahead-self-inside-requires-clause-are g c).In-Some in
    rw c.flash_tree-flash_tree.ensures (rw c.walk.ensures (beyond g a c.if-rows.true).are)

pub row_ahead-self-inside-requires-clause-allowed : goal.row_ahead-self-inside-requires-clause-allowed
row_ahead-self-inside-requires-clause-allowed g c =
    let a = (goal.at.row_ahead-self-inside-requires-clause-allowed g c).In-Some in
    let s = c.self.inside in
    rw c.flash_tree-flash_tree.ensures (rw c.walk.ensures (all_allowed model_of AreKeptOf AreAhead s.tour s.kept s.path c.in-Some.rows (inv g a) c.if-rows.true))

-- The row, and those that are it with its last cut counted up.
abbrev IsThere : (g : Over) → After-row_ahead-self-inside g → BootRow → Type 0
IsThere g c r =
    let s = c.self.inside in
    let t = s.tour.walk.flash_tree in
    IsRowIn t (s.path ++ c.in-Some.rows.next ∷ []) r × AreCountedUp IsRowIn counted_up t s.path r c.row_ahead-self-inside.new.rows

row_there : (g : Over) (c : After-row_ahead-self-inside g) → IsSomeAnd c.row_ahead-self-inside.result (IsThere g c)
row_there g c = rw c.walk.ensures at (rw c.flash_tree-flash_tree.ensures at c.row_ahead-self-inside.ensures.row)

pub invariant_of-self : goal.invariant_of-self
invariant_of-self g c =
    let a = goal.at.invariant_of-self g c in
    let s = c.self.inside in
    let i = inv g a.In-Some in
    let new = c.row_ahead-self-inside.new.rows in
    let touring = touring_taken model_of AreKeptOf AreAhead s.tour s.kept s.path c.in-Some.rows i c.if-rows.true new.near new.counted_up in
    record {
      touring = subst (λ x. IsTouring model_of AreKeptOf AreAhead s.tour s.kept s.path (Some x)) (sym c.row_ahead-self-inside.ensures.next) touring;
      within = c.row_ahead-self-inside.ensures.within;
      counted = λ works. counted c.row_ahead-self-inside.result (row_there g a.After-row_ahead-self-inside);
    }
  where
    counted : (o : Option BootRow) → IsSomeAnd o (IsThere g (goal.at.invariant_of-self g c).After-row_ahead-self-inside)
        → IfSome o (λ r. AreCountedUp IsRowIn counted_up c.self.inside.tour.walk.flash_tree c.self.inside.path r c.row_ahead-self-inside.new.rows)
    counted None is = absurd is
    counted (Some r) is = is.1

pub returns-clause-finds : goal.returns-clause-finds
returns-clause-finds g c =
    let a = goal.at.returns-clause-finds g c in
    let s = c.self.inside in
    let w = s.tour.walk in
    let x = c.in-Some.rows in
    let i = inv g a.In-Some in
    let lt = c.if-rows.true in
    let next = next_ahead model_of AreKeptOf AreAhead s.tour s.kept s.path x i lt in
    let last = last_there model_of AreKeptOf AreAhead s.tour s.kept s.path x i lt in
    let going = going_there model_of AreKeptOf AreAhead s.tour s.kept s.path x i lt in
    let new : ℕ → Rowed BootTree BootRow = λ n. record { walk = w; phase = s.tour.phase; last = with_last s.path n; row = c.row_ahead-self-inside.result } in
    let old : Rowed BootTree BootRow = record { walk = w; phase = s.tour.phase; last = with_last s.path x.next; row = s.row } in
    let is : old ≡ c.args.self.now =
    ap (λ (o : Option RowsAhead). record { walk = w; phase = s.tour.phase; last = last_of s.path o; row = s.row }) (sym c.in-Some.is) ∙ c.self.view_is in
    let P : ℕ → Rowed BootTree BootRow → Option BootRow → Type 0 = λ n z found. FindsRow model_of IsRowIn z found (new n) in
    let one : c.row_ahead-self-inside.new.rows.next ≡ x.next + 1 = ap (λ (r : RowsAhead). r.next) c.row_ahead-self-inside.ensures.next in
    subst (λ n. P n c.args.self.now c.row_ahead-self-inside.result) (sym one)
    (subst (λ z. P (x.next + 1) z c.row_ahead-self-inside.result) is
    (some_found (IsThere g a.After-row_ahead-self-inside) (P (x.next + 1) old) c.row_ahead-self-inside.result (row_there g a.After-row_ahead-self-inside)
    (λ r at. (next, subst (λ l. IsRowIn w.flash_tree l r) (sym last) at.0, record { flash_tree = refl; bound = refl }, going))))

-- ---- the next node

-- Nothing changed on the way there, and no row ahead is to come.
same : (g : Over) (c : In_ok-next_node g) → c.in_default.self-inside ≡ c.self.inside
same g c = elim c.in_default.branch [
  | in_default-via-in-None-1 w ↦ w.self-inside-is
  | in_default-via-in-Some+else-rows w ↦ w.self-inside-is ∙ ap (λ (o : Option RowsAhead). record c.self.inside { ahead = o }) (sym w.in-Some.is)
]

none_spent : (o : Option RowsAhead) → o ≡ None → IfSome o IsSpent
none_spent o is = subst (λ z. IfSome z IsSpent) (sym is) tt

one_spent : (o : Option RowsAhead) (rows : RowsAhead) → o ≡ Some rows → rows.count ≤ rows.next → IfSome o IsSpent
one_spent o rows is le = subst (λ z. IfSome z IsSpent) (sym is) le

spent : (g : Over) (c : In_ok-next_node g) → IfSome c.in_default.self-inside.ahead IsSpent
spent g c = rw (same g c) (elim c.in_default.branch [
  | in_default-via-in-None-1 w ↦ none_spent c.self.inside.ahead (cc)
  | in_default-via-in-Some+else-rows w ↦ one_spent c.self.inside.ahead w.in-Some.rows w.in-Some.is w.if-rows.false
])

touring : (g : Over) (c : In_ok-next_node g)
    → IsTouring model_of AreKeptOf AreAhead c.in_default.self-inside.tour c.in_default.self-inside.kept c.in_default.self-inside.path c.in_default.self-inside.ahead
touring g c = rw (same g c) c.self.invariant.touring

within : (g : Over) (c : In_ok-next_node g) → IfSome c.in_default.self-inside.ahead IsWithin
within g c = rw (same g c) c.self.invariant.within

abbrev HasView : (g : Over) → In_ok-next_node g → Type 0
HasView g c =
    let s = c.in_default.self-inside in
    let seen : Rowed BootTree BootRow = record { walk = s.tour.walk; phase = s.tour.phase; last = last_of s.path s.ahead; row = s.row } in
    seen ≡ c.args.self.now

view_is : (g : Over) (c : In_ok-next_node g) → HasView g c
view_is g c = rw (same g c) c.self.view_is

visited : (g : Over) (c : In_ok-next_node g) (went : Bool) → c.in_ok-next_node.field-0 ≡ went
    → Visits (model_of c.in_default.self-inside.tour.walk.flash_tree) c.in_default.self-inside.tour
    (position_of c.in_default.self-inside.tour.phase (last_of c.in_default.self-inside.path c.in_default.self-inside.ahead)) went c.next_node.new.tour
visited g c went is =
    let s = c.in_default.self-inside in
    let here = position_of s.tour.phase (last_of s.path s.ahead) in
    let at = stands_for model_of AreKeptOf AreAhead s.tour s.kept s.path s.ahead (touring g c) (spent g c) c.in_ok-next_node.ensures.costs.0
    c.is_some.result c.is_some.ensures in
    subst (λ b. Visits (model_of s.tour.walk.flash_tree) s.tour here b c.next_node.new.tour) is (c.in_ok-next_node.ensures.visits here at)

stands : (g : Over) (c : In_ok-next_node g) → c.in_ok-next_node.field-0 ≡ true → c.next_node.new.tour.walk.stands ≡ true
stands g c is = stands_next model_of AreKeptOf AreAhead _ _ _ _ (touring g c) (spent g c) c.in_ok-next_node.ensures.costs.0 _ (visited g c true is)

listed : (g : Over) (c : In_ok-next_node g) → c.in_ok-next_node.field-0 ≡ true → IsPath (model_of c.next_node.new.tour.walk.flash_tree) c.next_node.new.tour.walk c.next_node.new.tour.walk.path
listed g c is = listed_there model_of AreKeptOf AreAhead _ _ _ _ (touring g c) (spent g c) c.in_ok-next_node.ensures.costs.0 _ (visited g c true is)

pub path-requires-clause-stands : goal.path-requires-clause-stands
path-requires-clause-stands g c = rw c.walk-walk.ensures (stands g (goal.at.path-requires-clause-stands g c).In_ok-next_node c.if-not-branch.false)

pub path-requires-clause-room : goal.path-requires-clause-room
path-requires-clause-room g c =
    let p = (goal.at.path-requires-clause-room g c).In_ok-next_node in
    let v = visited g p true c.if-not-branch.false in
    rw c.walk-walk.ensures (few_next model_of AreKeptOf AreAhead _ _ _ _ (touring g p) (spent g p) c.in_ok-next_node.ensures.costs.0 _ v)

pub at-row-requires-clause-stands : goal.at-row-requires-clause-stands
at-row-requires-clause-stands g c = rw c.walk-walk.ensures (stands g (goal.at.at-row-requires-clause-stands g c).In_ok-next_node c.if-not-branch.false)

pub at-row-requires-clause-listed : goal.at-row-requires-clause-listed
at-row-requires-clause-listed g c = rw c.walk-walk.ensures (listed g (goal.at.at-row-requires-clause-listed g c).In_ok-next_node c.if-not-branch.false)

pub tell-self-inside-requires-clause-stands : goal.tell-self-inside-requires-clause-stands
tell-self-inside-requires-clause-stands g c =
    rw c.walk-walk.ensures (stands g (goal.at.tell-self-inside-requires-clause-stands g c).In_ok-next_node c.if-not-branch.false)

pub tell-self-inside-requires-clause-listed : goal.tell-self-inside-requires-clause-listed
tell-self-inside-requires-clause-listed g c =
    rw c.walk-walk.ensures (listed g (goal.at.tell-self-inside-requires-clause-listed g c).In_ok-next_node c.if-not-branch.false)

arrived : (g : Over) (c : After-tell-self-inside g) → HasArrived model_of AreKeptOf AreAhead c.next_node.new.tour.walk c.in_default.self-inside.kept c.tell-self-inside.new.kept
    c.of-path.result c.tell-self-inside.result
arrived g c = record {
  path_is = c.of-path.ensures ∙ c.as_slice.ensures.value ∙ c.path.ensures ∙ ap (λ (w : Walked BootTree). w.path) c.walk-walk.ensures;
  keeps = rw c.walk-walk.ensures at c.tell-self-inside.ensures.kept;
  are = rw c.walk-walk.ensures at c.tell-self-inside.ensures.ahead;
}

pub invariant_of-self-2 : goal.invariant_of-self-2
invariant_of-self-2 g c =
    let a = goal.at.invariant_of-self-2 g c in
    let p = a.In_ok-next_node in
    let v = visited g p true c.if-not-branch.false in
    let there = arrived g a.After-tell-self-inside in
    rowing_arrived model_of IsRowIn counted_up AreKeptOf AreAhead _ _ _ _ _
    (rowing_next model_of AreKeptOf AreAhead _ _ _ _ (touring g p) (spent g p) c.in_ok-next_node.ensures.costs.0 _ v _ _ _ there) there.are

pub returns-2-clause-finds : goal.returns-2-clause-finds
returns-2-clause-finds g c =
    let a = goal.at.returns-2-clause-finds g c in
    let s = c.in_default.self-inside in
    let p = a.In_ok-next_node in
    let v = visited g p true c.if-not-branch.false in
    let there = arrived g a.After-tell-self-inside in
    let next = path_next model_of AreKeptOf AreAhead _ _ _ _ (touring g p) (spent g p) c.in_ok-next_node.ensures.costs.0 _ v _ _ _ there in
    let last = last_next model_of AreKeptOf AreAhead _ _ _ _ (touring g p) (spent g p) c.in_ok-next_node.ensures.costs.0 _ v _ _ _ there in
    let new = c.next_node.new.tour.walk in
    let row = c.at-row.result in
    let at = subst (λ t. IsRowIn t new.path row) v.1.flash_tree (rw c.walk-walk.ensures at c.at-row.ensures) in
    rw (sym (view_is g p)) (next, subst (λ l. IsRowIn s.tour.walk.flash_tree l row) (sym last) at, v.1, v.2)

-- ---- or there is none

pub invariant_of-self-then-not-branch : goal.invariant_of-self-then-not-branch
invariant_of-self-then-not-branch g c =
    let p = (goal.at.invariant_of-self-then-not-branch g c).In_ok-next_node in
    let v = visited g p false c.if-not-branch.true in
    rowing_none model_of IsRowIn counted_up AreKeptOf AreAhead _ _ _ _
    (rowing_over model_of AreKeptOf AreAhead _ _ _ _ (touring g p) (spent g p) c.in_ok-next_node.ensures.costs.0 _ v) (within g p)

pub returns-then-not-branch-clause-finds : goal.returns-then-not-branch-clause-finds
returns-then-not-branch-clause-finds g c =
    let p = (goal.at.returns-then-not-branch-clause-finds g c).In_ok-next_node in
    let v = visited g p false c.if-not-branch.true in
    rw (sym (view_is g p)) (v.0, v.1, v.2, v.3, refl)
