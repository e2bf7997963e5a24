-- The row that rows come to is the one of the next key.
use Rattle.std.specs.Prelude.{◌≡◌, ◌≢◌, ℕ, Bool, List}
use Rattle.std.proofs.Common.{ap, arith, sym, subst, None, Option, Some, ◌∙◌}
use Rattle.mc_tree.specs.Tree as tree
use Rattle.mc_tree.specs.Tree.{IsNextIn, IsOverIn, IsPastIn, Tree}
use Rattle.mc_walk.specs.{Walks.{IsPath, IsSame, Walked, child_cost, position_of}, declared.tour.Phase.{Phase}}
use Rattle.mc_walk.specs.declared.tour.Phase.TheVariants as phases
use Rattle.mc_boot.specs.Plan.{PowerOn}
use Rattle.mc_flash.specs.Usage.{Spent}
use Rattle.mc_explore.specs.{declared.boot_row.BootRow.{BootRow}, declared.boot_row.Cuts.{Cuts}, declared.rounds.BootTree.{BootTree}, declared.rounds.Rounds.{Rounds}}
use Rattle.mc_explore.specs.inner.BootRows.{IsPathOf, IsRowIn, IsRowOf, tree_in}
use Rattle.mc_explore.specs.inner.BootTree.{begins_of, model_is, model_of, root_of}
use Rattle.mc_explore.specs.inner.Exploring.{AreKeys, Edge, FindsRow, IsFamily, IsOurs, IsSound, Rowed, explored, key_along}
use Rattle.mc_explore.specs.Pages as listings
use Rattle.mc_explore.specs.Subject as states
use Rattle.mc_explore.specs.Subject.{Finds, State, Subject, moved_to, rows_of}

-- The next row is the first of those to come, and there is none where none is to come.
first_there : {C K R U : Type 0} (x : Subject C K R U) (state : State C K) (row : R) → Finds x state (Some row) → listings.IsFirst (rows_of x) state row
first_there x state row (next, outcome) = record {
  is_row = record { listed = next.listed; outcome = outcome };
  past = next.past;
  none_between = λ m is past before. next.none_between (x.key m) is.listed past before;
}

none_there : {C K R U : Type 0} (x : Subject C K R U) (state : State C K) → Finds x state None → listings.FindsRow (rows_of x) state None
none_there x state over m is past = over (x.key m) is.listed past

-- ---- the keys in their order

module _ {C K R U N : Type 0} (x : Subject C K R U) (t : Tree N) (root : N) (start : PowerOn) (choice : C) (key_of : List ℕ → K) (keys : AreKeys x t root start choice key_of)
    (bound : ℕ) (path : List ℕ) (m : tree.IsMember t root bound path) where
  past_there : (p : Phase) (l : List ℕ) → tree.IsMember t root bound l → IsPastIn x.Before (position_of p (key_of path)) (key_of l) → tree.IsPast (position_of p path) l
  past_there phases.Fresh l n past = tt
  past_there phases.Going l n past = (keys.order bound path l m n).0 past
  past_there phases.Done l n past = (keys.order bound path l m n).0 past
  past_there phases.Broken l n past = absurd past

  past_here : (p : Phase) (l : List ℕ) → tree.IsMember t root bound l → tree.IsPast (position_of p path) l → IsPastIn x.Before (position_of p (key_of path)) (key_of l)
  past_here phases.Fresh l n past = tt
  past_here phases.Going l n past = (keys.order bound path l m n).1 past
  past_here phases.Done l n past = (keys.order bound path l m n).1 past
  past_here phases.Broken l n past = absurd past

  pub next_key : (p : Phase) (l : List ℕ) → tree.IsNext (tree.IsMember t root bound) (position_of p path) l
      → IsNextIn x.Before (x.IsListed start choice bound) (position_of p (key_of path)) (key_of l)
  next_key p l n = record {
    listed = keys.listed bound l n.listed;
    past = past_here p l n.listed n.past;
    none_between = λ k listed past before.
        let there = keys.path_of bound k listed in
        n.none_between there.0 there.1 (past_there p there.0 there.1 (subst (IsPastIn x.Before (position_of p (key_of path))) (sym there.2) past))
        ((keys.order bound there.0 l there.1 n.listed).0 (subst (λ z. x.Before z (key_of l)) (sym there.2) before));
  }

  over_key : (p : Phase) → tree.IsOver (tree.IsMember t root bound) (position_of p path) → IsOverIn x.Before (x.IsListed start choice bound) (position_of p (key_of path))
  over_key p over = grind (arith, past_there)

-- ---- the paths of a walk from a start

abbrev pub paths_in : Rounds → PowerOn → ℕ → List ℕ → Type 0
paths_in rounds start = tree.IsMember (tree_in rounds) (root_of rounds start)

module _ (counted : Bool) (start : PowerOn) (rounds : Rounds) (bound : ℕ) (w : Walked BootTree) (ours : IsOurs counted start rounds bound w) where
  pub paths_are : IsPath (model_of w.flash_tree) w ≡ paths_in rounds start bound
  paths_are = rw (model_is w.flash_tree) (
      ap (λ r. paths_in r (begins_of w.flash_tree) w.bound) ours.rounds_are ∙ ap (λ s. paths_in rounds s w.bound) ours.start_is ∙ ap (paths_in rounds start) ours.bound_is)

  pub row_is : (path : List ℕ) (row : BootRow) → IsRowIn w.flash_tree path row → IsRowOf rounds start path row
  row_is path row is = subst (λ s. IsRowOf rounds s path row) ours.start_is (subst (λ r. IsRowOf r (begins_of w.flash_tree) path row) ours.rounds_are is)

  -- The same walk, elsewhere.
  pub ours_on : (new : Walked BootTree) → IsSame w new → new.seen.usage.limits ≡ w.seen.usage.limits → IsOurs counted start rounds bound new
  ours_on new same limits = grind arith

-- ---- what is found

module _ {C K R U : Type 0} (x : Subject C K R U) (edge : Edge C K R) (family : IsFamily x edge) (start : PowerOn) (chosen : C) where
  -- The rows of a sound explorer found the next one, or there is none; and what they count then.
  pub record Found (counted : Bool) (bound : ℕ) (old new : Rowed BootTree BootRow) (last : Cuts) (found : Option BootRow) : Type 0 where
    pub works : old.phase ≢ phases.Broken
    pub sound : IsSound counted start (edge.rounds_in chosen) bound old last
    pub finds : FindsRow model_of IsRowIn old found new
    pub spent : Spent (child_cost (model_of old.walk.flash_tree) 0) old.walk.seen new.walk.seen

  -- So it is where rows went on.
  pub found_by : (counted : Bool) (bound : ℕ) (old new : Rowed BootTree BootRow) (last : Cuts) → IsSound counted start (edge.rounds_in chosen) bound old last
      → FindsRow model_of IsRowIn old new.row new
      → (old.phase ≢ phases.Broken) × Spent (child_cost (model_of old.walk.flash_tree) 0) old.walk.seen new.walk.seen → (row : Option BootRow) → new.row ≡ row → Found counted bound old new last row
  found_by counted bound old new last sound finds costs row is =
      record { works = costs.0; sound = sound; finds = subst (λ o. FindsRow model_of IsRowIn old o new) is finds; spent = costs.1 }

  module _ (counted : Bool) (bound : ℕ) (old new : Rowed BootTree BootRow) (last : Cuts) where
    abbrev rounds : Rounds
    rounds = edge.rounds_in chosen

    -- The state of an explorer with such rows, of that last row.
    abbrev pub state_at : Rowed BootTree BootRow → Cuts → State C K
    state_at rows cuts = (explored start chosen bound rows.walk (position_of rows.phase (edge.key_in cuts))).state

    -- The next row.
    module _ (row : BootRow) (f : Found counted bound old new last (Some row)) where
      ours : IsOurs counted start rounds bound old.walk
      ours = (f.sound f.works).0

      beyond : IsPathOf rounds start bound old.last last
      beyond = (f.sound f.works).1

      next_path : tree.IsNext (paths_in rounds start bound) (position_of old.phase old.last) new.last
      next_path = subst (λ P. tree.IsNext P (position_of old.phase old.last) new.last) (paths_are counted start rounds bound old.walk ours) f.finds.0

      is_row : IsRowOf rounds start new.last row
      is_row = row_is counted start rounds bound old.walk ours new.last row f.finds.1

      key_there : key_along x edge start chosen new.last ≡ x.key (edge.shown_of row)
      key_there = ap edge.key_in (sym is_row.cuts_are) ∙ sym (family.key_is row)

      pub next_there : Finds x (state_at old last) (Some (edge.shown_of row))
      next_there =
          let n =
          next_key x (tree_in rounds) (root_of rounds start) start chosen (key_along x edge start chosen) (family.keys start chosen) bound old.last beyond.member old.phase new.last next_path in
          let P : K → K → Type 0 = λ a b. IsNextIn x.Before (x.IsListed start chosen bound) (position_of old.phase a) b in (
            subst (λ a. P a (x.key (edge.shown_of row))) (ap edge.key_in beyond.cuts_are) (subst (P (key_along x edge start chosen old.last)) key_there n),
            family.outcomes start chosen new.last row next_path.listed.1 is_row,
          )

      pub first_row : listings.IsFirst (rows_of x) (state_at old last) (edge.shown_of row)
      first_row = first_there x (state_at old last) (edge.shown_of row) next_there

      pub moved_on : state_at new row.cuts ≡ moved_to (state_at old last) (x.key (edge.shown_of row))
      moved_on =
          ap (λ p. (explored start chosen bound new.walk (position_of p (edge.key_in row.cuts))).state) f.finds.3
          ∙ ap (λ b. record { start = start; choice = chosen; bound = bound; position = tree.After (edge.key_in row.cuts); failed = b }) f.spent.failed
          ∙ ap (moved_to (state_at old last)) (sym (family.key_is row))

      pub sound_on : IsSound counted start rounds bound new row.cuts
      sound_on works =
          (ours_on counted start rounds bound old.walk ours new.walk f.finds.2 f.spent.limits, record { member = next_path.listed; cuts_are = sym is_row.cuts_are })

    -- Or there is none.
    module _ (f : Found counted bound old new last None) where
      pub finds_none : states.IsOver x (state_at old last)
      finds_none =
          let sound = f.sound f.works in
          let over = subst (λ P. tree.IsOver P (position_of old.phase old.last)) (paths_are counted start rounds bound old.walk sound.0) f.finds.0 in
          let beyond = sound.1 in
          subst (λ k. IsOverIn x.Before (x.IsListed start chosen bound) (position_of old.phase k)) (ap edge.key_in beyond.cuts_are)
          (over_key x (tree_in rounds) (root_of rounds start) start chosen (key_along x edge start chosen) (family.keys start chosen) bound old.last beyond.member old.phase over)

      pub no_row : listings.FindsRow (rows_of x) (state_at old last) None
      no_row = none_there x (state_at old last) finds_none

      pub stays_so : state_at new last ≡ state_at old last
      stays_so = grind arith
