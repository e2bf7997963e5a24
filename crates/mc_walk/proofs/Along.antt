-- The way along a path, and its labels.
use Rattle.std.proofs.Common.{Bool, IfSome, List, None, Option, Some, [], ap, append-nil, append_assoc, arith, false, get_or, is_some, length, refl, subst, suc, sym, take, true, zero, ℕ, ◌++◌, ◌+◌, ◌<◌, ◌∙◌, ◌∷◌, ◌≡◌, ◌≤◌}
use Rattle.std.proofs.{lemmas.List.{take_all, take_more}, lemmas.Option.{slice_get_past}}
use Rattle.std.specs.List.{slice_get}
use Rattle.mc_flash.specs.{Usage.{Checkpoint, Seen, Spent}, facts.Spends.{spent_both}}
use Rattle.mc_tree.specs.{Tree.{After, IsMember, IsNext, labelled}, facts.Order.{childless, next_above, next_below, none_above}}
use Rattle.mc_walk.proofs.Steps.{standing}
use Rattle.mc_walk.specs.TreeModel.{TreeModel}
use Rattle.mc_walk.specs.Walks.{Advances, Climbs, Follows, GoesDown, IsGoing, IsSame, StopsOn, Walked, child_cost, path_cost}
use Rattle.mc_walk.specs.{declared.frame.Frame.{Frame}, facts.Same.{path_back}, inner.Stack.{AreFrames, path_of}}

-- A walk from one path to another.

module _ {N A T B : Type 0} (model : B → TreeModel N A T) where
  abbrev IsPath : Walked B → List ℕ → Type 0
  IsPath w l = IsMember (model w.flash_tree).tree (model w.flash_tree).root w.bound l

  pub advanced_down : (old new : Walked B) (went : Bool) → went ≡ true → GoesDown (model old.flash_tree) 0 old went new → Advances (model old.flash_tree) old true new
  advanced_down old new true e d =
      let k : TreeModel N A T = model old.flash_tree in
      (subst (IsNext (IsMember k.tree k.root old.bound) (After old.path)) (sym d.0) (next_below k.tree k.root old.bound old.path (subst (IsPath old) d.0 d.1)), d.2, d.3)
  advanced_down old new false e d = absurd (cc)

  advanced_from : (old new : Walked B) (up : Bool) → length old.path ≤ old.bound → (IsPath old (old.path ++ 0 ∷ []) → ⊥) → Climbs (model old.flash_tree) old up new
      → Advances (model old.flash_tree) old up new
  advanced_from old new true at_most none c =
      let k : TreeModel N A T = model old.flash_tree in
      (next_above k.tree k.root old.bound old.path new.path at_most (childless k.tree k.root old.bound old.path none) c.0, c.1, c.2)
  advanced_from old new false at_most none c =
      let k : TreeModel N A T = model old.flash_tree in
      (none_above k.tree k.root old.bound old.path (childless k.tree k.root old.bound old.path none) c.0, c.1, c.2)

  pub advanced_up : (old mid new : Walked B) (down up : Bool) → length old.path ≤ old.bound → down ≡ false → GoesDown (model old.flash_tree) 0 old down mid → Climbs (model mid.flash_tree) mid up new
      → Advances (model old.flash_tree) old up new
  advanced_up old mid new it up at_most e d c = grind (arith, advanced_from)

  -- It has come along so many steps of a path.
  pub record IsAlong (path : List ℕ) (n : ℕ) (old now : Walked B) : Type 0 where
    pub path_is : now.path ≡ old.path ++ take n path
    pub stands : now.stands ≡ true
    pub same : IsSame old now
    pub member : IsPath old now.path
    pub spent : Spent (path_cost (model old.flash_tree) (take n path)) old.seen now.seen

  pub along_begin : (path : List ℕ) (old : Walked B) → old.stands ≡ true → IsPath old old.path → IsAlong path 0 old old
  along_begin path old stands member = record {
    path_is = sym (append-nil old.path);
    stands = stands;
    same = record { flash_tree = refl; bound = refl };
    member = member;
    spent = record { applied = omega arith; limits = refl; failed = refl };
  }

  path_cost-push : (k : TreeModel N A T) (l : List ℕ) (x : ℕ) → path_cost k (l ++ x ∷ []) ≡ path_cost k l + child_cost k x
  path_cost-push k [] x = omega arith
  path_cost-push k (y ∷ ys) x = omega (arith, path_cost-push k ys x)

  path_cost-take : (k : TreeModel N A T) (l : List ℕ) (n : ℕ) → path_cost k (take n l) ≤ path_cost k l
  path_cost-take k l zero = omega arith
  path_cost-take k [] (suc n) = omega arith
  path_cost-take k (y ∷ ys) (suc n) = omega (arith, path_cost-take k ys n)

  pub along_more : (path : List ℕ) (n : ℕ) (old mid new : Walked B) (went : Bool) → IsAlong path n old mid → n < length path → went ≡ true
      → GoesDown (model mid.flash_tree) (get_or path n 0) mid went new
      → Spent (child_cost (model mid.flash_tree) (get_or path n 0)) mid.seen new.seen → IsAlong path (n + 1) old new
  along_more path n old mid new false a lt e d s = absurd (cc)
  along_more path n old mid new true a lt e d s =
      let more : take (n + 1) path ≡ take n path ++ get_or path n 0 ∷ [] = take_more path n 0 lt in
      let step = subst (λ b. Spent (child_cost (model b) (get_or path n 0)) mid.seen new.seen) a.same.flash_tree s in
      let k : TreeModel N A T = model old.flash_tree in
      let cost : path_cost k (take n path) + child_cost k (get_or path n 0) ≡ path_cost k (take (n + 1) path) = sym (ap (path_cost k) more ∙ path_cost-push k (take n path) (get_or path n 0)) in
      let same : IsSame old new = record { flash_tree = d.2.flash_tree ∙ a.same.flash_tree; bound = d.2.bound ∙ a.same.bound } in
      record {
        path_is = d.0 ∙ ap (λ z. z ++ get_or path n 0 ∷ []) a.path_is ∙ append_assoc old.path (take n path) (get_or path n 0 ∷ []) ∙ ap (λ z. old.path ++ z) (sym more);
        stands = d.3;
        same = same;
        member = path_back model old mid new.path a.same d.1;
        spent = subst (λ z. Spent z old.seen new.seen) cost (spent_both (path_cost k (take n path)) (child_cost k (get_or path n 0)) old.seen mid.seen new.seen a.spent step);
      }

  pub along_none : (path : List ℕ) (n : ℕ) (old mid new : Walked B) (went : Bool) → IsAlong path n old mid → n < length path → went ≡ false
      → GoesDown (model mid.flash_tree) (get_or path n 0) mid went new → StopsOn (model old.flash_tree) path old new
  along_none path n old mid new true a lt e d = absurd (cc)
  along_none path n old mid new false a lt e d =
      let k : TreeModel N A T = model old.flash_tree in
      let more : old.path ++ take (n + 1) path ≡ mid.path ++ get_or path n 0 ∷ [] =
      ap (λ z. old.path ++ z) (take_more path n 0 lt) ∙ sym (append_assoc old.path (take n path) (get_or path n 0 ∷ [])) ∙ ap (λ z. z ++ get_or path n 0 ∷ []) (sym a.path_is) in
      grind arith

  pub along_none_spent : (path : List ℕ) (n : ℕ) (old mid new : Walked B) (went : Bool) → IsAlong path n old mid → went ≡ false → GoesDown (model mid.flash_tree) (get_or path n 0) mid went new
      → Spent (path_cost (model old.flash_tree) path) old.seen new.seen
  along_none_spent path n old mid new it a e d = grind (arith, path_cost-take)

  pub along_all : (path : List ℕ) (n : ℕ) (old now : Walked B) → IsAlong path n old now → length path ≤ n
      → Follows (model old.flash_tree) path old true now × Spent (path_cost (model old.flash_tree) path) old.seen now.seen
  along_all path n old now a le =
      let all : take n path ≡ path = take_all n path le in
      ((a.path_is ∙ ap (λ z. old.path ++ z) all, a.member, a.same, a.stands), subst (λ z. Spent (path_cost (model old.flash_tree) z) old.seen now.seen) all a.spent)

-- The labels of the frames of a walk.

module _ {N A T L : Type 0} (k : TreeModel N A T) (label : N → ℕ → L) where
  frames_label : (n : N) (steps : ℕ) (checkpoints : List Checkpoint) (fs : List (Frame A T)) (i : ℕ) (f : Frame A T) (said : L) → AreFrames k n steps checkpoints fs → slice_get fs i ≡ Some f
      → ((m : N) (j : ℕ) → k.IsOn m j f.at → said ≡ label m j) → slice_get (labelled k.tree label n (path_of fs)) i ≡ Some said
  frames_label n steps [] [] i f said a is says = absurd cc
  frames_label n steps [] (x ∷ xs) i f said a is says = absurd a
  frames_label n steps (s ∷ ss) [] i f said a is says = absurd a
  frames_label n steps (s ∷ ss) (x ∷ xs) zero f said a is says = grind arith
  frames_label n steps (s ∷ ss) (x ∷ xs) (suc i) f said a is says =
      frames_label (k.tree.child n x.number) (steps + 1) ss xs i f said a.1 is says

  path_label : (n : N) (fs : List (Frame A T)) → length (labelled k.tree label n (path_of fs)) ≡ length fs
  path_label n [] = refl
  path_label n (f ∷ fs) = ap suc (path_label (k.tree.child n f.number) fs)

  module _ (bound i : ℕ) (seen : Seen) (fs : List (Frame A T)) (summary : Option T) where
    pub label_at : (f : Frame A T) (said : L) → is_some summary ≡ true → IfSome summary (IsGoing k bound seen fs) → slice_get fs i ≡ Some f
        → ((n : N) (j : ℕ) → k.IsOn n j f.at → said ≡ label n j) → Some said ≡ slice_get (labelled k.tree label k.root (path_of fs)) i
    label_at f said stands going is says =
        let st = (standing k bound seen fs summary stands going).1.stands.stacked in
        sym (frames_label k.root 0 st.above fs i f said st.frames is says)

    pub no_label : (i < length fs → false ≡ true) → None ≡ slice_get (labelled k.tree label k.root (path_of fs)) i
    no_label not = grind (arith, slice_get_past, path_label)
