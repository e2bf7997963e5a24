-- The path before one is the last below the child before it, or its parent; and so it is of keys.
use Rattle.std.proofs.Common.{Bool, List, Some, [], ap, append-nil, append_assoc, arith, length, length-append, refl, subst, suc, sym, take, zero, ℕ, ◌++◌, ◌+◌, ◌<◌, ◌∙◌, ◌∷◌, ◌≡◌, ◌≤◌, false, true}
use Rattle.mc_boot.specs.Plan.{PowerOn}
use Rattle.mc_explore.specs.{Subject.{IsPlaceBefore, Subject}, declared.rounds.BootTree.{BootTree}, declared.rounds.Both.{Both}, declared.rounds.Rounds.{Rounds}}
use Rattle.mc_explore.specs.inner.{Before.{GoesBefore, GoesToLast, IsPathOfKey}, BootRows.{cuts_along, tree_in}, BootTree.{begins_of, model_of, root_of}}
use Rattle.mc_explore.specs.inner.Exploring.{Edge, IsFamily, IsLoaded, IsOurs, key_along}
use Rattle.mc_explore.proofs.Visiting.{next_key, ours_on, paths_are, paths_in}
use Rattle.mc_tree.specs.Tree.{After, Allowed, AtStart, IsMember, IsNext, IsNextIn, Tree, landed}
use Rattle.mc_tree.specs.facts.Order.{AllLast, HasNoChild, allowed-last, allowed-push, allowed_prefix, landed-push, next_above, next_below, next_beyond, none_before_root}
use Rattle.mc_walk.specs.{TreeModel.{HasWidth, TreeModel}, Walks.{Begins, Follows, GoesDown, IsPath, IsSame, Walked, node_at, position_of}, declared.tour.Phase.{Phase}}
use Rattle.mc_walk.specs.declared.tour.Phase.TheVariants as phases

-- ---- paths

module _ {N : Type 0} (t : Tree N) where
  landed-append : (s : N) (xs ys : List ℕ) → landed t s (xs ++ ys) ≡ landed t (landed t s xs) ys
  landed-append s [] ys = refl
  landed-append s (x ∷ xs) ys = landed-append (t.child s x) xs ys

  last-push : (s : N) (xs : List ℕ) (number : ℕ) → AllLast t s xs → t.width (landed t s xs) ≤ number + 1 → AllLast t s (xs ++ number ∷ [])
  last-push s [] number a le = (le, tt)
  last-push s (x ∷ xs) number a le = (a.0, last-push (t.child s x) xs number a.1 le)

  allowed_front : (s : N) (xs ys : List ℕ) → Allowed t s (xs ++ ys) → Allowed t s xs
  allowed_front s [] ys a = tt
  allowed_front s (x ∷ xs) ys a = (a.0, allowed_front (t.child s x) xs ys a.1)

  shorter : (n : ℕ) (l : List ℕ) → length (take n l) ≤ length l
  shorter zero l = omega arith
  shorter (suc n) [] = omega arith
  shorter (suc n) (x ∷ xs) = omega (arith, shorter n xs)

  module _ (s : N) (bound : ℕ) (path : List ℕ) where
    pub none_there : t.width (landed t s path) < 1 → HasNoChild t s bound path
    none_there few number m = omega (arith, few, allowed-last t s path number m.1)

    pub none_last : (last : ℕ) → t.width (landed t s path) ≡ last + 1 → (IsMember t s bound (path ++ last ∷ []) → ⊥) → HasNoChild t s bound path
    none_last last is not number m =
        not (
          omega (arith, m.0, length-append path (number ∷ []), length-append path (last ∷ [])),
          allowed-push t s path last (allowed_front s path (number ∷ []) m.1) (omega (arith, is)),
        )

    -- The parent of a first child comes before it.
    pub before_first : (next : List ℕ) → next ≡ path ++ 0 ∷ [] → IsMember t s bound next → IsNext (IsMember t s bound) (After path) next
    before_first next is m = rw is (next_below t s bound path (rw is at m))

    -- The last path below the child before it comes before a later child.
    module _ (number : ℕ) (more next before : List ℕ) (is : next ≡ path ++ (number + 1) ∷ []) (listed : IsMember t s bound next) (before_is : before ≡ (path ++ number ∷ []) ++ more)
        (last : AllLast t (landed t s (path ++ number ∷ [])) more) (member : IsMember t s bound before) (none : HasNoChild t s bound before) where
      same : before ≡ path ++ number ∷ more
      same = before_is ∙ append_assoc path (number ∷ []) more

      pub before_later : IsNext (IsMember t s bound) (After before) next
      before_later =
          rw is (next_above t s bound before (path ++ (number + 1) ∷ []) member.0 none
          (rw same (next_beyond t s path number more (rw same at member.1) (rw (landed-push t s path number) at last) (allowed-last t s path (number + 1) (rw is at listed.1)))))

-- ---- walks

module _ {B N A T : Type 0} (model : B → TreeModel N A T) where
  -- It has gone down by last children alone, to a depth of so many steps at least.
  pub record IsDown (steps : ℕ) (old now : Walked B) : Type 0 where
    pub more : List ℕ
    pub path_is : now.path ≡ old.path ++ more
    pub last : AllLast (model old.flash_tree).tree (node_at (model old.flash_tree) old) more
    pub listed : IsPath (model old.flash_tree) old now.path
    pub deep : steps ≤ length now.path
    pub same : IsSame old now
    pub stands : now.stands ≡ true

  module _ (steps : ℕ) (old mid : Walked B) (d : IsDown steps old mid) where
    abbrev k : TreeModel N A T
    k = model old.flash_tree

    pub down_there : HasNoChild k.tree k.root old.bound mid.path → GoesToLast k old mid
    down_there none = record { more = d.more; path_is = d.path_is; last = d.last; none = none; listed = d.listed; same = d.same; stands = d.stands }

    -- The walk goes on to the last child of its node, if that has some.
    module _ (summary : T) (width : ℕ) (width_is : HasWidth (model mid.flash_tree) summary width) (there : (model mid.flash_tree).IsSummary (node_at (model mid.flash_tree) mid) summary) where
      wide : width ≡ k.tree.width (landed k.tree k.root mid.path)
      wide = subst (λ b. width ≡ (model b).tree.width (node_at (model b) mid)) d.same.flash_tree (width_is (node_at (model mid.flash_tree) mid) there)

      pub down_here : width < 1 → GoesToLast k old mid
      down_here few = down_there (none_there k.tree k.root old.bound mid.path (omega (arith, wide, few)))

      module _ (last : ℕ) (last_is : width ≡ last + 1) (new : Walked B) where
        more_there : k.tree.width (landed k.tree (node_at k old) d.more) ≤ last + 1
        more_there = omega (arith, last_is, wide, ap k.tree.width (ap (landed k.tree k.root) d.path_is ∙ landed-append k.tree k.root old.path d.more))

        pub down_on : (went : Bool) → went ≡ true → GoesDown (model mid.flash_tree) last mid went new → IsDown (steps + 1) old new
        down_on false is g = absurd cc
        down_on true is g =
            let h = subst (λ b. GoesDown (model b) last mid true new) d.same.flash_tree g in
            record {
              more = d.more ++ last ∷ [];
              path_is = h.0 ∙ ap (λ z. z ++ last ∷ []) d.path_is ∙ append_assoc old.path d.more (last ∷ []);
              last = last-push k.tree (node_at k old) d.more last d.last more_there;
              listed = subst (λ n. IsMember k.tree k.root n new.path) d.same.bound h.1;
              deep = omega (arith, d.deep, ap length h.0, length-append mid.path (last ∷ []));
              same = record { flash_tree = h.2.flash_tree ∙ d.same.flash_tree; bound = h.2.bound ∙ d.same.bound };
              stands = h.3;
            }

        pub down_ends : (went : Bool) → went ≡ false → GoesDown (model mid.flash_tree) last mid went new → GoesToLast k old new
        down_ends true is g = absurd cc
        down_ends false is g =
            let h = subst (λ b. GoesDown (model b) last mid false new) d.same.flash_tree g in
            let none = none_last k.tree k.root old.bound mid.path last (sym wide ∙ last_is) (λ m. h.0 (subst (λ n. IsMember k.tree k.root n (mid.path ++ last ∷ [])) (sym d.same.bound) m)) in
            subst (GoesToLast k old) (sym h.1) (down_there none)

  -- From the root to the path before one.
  module _ (old : Walked B) (path parent : List ℕ) (number : ℕ) (root : old.path ≡ []) (is : path ≡ parent ++ number ∷ []) (listed : IsPath (model old.flash_tree) old path) where
    abbrev t : Tree N
    t = (model old.flash_tree).tree

    abbrev s : N
    s = (model old.flash_tree).root

    -- The walk goes along to the parent.
    follows_on : (mid : Walked B) (went : Bool) → Follows (model old.flash_tree) parent old went mid → Follows (model old.flash_tree) parent old true mid
    follows_on mid true f = f
    follows_on mid false f = absurd (f.no_child (subst (λ l. IsMember t s old.bound (l ++ take (f.steps + 1) parent)) (sym root) (
      omega (arith, shorter t (f.steps + 1) parent, listed.0, ap length is, length-append parent (number ∷ [])),
      allowed_prefix t s parent (f.steps + 1) (allowed_front t s parent (number ∷ []) (rw is at listed.1)),
    )))

    module _ (mid : Walked B) (went : Bool) (follows : Follows (model old.flash_tree) parent old went mid) where
      f : Follows (model old.flash_tree) parent old true mid
      f = follows_on mid went follows

      at_parent : mid.path ≡ parent
      at_parent = f.0 ∙ ap (λ l. l ++ parent) root

      pub first_there : number ≡ 0 → GoesBefore (model old.flash_tree) path old true mid
      first_there first = (
        subst (λ l. IsNext (IsMember t s old.bound) (After l) path) (sym at_parent) (before_first t s old.bound parent path (is ∙ ap (λ n. parent ++ n ∷ []) first) listed),
        f.1,
        f.2,
        f.3,
      )

      -- And then to the child before, and to the last path below that.
      module _ (earlier : ℕ) (number_is : number ≡ earlier + 1) (one : Walked B) (down : Bool) (goes : GoesDown (model mid.flash_tree) earlier mid down one) where
        next_is : path ≡ parent ++ (earlier + 1) ∷ []
        next_is = is ∙ ap (λ n. parent ++ n ∷ []) number_is

        before_listed : IsMember t s old.bound (parent ++ earlier ∷ [])
        before_listed =
            let m : IsMember t s old.bound (parent ++ (earlier + 1) ∷ []) = rw next_is at listed in (
              omega (arith, m.0, length-append parent ((earlier + 1) ∷ []), length-append parent (earlier ∷ [])),
              allowed-push t s parent earlier (allowed_front t s parent ((earlier + 1) ∷ []) m.1) (omega (arith, allowed-last t s parent (earlier + 1) m.1)),
            )

        goes_on : (went' : Bool) → GoesDown (model old.flash_tree) earlier mid went' one → GoesDown (model old.flash_tree) earlier mid true one
        goes_on true g = g
        goes_on false g =
            absurd (g.0 (subst (λ n. IsMember t s n (mid.path ++ earlier ∷ [])) (sym f.2.bound) (subst (λ l. IsMember t s old.bound (l ++ earlier ∷ [])) (sym at_parent) before_listed)))

        g : GoesDown (model old.flash_tree) earlier mid true one
        g = goes_on down (subst (λ b. GoesDown (model b) earlier mid down one) f.2.flash_tree goes)

        one_same : IsSame old one
        one_same = record { flash_tree = g.2.flash_tree ∙ f.2.flash_tree; bound = g.2.bound ∙ f.2.bound }

        at_earlier : one.path ≡ parent ++ earlier ∷ []
        at_earlier = g.0 ∙ ap (λ l. l ++ earlier ∷ []) at_parent

        pub later_there : (new : Walked B) → GoesToLast (model one.flash_tree) one new → GoesBefore (model old.flash_tree) path old true new
        later_there new l' =
            let l = subst (λ b. GoesToLast (model b) one new) one_same.flash_tree l' in
            let listed' = subst (λ n. IsMember t s n new.path) one_same.bound l.listed in
            let none' = subst (λ n. HasNoChild t s n new.path) one_same.bound l.none in (
              before_later t s old.bound parent earlier l.more path new.path next_is listed (l.path_is ∙ ap (λ p. p ++ l.more) at_earlier)
                  (subst (λ p. AllLast t (landed t s p) l.more) at_earlier l.last) listed' none',
              listed',
              record { flash_tree = l.same.flash_tree ∙ one_same.flash_tree; bound = l.same.bound ∙ one_same.bound },
              l.stands,
            )

-- ---- keys

-- A walk that was loaded for a start, and has begun.
pub begun_ours : (counted : Bool) (start : PowerOn) (rounds : Rounds) (bound : ℕ) (w one : Walked BootTree) (summary : Both) → IsLoaded model_of begins_of counted start bound w
    → w.flash_tree.rounds ≡ rounds → bound ≤ 16 → Begins (model_of w.flash_tree) w summary one → one.seen.usage.limits ≡ w.seen.usage.limits → IsOurs counted start rounds bound one
begun_ours counted start rounds bound w one summary l rounds_are at_most b limits =
    let ours : IsOurs counted start rounds bound w = record { start_is = l.start_is; rounds_are = rounds_are; bound_is = l.bound_is; at_most = at_most; counted_is = l.counted_is } in
    ours_on counted start rounds bound w ours one b.same limits

module _ {C K R U : Type 0} (x : Subject C K R U) (edge : Edge C K R) (family : IsFamily x edge) (start : PowerOn) (chosen : C) (bound : ℕ) (k : K) (path : List ℕ)
    (of : IsPathOfKey x edge start chosen bound k (Some path)) where
  -- The key that comes next after that of a path, where its own path comes next.
  next_of : (p : Phase) (before : List ℕ) → paths_in (edge.rounds_in chosen) start bound before → IsNext (paths_in (edge.rounds_in chosen) start bound) (position_of p before) path
      → IsNextIn x.Before (x.IsListed start chosen bound) (position_of p (key_along x edge start chosen before)) k
  next_of p before m next =
      subst (IsNextIn x.Before (x.IsListed start chosen bound) (position_of p (key_along x edge start chosen before))) of.1
      (next_key x (tree_in (edge.rounds_in chosen)) (root_of (edge.rounds_in chosen) start) start chosen (key_along x edge start chosen) (family.keys start chosen) bound before m p path next)

  -- A key is the first where its path is.
  pub key_first : path ≡ [] → IsPlaceBefore x start chosen bound k AtStart
  key_first is = next_of phases.Fresh path of.0 (record {
    listed = of.0;
    past = tt;
    none_between = λ m listed past before. none_before_root m (rw is at before);
  })

  -- The key of the path before its own comes before it.
  pub key_after : (counted : Bool) (w new : Walked BootTree) → IsOurs counted start (edge.rounds_in chosen) bound w → GoesBefore (model_of w.flash_tree) path w true new
      → IsPlaceBefore x start chosen bound k (After (edge.key_in (cuts_along new.flash_tree.rounds (begins_of new.flash_tree) new.path)))
  key_after counted w new ours goes =
      let paths = paths_are counted start (edge.rounds_in chosen) bound w ours in
      let listed = subst (λ P. P new.path) paths goes.1 in
      let next = subst (λ P. IsNext P (After new.path) path) paths goes.0 in
      let key : key_along x edge start chosen new.path ≡ edge.key_in (cuts_along new.flash_tree.rounds (begins_of new.flash_tree) new.path) =
      ap edge.key_in (sym (ap (λ (t : BootTree). cuts_along t.rounds (begins_of t) new.path) goes.2.flash_tree
      ∙ ap (λ r. cuts_along r (begins_of w.flash_tree) new.path) ours.rounds_are ∙ ap (λ s. cuts_along (edge.rounds_in chosen) s new.path) ours.start_is)) in
      subst (λ z. IsPlaceBefore x start chosen bound k (After z)) key ((family.keys start chosen).listed bound new.path listed, next_of phases.Going new.path listed next)
