-- A walk that has come along a schedule, and goes to a child.
use Rattle.std.specs.Prelude.{Bool, IfSome, None, Option, Some, false, is_some, take, true}
use Rattle.std.proofs.{Common.{List, ap, arith, length, refl, subst, sym, ℕ, ◌++◌, ◌+◌, ◌<◌, ◌∙◌, ◌≡◌, ◌≤◌}, Math.Nat.{min-le_right}, lemmas.List.{length-take}}
use Rattle.mc_boot.specs.{Outcome.{after, ops_of}, Plan.{PowerOn, again}, declared.boot.Boot.{Boot}, declared.shared_tail.SharedTail.{SharedTail}}
use Rattle.mc_explore.specs.{Schedules.{CanOccur}, declared.one_round.OneRound.{OneRound}, declared.one_round.Summary.{Summary}}
use Rattle.mc_explore.specs.{facts.Children.{IsAtChild, child_here, listed_there}, facts.Occurring.{occurs_allowed}}
use Rattle.mc_explore.specs.inner.OneRound.{GoesOnIn, begins, begun_of, one_round, one_round_is}
use Rattle.mc_explore.specs.Boots.{boots}
use Rattle.mc_flash.specs.{Flash.{Content}, Usage.{Seen}}
use Rattle.mc_tree.specs.{Tree.{Allowed, IsMember, landed}, facts.Order.{allowed_prefix}}
use Rattle.mc_walk.specs.{TreeModel.{IsChildOf, TreeModel}, Walks.{Begins, Follows, IsLastStep, IsPath, IsSame, IsThere, Walked}}
use Rattle.mc_walk.specs.declared.frame.Frame.{Frame}
use Rattle.mc_vectors.specs.inner.Searching.{GoesOnAt, IsAt}
use Rattle.mc_vectors.proofs.Covered.{lands}

abbrev pub model_of : OneRound → TreeModel PowerOn Boot Summary
model_of t = one_round (begins t)

-- A node has as many children as its boot makes operations.
pub width_along : (t : OneRound) (path : List ℕ) → (model_of t).tree.width (landed (model_of t).tree (model_of t).root path) ≡ boots.width (landed boots (begins t) path)
width_along t path = ap (λ (k : TreeModel PowerOn Boot Summary). k.tree.width (landed k.tree k.root path)) (one_round_is (begins t))

same_begun : (old new : Walked OneRound) → IsSame old new → begun_of new ≡ begun_of old
same_begun old new s = ap begins s.flash_tree

-- The paths of a walk are those of the start.
is_path : (x : PowerOn) (w : Walked OneRound) (bound : ℕ) (l : List ℕ) → begun_of w ≡ x → w.bound ≡ bound → IsMember boots x bound l → IsPath (model_of w.flash_tree) w l
is_path x w bound l is few m = rw (one_round_is (begun_of w)) (grind arith)

module _ (x : PowerOn) (schedule cuts : List ℕ) (fresh one two : Walked OneRound) (summary : Summary) (start_is : begun_of fresh ≡ x) (bound_is : fresh.bound ≡ length cuts + 1)
    (cuts_are : cuts ≡ schedule) (few : length schedule < 16) (occurs : CanOccur x schedule) (b : Begins (model_of fresh.flash_tree) fresh summary one) where
  one_start : begun_of one ≡ x
  one_start = same_begun fresh one b.same ∙ start_is

  one_bound : one.bound ≡ length cuts + 1
  one_bound = b.same.bound ∙ bound_is

  from_root : (l : List ℕ) → one.path ++ l ≡ l
  from_root l = ap (λ z. z ++ l) b.path

  member : (n : ℕ) → IsPath (model_of one.flash_tree) one (one.path ++ take n cuts)
  member n =
      let allowed = allowed_prefix boots x cuts n (subst (Allowed boots x) (sym cuts_are) (occurs_allowed x schedule occurs)) in
      let short : length (take n cuts) ≤ length cuts + 1 = omega (arith, length-take n cuts, min-le_right n (length cuts)) in
      subst (IsPath (model_of one.flash_tree) one) (sym (from_root (take n cuts))) (is_path x one (length cuts + 1) (take n cuts) one_start one_bound (short, allowed))

  went : (r : Bool) → Follows (model_of one.flash_tree) cuts one r two → (two.path ≡ one.path ++ cuts) × IsPath (model_of one.flash_tree) one two.path × IsSame one two × (two.stands ≡ true)
  went true f = f
  went false f = absurd (f.no_child (member (f.steps + 1)))

  module _ (r : Bool) (f : Follows (model_of one.flash_tree) cuts one r two) where
    path_is : two.path ≡ schedule
    path_is = (went r f).0 ∙ from_root cuts ∙ cuts_are

    bound_then : two.bound ≡ length cuts + 1
    bound_then = (went r f).2.bound ∙ one_bound

    pub arrived : IsAt x schedule two
    arrived = grind (arith, path_is)

    pub stands_below : length two.path < two.bound
    stands_below = omega (arith, ap (λ (l : List ℕ). length l) path_is, ap (λ (l : List ℕ). length l) cuts_are, bound_then)

-- A walk at a child of the node of a schedule.
pub at_child : (x : PowerOn) (path : List ℕ) (w at : Walked OneRound) (number : ℕ) → IsAt x path w
    → number < boots.width (landed boots (begun_of w) w.path) → length w.path < w.bound → IsAtChild model_of w number at → IsAt x at.path at
at_child x path w at number here some deep child = record {
  stands = child.stands;
  path_is = refl;
  begun_is = same_begun w at child.same ∙ here.begun_is;
  few = omega (arith, child.same.bound, here.few);
  listed = listed_there model_of w here.listed number (rw (width_along w.flash_tree w.path) some) deep at child;
}

-- Its boot goes on with the one that was cut, where that is known.
module _ (w : Walked OneRound) (f : Frame Boot Summary) (step : IsLastStep (model_of w.flash_tree) w f) (summary : Summary) (there : IsThere (model_of w.flash_tree) w summary) where
  goes_by : (tail : SharedTail) → ((y : PowerOn) (i : ℕ) → IsChildOf (model_of w.flash_tree) y i f.at f.parent summary w.seen → GoesOnIn y i tail) → GoesOnAt (begun_of w) w
  goes_by tail goes = (
    step.before,
    f.number,
    tail,
    step.path_is,
    λ s at. subst (λ (y : PowerOn). GoesOnIn y f.number tail) (lands (begun_of w) step.before s at)
        (goes (landed boots (begun_of w) step.before) f.number (subst (λ (y : PowerOn). IsChildOf (model_of w.flash_tree) y f.number f.at f.parent summary w.seen)
        (ap (λ (k : TreeModel PowerOn Boot Summary). landed k.tree k.root step.before) (one_round_is (begun_of w))) (child_here (model_of w.flash_tree) w f summary there step))),
  )

  pub goes_on : (flash_tree : OneRound) (seen : Seen) → flash_tree ≡ w.flash_tree → seen ≡ w.seen → (found : Option SharedTail)
      → IfSome found (λ tail. (y : PowerOn) (i : ℕ) → IsChildOf (model_of flash_tree) y i f.at f.parent summary seen → GoesOnIn y i tail)
      → is_some found ≡ true → GoesOnAt (begun_of w) w
  goes_on flash_tree seen same here None goes some = absurd cc
  goes_on flash_tree seen same here (Some tail) goes some = goes_by tail (rw (sym same, sym here) goes)

-- As many children as the boot from there makes operations.
pub width_at : (x : PowerOn) (path : List ℕ) (w : Walked OneRound) → IsAt x path w → (u : Content) → after x path ≡ Some u
    → boots.width (landed boots (begun_of w) w.path) ≡ length (ops_of (again x u))
width_at x path w at u is = grind (arith, lands)
