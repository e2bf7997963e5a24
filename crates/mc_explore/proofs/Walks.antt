-- A walk from a start along a schedule.
use Rattle.std.proofs.{Common.{ap, arith, subst, sym, ◌∙◌}, Math.Nat.{mul-le-mul_right}, lemmas.List.{length-take-le}}
use Rattle.std.specs.Prelude.{Bool, List, None, Option, Some, [], false, is_some, length, refl, take, true, ℕ, ◌*◌, ◌++◌, ◌+◌, ◌≡◌, ◌≤◌}
use Rattle.mc_boot.specs.{Boot.{Progress, left_of, progress}, Outcome.{after, shown}, Plan.{PowerOn, again}, facts.Run.{come_left}}
use Rattle.mc_explore.proofs.Onwards.{ComesOn}
use Rattle.mc_explore.specs.{Schedules.{CanOccur, CannotOccurAt, IsReplayed}, declared.one_round.OneRound.{OneRound}}
use Rattle.mc_explore.specs.{declared.one_round.Summary.{Summary}, facts.Following.{cost_few}, facts.Occurring.{allowed_after, landed_again, occurs_allowed}}
use Rattle.mc_explore.specs.{inner.OneRound.{IsSummary, begins, begun_of, one_round, one_round_is, round_model}, inner.View.{Followed, IsLoaded}}
use Rattle.mc_explore.specs.Boots.{boots}
use Rattle.mc_flash.specs.{Flash.{Content}, Usage.{Allows, Limits, Seen, Spent, most_operations}}
use Rattle.mc_tree.specs.{Tree.{landed}}
use Rattle.mc_walk.specs.{TreeModel.{summary_cost}, Walks.{Begins, Follows, IsSame, IsThere, Walked, path_cost}}
use Rattle.mc_tree.specs.Tree as tree

same_begun : (old new : Walked OneRound) → IsSame old new → begun_of new ≡ begun_of old
same_begun old new s = ap begins s.flash_tree

-- ---- the same start

module _ (counted : Bool) (start : PowerOn) (bound : ℕ) (path : List ℕ) (zero_walk one two : Walked OneRound) (summary : Summary) (l : IsLoaded counted start bound zero_walk)
    (b : Begins (one_round (begun_of zero_walk)) zero_walk summary one) where
  one_start : begun_of one ≡ start
  one_start = same_begun zero_walk one b.same ∙ l.start_is

  one_bound : one.bound ≡ bound
  one_bound = b.same.bound ∙ l.bound_is

  -- It was at the root.
  from_root : (l : List ℕ) → one.path ++ l ≡ l
  from_root l = ap (λ z. z ++ l) b.path

  at_start : (l : List ℕ) → tree.IsMember boots (begun_of one) one.bound l → tree.IsMember boots start bound l
  at_start l m = grind (arith, one_bound, one_start)

  -- And those of its start are its own.
  at_one : (l : List ℕ) → tree.IsMember boots start bound l → tree.IsMember boots (begun_of one) one.bound (one.path ++ l)
  at_one l m = grind (arith, one_start, one_bound)

  -- There.
  pub followed : (went : Bool) → went ≡ true → Follows (one_round (begun_of one)) path one went two → Spent (summary_cost (one_round (begun_of zero_walk))) zero_walk.seen one.seen
      → Spent (path_cost (one_round (begun_of one)) path) one.seen two.seen → Followed counted start bound path two
  followed false is f s t = absurd cc
  followed true is f s t =
      let path_is : two.path ≡ path = f.0 ∙ from_root path in
      let allowed = at_start path (subst (tree.IsMember boots (begun_of one) one.bound) path_is (rw (one_round_is (begun_of one)) at f.1)) in
      let most : ℕ = most_operations start.rules.grain start.geometry in
      let first : Spent (summary_cost (round_model start)) zero_walk.seen one.seen = rw (l.start_is, one_round_is start) at s in
      let along : Spent (path_cost (round_model start) path) one.seen two.seen = rw (one_start, one_round_is start) at t in
      let cost = cost_few start start path l.valid refl allowed.1 in
      let at_most : length path * (2 * most) ≤ bound * (2 * most) = mul-le-mul_right (2 * most) allowed.0 in
      record {
        start_is = same_begun one two f.2 ∙ one_start;
        bound_is = f.2.bound ∙ one_bound;
        path_is = path_is;
        stands = f.3;
        allowed = allowed;
        counted_is = ap (λ (x : Limits). x.counted) (along.limits ∙ first.limits) ∙ l.counted_is;
        no_allocation_failed = along.failed ∙ first.failed ∙ l.no_allocation_failed;
        applied = sum most bound (path_cost (round_model start) path) (length path * (2 * most)) zero_walk.seen.usage.applied one.seen.usage.applied two.seen.usage.applied l.idle first.applied
            along.applied cost at_most;
      }
    where
      sum : (most n cost many a b c : ℕ) → a ≡ 0 → b ≤ a + most → c ≤ b + cost → cost ≤ many → many ≤ n * (2 * most) → c ≤ 2 * (n + 1) * most
      sum most n cost many a b c z first along at_most all = let e : 2 * (n + 1) * most ≡ n * (2 * most) + 2 * most = omega arith in omega (arith, z, first, along, at_most, all, e)

  -- And the cut where it stops is the first that can't occur.
  pub stops : (went : Bool) → went ≡ false → Follows (one_round (begun_of one)) path one went two → bound ≡ length path → (index : ℕ) → index ≡ length two.path → CannotOccurAt start path index
  stops true is f whole index at = absurd cc
  stops false is f whole index at =
      let prefix : two.path ≡ take f.steps path = f.prefix ∙ from_root (take f.steps path) in
      let here : index ≡ f.steps = at ∙ ap length prefix ∙ length-take-le f.steps path (omega (arith, f.inside)) in
      let member = at_start two.path (rw (one_round_is (begun_of one)) at f.member) in
      subst (CannotOccurAt start path) (sym here) (record {
        inside = f.inside;
        cut = (landed boots start two.path).content;
        before = ap (after start) (sym prefix) ∙ allowed_after start two.path member.1;
        not_there = none (after start (take (f.steps + 1) path)) refl;
      })
    where
      none : (o : Option Content) → after start (take (f.steps + 1) path) ≡ o → after start (take (f.steps + 1) path) ≡ None
      none None e = e
      none (Some u) e =
          let n : ℕ = f.steps + 1 in
          let occurs : CanOccur start (take n path) = ap (λ (o : Option Content). is_some o) e in
          let len : length (take n path) ≤ bound = omega (arith, length-take-le n path (omega (arith, f.inside)), f.inside, whole) in
          absurd (f.no_child (rw (one_round_is (begun_of one)) (at_one (take n path) (len, occurs_allowed start (take n path) occurs))))

-- ---- a replay

module _ (counted : Bool) (start : PowerOn) (bound : ℕ) (path : List ℕ) (w : Walked OneRound) (summary : Summary) (f : Followed counted start bound path w)
    (here : IsThere (one_round (begun_of w)) w summary) where
  there : IsThere (round_model (begun_of w)) w summary
  there = rw (one_round_is (begun_of w)) at here

  abbrev cut : PowerOn
  cut = landed boots start path

  node_is : landed boots (begun_of w) w.path ≡ cut
  node_is = grind arith

  cut_is : cut ≡ again start cut.content
  cut_is = landed_again start path

  pub summary_here : IsSummary (again start cut.content) summary
  summary_here = grind (arith, there)

  pub layout_here : w.seen.geometry ≡ start.geometry
  layout_here = there.layout_is ∙ ap (λ (s : PowerOn). s.geometry) f.start_is

  content_here : w.seen.content ≡ cut.content
  content_here = there.content_is ∙ ap (λ (s : PowerOn). s.content) node_is

  -- The flash is as it was when the last cut fell.
  pub cut_here : after start path ≡ Some w.seen.content
  cut_here = allowed_after start path f.allowed.1 ∙ ap (λ (c : Content). Some c) (sym content_here)

  -- There is room for the boot.
  pub room_here : Allows (left_of w.seen.geometry (progress summary.boot)) w.seen
  room_here = grind (arith, there)

  -- What it leaves is what the replay leaves.
  pub replayed : (q : Progress) (new : Seen) → ComesOn w.seen (progress summary.boot) new q → q.to_come ≡ []
      → IsReplayed start path (shown summary.outcome) new.content
  replayed q new come end = grind (arith, allowed_after, come_left, there)
