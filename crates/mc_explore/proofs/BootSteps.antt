-- The first child of a node of two rounds, and the next.
use Rattle.std.specs.Prelude.{◌≡◌, ℕ, ◌+◌, ◌<◌, ◌≤◌, min, length, Some, Result, Ok, Err, IfOk, refl}
use Rattle.std.proofs.Common.{arith, sym, ap, subst, ◌∙◌}
use Rattle.mc_tree.specs.Tree.{RoundNode, round_one, round_two}
use Rattle.mc_flash.specs.{Geometry.{IsLayout}, Usage.{Counts, no_counts, Seen, Allows, LeaveRoom, plus}}
use Rattle.mc_flash.specs.facts.Usage.{few_operations}
use Rattle.mc_boot.specs.{Boot.{progress, left_of}, facts.Bounds.{few_ops}, Restart.{confirmed_if, one_write}, Outcome.{left_by, ops_of}}
use Rattle.mc_boot.specs.declared.boot.Boot.{Boot}
use Rattle.mc_walk.specs.TreeModel.{AreTwinsOn, IsAt, IsChild, IsChildSummary, IsTwin}
use Rattle.mc_tree.specs.{inner.Weights.{AreTwins}}
use Rattle.mc_explore.specs.{inner.OneRound.{IsOf, CanPass, CountsAtMost, IsSummary, LeavesAlike, most_of, round_model}, facts.Occurring.{at_zero}}
use Rattle.mc_explore.specs.{Boots.{at_cut, boots}, Rounds.{second_start, tree_of}}
use Rattle.mc_explore.specs.{facts.Summaries.{first_left, first_on, width_is}, declared.one_round.Summary.{Summary}}
use Rattle.mc_explore.specs.inner.BootTree.{AreSummaries, IsLater, HasFirst, confirms_of, step_of, began_at, later_from, later_number, boot_at, left_of_child_boot, most_of_both, owed_at, boot_model}
use Rattle.mc_explore.specs.declared.rounds.Round.TheVariants as rounds_of
use Rattle.mc_explore.specs.{declared.rounds.Both.{Both}, declared.rounds.ChildBoot.{ChildBoot}, declared.rounds.Rounds.{Rounds}}
use Rattle.mc_explore.specs.declared.rounds.ChildBoot.TheVariants as child_boots
use Rattle.mc_explore.specs.declared.rounds.Rounds.TheVariants as kinds
use Rattle.mc_explore.proofs.BootWays.{at_begin, at_first, between, between_left, child, first_at, first_child, later_child, of_second, same_start, width}
use Rattle.mc_boot.specs.Plan.{PowerOn, again}

-- ---- the room of two rounds

-- Where the first round is over there is room for the write between them, and then for the second.
module _ (start : PowerOn) (old mid : Seen) (room : Allows (most_of_both start) old) (counts : CountsAtMost (most_of start) old mid) (limits : mid.usage.limits ≡ old.usage.limits) where
  pub write_room : Allows one_write mid
  write_room = grind arith

  pub second_room : (new : Seen) → LeaveRoom new.usage.counts no_counts (plus mid.usage.counts one_write) → new.usage.limits ≡ mid.usage.limits → Allows (most_of start) new
  second_room new write same = grind arith

module _ (start : PowerOn) (rounds : Rounds) where
  -- A node of the start has its layout.
  geometry_of : (s : PowerOn) → IsOf start s → start.geometry ≡ s.geometry
  geometry_of s of = sym (ap (λ (y : PowerOn). y.geometry) of)

  left_at : (s : PowerOn) (summary : Summary) → (round_model start).IsSummary s summary → (old : Counts) → LeaveRoom old (left_of start.geometry (progress summary.boot)) (plus old (most_of start))
  left_at s summary is old =
      let P : PowerOn → Type 0 = λ y. LeaveRoom old (left_of y.geometry (progress summary.boot)) (plus old (most_of y)) in
      subst P is.0 (first_left s summary is.1 old)

  -- ---- the first

  -- After it there is a second, so that two steps may lie between children.
  two_steps : (r : Rounds) → HasFirst r → step_of r ≡ 2
  two_steps kinds.One is = absurd is
  two_steps (kinds.Two confirms) is = refl

  pub first_steps : (p : RoundNode PowerOn) (i : ℕ) (boot : Boot) (ops : ℕ) (later : Summary) → (boot_model start rounds).IsOn p i (child_boots.First boot ops later) → step_of rounds ≡ 2
  first_steps (round_one x) i boot ops later on = two_steps rounds on.inside
  first_steps (round_two began x) i boot ops later on = absurd on

  pub begins_first : (p : RoundNode PowerOn) (summary : Both) (seen : Seen) → summary.round ≡ rounds_of.First → 0 < summary.first.outcome.ops → AreSummaries start rounds p summary
      → seen.content ≡ (boot_at p).content → seen.geometry ≡ start.geometry
      → IsAt (boot_model start rounds) p 0 (child_boots.First summary.first.boot summary.first.outcome.ops summary.second) seen
  begins_first (round_one s) summary seen round some t content layout =
      let ops = width_is s summary.first t.first_is.1 in
      let at : IsAt (round_model start) s 0 summary.first.boot seen = record { on_is = (t.first_is.0, first_on s summary.first t.first_is.1); content_is = content ∙ at_zero s; layout_is = layout } in
      at_first start rounds s 0 summary.first.boot summary.first.outcome.ops summary.second seen at t.inside (omega (arith, some, ops)) ops t.second_is
  begins_first (round_two began s) summary seen round some t content layout = let not_so : rounds_of.First ≡ rounds_of.Second = sym round ∙ t.round_is in absurd cc

  -- Where the first round has no operation its boot is over.
  pub begins_beyond : (p : RoundNode PowerOn) (summary : Both) (old new : Seen) → summary.round ≡ rounds_of.First → summary.first.outcome.ops ≤ 0 → AreSummaries start rounds p summary
      → old.content ≡ (boot_at p).content → old.geometry ≡ start.geometry
      → new.content ≡ confirmed_if (confirms_of rounds) old.geometry old.content → new.geometry ≡ old.geometry → IsAt (boot_model start rounds) p 0 (child_boots.Second summary.second.boot) new
  begins_beyond (round_one s) summary old new round none t content layout is same =
      let ops = width_is s summary.first t.first_is.1 in
      let zero : 0 ≡ length (ops_of s) = omega (arith, none, ops) in
      at_begin start rounds (round_one s) 0 summary.second new (omega (arith, zero)) (omega (arith, zero))
      (between (confirms_of rounds) s new.content old (layout ∙ geometry_of s t.first_is.0) (content ∙ at_zero s ∙ ap (at_cut s) zero) is)
      (same ∙ layout) t.second_is
  begins_beyond (round_two began s) summary old new round none t content layout is same = let not_so : rounds_of.First ≡ rounds_of.Second = sym round ∙ t.round_is in absurd cc

  pub begins_second : (p : RoundNode PowerOn) (summary : Both) (seen : Seen) → summary.round ≡ rounds_of.Second → AreSummaries start rounds p summary → seen.content ≡ (boot_at p).content
      → seen.geometry ≡ start.geometry → IsAt (boot_model start rounds) p 0 (child_boots.Second summary.second.boot) seen
  begins_second (round_one s) summary seen round t content layout = let not_so : rounds_of.First ≡ rounds_of.Second = sym t.round_is ∙ round in absurd cc
  begins_second (round_two began s) summary seen round t content layout = at_begin start rounds (round_two began s) 0 summary.second seen tt refl content layout t.second_is

  -- What is left then is no more than was owed.
  pub left_second : (p : RoundNode PowerOn) (summary : Both) (old : Counts) → summary.round ≡ rounds_of.Second → AreSummaries start rounds p summary
      → LeaveRoom old (left_of_child_boot start (child_boots.Second summary.second.boot)) (plus old (owed_at start rounds p))
  left_second (round_one s) summary old round t = let not_so : rounds_of.First ≡ rounds_of.Second = sym t.round_is ∙ round in absurd cc
  left_second (round_two began s) summary old round t = left_at s summary.second t.second_is old

  -- ---- the next

  pub first_passes : (p : RoundNode PowerOn) (i : ℕ) (boot : Boot) (ops : ℕ) (later : Summary) (seen : Seen) → IsAt (boot_model start rounds) p i (child_boots.First boot ops later) seen
      → Allows (left_of_child_boot start (child_boots.First boot ops later)) seen → CanPass start boot seen
  first_passes (round_one s) i boot ops later seen at room = grind arith
  first_passes (round_two began s) i boot ops later seen at room = absurd at.on_is

  pub second_passes : (p : RoundNode PowerOn) (i : ℕ) (boot : Boot) (seen : Seen) → IsAt (boot_model start rounds) p i (child_boots.Second boot) seen → i < width (confirms_of rounds) p
      → Allows (left_of_child_boot start (child_boots.Second boot)) seen → CanPass start boot seen
  second_passes p i boot seen at early room = grind arith

  pub next_first : (p : RoundNode PowerOn) (i : ℕ) (boot boot' : Boot) (ops : ℕ) (later : Summary) (old new : Seen) → IsAt (boot_model start rounds) p i (child_boots.First boot ops later) old
      → ((s : PowerOn) (j : ℕ) → IsAt (round_model start) s j boot old → j < length (ops_of s) → IsAt (round_model start) s (j + 1) boot' new) → boot'.done < ops
      → IsAt (boot_model start rounds) p (i + 1) (child_boots.First boot' ops later) new
  next_first (round_one s) i boot boot' ops later old new at passes more =
      let there = passes s i (first_at start rounds s i boot ops later old at) at.on_is.early in
      at_first start rounds s (i + 1) boot' ops later new there at.on_is.inside (omega (arith, more, there.on_is.1.count_is, at.on_is.ops_is)) at.on_is.ops_is at.on_is.later_is
  next_first (round_two began s) i boot boot' ops later old new at passes more = absurd at.on_is

  pub next_between : (p : RoundNode PowerOn) (i : ℕ) (boot boot' : Boot) (ops : ℕ) (later : Summary) (old mid new : Seen)
      → IsAt (boot_model start rounds) p i (child_boots.First boot ops later) old
      → ((s : PowerOn) (j : ℕ) → IsAt (round_model start) s j boot old → j < length (ops_of s) → IsAt (round_model start) s (j + 1) boot' mid) → ops ≤ boot'.done
      → new.content ≡ confirmed_if (confirms_of rounds) mid.geometry mid.content → new.geometry ≡ mid.geometry → IsAt (boot_model start rounds) p (i + 1) (child_boots.Second later.boot) new
  next_between (round_one s) i boot boot' ops later old mid new at passes over is same =
      let there = passes s i (first_at start rounds s i boot ops later old at) at.on_is.early in
      let all : i + 1 ≡ length (ops_of s) = omega (arith, over, there.on_is.1.count_is, at.on_is.ops_is, at.on_is.early) in
      at_begin start rounds (round_one s) (i + 1) later new (omega (arith, all)) (omega (arith, all))
      (between (confirms_of rounds) s new.content mid (there.layout_is ∙ geometry_of s there.on_is.0) (there.content_is ∙ ap (at_cut s) all) is)
      (same ∙ there.layout_is) at.on_is.later_is
  next_between (round_two began s) i boot boot' ops later old mid new at passes over is same = absurd at.on_is

  pub next_second : (p : RoundNode PowerOn) (i : ℕ) (boot boot' : Boot) (old new : Seen) → IsAt (boot_model start rounds) p i (child_boots.Second boot) old
      → ((s : PowerOn) (j : ℕ) → IsAt (round_model start) s j boot old → j < length (ops_of s) → IsAt (round_model start) s (j + 1) boot' new) → i < width (confirms_of rounds) p
      → IsAt (boot_model start rounds) p (i + 1) (child_boots.Second boot') new
  next_second p i boot boot' old new at passes early = grind arith

  -- What they count.
  pub counts_first : (boot boot' : Boot) (ops : ℕ) (later : Summary) (old new : Counts) → LeaveRoom new (left_of start.geometry (progress boot')) (plus old (left_of start.geometry (progress boot)))
      → LeaveRoom new (left_of_child_boot start (child_boots.First boot' ops later)) (plus old (left_of_child_boot start (child_boots.First boot ops later)))
  counts_first boot boot' ops later old new c = record { entries = omega (arith, c.entries); saved = omega (arith, c.saved) }

  pub counts_between : (p : RoundNode PowerOn) (i : ℕ) (boot boot' : Boot) (ops : ℕ) (later : Summary) (seen : Seen) (old mid new : Counts)
      → IsAt (boot_model start rounds) p i (child_boots.First boot ops later) seen
      → LeaveRoom mid (left_of start.geometry (progress boot')) (plus old (left_of start.geometry (progress boot))) → LeaveRoom new no_counts (plus mid one_write)
      → LeaveRoom new (left_of_child_boot start (child_boots.Second later.boot)) (plus old (left_of_child_boot start (child_boots.First boot ops later)))
  counts_between (round_one s) i boot boot' ops later seen old mid new at c d = grind arith
  counts_between (round_two began s) i boot boot' ops later seen old mid new at c d = absurd at.on_is

  -- There is room for the write between the rounds.
  pub room_between : (boot boot' : Boot) (ops : ℕ) (later : Summary) (old mid : Seen) → Allows (left_of_child_boot start (child_boots.First boot ops later)) old
      → LeaveRoom mid.usage.counts (left_of start.geometry (progress boot')) (plus old.usage.counts (left_of start.geometry (progress boot)))
      → mid.usage.limits ≡ old.usage.limits → Allows one_write mid
  room_between boot boot' ops later old mid room c same = grind arith

  -- ---- the summary of a child

  pub parent_first : (p : RoundNode PowerOn) (i : ℕ) (boot : Boot) (ops : ℕ) (later : Summary) (parent : Both) (seen : Seen)
      → IsAt (boot_model start rounds) p i (child_boots.First boot ops later) seen
      → AreSummaries start rounds p parent → IsChild (round_model start) boot parent.first seen
  parent_first (round_one s) i boot ops later parent seen at t = (s, i, first_at start rounds s i boot ops later seen at, at.on_is.early, t.first_is)
  parent_first (round_two began s) i boot ops later parent seen at t = absurd at.on_is

  -- Where the outcome of the first round follows from that of the boot that was cut, so does that of the second.
  pub summary_alike : (p : RoundNode PowerOn) (i : ℕ) (boot : Boot) (ops : ℕ) (later one : Summary) (parent : Both) (seen : Seen)
      → IsAt (boot_model start rounds) p i (child_boots.First boot ops later) seen
      → AreSummaries start rounds p parent → IsChildSummary (round_model start) boot parent.first seen one → LeavesAlike start boot parent.first seen
      → AreSummaries start rounds (child (confirms_of rounds) p i) (record { round = rounds_of.First; first = one; second = parent.second })
  summary_alike (round_one s) i boot ops later one parent seen at t gives alike =
      let here = first_at start rounds s i boot ops later seen at in
      let same = same_start (confirms_of rounds) s (at_cut s i) (alike s i here at.on_is.early t.first_is.1) in
      subst (λ q. AreSummaries start rounds q (record { round = rounds_of.First; first = one; second = parent.second })) (sym (first_child (confirms_of rounds) s i at.on_is.early))
      (record {
        inside = at.on_is.inside;
        round_is = refl;
        first_is = gives s i here at.on_is.early t.first_is;
        second_is = subst (λ x. (round_model start).IsSummary x parent.second) (sym same) t.second_is;
      })
  summary_alike (round_two began s) i boot ops later one parent seen at t gives alike = absurd at.on_is

  -- Else both are run.
  summary_run : (p : RoundNode PowerOn) (i : ℕ) (boot : Boot) (ops : ℕ) (later : Summary) (seen : Seen) (both : Both)
      → IsAt (boot_model start rounds) p i (child_boots.First boot ops later) seen → AreSummaries start rounds (round_one (again start seen.content)) both
      → AreSummaries start rounds (child (confirms_of rounds) p i) both
  summary_run (round_one s) i boot ops later seen both at t =
      let here = first_at start rounds s i boot ops later seen at in
      let same : again start seen.content ≡ again s (at_cut s i) = ap (again start) here.content_is ∙ ap (λ (y : PowerOn). again y (at_cut s i)) (sym here.on_is.0) in
      subst (λ q. AreSummaries start rounds q both) (sym (first_child (confirms_of rounds) s i at.on_is.early)) (subst (λ x. AreSummaries start rounds (round_one x) both) same t)
  summary_run (round_two began s) i boot ops later seen both at t = absurd at.on_is

  pub summary_children : {E : Type 0} (child_boot : ChildBoot) (boot : Boot) (ops : ℕ) (later : Summary) (parent : Both) (seen : Seen) (result : Result Both E)
      → child_boot ≡ child_boots.First boot ops later
      → IfOk result (AreSummaries start rounds (round_one (again start seen.content))) → IfOk result (IsChildSummary (boot_model start rounds) child_boot parent seen)
  summary_children child_boot boot ops later parent seen (Ok both) is t =
      λ p i here some parent_is. summary_run p i boot ops later seen both (subst (λ b. IsAt (boot_model start rounds) p i b seen) is here) t
  summary_children child_boot boot ops later parent seen (Err e) is t = tt

  later_some : (p : RoundNode PowerOn) (i : ℕ) → IsLater p i → i < width (confirms_of rounds) p → later_number p i < length (ops_of (later_from (confirms_of rounds) p))
  later_some (round_one s) i later early = omega (arith, later, early)
  later_some (round_two began s) i later early = early

  pub summary_second : (p : RoundNode PowerOn) (i : ℕ) (boot : Boot) (two : Summary) (parent : Both) (seen : Seen) → IsAt (boot_model start rounds) p i (child_boots.Second boot) seen
      → i < width (confirms_of rounds) p
      → AreSummaries start rounds p parent → IsChildSummary (round_model start) boot parent.second seen two
      → AreSummaries start rounds (child (confirms_of rounds) p i) (record { round = rounds_of.Second; first = parent.first; second = two })
  summary_second p i boot two parent seen at early t gives =
      let there = later_child (confirms_of rounds) p i at.on_is.0 in
      let here : IsAt (round_model start) (later_from (confirms_of rounds) p) (later_number p i) boot seen =
      record { on_is = at.on_is.1; content_is = at.content_is ∙ ap (λ q. (boot_at q).content) there; layout_is = at.layout_is } in
      subst (λ q. AreSummaries start rounds q (record { round = rounds_of.Second; first = parent.first; second = two })) (sym there)
      (record { inside = tt; round_is = refl; first_is = t.first_is; second_is = gives (later_from (confirms_of rounds) p) (later_number p i) here (later_some p i at.on_is.0 early) t.second_is })

  -- Two boots that were run, one after the other.
  pub both_outcomes : (old mid new : Seen) (one two : Summary) → HasFirst rounds → old.geometry ≡ start.geometry → mid.geometry ≡ old.geometry → IsSummary (again start old.content) one
      → left_by (again start old.content) ≡ Some mid.content → new.content ≡ confirmed_if (confirms_of rounds) mid.geometry mid.content → IsSummary (again start new.content) two
      → AreSummaries start rounds (round_one (again start old.content)) (record { round = rounds_of.First; first = one; second = two })
  both_outcomes old mid new one two two_rounds layout same a left is b =
      let x = again start old.content in
      let second : again start new.content ≡ second_start (confirms_of rounds) x = ap (again start) (between_left (confirms_of rounds) x new.content mid (same ∙ layout) left is)
      ∙ sym (of_second start rounds x refl) in
      record { inside = two_rounds; round_is = refl; first_is = (refl, a); second_is = (of_second start rounds x refl, subst (λ y. IsSummary y two) second b) }

  -- ---- how many children there are

  pub width_first : (p : RoundNode PowerOn) (summary : Both) (n : ℕ) → IsLayout start.geometry → summary.round ≡ rounds_of.First → AreSummaries start rounds p summary
      → n ≡ min (summary.first.outcome.ops + summary.second.outcome.ops) 4294967295
      → n ≡ width (confirms_of rounds) p
  width_first (round_one s) summary n valid round t is = grind (arith, width_is, few_ops, few_operations)
  width_first (round_two began s) summary n valid round t is = let not_so : rounds_of.First ≡ rounds_of.Second = sym round ∙ t.round_is in absurd cc

  pub width_second : (p : RoundNode PowerOn) (summary : Both) → summary.round ≡ rounds_of.Second → AreSummaries start rounds p summary → summary.second.outcome.ops ≡ width (confirms_of rounds) p
  width_second (round_one s) summary round t = let not_so : rounds_of.First ≡ rounds_of.Second = sym t.round_is ∙ round in absurd cc
  width_second (round_two began s) summary round t = width_is s summary.second t.second_is.1

-- What is left where a node of the first round is left is no more than was owed there.
pub left_first : (start : PowerOn) (rounds : Rounds) (p : RoundNode PowerOn) (summary : Both) (old : Counts) → summary.round ≡ rounds_of.First → AreSummaries start rounds p summary
    → LeaveRoom old (left_of_child_boot start (child_boots.First summary.first.boot summary.first.outcome.ops summary.second)) (plus old (owed_at start rounds p))
left_first start kinds.One (round_one s) summary old round t = absurd t.inside
left_first start (kinds.Two confirms) (round_one s) summary old round t = grind (arith, left_at)
left_first start rounds (round_two began s) summary old round t = let not_so : rounds_of.First ≡ rounds_of.Second = sym round ∙ t.round_is in absurd cc

pub left_beyond : (start : PowerOn) (rounds : Rounds) (p : RoundNode PowerOn) (summary : Both) (old new : Counts) → summary.round ≡ rounds_of.First → AreSummaries start rounds p summary
    → LeaveRoom new no_counts (plus old one_write)
    → LeaveRoom new (left_of_child_boot start (child_boots.Second summary.second.boot)) (plus old (owed_at start rounds p))
left_beyond start kinds.One (round_one s) summary old new round t more = absurd t.inside
left_beyond start (kinds.Two confirms) (round_one s) summary old new round t more = grind (arith, left_at)
left_beyond start rounds (round_two began s) summary old new round t more = let not_so : rounds_of.First ≡ rounds_of.Second = sym round ∙ t.round_is in absurd cc

-- ---- twins of the second round

module _ (start : PowerOn) (rounds : Rounds) where
  later_on : (p : RoundNode PowerOn) (i j : ℕ) → IsLater p i → later_number p (i + j) ≡ later_number p i + j
  later_on (round_one s) i j later = omega (arith, later)
  later_on (round_two began s) i j later = refl

  is_later_on : (p : RoundNode PowerOn) (i j : ℕ) → IsLater p i → IsLater p (i + j)
  is_later_on (round_one s) i j later = omega (arith, later)
  is_later_on (round_two began s) i j later = tt

  -- The child so many further on.
  child_on : (p : RoundNode PowerOn) (i j : ℕ) → IsLater p i
      → child (confirms_of rounds) p (i + j) ≡ round_two (began_at p) (boots.child (later_from (confirms_of rounds) p) (later_number p i + j))
  child_on p i j later =
      later_child (confirms_of rounds) p (i + j) (is_later_on p i j later)
      ∙ ap (λ n. round_two (began_at p) (boots.child (later_from (confirms_of rounds) p) n)) (later_on p i j later)

  twins_both : (began x y : PowerOn) → AreTwins boots x y → AreTwins (tree_of (confirms_of rounds)) (round_two began x) (round_two began y)
  twins_both began x y t = record {
    width = t.width;
    one = ap (round_two began) t.one;
    other = ap (round_two began) t.other;
    later = λ i. ap (round_two began) (t.later i);
  }

  -- A child in the second round is on its way as that of its boot.
  pub second_at : (p : RoundNode PowerOn) (i : ℕ) (boot : Boot) (seen : Seen) → IsAt (boot_model start rounds) p i (child_boots.Second boot) seen
      → IsAt (round_model start) (later_from (confirms_of rounds) p) (later_number p i) boot seen
  second_at p i boot seen at =
      record { on_is = at.on_is.1; content_is = at.content_is ∙ ap (λ q. (boot_at q).content) (later_child (confirms_of rounds) p i at.on_is.0); layout_is = at.layout_is }

  pub at_second : (p : RoundNode PowerOn) (i j : ℕ) (boot : Boot) (seen : Seen) → IsLater p i
      → IsAt (round_model start) (later_from (confirms_of rounds) p) (later_number p i + j) boot seen → IsAt (boot_model start rounds) p (i + j) (child_boots.Second boot) seen
  at_second p i j boot seen later at = record {
    on_is = (is_later_on p i j later, subst (λ n. (round_model start).IsOn (later_from (confirms_of rounds) p) n boot) (sym (later_on p i j later)) at.on_is);
    content_is = at.content_is ∙ ap (λ q. (boot_at q).content) (sym (child_on p i j later));
    layout_is = at.layout_is;
  }

  -- The summary of one says how the second round ends, and the other way round.
  second_of : (p : RoundNode PowerOn) (i : ℕ) (child_summary : Both) → IsLater p i → AreSummaries start rounds (child (confirms_of rounds) p i) child_summary
      → (round_model start).IsSummary (boots.child (later_from (confirms_of rounds) p) (later_number p i)) child_summary.second
  second_of p i child_summary later is =
      (subst (λ q. AreSummaries start rounds q child_summary) (later_child (confirms_of rounds) p i later) is).second_is

  summary_on : (p : RoundNode PowerOn) (i j : ℕ) (child_summary : Both) → IsLater p i → AreSummaries start rounds (child (confirms_of rounds) p i) child_summary
      → (round_model start).IsSummary (boots.child (later_from (confirms_of rounds) p) (later_number p i + j)) child_summary.second
      → AreSummaries start rounds (child (confirms_of rounds) p (i + j)) child_summary
  summary_on p i j child_summary later is second =
      let here = subst (λ q. AreSummaries start rounds q child_summary) (later_child (confirms_of rounds) p i later) is in
      subst (λ q. AreSummaries start rounds q child_summary) (sym (child_on p i j later))
      (record { inside = tt; round_is = here.round_is; first_is = here.first_is; second_is = second })

  twins_on : (p : RoundNode PowerOn) (i j : ℕ) → IsLater p i
      → AreTwins boots (boots.child (later_from (confirms_of rounds) p) (later_number p i + j)) (boots.child (later_from (confirms_of rounds) p) (later_number p i))
      → AreTwins (tree_of (confirms_of rounds)) (child (confirms_of rounds) p (i + j)) (child (confirms_of rounds) p i)
  twins_on p i j later t =
      rw (child_on p i j later, later_child (confirms_of rounds) p i later) (twins_both (began_at p) _ _ t)

  -- The next child is a twin where that of the boot is.
  pub twin_beyond : (p : RoundNode PowerOn) (i : ℕ) (boot : Boot) (child_summary : Both) (seen : Seen) → IsAt (boot_model start rounds) p i (child_boots.Second boot) seen
      → AreSummaries start rounds (child (confirms_of rounds) p i) child_summary
      → ((round_model start).IsSummary (boots.child (later_from (confirms_of rounds) p) (later_number p i)) child_summary.second
      → IsTwin (round_model start) (later_from (confirms_of rounds) p) (later_number p i) child_summary.second)
      → IsTwin (boot_model start rounds) p i child_summary
  twin_beyond p i boot child_summary seen at is twin =
      let t = twin (second_of p i child_summary at.on_is.0 is) in
      record { summary_is = summary_on p i 1 child_summary at.on_is.0 is t.summary_is; twins = twins_on p i 1 at.on_is.0 t.twins }

  pub twins_beyond : (p : RoundNode PowerOn) (i count : ℕ) (child_summary : Both) → IsLater p i → AreSummaries start rounds (child (confirms_of rounds) p i) child_summary
      → AreTwinsOn (round_model start) (later_from (confirms_of rounds) p) (later_number p i) count child_summary.second
      → AreTwinsOn (boot_model start rounds) p i count child_summary
  twins_beyond p i count child_summary later is t = record {
    summaries = λ j le. summary_on p i j child_summary later is (t.summaries j le);
    twins = λ j some le. twins_on p i j later (t.twins j some le);
  }

  pub summary_below : (p : RoundNode PowerOn) (i : ℕ) (child_summary : Both) → IsLater p i → AreSummaries start rounds (child (confirms_of rounds) p i) child_summary
      → (round_model start).IsSummary (boots.child (later_from (confirms_of rounds) p) (later_number p i)) child_summary.second
  summary_below = second_of

  pub later_more : (p : RoundNode PowerOn) (i j : ℕ) → IsLater p i → i + j < width (confirms_of rounds) p → later_number p i + j < length (ops_of (later_from (confirms_of rounds) p))
  later_more (round_one s) i j later early = omega (arith, later, early)
  later_more (round_two began s) i j later early = early
