-- From one node of two rounds to another.
use Rattle.std.specs.Prelude.{◌≡◌, ℕ, ◌-◌, ◌<◌, nat_lt, if◌then◌else◌, Bool, true, false, length, Option, Some, refl}
use Rattle.std.proofs.Common.{arith, sym, ap, ◌∙◌}
use Rattle.mc_tree.specs.{Tree.{RoundNode, round_one, round_two, two_rounds_child, two_rounds_width}, facts.Rounds.{child_first, child_second}}
use Rattle.mc_flash.specs.{Flash.{Content}, Usage.{Seen}}
use Rattle.mc_boot.specs.{Plan.{PowerOn, again}, Restart.{confirmed_if}, facts.Run.{left_defined}, Outcome.{left_by, ops_of}, declared.boot.Boot.{Boot}}
use Rattle.mc_walk.specs.TreeModel.{IsAt}
use Rattle.mc_explore.specs.{Boots.{at_cut, boots, content_or}, Rounds.{second_start}, inner.OneRound.{IsOf, round_model}, facts.Occurring.{at_zero}, facts.Summaries.{first_on}, declared.one_round.Summary.{Summary}}
use Rattle.mc_explore.specs.inner.BootTree.{began_at, HasFirst, IsLater, confirms_of, later_from, later_number, boot_model}
use Rattle.mc_explore.specs.declared.rounds.Rounds.{Rounds}
use Rattle.mc_explore.specs.declared.rounds.ChildBoot.TheVariants as child_boots

module _ (confirms : Bool) where
  abbrev pub child : RoundNode PowerOn → ℕ → RoundNode PowerOn
  child = two_rounds_child boots (second_start confirms)

  abbrev pub width : RoundNode PowerOn → ℕ
  width = two_rounds_width boots (second_start confirms)

  -- ---- the children

  pub first_child : (s : PowerOn) (i : ℕ) → i < length (ops_of s) → child (round_one s) i ≡ round_one (boots.child s i)
  first_child s i lt = child_first boots (second_start confirms) s i lt

  pub later_child : (p : RoundNode PowerOn) (i : ℕ) → IsLater p i → child p i ≡ round_two (began_at p) (boots.child (later_from confirms p) (later_number p i))
  later_child (round_one s) i le = child_second boots (second_start confirms) s i le
  later_child (round_two began s) i le = refl

  -- A child in the second round is of the same first round as its node.
  pub child_began : (p : RoundNode PowerOn) (i : ℕ) (s v : PowerOn) → child p i ≡ round_two s v → s ≡ began_at p
  child_began (round_one x) i s v is = by (nat_lt i (length (ops_of x))) is
    where
      by : (early : Bool) → (if early then round_one (boots.child x i) else round_two x (boots.child (second_start confirms x) (i - length (ops_of x)))) ≡ round_two s v → s ≡ x
      by true is = absurd cc
      by false is = cc
  child_began (round_two began x) i s v is = cc

  -- ---- between the rounds

  ended : (s : PowerOn) → at_cut s (length (ops_of s)) ≡ content_or s.content (left_by s)
  unfolding at_cut left_by
  ended s = refl

  -- The first round is over, and the image has confirmed itself or not.
  pub between : (s : PowerOn) (new : Content) (old : Seen) → old.geometry ≡ s.geometry → old.content ≡ at_cut s (length (ops_of s)) → new ≡ confirmed_if confirms old.geometry old.content
      → new ≡ (second_start confirms s).content
  unfolding second_start
  between s new old layout content is = is ∙ ap (λ x. confirmed_if confirms x old.content) layout ∙ ap (confirmed_if confirms s.geometry) (content ∙ ended s)

  -- The same, by what the boot left.
  pub between_left : (s : PowerOn) (new : Content) (old : Seen) → old.geometry ≡ s.geometry → left_by s ≡ Some old.content → new ≡ confirmed_if confirms old.geometry old.content
      → new ≡ (second_start confirms s).content
  unfolding second_start
  between_left s new old layout left is =
      is ∙ ap (λ x. confirmed_if confirms x old.content) layout ∙ ap (λ (o : Option Content). confirmed_if confirms s.geometry (content_or s.content o)) (sym left)

  -- Where the uncut boots leave the same flash the second round begins there.
  pub same_start : (s : PowerOn) (u : Content) → left_by (again s u) ≡ left_by s → second_start confirms (again s u) ≡ second_start confirms s
  unfolding second_start
  same_start s u same =
      let left = left_defined s in
      ap (λ (o : Option Content). again s (confirmed_if confirms s.geometry (content_or u o))) (same ∙ left.1)
      ∙ ap (λ (o : Option Content). again s (confirmed_if confirms s.geometry (content_or s.content o))) (sym left.1)

module _ (start : PowerOn) (rounds : Rounds) where
  -- What the second round begins with is of the same start.
  pub of_second : (s : PowerOn) → IsOf start s → IsOf start (second_start (confirms_of rounds) s)
  unfolding second_start
  of_second s of = ap (λ (y : PowerOn). again y (second_start (confirms_of rounds) s).content) of

  pub first_at : (s : PowerOn) (i : ℕ) (boot : Boot) (ops : ℕ) (later : Summary) (seen : Seen) → IsAt (boot_model start rounds) (round_one s) i (child_boots.First boot ops later) seen
      → IsAt (round_model start) s i boot seen
  first_at s i boot ops later seen at = grind (arith, first_child)

  pub at_first : (s : PowerOn) (i : ℕ) (boot : Boot) (ops : ℕ) (later : Summary) (seen : Seen) → IsAt (round_model start) s i boot seen → HasFirst rounds
      → i < length (ops_of s) → ops ≡ length (ops_of s)
      → (round_model start).IsSummary (second_start (confirms_of rounds) s) later → IsAt (boot_model start rounds) (round_one s) i (child_boots.First boot ops later) seen
  at_first s i boot ops later seen at two early same summary = grind (arith, first_child)

  -- Where the second round begins its boot is at its first operation.
  pub at_begin : (p : RoundNode PowerOn) (i : ℕ) (summary : Summary) (seen : Seen) → IsLater p i → later_number p i ≡ 0 → seen.content ≡ (later_from (confirms_of rounds) p).content
      → seen.geometry ≡ start.geometry → (round_model start).IsSummary (later_from (confirms_of rounds) p) summary → IsAt (boot_model start rounds) p i (child_boots.Second summary.boot) seen
  at_begin p i summary seen later zero content layout is = grind (arith, at_zero, later_child, first_on)
