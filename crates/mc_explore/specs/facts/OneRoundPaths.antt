-- The paths of one round, as those of the second of two rounds.
use Rattle.std.specs.Prelude.{Bool, List, [], false, map, refl, suc, zero, ℕ, ◌++◌, ◌∷◌, ◌≡◌}
use Rattle.std.proofs.Common.{ap, sym, ◌∙◌}
use Rattle.mc_boot.specs.{Plan.{PowerOn}}
use Rattle.mc_explore.specs.{Boots.{boots}, Rounds.{second_start, tree_of}, declared.boot_row.Cuts.{Cuts}, facts.Listed.{report_after}, inner.BootEnds.{end_at, report_in}, inner.BootRows.{cuts_along, cuts_of}}
use Rattle.mc_tree.specs.{Tree.{Allowed, labels, round_two}, facts.Existence.{all_from, beginning}, facts.Rounds.{later_lands}}
use Rattle.mc_explore.specs.declared.rounds.Rounds.TheVariants as kinds

module _ (confirms : Bool) where
  -- They are the same, with the same numbers.
  pub in_second : (b x : PowerOn) (path : List ℕ) → Allowed boots x path → Allowed (tree_of confirms) (round_two b x) path
  in_second b x [] a = tt
  in_second b x (i ∷ path) a = (a.0, in_second b (boots.child x i) path a.1)

  pub from_second : (b x : PowerOn) (path : List ℕ) → Allowed (tree_of confirms) (round_two b x) path → Allowed boots x path
  from_second b x [] a = tt
  from_second b x (i ∷ path) a = (a.0, from_second b (boots.child x i) path a.1)

  pub second_cuts : (b x : PowerOn) (path : List ℕ) → cuts_of (labels boots (second_start confirms) (round_two b x) path) ≡ record { numbers = path; in_first = 0 }
  second_cuts b x [] = refl
  second_cuts b x (i ∷ path) = ap (λ (c : Cuts). record { numbers = i ∷ c.numbers; in_first = c.in_first }) (second_cuts b (boots.child x i) path)

  beginning_alike : (f g : ℕ → List (List ℕ)) → ((i : ℕ) → f i ≡ g i) → (n : ℕ) → beginning f n ≡ beginning g n
  unfolding beginning
  beginning_alike f g same zero = refl
  beginning_alike f g same (suc n) =
      ap (λ ls. ls ++ map (λ l. n ∷ l) (f n)) (beginning_alike f g same n) ∙ ap (λ ls. beginning g n ++ map (λ l. n ∷ l) ls) (same n)

  pub all_alike : (bound : ℕ) (b x : PowerOn) → all_from (tree_of confirms) bound (round_two b x) ≡ all_from boots bound x
  unfolding all_from
  all_alike zero b x = refl
  all_alike (suc k) b x =
      ap (λ ls. [] ∷ ls) (beginning_alike (λ i. all_from (tree_of confirms) k (round_two b (boots.child x i)))
      (λ i. all_from boots k (boots.child x i)) (λ i. all_alike k b (boots.child x i)) (boots.width x))

-- In one round the cuts are the path.
pub one_round_cuts : (x : PowerOn) (path : List ℕ) → cuts_along kinds.One x path ≡ record { numbers = path; in_first = 0 }
one_round_cuts x path = second_cuts false x x path

-- And they end alike.
pub ends_alike : (x : PowerOn) (path : List ℕ) → report_after x path ≡ report_in x kinds.One path
ends_alike x path = ap (λ p. end_at kinds.One p) (sym (later_lands boots (second_start false) x x path))
