use Rattle.std.proofs.{Common.{◌≡◌, ◌≤◌, ◌<◌, ◌⊎◌, ap, arith, inl, inr, refl, sym, ◌∙◌}, lemmas.Bool.{cases_lt}}
use Rattle.mc_command.specs.{Inspections.{far}, declared.inspect.Found.{Found}}
use Rattle.mc_command.proofs.inspect.nearest.Goals as goal

-- One of two, where no more sectors differ than of each.
abbrev IsNearer : Found → Found → Found → Type 0
IsNearer f s r = ((r ≡ f) ⊎ (r ≡ s)) × (far r ≤ far f) × (far r ≤ far s)

nearer_of : (f s r : Found) → (far f ≤ far s → r ≡ f) → (far s < far f → r ≡ s) → IsNearer f s r
nearer_of f s r first second = by (cases_lt (far s) (far f))
  where
    by : (far s < far f) ⊎ (far f ≤ far s) → IsNearer f s r
    by (inl less) = let same = ap far (second less) in (inr (second less), omega arith, omega arith)
    by (inr least) = let same = ap far (first least) in (inl (first least), omega arith, omega arith)

one_of : (t p r n f : Found) → (n ≡ t) ⊎ (n ≡ p) → (f ≡ n) ⊎ (f ≡ r) → (f ≡ t) ⊎ ((f ≡ p) ⊎ (f ≡ r))
one_of t p r n f (inl first) (inl same) = inl (same ∙ first)
one_of t p r n f (inr second) (inl same) = inr (inl (same ∙ second))
one_of t p r n f either (inr third) = inr (inr third)

pub returns-clause-nearest : goal.returns-clause-nearest
returns-clause-nearest c =
    let one = nearer_of c.in_ok-test.test c.in_ok-perm.perm c.nearer.result c.nearer.ensures.first c.nearer.ensures.second in
    let two = nearer_of c.nearer.result c.in_ok-revert.revert c.nearer-2.result c.nearer-2.ensures.first c.nearer-2.ensures.second in (
      record {
        test = c.in_ok-test.test;
        test_is = (c.in_ok-test.ensures.kind, c.in_ok-test.ensures.found);
        perm = c.in_ok-perm.perm;
        perm_is = (c.in_ok-perm.ensures.kind, c.in_ok-perm.ensures.found);
        revert = c.in_ok-revert.revert;
        revert_is = (c.in_ok-revert.ensures.kind, c.in_ok-revert.ensures.found);
        found = c.nearer-2.result;
        one_of = one_of _ _ _ _ _ one.0 two.0;
        nearest = (omega arith, omega arith, two.2);
      },
      refl,
      sym c.are_whole-whole.ensures,
    )
