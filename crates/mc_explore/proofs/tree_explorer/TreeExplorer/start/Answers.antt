use Rattle.std.proofs.Common.{None, inl}
use Rattle.mc_explore.proofs.{Beginning.{started}, LastCuts.{kept_none}}
use Rattle.mc_explore.proofs.tree_explorer.TreeExplorer.start.Goals as goal

pub fresh-requires-clause-kept : goal.fresh-requires-clause-kept
fresh-requires-clause-kept g c = kept_none _ _ _ c.in_ok-kept.kept c.in_ok-kept.ensures.none c.in_ok-kept.ensures.joined

pub invariant_of-result : goal.invariant_of-result
invariant_of-result g c = (
  rw (c.fresh.ensures, c.none.ensures) (started None _ _ _ _ _ c.in_ok-walk.ensures.loaded (rw c.rounds_of-rounds.ensures at c.in_ok-walk.ensures.rounds) c.requires),
  tt,
  λ works. inl c.new.ensures,
)
