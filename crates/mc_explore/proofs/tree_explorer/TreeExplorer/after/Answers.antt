use Rattle.std.proofs.Common.{None, ap, arith, inl, ◌∙◌}
use Rattle.mc_start.specs.Start.{begun}
use Rattle.mc_explore.specs.declared.rounds.BootTree.{BootTree}
use Rattle.mc_explore.proofs.{Beginning.{beyond_it, cheap, listed, resumed}, LastCuts.{kept_none}}
use Rattle.mc_explore.proofs.tree_explorer.TreeExplorer.after.Goals as goal

pub follow-requires-clause-valid : goal.follow-requires-clause-valid
follow-requires-clause-valid g c = grind arith

pub follow-requires-clause-rounds : goal.follow-requires-clause-rounds
follow-requires-clause-rounds g c =
    ap (λ (t : BootTree). t.rounds) c.in_ok-begin.ensures.begins.same.flash_tree ∙ (rw c.rounds_of-rounds.ensures at c.in_ok-walk.ensures.rounds)

pub after-requires-clause-kept : goal.after-requires-clause-kept
after-requires-clause-kept g c = kept_none _ _ _ c.in_ok-kept.kept c.in_ok-kept.ensures.none c.in_ok-kept.ensures.joined

pub invariant_of-result : goal.invariant_of-result
invariant_of-result g c = (
  rw (c.after.ensures, c.along-last.ensures) (resumed g.X.Subject.subject g.X.Subject.edge g.met.X.Subject.laws g.F.Flash.counted (begun c.args.start.now) c.args.choice c.args.bound _
      c.in_ok-walk.walk c.begin.new.self c.follow.new.walk c.in_ok-begin.field-0 c.args.key.now c.in_ok-walk.ensures.loaded (rw c.rounds_of-rounds.ensures at c.in_ok-walk.ensures.rounds) c.requires
      c.in_ok-begin.ensures.begins c.in_ok-begin.ensures.spends c.in_ok-follow.field-0 c.if-not-branch.false c.in_ok-follow.ensures.follows c.in_ok-follow.ensures.no_allocation_failed None),
  tt,
  λ works. inl c.new.ensures,
)

pub returns-clause-resumes : goal.returns-clause-resumes
returns-clause-resumes g c = (
  listed g.X.Subject.subject g.X.Subject.edge g.met.X.Subject.laws g.F.Flash.counted (begun c.args.start.now) c.args.choice c.args.bound _ c.in_ok-walk.walk
      c.begin.new.self c.follow.new.walk c.in_ok-begin.field-0 c.args.key.now c.in_ok-walk.ensures.loaded (rw c.rounds_of-rounds.ensures at c.in_ok-walk.ensures.rounds) c.requires
      c.in_ok-begin.ensures.begins c.in_ok-begin.ensures.spends c.in_ok-follow.field-0 c.if-not-branch.false c.in_ok-follow.ensures.follows c.in_ok-follow.ensures.no_allocation_failed,
  rw (c.after.ensures, c.along-last.ensures) (beyond_it g.X.Subject.subject g.X.Subject.edge g.met.X.Subject.laws g.F.Flash.counted (begun c.args.start.now) c.args.choice c.args.bound _
      c.in_ok-walk.walk
      c.begin.new.self c.follow.new.walk c.in_ok-begin.field-0 c.args.key.now c.in_ok-walk.ensures.loaded (rw c.rounds_of-rounds.ensures at c.in_ok-walk.ensures.rounds) c.requires
      c.in_ok-begin.ensures.begins c.in_ok-begin.ensures.spends c.in_ok-follow.field-0 c.if-not-branch.false c.in_ok-follow.ensures.follows c.in_ok-follow.ensures.no_allocation_failed),
)

pub returns-clause-cheap : goal.returns-clause-cheap
returns-clause-cheap g c =
    rw c.after.ensures (cheap g.X.Subject.subject g.X.Subject.edge g.met.X.Subject.laws g.F.Flash.counted (begun c.args.start.now) c.args.choice c.args.bound _ c.in_ok-walk.walk
    c.begin.new.self c.follow.new.walk c.in_ok-begin.field-0 c.args.key.now c.in_ok-walk.ensures.loaded (rw c.rounds_of-rounds.ensures at c.in_ok-walk.ensures.rounds) c.requires
    c.in_ok-begin.ensures.begins c.in_ok-begin.ensures.spends c.in_ok-follow.field-0 c.if-not-branch.false c.in_ok-follow.ensures.follows c.in_ok-follow.ensures.no_allocation_failed
    c.in_ok-follow.ensures.cheap (omega arith))
