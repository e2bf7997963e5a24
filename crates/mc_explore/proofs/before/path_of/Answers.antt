use Rattle.std.proofs.Common.{◌≡◌, List, Some, arith, subst, sym, ◌∙◌, ℕ}
use Rattle.mc_start.specs.Start.{begun}
use Rattle.mc_explore.specs.inner.Before.{IsPathOfKey}
use Rattle.mc_explore.proofs.Beginning.{key_there, member}
use Rattle.mc_explore.proofs.before.path_of.Goals as goal

pub follow-requires-clause-valid : goal.follow-requires-clause-valid
follow-requires-clause-valid g c = grind arith

pub returns : goal.returns
returns g c =
    let rounds = rw c.rounds_of.ensures at c.in_ok-walk.ensures.rounds in
    let path : c.of.result ≡ c.follow.new.walk.path = c.of.ensures ∙ c.as_slice.ensures.value ∙ c.path.ensures in
    let there : IsPathOfKey g.X.Subject.subject g.X.Subject.edge (begun c.args.start.now) c.args.choice c.args.bound c.args.key.now (Some c.follow.new.walk.path) = (
      member g.X.Subject.subject g.X.Subject.edge g.met.X.Subject.laws g.F.Flash.counted (begun c.args.start.now) c.args.choice c.args.bound _ c.in_ok-walk.walk c.begin.new.self c.follow.new.walk
          c.in_ok-begin.field-0 c.args.key.now c.in_ok-walk.ensures.loaded rounds c.requires c.in_ok-begin.ensures.begins c.in_ok-begin.ensures.spends c.in_ok-follow.field-0 c.if-not-branch.false
          c.in_ok-follow.ensures.follows c.in_ok-follow.ensures.no_allocation_failed,
      key_there g.X.Subject.subject g.X.Subject.edge g.met.X.Subject.laws g.F.Flash.counted (begun c.args.start.now) c.args.choice c.args.bound _ c.in_ok-walk.walk c.begin.new.self c.follow.new.walk
          c.in_ok-begin.field-0 c.args.key.now c.in_ok-walk.ensures.loaded rounds c.requires c.in_ok-begin.ensures.begins c.in_ok-begin.ensures.spends c.in_ok-follow.field-0 c.if-not-branch.false
          c.in_ok-follow.ensures.follows c.in_ok-follow.ensures.no_allocation_failed,
    ) in
    subst (λ (l : List ℕ). IsPathOfKey g.X.Subject.subject g.X.Subject.edge (begun c.args.start.now) c.args.choice c.args.bound c.args.key.now (Some l)) (sym path) there
