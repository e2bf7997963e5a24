use Rattle.std.proofs.Common.{List, subst, sym, ◌∙◌, ℕ}
use Rattle.mc_start.specs.Start.{begun}
use Rattle.mc_explore.proofs.{Preceding.{begun_ours, key_after, key_first}, Visiting.{paths_are}}
use Rattle.mc_explore.proofs.before.key_before.Goals as goal

pub go_before-requires-clause-listed : goal.go_before-requires-clause-listed
go_before-requires-clause-listed g c =
    let of = rw (c.in-Some.is, sym c.cuts.ensures.value) at c.in_ok-path.ensures in
    let rounds = rw c.rounds_of.ensures at c.in_ok-walk.ensures.rounds in
    let ours = begun_ours g.F.Flash.counted (begun c.args.start.now) (g.X.Subject.edge.rounds_in c.args.choice) c.args.bound c.in_ok-walk.walk c.begin.new.self c.in_ok-begin.field-0
    c.in_ok-walk.ensures.loaded rounds c.requires c.in_ok-begin.ensures.begins c.in_ok-begin.ensures.spends.limits in
    subst (λ (P : List ℕ → Type 0). P c.cuts.result.now) (sym (paths_are _ _ _ _ _ ours)) of.0

pub returns-then-not-branch-clause-found : goal.returns-then-not-branch-clause-found
returns-then-not-branch-clause-found g c =
    let goes = rw c.if-not-branch.true at c.in_ok-go_before.ensures in
    key_first g.X.Subject.subject g.X.Subject.edge g.met.X.Subject.laws (begun c.args.start.now) c.args.choice c.args.bound c.args.key.now c.in-Some.path
    (rw c.in-Some.is at c.in_ok-path.ensures) (sym c.cuts.ensures.value ∙ goes)

pub returns-clause-found : goal.returns-clause-found
returns-clause-found g c =
    let goes = rw (c.if-not-branch.false, c.cuts.ensures.value) at c.in_ok-go_before.ensures in
    let rounds = rw c.rounds_of.ensures at c.in_ok-walk.ensures.rounds in
    let ours = begun_ours g.F.Flash.counted (begun c.args.start.now) (g.X.Subject.edge.rounds_in c.args.choice) c.args.bound c.in_ok-walk.walk c.begin.new.self c.in_ok-begin.field-0
    c.in_ok-walk.ensures.loaded rounds c.requires c.in_ok-begin.ensures.begins c.in_ok-begin.ensures.spends.limits in
    rw (c.key_of.ensures, c.along-cuts.ensures) (key_after g.X.Subject.subject g.X.Subject.edge g.met.X.Subject.laws (begun c.args.start.now) c.args.choice c.args.bound c.args.key.now c.in-Some.path
    (rw c.in-Some.is at c.in_ok-path.ensures) g.F.Flash.counted c.begin.new.self c.go_before.new.walk ours goes)
