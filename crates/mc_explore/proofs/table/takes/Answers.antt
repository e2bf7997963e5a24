use Rattle.mc_explore.proofs.Runs.{same_totals}
use Rattle.mc_explore.specs.inner.Table.{IsJoined}
use Rattle.mc_explore.proofs.table.takes.Goals as goal

pub returns-then-end_alike : goal.returns-then-end_alike
returns-then-end_alike c = λ under n most none one other yes d.
    let first : IsJoined under n most c.args.run.now.first c.args.run.now.of.outcome c.in-Joined-Joined.one = rw c.in-Joined-Joined.is-0 at one in
    let second : IsJoined under n most c.args.number c.args.child.now.outcome c.in-Joined-Joined.other = rw c.in-Joined-Joined.is-1 at other in
    same_totals under n most none c.args.run.now.first c.args.number c.args.run.now.of.outcome c.args.child.now.outcome _ _
    (c.end_alike.ensures c.if-end_alike.true) (c.are_alike.ensures yes) first second d
