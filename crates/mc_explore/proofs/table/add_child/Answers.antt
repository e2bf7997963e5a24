use Rattle.std.proofs.Common.{ap, refl, subst, sym, ◌∙◌, ◌+◌}
use Rattle.std.specs.Option.{option_copied}
use Rattle.mc_explore.proofs.Runs.{last_more, run_more}
use Rattle.mc_explore.specs.inner.Table.{AreRuns}
use Rattle.mc_explore.proofs.table.add_child.Goals as goal

pub returns : goal.returns
returns c = λ under n most none are child.
    let last = rw c.deref.ensures.value at (sym c.last.ensures.value ∙ ap option_copied c.in-Some.is) in
    last_more under n most none c.args.number c.args.runs.now.items are c.in-Some.run'.now last (c.takes.ensures under n most none (are.child _ _ last) child c.if-takes.true)

pub returns-2 : goal.returns-2
returns-2 c = λ under n most none are child.
    subst (AreRuns under n most (c.args.number + 1)) (sym c.in_ok-push.ensures.items) (run_more under n most none c.args.number c.args.runs.now.items are _ refl child)
