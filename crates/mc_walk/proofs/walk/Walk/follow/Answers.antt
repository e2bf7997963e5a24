use Rattle.std.proofs.{Common.{ap, subst, ◌∙◌}, lemmas.Result.{err_from_is_err_and}}
use Rattle.mc_flash.specs.facts.Spends.{ran_out_later}
use Rattle.mc_walk.specs.Walks.{Walked, IsPath}
use Rattle.mc_walk.proofs.{Along.{along_all, along_begin, along_more, along_none, along_none_spent}, Steps.{on_path, standing}}
use Rattle.mc_walk.proofs.walk.Walk.follow.Goals as goal

pub loop-number-init : goal.loop-number-init
loop-number-init g c =
    let w = c.self.inside in
    let k = g.B.FlashTree.model w.flash_tree in
    let going = standing k w.bound (g.F.Flash.seen w.flash) w.frames.items w.summary (ap (λ (z : Walked _). z.stands) c.self.view_is ∙ c.requires) c.self.invariant.going in
    let member = subst (λ (z : Walked g.row.B.Denot). IsPath (g.B.FlashTree.model z.flash_tree) z z.path) c.self.view_is
    (on_path k w.flash_tree w.bound (g.F.Flash.seen w.flash) w.frames.items w.summary going.0 going.1) in
    along_begin g.B.FlashTree.model c.args.path.now c.args.self.now c.requires member

pub loop-number-preserved : goal.loop-number-preserved
loop-number-preserved g c =
    along_more g.B.FlashTree.model c.args.path.now c.loop-number.number-index c.args.self.now c.loop-number.self c.go_down.new.self c.in_ok-go_down.field-0 c.loop-number.invariant
    c.loop-number-test.true c.if-not-branch.false c.in_ok-go_down.ensures.step c.in_ok-go_down.ensures.spends

pub returns-in_err-go_down-clause-spends : goal.returns-in_err-go_down-clause-spends
returns-in_err-go_down-clause-spends g c =
    rw (err_from_is_err_and c.from_residual.result c.from_residual.ensures.1).1 (ran_out_later _ _ _ _ c.loop-number.invariant.spent c.in_err-go_down.ensures.spends)

pub returns-then-not-branch-clause-step : goal.returns-then-not-branch-clause-step
returns-then-not-branch-clause-step g c =
    along_none g.B.FlashTree.model c.args.path.now c.loop-number.number-index c.args.self.now c.loop-number.self c.go_down.new.self c.in_ok-go_down.field-0 c.loop-number.invariant
    c.loop-number-test.true c.if-not-branch.true c.in_ok-go_down.ensures.step

pub returns-then-not-branch-clause-spends : goal.returns-then-not-branch-clause-spends
returns-then-not-branch-clause-spends g c =
    along_none_spent g.B.FlashTree.model c.args.path.now c.loop-number.number-index c.args.self.now c.loop-number.self c.go_down.new.self c.in_ok-go_down.field-0 c.loop-number.invariant
    c.if-not-branch.true c.in_ok-go_down.ensures.step

pub returns-clause-step : goal.returns-clause-step
returns-clause-step g c =
    (along_all g.B.FlashTree.model c.args.path.now c.loop-number.number-index c.args.self.now c.loop-number.self c.loop-number.invariant c.loop-number-test.false).0

pub returns-clause-spends : goal.returns-clause-spends
returns-clause-spends g c =
    (along_all g.B.FlashTree.model c.args.path.now c.loop-number.number-index c.args.self.now c.loop-number.self c.loop-number.invariant c.loop-number-test.false).1
