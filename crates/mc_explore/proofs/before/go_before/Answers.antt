use Rattle.std.proofs.Common.{arith}
use Rattle.mc_explore.proofs.Preceding.{first_there, later_there}
use Rattle.mc_explore.proofs.before.go_before.Goals as goal

pub returns-in_default-checked_sub : goal.returns-in_default-checked_sub
returns-in_default-checked_sub g c =
    first_there g.B.FlashTree.model c.args.walk.now c.args.path.now c.in-Some.parent.now c.in-Some.number.now c.requires.root c.in-Some.ensures.cases.0 c.requires.listed
    c.follow.new.self c.in_ok-_there._there c.in_ok-_there.ensures.step (grind (arith, c.in_default-checked_sub.ensures, c.in_default-checked_sub.is))

pub returns : goal.returns
returns g c =
    later_there g.B.FlashTree.model c.args.walk.now c.args.path.now c.in-Some.parent.now c.in-Some.number.now c.requires.root c.in-Some.ensures.cases.0 c.requires.listed
    c.follow.new.self c.in_ok-_there._there c.in_ok-_there.ensures.step c.in-Some-checked_sub.earlier (grind (arith, c.in-Some-checked_sub.ensures, c.in-Some-checked_sub.is))
    c.go_down.new.self c.in_ok-_there-2._there c.in_ok-_there-2.ensures.step c.go_to_last.new.walk c.in_ok-go_to_last.ensures
