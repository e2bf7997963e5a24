use Rattle.std.proofs.Common.{sym, subst}
use Rattle.mc_flash.specs.Usage.{HasRoom}
use Rattle.mc_walk.specs.TreeModel.{owed_there}
use Rattle.mc_walk.proofs.{Stacks.{child_here, entered_summary, given_there}, Steps.{spends_marked}}
use Rattle.mc_walk.proofs.enter.enter.Goals as goal

pub child-requires : goal.child-requires
child-requires g c = record {
  child = child_here (g.B.FlashTree.model c.args.flash_tree) _ _ _ c.args.frame c.requires.comes c.in_ok-mark.ensures.1;
  room = subst (HasRoom (owed_there (g.B.FlashTree.model c.args.flash_tree) c.args.frame.at)) (sym c.in_ok-mark.ensures.1) c.requires.room;
}

pub returns-clause-stands : goal.returns-clause-stands
returns-clause-stands g c =
    let seen = g.F.Flash.seen c.args.flash.now in
    entered_summary (g.B.FlashTree.model c.args.flash_tree) seen (g.F.Flash.seen c.mark.new.self) (g.F.Flash.seen c.child.new.flash) c.args.frames.now.items c.push.new.self.items
    c.args.frame
    c.child.result c.requires.comes c.in_ok-mark.ensures.1 c.in_ok-push.ensures.items
    (given_there (g.B.FlashTree.model c.args.flash_tree) (g.F.Flash.seen c.mark.new.self) c.args.frame.at c.args.frame.parent c.child.result _ _ c.child.ensures.gives) c.child.ensures.stays

pub returns-clause-spends : goal.returns-clause-spends
returns-clause-spends g c = spends_marked _ _ _ _ c.child.result c.in_ok-mark.ensures.1 c.child.ensures.spends
