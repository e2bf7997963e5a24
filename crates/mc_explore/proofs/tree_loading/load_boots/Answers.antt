use Rattle.std.proofs.Common.{arith}
use Rattle.mc_explore.specs.{facts.BootRoom.{clear}, inner.BootTree.{model_is}}
use Rattle.mc_explore.proofs.tree_loading.load_boots.Goals as goal
use Rattle.mc_start.specs.Start.{begun}

pub start-requires : goal.start-requires
start-requires g c =
    let loads = rw (c.from.ensures, c.more.ensures) at c.in_ok-flash.ensures.loads in
    rw (c.from-2.ensures, model_is) (clear (begun c.args.start.now) g.F.Flash.counted c.args.bound _ _ loads c.args.rounds (omega arith))
