use Rattle.mc_explore.specs.{facts.BootRoom.{clear_one}, inner.OneRound.{one_round_is}}
use Rattle.mc_explore.proofs.tree_loading.load_for.Goals as goal
use Rattle.mc_start.specs.Start.{begun}

pub start-requires : goal.start-requires
start-requires g c =
    rw (c.from.ensures, one_round_is) (clear_one (begun c.args.start.now) g.F.Flash.counted c.args.bound c.args.boots _ c.in_ok-flash.ensures.loads c.requires.0)
