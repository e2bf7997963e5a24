use Rattle.std.proofs.Common.{length, arith, sym, ◌+◌, ◌∙◌}
use Rattle.mc_start.specs.Start.{begun}
use Rattle.mc_campaign.proofs.Loaded.{room_for_one}
use Rattle.mc_campaign.proofs.campaign_replays.start_of_second.Goals as goal

pub settle-requires : goal.settle-requires
settle-requires g c = λ counts.
    let one = c.in_ok-_one.ensures in
    let n = length c.cuts-cuts.result.now in
    room_for_one (begun c.args.start.now) n (n + 3) (g.F.Flash.seen c.in_ok-_one.middle) one.counts (one.exact (sym one.counted ∙ counts)) (omega arith)
