use Rattle.std.proofs.Common.{length, arith, sym, ap, ℕ, ◌+◌, ◌≡◌, ◌≤◌, ◌∙◌}
use Rattle.mc_boot.specs.{Outcome.{shown}, Plan.{again}, Restart.{confirmed_if}}
use Rattle.mc_start.specs.Start.{begun}
use Rattle.mc_campaign.proofs.{Loaded.{room_for_one}, CutsInRounds.{in_round_few}, Replays.{replayed_both}, Restarts.{campaign_restarts}}
use Rattle.mc_campaign.proofs.campaign_replays.replay_campaign.Goals as goal

pub settle-requires : goal.settle-requires
settle-requires g c = λ counts.
    let one = c.in_ok-one.ensures in
    let n : ℕ = length c.cuts-first.result.now in
    let at_most : n ≤ c.len.result = omega (arith, c.len.ensures.value, in_round_few 1 c.args.campaign.now, ap length (c.cuts-first.ensures.value ∙ c.schedule-firsts.ensures)) in
    room_for_one (begun c.args.start.now) n (c.len.result + 3) (g.F.Flash.seen c.in_ok-one.middle) one.counts (one.exact (sym one.counted ∙ counts)) (omega (arith, at_most))

pub replay_round-requires : goal.replay_round-requires
replay_round-requires g c =
    let is = ap length (c.cuts-first.ensures.value ∙ c.schedule-firsts.ensures) in
    (omega (arith, c.cuts-first.ensures.at_most), omega (arith, in_round_few 1 c.args.campaign.now, is, c.len.ensures.value), omega (arith, c.len.ensures.at_most))

pub replay_round-requires-2 : goal.replay_round-requires-2
replay_round-requires-2 g c =
    let is = ap length (c.cuts-second.ensures.value ∙ c.schedule-seconds.ensures) in
    (omega (arith, c.cuts-second.ensures.at_most), omega (arith, in_round_few 2 c.args.campaign.now, is, c.len.ensures.value), omega (arith, c.len.ensures.at_most))

pub returns-in-Ok-clause-restarts : goal.returns-in-Ok-clause-restarts
returns-in-Ok-clause-restarts g c =
    let start = begun c.args.start.now in
    let confirms = c.args.confirms in
    let middle = g.F.Flash.seen c.in_ok-one.middle in
    let one = c.in_ok-one.ensures in
    let first = rw (c.cuts-first.ensures.value ∙ c.schedule-firsts.ensures) at one.replayed in
    let begins : begun c.in_ok-then.then ≡ again start (confirmed_if confirms start.geometry middle.content) =
    c.in_ok-then.ensures ∙ ap (again start) (c.in_ok-settle.ensures.content ∙ ap (λ g. confirmed_if confirms g middle.content) one.geometry) in
    let both = replayed_both start confirms c.args.campaign.now (shown c.in_ok-one.one) middle.content first (begun c.in_ok-then.then) begins c.cuts-second.result.now
    (c.cuts-second.ensures.value ∙ c.schedule-seconds.ensures) (shown c.in-Ok.two) (g.F.Flash.seen c.in-Ok.flash).content c.in-Ok.ensures.replayed in
    campaign_restarts start.rules start.geometry confirms start.content c.args.campaign.now (shown c.in_ok-one.one) (shown c.in-Ok.two) (g.F.Flash.seen c.in-Ok.flash).content
    c.layout-layout.ensures.valid (c.restart_law.ensures.restart start.rules) (c.restart_law.ensures.rounds start.rules) both
