use Rattle.mc_boot.specs.Boot.{progress}
use Rattle.mc_explore.specs.inner.OneRound.{begun_of}
use Rattle.mc_explore.proofs.Walks.{replayed, room_here}
use Rattle.mc_explore.proofs.replays.replay_on.Goals as goal

pub finish-requires-clause-room : goal.finish-requires-clause-room
finish-requires-clause-room g c =
    let e = c.in_ok-there.ensures in
    rw c.into_flash-flash.ensures (room_here g.F.Flash.counted (begun_of c.args.walk) _ _ c.in_ok-there.there c.in_ok-there.summary e.followed e.summary)

pub returns-clause-replayed : goal.returns-clause-replayed
returns-clause-replayed g c =
    let e = c.in_ok-there.ensures in
    replayed g.F.Flash.counted (begun_of c.args.walk) _ _ c.in_ok-there.there c.in_ok-there.summary e.followed e.summary (progress c.finish.new.self) (g.F.Flash.seen c.finish.new.flash)
    (rw c.into_flash-flash.ensures at c.in_ok-finish.ensures.goes.come) c.in_ok-finish.ensures.end
