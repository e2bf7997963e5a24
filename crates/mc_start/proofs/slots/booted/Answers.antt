use Rattle.std.proofs.Common.{}
use Rattle.mc_boot.specs.{Boot.{progress}, Plan.{plain}}
use Rattle.mc_start.proofs.Starts.{allows, left_here}
use Rattle.mc_start.proofs.slots.booted.Goals as goal

pub finish-requires : goal.finish-requires
finish-requires g c =
    let cold = c.cold_among-boot.ensures.cold in
    record { layout = cold.layout; room = allows _ _ _ _ _ (progress c.cold_among-boot.result) c.in_ok-flash.ensures.loads cold.at_most cold.saves }

pub returns-clause-content : goal.returns-clause-content
returns-clause-content g c =
    let e = c.in_ok-finish.ensures in
    let come = e.goes.come plain (g.F.Flash.seen c.in_ok-flash.flash).content c.cold_among-boot.ensures.come in
    left_here _ _ _ _ _ (progress c.finish.new.self) (g.F.Flash.seen c.finish.new.flash) _ c.in_ok-flash.ensures.loads come e.end c.in_ok-read.ensures.content
