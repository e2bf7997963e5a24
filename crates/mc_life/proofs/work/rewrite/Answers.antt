use Rattle.std.proofs.Common.{◌∙◌}
use Rattle.mc_flash.specs.facts.Done.{does_keep}
use Rattle.mc_life.proofs.Wiping.{rewritten, rewrite_fails, whole_slot}
use Rattle.mc_life.proofs.work.rewrite.Goals as goal

pub program-requires : goal.program-requires
program-requires g c =
    let f = g.F.Flash.seen c.args.flash.now in
    rw c.in_ok-wipe.ensures.layout (whole_slot f.geometry c.args.bytes.now (rw c.layout.ensures at c.sector-sector.ensures.valid) c.requires)

pub returns-clause-content : goal.returns-clause-content
returns-clause-content g c = rewritten (g.F.Flash.seen c.args.flash.now) _ _ _ c.in_ok-wipe.ensures.content c.in_ok-wipe.ensures.layout c.requires c.program.result c.program.ensures

pub returns-clause-layout : goal.returns-clause-layout
returns-clause-layout g c = (does_keep _ _ _ _ c.program.ensures).geometry ∙ c.in_ok-wipe.ensures.layout

pub returns-clause-err : goal.returns-clause-err
returns-clause-err g c = rewrite_fails (g.F.Flash.seen c.args.flash.now) _ _ _ c.in_ok-wipe.ensures.content c.in_ok-wipe.ensures.layout c.requires c.program.result c.program.ensures
