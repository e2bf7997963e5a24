use Rattle.std.proofs.{Common.{◌≡◌, false, true}, KnownBytes.{Appends-nil}}
use Rattle.mc_trace.specs.Sectors.{sector_of}
use Rattle.mc_trace.proofs.PatchLines.{as_was, no_line, one_line}
use Rattle.mc_trace.proofs.patch.write_sector.Goals as goal

pub returns-then-eq-clause-written : goal.returns-then-eq-clause-written
returns-then-eq-clause-written g c =
    let l = c.args.start.now.geometry in
    let start = c.args.start.now.content in
    let held = sector_of l c.args.bytes.now c.args.sector in
    let same : as_was l start c.args.slot c.args.sector held ≡ true =
    cc (c.eq.ensures, c.if-eq.true, c.sector_of-held.ensures.value, c.sector_of.ensures.value, c.layout-layout.ensures.value, c.requires.was) in
    rw (no_line l start c.args.slot c.args.sector held same) (Appends-nil _)

pub returns-clause-written : goal.returns-clause-written
returns-clause-written g c =
    let l = c.args.start.now.geometry in
    let start = c.args.start.now.content in
    let held = sector_of l c.args.bytes.now c.args.sector in
    let other : as_was l start c.args.slot c.args.sector held ≡ false =
    cc (c.eq.ensures, c.if-eq.false, c.sector_of-held.ensures.value, c.sector_of.ensures.value, c.layout-layout.ensures.value, c.requires.was) in
    rw (one_line l start c.args.slot c.args.sector held other) (rw (c.sector_of-held.ensures.value, c.layout-layout.ensures.value) at c.write_change.ensures.written)
