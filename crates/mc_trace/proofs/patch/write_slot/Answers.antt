use Rattle.std.proofs.{Common.{◌+◌, ◌<◌, arith, ap, subst}, lemmas.Result.{err_from_is_err_and}}
use Rattle.mc_flash.specs.{Flash.{sectors_of}, Geometry.{Geometry}}
use Rattle.mc_output.specs.facts.Prefixes.{IsOut, out_all, out_more, out_prefix}
use Rattle.mc_trace.specs.{Patch.{change_of, lines_text, slot_changes}, Sectors.{sector_of}}
use Rattle.mc_trace.proofs.PatchLines.{left, left_next}
use Rattle.mc_trace.proofs.patch.write_slot.Goals as goal

pub returns-in_err-write_sector-clause-written : goal.returns-in_err-write_sector-clause-written
returns-in_err-write_sector-clause-written g c =
    let l = c.args.start.now.geometry in
    let start = c.args.start.now.content in
    let slot = c.args.slot in
    let bytes = c.args.bytes.now in
    let i = c.loop-sector.sector in
    let before = g.W.Write.contents c.args.writer.now in
    let mid = g.W.Write.contents c.loop-sector.writer in
    let whole = lines_text (slot_changes l start slot bytes) in
    let more : i < sectors_of l slot =
    omega (arith, c.loop-sector-test.true, c.sectors-sectors.ensures.value, ap (λ (x : Geometry). sectors_of x slot) c.layout.ensures.value) in
    let out = subst (IsOut before mid whole) (left_next l start slot bytes i more) c.loop-sector.invariant.out in
    let failed = err_from_is_err_and c.from_residual.result c.from_residual.ensures.1 in
    rw failed.1 (out_prefix before mid (g.W.Write.contents c.write_sector.new.writer) whole (lines_text (change_of l start slot i (sector_of l bytes i)))
    (left l start slot bytes (i + 1)) out c.in_err-write_sector.ensures.written)

pub loop-sector-preserved : goal.loop-sector-preserved
loop-sector-preserved g c = grind (arith, left_next, out_more, left)

pub returns-clause-written : goal.returns-clause-written
returns-clause-written g c = grind (arith, out_all)
