use Rattle.std.proofs.{Common.{◌<◌, ◌≤◌, arith, ap, ◌∙◌}, lemmas.Result.{err_from_is_err_and}}
use Rattle.mc_flash.specs.{Flash.{sectors_of}, Geometry.{Geometry}, facts.Layouts.{trailer_leaves_one}}
use Rattle.mc_trace.specs.{Runs.{run_of}, declared.runs.Run.{Run}}
use Rattle.mc_trace.proofs.{SlotCells.{begun, cell_begun, cell_out, last_by, next_count}, Writing.{written}}
use Rattle.mc_trace.proofs.slot_cells.write_cells.Goals as goal

pub cell_at-requires-clause-inside : goal.cell_at-requires-clause-inside
cell_at-requires-clause-inside g c = omega (arith, trailer_leaves_one c.args.start.now.geometry c.args.slot c.layout.ensures.valid)

pub loop-sector-init : goal.loop-sector-init
loop-sector-init g c =
    let start = c.args.start.now in
    let run = c.of-run.ensures ∙ ap run_of c.cell_at.ensures in
    let some : 0 < sectors_of start.geometry c.args.slot = omega (arith, trailer_leaves_one start.geometry c.args.slot c.layout.ensures.valid) in
    record {
      out = rw run (begun c.args.look.now start.geometry start.content c.args.slot c.args.bytes.now c.args.target some (g.W.Write.contents c.args.writer.now));
      some = omega (arith, ap (λ (r : Run). r.count) run);
      at_most = omega (arith, ap (λ (r : Run). r.count) run);
    }

pub next_run-requires : goal.next_run-requires
next_run-requires g c = (c.loop-sector.invariant.some, omega (arith, c.loop-sector.invariant.at_most, c.loop-sector-test.true, c.loop-sector.auto.sector-end))

pub returns-in_err-run : goal.returns-in_err-run
returns-in_err-run g c =
    let start = c.args.start.now in
    let more : c.loop-sector.sector < sectors_of start.geometry c.args.slot =
    omega (arith, c.loop-sector-test.true, c.sectors-sectors.ensures.value, ap (λ (x : Geometry). sectors_of x c.args.slot) c.layout.ensures.value) in
    let failed = err_from_is_err_and c.from_residual.result c.from_residual.ensures.1 in
    rw failed.1 (cell_begun c.args.look.now start.geometry start.content c.args.slot c.args.bytes.now c.args.target c.loop-sector.sector _ _ _ c.loop-sector.run c.loop-sector.invariant.out more
    (rw c.cell_at-in-loop-sector.ensures at c.in_err-run.ensures.written))

pub loop-sector-preserved : goal.loop-sector-preserved
loop-sector-preserved g c =
    let start = c.args.start.now in
    let more : c.loop-sector.sector < sectors_of start.geometry c.args.slot =
    omega (arith, c.loop-sector-test.true, c.sectors-sectors.ensures.value, ap (λ (x : Geometry). sectors_of x c.args.slot) c.layout.ensures.value) in
    let run = rw c.cell_at-in-loop-sector.ensures at c.in_ok-run.ensures.run in
    let count = next_count c.args.look.now.merges c.loop-sector.run c.cell_at-in-loop-sector.result in
    record {
      out = rw run (cell_out c.args.look.now start.geometry start.content c.args.slot c.args.bytes.now c.args.target c.loop-sector.sector _ _ _ c.loop-sector.run c.loop-sector.invariant.out more
          (rw c.cell_at-in-loop-sector.ensures at c.in_ok-run.ensures.written));
      some = omega (arith, ap (λ (r : Run). r.count) c.in_ok-run.ensures.run, count.1);
      at_most = omega (arith, ap (λ (r : Run). r.count) c.in_ok-run.ensures.run, count.0, c.loop-sector.invariant.at_most);
    }

pub returns : goal.returns
returns g c =
    let start = c.args.start.now in
    let end : sectors_of start.geometry c.args.slot ≤ c.loop-sector.sector =
    omega (arith, c.loop-sector-test.false, c.sectors-sectors.ensures.value, ap (λ (x : Geometry). sectors_of x c.args.slot) c.layout.ensures.value) in
    let last = rw c.run_line.ensures.text at c.write_line.ensures in
    last_by c.args.look.now start.geometry start.content c.args.slot c.args.bytes.now c.args.target c.loop-sector.sector _ _ _ c.loop-sector.run c.loop-sector.invariant.out
    c.write_line.result end (written c.write_line.result _ _ _ last.whole last.prefix)
