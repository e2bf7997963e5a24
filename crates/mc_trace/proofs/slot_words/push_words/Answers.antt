use Rattle.std.proofs.Common.{◌<◌, false, true, arith, ap, option_map, string_bytes, ◌∙◌, ◌++◌}
use Rattle.mc_flash.specs.{Flash.{sectors_of}, facts.Layouts.{trailer_leaves_one}}
use Rattle.mc_trace.specs.{Runs.{run_of}, declared.runs.Run.{Run}}
use Rattle.mc_trace.proofs.{RunWords.{begun, grew}, SlotCells.{next_count}}
use Rattle.mc_trace.proofs.slot_words.push_words.Goals as goal

pub cell_in-requires-clause-inside : goal.cell_in-requires-clause-inside
cell_in-requires-clause-inside c = omega (arith, trailer_leaves_one c.args.layout.now c.args.slot c.sectors-sectors.ensures.valid)

pub loop-sector-init : goal.loop-sector-init
loop-sector-init c =
    let named = option_map (λ start. start.now.content) c.args.named in
    let run = c.of-run.ensures ∙ ap (λ cell. run_of (cell, false)) c.cell_in.ensures in
    let some : 0 < sectors_of c.args.layout.now c.args.slot = omega (arith, trailer_leaves_one c.args.layout.now c.args.slot c.sectors-sectors.ensures.valid) in
    record {
      written = rw run (ap (λ words. string_bytes c.args.text.now ++ words) (begun c.args.layout.now named c.args.slot c.args.bytes.now some));
      some = omega (arith, ap (λ (r : Run). r.count) run);
      at_most = omega (arith, ap (λ (r : Run). r.count) run);
    }

pub loop-sector-preserved : goal.loop-sector-preserved
loop-sector-preserved c =
    let named = option_map (λ start. start.now.content) c.args.named in
    let more : c.loop-sector.sector < sectors_of c.args.layout.now c.args.slot =
    omega (arith, c.loop-sector-test.true, c.sectors-sectors.ensures.value) in
    let run = rw c.cell_in-in-loop-sector.ensures at c.in_ok-run.ensures.run in
    let count = next_count true c.loop-sector.run (c.cell_in-in-loop-sector.result, false) in
    record {
      written = rw run (grew c.args.layout.now named c.args.slot c.args.bytes.now c.loop-sector.sector c.loop-sector.run (string_bytes c.loop-sector.text)
          (string_bytes c.next_run.new.text) _ more (rw c.cell_in-in-loop-sector.ensures at c.in_ok-run.ensures.text) c.loop-sector.invariant.written);
      some = omega (arith, ap (λ (r : Run). r.count) c.in_ok-run.ensures.run, count.1);
      at_most = omega (arith, ap (λ (r : Run). r.count) c.in_ok-run.ensures.run, count.0, c.loop-sector.invariant.at_most);
    }
