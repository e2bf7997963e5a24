use Rattle.std.proofs.{Common.{arith}, lemmas.List.{take_rest}}
use Rattle.mc_output.proofs.Streams.{Appends_more}
use Rattle.mc_output.proofs.write_text.Goals as goal

pub loop-done-preserved : goal.loop-done-preserved
loop-done-preserved g c =
    let rest = take_rest c.args.text.now c.loop-done.done in
    let given = c.in-Ok.ensures in
    let fits = rw rest at given.bound in
    let more = rw rest at given.bytes in
    record {
      within = grind (arith, fits);
      prefix = Appends_more _ _ _ c.args.text.now c.loop-done.done c.in-Ok.count c.loop-done.invariant.prefix more;
    }
