use Rattle.std.proofs.Common.{refl}
use Rattle.mc_c.specs.declared.disk.Disk.{Disk}
use Rattle.mc_c.proofs.command.mcsim_run.Goals as goal

pub returns-clause-runs : goal.returns-clause-runs
returns-clause-runs c =
    let disk : Disk = record { a = c.args.a; b = c.args.b; c = c.args.c; out = record { ref_ptr = c.args.a.ref_ptr; now = c.new-written.result } } in
    let printed = c.run_over-status.new.printed.writer.items in
    let held = rw c.as_slice.ensures.value at c.put-lengths.ensures.holds in
    rw c.from.ensures (record { disk = disk; a = refl; b = refl; c = refl; printed = printed; runs = c.run_over-status.ensures.runs; holds = held })
