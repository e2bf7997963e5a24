use Rattle.std.proofs.{Common.{rules, subst, sym}, lemmas.List.Sorted.{IsPartitionPoint-from_clause}}
use Rattle.std.specs.Prelude.{nat_le}
use Rattle.mc_explore.specs.{declared.run.Run.{Run}, inner.Runs.{Begins}}
use Rattle.mc_explore.proofs.Runs.{last_begun, parted}
use Rattle.mc_explore.proofs.run.run_of.Goals as goal

pub returns-clause-begins : goal.returns-clause-begins
returns-clause-begins g c = λ n split some le.
    let at : Run _ → _ = λ run. nat_le run.first c.args.number in
    let point = IsPartitionPoint-from_clause at c.args.runs.now c.partition_point-after.result c.partition_point-after.ensures.partitioned
    (parted c.args.runs.now n split c.args.number) (λ run b f called. search rules) in
    subst (Begins c.args.runs.now n c.args.number) (sym c.saturating_sub.ensures)
    (last_begun c.args.runs.now n split c.args.number c.partition_point-after.result some le c.partition_point-after.ensures.bound point)
