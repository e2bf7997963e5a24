use Rattle.std.proofs.Common.{refl, ◌+◌}
use Rattle.mc_explore.specs.{declared.at_cuts.AtCuts.{AtCuts}, inner.BootRows.{EndSoAt}}
use Rattle.mc_explore.proofs.LastCuts.{told_last, told_more}
use Rattle.mc_explore.proofs.last_cuts.keep_next.Goals as goal

pub returns-then-is_told_last-clause-kept : goal.returns-then-is_told_last-clause-kept
returns-then-is_told_last-clause-kept c = λ t are told.
    let old = c.args.kept.now in
    let new : AtCuts _ = record { parent_path = old.parent_path; first = old.first; count = old.count + 1; told = old.told; joined = old.joined } in
    told_last (EndSoAt t) old new are c.args.told told refl refl (c.is_told_last.ensures c.if-is_told_last.true) refl refl

pub returns-else-is_told_last-clause-kept : goal.returns-else-is_told_last-clause-kept
returns-else-is_told_last-clause-kept c = λ t are told.
    told_more (EndSoAt t) c.args.kept.now c.begin_run.new.self are c.args.told told c.begin_run.ensures.first c.begin_run.ensures.path c.begin_run.ensures.told
