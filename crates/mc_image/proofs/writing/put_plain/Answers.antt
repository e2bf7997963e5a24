use Rattle.std.proofs.{Common.{arith}, Transfers.{starts_with_trans}}
use Rattle.mc_image.proofs.writing.put_plain.Goals as goal

pub returns-in_err-put_head-clause-kept : goal.returns-in_err-put_head-clause-kept
returns-in_err-put_head-clause-kept c = c.put_head.ensures.kept

pub returns-in_err-put_entry-clause-kept : goal.returns-in_err-put_entry-clause-kept
returns-in_err-put_entry-clause-kept c = starts_with_trans _ _ _ c.put_entry.ensures.kept c.in_ok-put_head.ensures.kept

pub returns-clause-kept : goal.returns-clause-kept
returns-clause-kept c = starts_with_trans _ _ _ c.put_entries.ensures.kept (starts_with_trans _ _ _ c.in_ok-put_entry.ensures.kept c.in_ok-put_head.ensures.kept)

pub put_entries-requires : goal.put_entries-requires
put_entries-requires c = omega (arith, c.requires)
