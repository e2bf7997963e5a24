use Rattle.std.proofs.Transfers.{starts_with_trans}
use Rattle.mc_image.proofs.writing.put_protected.Goals as goal

pub returns-in_err-put_head-clause-kept : goal.returns-in_err-put_head-clause-kept
returns-in_err-put_head-clause-kept c = c.put_head.ensures.kept

pub returns-clause-kept : goal.returns-clause-kept
returns-clause-kept c = starts_with_trans _ _ _ c.put_entries.ensures.kept c.in_ok-put_head.ensures.kept
