use Rattle.std.proofs.Transfers.{starts_with_trans}
use Rattle.mc_image.proofs.writing.put_entry.Goals as goal

pub returns-in_err-put_u16-clause-kept : goal.returns-in_err-put_u16-clause-kept
returns-in_err-put_u16-clause-kept c = c.put_u16.ensures.kept

pub returns-in_err-put_u16-2-clause-kept : goal.returns-in_err-put_u16-2-clause-kept
returns-in_err-put_u16-2-clause-kept c = starts_with_trans _ _ _ c.put_u16-2.ensures.kept c.in_ok-put_u16.ensures.kept
