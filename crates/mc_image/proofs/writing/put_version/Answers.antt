use Rattle.std.proofs.Transfers.{starts_with_trans, starts_with_of_append}
use Rattle.mc_image.proofs.writing.put_version.Goals as goal

pub returns-clause-kept : goal.returns-clause-kept
returns-clause-kept c = starts_with_trans _ _ _ c.put_u32.ensures.kept (starts_with_trans _ _ _ c.in_ok-put_u16.ensures.kept (starts_with_of_append _ _ _ c.in_ok-extend_from_slice.ensures.items))

pub returns-in_err-put_u16-clause-kept : goal.returns-in_err-put_u16-clause-kept
returns-in_err-put_u16-clause-kept c = starts_with_trans _ _ _ c.put_u16.ensures.kept (starts_with_of_append _ _ _ c.in_ok-extend_from_slice.ensures.items)
