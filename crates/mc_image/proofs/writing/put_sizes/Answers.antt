use Rattle.std.proofs.{Transfers.{starts_with_trans}, Common.{append_assoc}}
use Rattle.mc_image.proofs.Written.{on_ok}
use Rattle.mc_image.proofs.writing.put_sizes.Goals as goal

pub returns-clause-written : goal.returns-clause-written
returns-clause-written c =
    on_ok c.put_u32-4.result c.put_u32-4.ensures.written (λ last. simp (
      last,
      c.in_ok-put_u32-3.ensures.written,
      c.in_ok-put_u16-2.ensures.written,
      c.in_ok-put_u16.ensures.written,
      c.in_ok-put_u32-2.ensures.written,
      c.in_ok-put_u32.ensures.written,
      append_assoc,
    ))

pub returns-in_err-put_u32-clause-kept : goal.returns-in_err-put_u32-clause-kept
returns-in_err-put_u32-clause-kept c = c.put_u32.ensures.kept

pub returns-in_err-put_u32-2-clause-kept : goal.returns-in_err-put_u32-2-clause-kept
returns-in_err-put_u32-2-clause-kept c = starts_with_trans _ _ _ c.put_u32-2.ensures.kept c.in_ok-put_u32.ensures.kept

pub returns-in_err-put_u16-clause-kept : goal.returns-in_err-put_u16-clause-kept
returns-in_err-put_u16-clause-kept c = starts_with_trans _ _ _ c.put_u16.ensures.kept (starts_with_trans _ _ _ c.in_ok-put_u32-2.ensures.kept c.in_ok-put_u32.ensures.kept)

pub returns-in_err-put_u16-2-clause-kept : goal.returns-in_err-put_u16-2-clause-kept
returns-in_err-put_u16-2-clause-kept c =
    starts_with_trans _ _ _ c.put_u16-2.ensures.kept (starts_with_trans _ _ _ c.in_ok-put_u16.ensures.kept
    (starts_with_trans _ _ _ c.in_ok-put_u32-2.ensures.kept c.in_ok-put_u32.ensures.kept))

pub returns-in_err-put_u32-3-clause-kept : goal.returns-in_err-put_u32-3-clause-kept
returns-in_err-put_u32-3-clause-kept c =
    starts_with_trans _ _ _ c.put_u32-3.ensures.kept (starts_with_trans _ _ _ c.in_ok-put_u16-2.ensures.kept
    (starts_with_trans _ _ _ c.in_ok-put_u16.ensures.kept (starts_with_trans _ _ _ c.in_ok-put_u32-2.ensures.kept c.in_ok-put_u32.ensures.kept)))

pub returns-clause-kept : goal.returns-clause-kept
returns-clause-kept c =
    starts_with_trans _ _ _ c.put_u32-4.ensures.kept (starts_with_trans _ _ _ c.in_ok-put_u32-3.ensures.kept
    (starts_with_trans _ _ _ c.in_ok-put_u16-2.ensures.kept (starts_with_trans _ _ _ c.in_ok-put_u16.ensures.kept
    (starts_with_trans _ _ _ c.in_ok-put_u32-2.ensures.kept c.in_ok-put_u32.ensures.kept))))
