use Rattle.std.proofs.Transfers.{starts_with_trans}
use Rattle.mc_image.proofs.Written.{appended, extended, on_ok}
use Rattle.mc_image.proofs.writing.put_header.Goals as goal

pub returns-in_err-put_sizes-clause-kept : goal.returns-in_err-put_sizes-clause-kept
returns-in_err-put_sizes-clause-kept c = c.put_sizes.ensures.kept

pub returns-in_err-put_version-clause-kept : goal.returns-in_err-put_version-clause-kept
returns-in_err-put_version-clause-kept c = starts_with_trans _ _ _ c.put_version.ensures.kept c.in_ok-put_sizes.ensures.kept

pub returns-in_err-put_u32-clause-kept : goal.returns-in_err-put_u32-clause-kept
returns-in_err-put_u32-clause-kept c = starts_with_trans _ _ _ c.put_u32.ensures.kept (starts_with_trans _ _ _ c.in_ok-put_version.ensures.kept c.in_ok-put_sizes.ensures.kept)

pub returns-clause-written : goal.returns-clause-written
returns-clause-written c =
    on_ok c.extend_from_slice.result (extended c.extend_from_slice.result c.put_u32.new.out.items _ c.args.parts.now.header_rest.now c.extend_from_slice.ensures.items).0
    (λ last. appended c.args.out.now.items c.put_sizes.new.out.items c.extend_from_slice.new.self.items _ _ c.in_ok-put_sizes.ensures.written
    (appended c.put_sizes.new.out.items c.put_version.new.out.items c.extend_from_slice.new.self.items _ _ c.in_ok-put_version.ensures.written
    (appended c.put_version.new.out.items c.put_u32.new.out.items c.extend_from_slice.new.self.items _ _ c.in_ok-put_u32.ensures.written last)))

pub returns-clause-kept : goal.returns-clause-kept
returns-clause-kept c =
    starts_with_trans _ _ _ (extended c.extend_from_slice.result c.put_u32.new.out.items _ c.args.parts.now.header_rest.now c.extend_from_slice.ensures.items).1
    (starts_with_trans _ _ _ c.in_ok-put_u32.ensures.kept (starts_with_trans _ _ _ c.in_ok-put_version.ensures.kept c.in_ok-put_sizes.ensures.kept))
