use Rattle.std.proofs.{Common.{◌∙◌, ap, length}, Transfers.{starts_with_trans, starts_with_of_append}}
use Rattle.mc_image.proofs.Written.{on_ok, covered-written, protected_size}
use Rattle.mc_image.proofs.writing.put_covered.Goals as goal

pub put_protected-requires : goal.put_protected-requires
put_protected-requires c = c.requires.protected ∙ ap length (protected_size c.args.parts.now)

pub returns-clause-written : goal.returns-clause-written
returns-clause-written c =
    on_ok c.put_protected.result c.put_protected.ensures.written
    (λ last. covered-written c.args.parts.now _ _ _ _ c.args.out.now.items c.put_header.new.out.items c.extend_from_slice.new.self.items _ c.requires c.in_ok-put_header.ensures.written
    c.in_ok-extend_from_slice.ensures.items last)

pub returns-clause-kept : goal.returns-clause-kept
returns-clause-kept c =
    starts_with_trans _ _ _ c.put_protected.ensures.kept (starts_with_trans _ _ _ (starts_with_of_append _ _ _ c.in_ok-extend_from_slice.ensures.items) c.in_ok-put_header.ensures.kept)

pub returns-in_err-put_header-clause-kept : goal.returns-in_err-put_header-clause-kept
returns-in_err-put_header-clause-kept c = c.put_header.ensures.kept
