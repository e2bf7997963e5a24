use Rattle.std.proofs.{Common.{◌≡◌, false, sym}, lemmas.Result.{err_from_is_err_and}}
use Rattle.mc_imgtool.specs.Created.{created, needs_slot_size}
use Rattle.mc_imgtool.proofs.Answering.{refused_reading, refused_making, refused_unread}
use Rattle.mc_imgtool.proofs.Wanted.{created_wanted, created_needs, never_error, given_error, false_true}
use Rattle.mc_imgtool.proofs.creation.create.Goals as goal

pub returns-then-needs_slot_size-clause-answer : goal.returns-then-needs_slot_size-clause-answer
returns-then-needs_slot_size-clause-answer g c = refused_unread (created c.args.options.now) _ _ (λ xs. created_needs c.args.options.now xs (sym c.if-needs_slot_size.ensures))

pub returns-in_err-bytes-clause-answer : goal.returns-in_err-bytes-clause-answer
returns-in_err-bytes-clause-answer g c =
    let p = err_from_is_err_and c.from_residual.result c.from_residual.ensures.1 in
    rw (p.1, p.2) (refused_reading (created c.args.options.now) (created_wanted c.args.options.now (sym c.if-needs_slot_size.ensures)) _ _ _ c.in_err-bytes.ensures.refused)

pub returns-in_err-image-clause-answer : goal.returns-in_err-image-clause-answer
returns-in_err-image-clause-answer g c =
    let p = err_from_is_err_and c.from_residual-in_err-image.result c.from_residual-in_err-image.ensures.1 in
    rw (p.1, p.2)
    (refused_making (created c.args.options.now) (created_wanted c.args.options.now (sym c.if-needs_slot_size.ensures)) _ _ c.in_ok-bytes.bytes.items _ c.in_ok-bytes.ensures.whole.1
    (rw c.as_slice.ensures.value at c.in_err-image.ensures.made))

pub returns-in_err-image-clause-never : goal.returns-in_err-image-clause-never
returns-in_err-image-clause-never g c =
    let p = err_from_is_err_and c.from_residual-in_err-image.result c.from_residual-in_err-image.ensures.1 in
    rw (p.1, p.2) (never_error c.args.options.now _ _ c.in_err-image.ensures.made)

pub returns-in_err-image-clause-slot : goal.returns-in_err-image-clause-slot
returns-in_err-image-clause-slot g c =
    let p = err_from_is_err_and c.from_residual-in_err-image.result c.from_residual-in_err-image.ensures.1 in
    let given : needs_slot_size c.args.options.now ≡ false = sym c.if-needs_slot_size.ensures in
    rw (p.1, p.2) (λ is. absurd (given_error c.args.options.now _ _ given c.in_err-image.ensures.made is), λ needs. absurd (false_true given needs))

pub returns-in_err-image-clause-unread : goal.returns-in_err-image-clause-unread
returns-in_err-image-clause-unread g c =
    let p = err_from_is_err_and c.from_residual-in_err-image.result c.from_residual-in_err-image.ensures.1 in
    rw (p.1, p.2) (λ is. absurd (given_error c.args.options.now _ _ (sym c.if-needs_slot_size.ensures) c.in_err-image.ensures.made is))
