use Rattle.std.proofs.{Common.{ap, append-nil, arith, sym, ◌∙◌}, lemmas.Result.{err_from_is_err_and}}
use Rattle.std.specs.{Io.KnownBytes.{Appends}, Prelude.{[], Some, slice_get, ℕ, ◌+◌, ◌≡◌}}
use Rattle.mc_boot.specs.{Outcome.{ops_of}, Plan.{again}}
use Rattle.mc_explore.specs.{Boots.{at_cut}, inner.OneRound.{begins}}
use Rattle.mc_flash.specs.Usage.{Limits}
use Rattle.mc_output.specs.facts.Prefixes.{is_prefix}
use Rattle.mc_tears.proofs.Standing.{applies_back, back_on, can_pass, op_fits, room_here, stands_back, stands_next, stops_on}
use Rattle.mc_tears.proofs.Written.{none_out, right_there, text_there}
use Rattle.mc_tears.specs.Tears.{cut_end, number_text}
use Rattle.mc_tears.specs.inner.Standing.{LeavesBytes, Stands}
use Rattle.mc_tears.proofs.tears.write_next.Given.{Over}
use Rattle.mc_tears.proofs.tears.write_next.Goals as goal
use Rattle.mc_tears.proofs.tears.write_next.Goals.{In_ok-after, In_ok-right}

pub returns-in_err-after-clause-written : goal.returns-in_err-after-clause-written
returns-in_err-after-clause-written g c =
    let failed = err_from_is_err_and c.from_residual.result c.from_residual.ensures.1 in
    rw failed.1 (none_out _ _)

there : (g : Over) (c : In_ok-after g) → Stands (begins c.args.rounds.now) c.args.here.now.at (g.F.Flash.seen c.end_after.new.flash)
there g c =
    stands_back (begins c.args.rounds.now) c.args.here.now.at (g.F.Flash.seen c.args.flash.now) c.requires.here.stands (g.F.Flash.seen c.end_after.new.flash) c.in_ok-after.ensures.returns

pub write_cases-requires-clause-stands : goal.write_cases-requires-clause-stands
write_cases-requires-clause-stands g c =
    let x = begins c.args.rounds.now in
    let at = (goal.at.write_cases-requires-clause-stands g c).In_ok-after in
    let n = c.count.ensures in
    let k = g.F.Flash.seen c.end_after.new.flash in
    let back = c.in_ok-after.ensures.returns in
    let stands = there g at in
    record {
      layout = stands.at_is.layout_is;
      content = stands.at_is.content_is ∙ ap (at_cut x) (sym n);
      op = rw n c.next_op-op.ensures.next;
      applies = applies_back (g.F.Flash.seen c.args.flash.now) k back c.next_op-op.result c.next_op-op.ensures.applies;
      before = rw n c.requires.here.before;
      after = c.in_ok-after.ensures.end ∙ ap (λ m. cut_end x (m + 1)) (sym n);
      bytes = rw n c.in_ok-after.ensures.bytes;
      room = room_here x c.args.here.now.at k stands (rw (back.stays.checkpoints, back.limits) (omega (arith, c.requires.here.marks)));
    }

pub write_cases-requires-clause-buffer : goal.write_cases-requires-clause-buffer
write_cases-requires-clause-buffer g c =
    let at = (goal.at.write_cases-requires-clause-buffer g c).In_ok-after in
    let k = g.F.Flash.seen c.end_after.new.flash in
    let back = c.in_ok-after.ensures.returns in
    op_fits (begins c.args.rounds.now) c.args.here.now.at k (there g at) c.next_op-op.result _
    (applies_back (g.F.Flash.seen c.args.flash.now) k back c.next_op-op.result c.next_op-op.ensures.applies) (rw back.stays.geometry c.requires.buffer)

pub returns-in_err-right-clause-written : goal.returns-in_err-right-clause-written
returns-in_err-right-clause-written g c =
    let failed = err_from_is_err_and c.from_residual-in_err-right.result c.from_residual-in_err-right.ensures.1 in
    rw (failed.1, text_there (begins c.args.rounds.now) c.args.here.now.at.done c.next_op-op.result c.next_op-op.ensures.next c.args.asked.now) (rw c.count.ensures at c.in_err-right.ensures.written)

there_still : (g : Over) (c : In_ok-right g) → Stands (begins c.args.rounds.now) c.args.here.now.at (g.F.Flash.seen c.write_cases.new.flash)
there_still g c =
    stands_back (begins c.args.rounds.now) c.args.here.now.at (g.F.Flash.seen c.end_after.new.flash) (there g (goal.at.In_ok-right g c).In_ok-after) (g.F.Flash.seen c.write_cases.new.flash)
    c.in_ok-right.ensures.goes

pub pass-requires : goal.pass-requires
pass-requires g c =
    can_pass (begins c.args.rounds.now) c.args.here.now.at (g.F.Flash.seen c.write_cases.new.flash) (there_still g (goal.at.pass-requires g c).In_ok-right) c.requires.early

-- The lines of the operation are out.
all_out : (g : Over) (c : In_ok-right g) → Appends (g.W.Write.contents c.args.writer.now) (g.W.Write.contents c.write_cases.new.writer)
    (number_text c.args.asked.now (begins c.args.rounds.now) c.args.here.now.at.done)
all_out g c =
    rw (text_there (begins c.args.rounds.now) c.args.here.now.at.done c.next_op-op.result c.next_op-op.ensures.next c.args.asked.now)
    (rw c.count.ensures at c.in_ok-right.ensures.written)

pub returns-in_err-pass-clause-written : goal.returns-in_err-pass-clause-written
returns-in_err-pass-clause-written g c =
    let failed = err_from_is_err_and c.from_residual-in_err-pass.result c.from_residual-in_err-pass.ensures.1 in
    let out = all_out g (goal.at.returns-in_err-pass-clause-written g c).In_ok-right in
    rw failed.1 (is_prefix _ _ _ [] _ out (append-nil _))

pub returns-in_err-right-clause-steps : goal.returns-in_err-right-clause-steps
returns-in_err-right-clause-steps g c =
    let failed = err_from_is_err_and c.from_residual-in_err-right.result c.from_residual-in_err-right.ensures.1 in
    rw (failed.1, failed.2) (stops_on (begins c.args.rounds.now) c.args.here.now (g.F.Flash.seen c.args.flash.now) (g.F.Flash.seen c.end_after.new.flash) c.in_ok-after.ensures.returns.limits _ _ _
    c.in_err-right.field-0.0 c.in_err-right.ensures.goes)

pub returns-in_err-pass-clause-steps : goal.returns-in_err-pass-clause-steps
returns-in_err-pass-clause-steps g c =
    let failed = err_from_is_err_and c.from_residual-in_err-pass.result c.from_residual-in_err-pass.ensures.1 in
    rw (failed.1, failed.2) (ap (λ (l : Limits). l.counted) (sym (c.in_ok-right.ensures.goes.limits ∙ c.in_ok-after.ensures.returns.limits)) ∙ c.in_err-pass.ensures.spends.counted)

pub returns-clause-written : goal.returns-clause-written
returns-clause-written g c = all_out g (goal.at.returns-clause-written g c).In_ok-right

pub returns-clause-right : goal.returns-clause-right
returns-clause-right g c =
    let x = begins c.args.rounds.now in
    rw (right_there x c.args.here.now.at.done c.next_op-op.result c.next_op-op.ensures.next c.args.asked.now) (rw c.count.ensures at c.in_ok-right.ensures.right)

pub returns-clause-steps : goal.returns-clause-steps
returns-clause-steps g c =
    let x = begins c.args.rounds.now in
    let at = goal.at.returns-clause-steps g c in
    let here = c.args.here.now in
    let h = g.F.Flash.seen c.args.flash.now in
    let k = g.F.Flash.seen c.end_after.new.flash in
    let m = g.F.Flash.seen c.write_cases.new.flash in
    let new = g.F.Flash.seen c.pass.new.flash in
    let back = back_on h k c.in_ok-after.ensures.returns m c.in_ok-right.ensures.goes in
    let e = c.in_ok-pass.ensures in
    let later = stands_next x here.at m (there_still g at.In_ok-right) c.requires.early c.pass.new.at new e.passes.0 e.passes.1 e.spends.limits in (
      record {
        stands = later.0;
        before = c.in_ok-after.ensures.end ∙ ap (cut_end x) (sym later.1);
        marks = rw (e.keeps.checkpoints, e.spends.limits, back.stays.checkpoints, back.limits) c.requires.here.marks;
      },
      later.1,
      e.spends.limits ∙ back.limits,
    )
