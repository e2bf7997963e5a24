use Rattle.std.proofs.{Common.{ap, false, sym, subst, true, ◌≡◌, ◌∙◌}, KnownBytes.{Appends-nil}, lemmas.Result.{err_from_is_err_and}}
use Rattle.std.specs.{Io.KnownBytes.{Appends}, Prelude.{List, length, ℕ}}
use Rattle.mc_explore.specs.inner.OneRound.{begins}
use Rattle.mc_output.specs.Text.{AppendsPrefix}
use Rattle.mc_tear.proofs.Ranges.{torn_len}
use Rattle.mc_tear.specs.Cases.{written_len}
use Rattle.mc_tears.proofs.AsWhole.{ends_after}
use Rattle.mc_tears.proofs.Written.{case_is, ends_so, no_right, no_text, none_out, right_is, told_is}
use Rattle.mc_tears.specs.{Ends.{shown_end}, Tears.{case_end, told_text}, inner.Standing.{case_at, reading_text_at}}
use Rattle.mc_tears.proofs.cases.write_case.Given.{Over}
use Rattle.mc_tears.proofs.cases.write_case.Goals as goal
use Rattle.mc_tears.proofs.cases.write_case.Goals.{In_ok-end, Then-not-branch}

pub returns-in_err-is_case-clause-written : goal.returns-in_err-is_case-clause-written
returns-in_err-is_case-clause-written g c =
    let failed = err_from_is_err_and c.from_residual.result c.from_residual.ensures.1 in
    rw failed.1 (none_out _ _)

pub returns-in_err-end-clause-written : goal.returns-in_err-end-clause-written
returns-in_err-end-clause-written g c =
    let failed = err_from_is_err_and c.from_residual-in_err-end.result c.from_residual-in_err-end.ensures.1 in
    rw failed.1 (none_out _ _)

-- It is no case.
is_none : (g : Over) (c : Then-not-branch g) → case_at c.args.asked.now (begins c.args.rounds.now) c.args.between.now.number c.args.between.now.op c.args.reading.now ≡ false
is_none g c =
    let is = c.in_ok-is_case.ensures.is.0 ∙ case_is (begins c.args.rounds.now) c.args.between.now (g.F.Flash.seen c.args.flash.now) c.requires.stands c.args.asked.now c.args.reading.now in
    sym is ∙ c.if-not-branch.true

pub returns-then-not-branch-clause-written : goal.returns-then-not-branch-clause-written
returns-then-not-branch-clause-written g c =
    rw (no_text (begins c.args.rounds.now) c.args.between.now (g.F.Flash.seen c.args.flash.now) c.requires.stands c.args.asked.now c.args.reading.now (is_none g c)) (Appends-nil _)

pub returns-then-not-branch-clause-right : goal.returns-then-not-branch-clause-right
returns-then-not-branch-clause-right g c =
    sym (no_right (begins c.args.rounds.now) c.args.between.now (g.F.Flash.seen c.args.flash.now) c.requires.stands c.args.asked.now c.args.reading.now (is_none g c))

pub end_from-requires-clause-len : goal.end_from-requires-clause-len
end_from-requires-clause-len g c =
    let f = g.F.Flash.seen c.args.flash.now in
    let e = c.in_ok-is_case.ensures in
    let op = c.args.between.now.op in
    ap (λ (l : List ℕ). length l) (c.deref.ensures.value ∙ e.is.1 c.if-not-branch.false)
    ∙ torn_len c.args.asked.now.erasing f.geometry op f.content c.args.reading.now
    ∙ ap (λ g. written_len g op) (sym e.stays.geometry)

-- It is one, and how it ends.
is_one : (g : Over) (c : In_ok-end g) → case_at c.args.asked.now (begins c.args.rounds.now) c.args.between.now.number c.args.between.now.op c.args.reading.now ≡ true
is_one g c =
    let is = c.in_ok-is_case.ensures.is.0 ∙ case_is (begins c.args.rounds.now) c.args.between.now (g.F.Flash.seen c.args.flash.now) c.requires.stands c.args.asked.now c.args.reading.now in
    sym is ∙ c.if-not-branch.false

ends : (g : Over) (c : In_ok-end g) → shown_end c.in_ok-end.end ≡ case_end c.args.asked.now.erasing (begins c.args.rounds.now) c.args.between.now.number c.args.between.now.op c.args.reading.now
ends g c =
    let e = c.in_ok-is_case.ensures in
    c.in_ok-end.ensures.end
    ∙ ends_so (begins c.args.rounds.now) c.args.between.now (g.F.Flash.seen c.args.flash.now) c.requires.stands c.args.asked.now.erasing c.args.reading.now
    (g.F.Flash.seen c.is_case.new.flash) c.deref.result.now e.stays.geometry e.stays.content (c.deref.ensures.value ∙ e.is.1 c.if-not-branch.false)

told : (g : Over) (c : In_ok-end g) → let b = c.args.between.now in
    told_text c.args.asked.now.all b.number (shown_end b.before) (shown_end b.after) c.args.reading.now (shown_end c.in_ok-end.end)
    ≡ reading_text_at c.args.asked.now (begins c.args.rounds.now) b.number b.op c.args.reading.now
told g c =
    told_is (begins c.args.rounds.now) c.args.between.now (g.F.Flash.seen c.args.flash.now) c.requires.stands c.args.asked.now c.args.reading.now (shown_end c.in_ok-end.end) (is_one g c) (ends g c)

pub returns-in_err-tell-clause-written : goal.returns-in_err-tell-clause-written
returns-in_err-tell-clause-written g c =
    let failed = err_from_is_err_and c.from_residual-in_err-tell.result c.from_residual-in_err-tell.ensures.1 in
    let now = told g (goal.at.returns-in_err-tell-clause-written g c).In_ok-end in
    rw failed.1 (subst (AppendsPrefix (g.W.Write.contents c.args.writer.now) (g.W.Write.contents c.tell.new.writer)) now c.in_err-tell.ensures.written)

pub returns-clause-written : goal.returns-clause-written
returns-clause-written g c =
    let now = told g (goal.at.returns-clause-written g c).In_ok-end in
    subst (Appends (g.W.Write.contents c.args.writer.now) (g.W.Write.contents c.tell.new.writer)) now c.in_ok-tell.ensures.written

pub returns-clause-right : goal.returns-clause-right
returns-clause-right g c =
    let at = (goal.at.returns-clause-right g c).In_ok-end in
    c.is_right.ensures
    ∙ right_is (begins c.args.rounds.now) c.args.between.now (g.F.Flash.seen c.args.flash.now) c.requires.stands c.args.asked.now c.args.reading.now (shown_end c.in_ok-end.end)
    (is_one g at) (ends g at)

pub end_from-requires-clause-after : goal.end_from-requires-clause-after
end_from-requires-clause-after g c =
    let e = c.in_ok-is_case.ensures in
    rw (e.stays.geometry, e.stays.content) (ends_after (begins c.args.rounds.now) c.args.between.now (g.F.Flash.seen c.args.flash.now) c.requires.stands)
