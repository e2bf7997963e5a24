use Rattle.std.proofs.{Common.{ap, arith, sym, refl, ◌≡◌, ◌∙◌}, lemmas.Result.{err_from_is_err_and}}
use Rattle.std.specs.Prelude.{Bool, List, if◌then◌else◌, length}
use Rattle.mc_tear.specs.{Cases.{is_case}, Readings.{reading_of}, declared.reading.Reading.{Reading}}
use Rattle.mc_tears.proofs.Listed.{as_number, at_most_one, cases_first, count_next, none_from, not_named}
use Rattle.mc_tears.proofs.Standing.{applies_back, back_on, room_back}
use Rattle.mc_tears.proofs.cases.count_cases.Goals as goal

pub loop-number-init : goal.loop-number-init
loop-number-init g c =
    let f = g.F.Flash.seen c.args.flash.now in
    record {
      count = omega (arith, ap (λ (l : List Reading). length l) (cases_first c.args.erasing f.geometry c.args.op.now f.content));
      few = omega arith;
      back = record { stays = record { geometry = refl; content = refl; checkpoints = refl; counts = refl }; limits = refl };
      capacity = refl;
    }

pub of-reading-requires : goal.of-reading-requires
of-reading-requires g c = omega (arith, c.loop-number-test.true, c.most_readings-number-end.ensures.few)

pub is_case-requires-clause-applies : goal.is_case-requires-clause-applies
is_case-requires-clause-applies g c = applies_back (g.F.Flash.seen c.args.flash.now) (g.F.Flash.seen c.loop-number.flash) c.loop-number.invariant.back c.args.op.now c.requires.applies

pub is_case-requires-clause-fields : goal.is_case-requires-clause-fields
is_case-requires-clause-fields g c = let back = c.loop-number.invariant.back in rw (back.stays.geometry, back.stays.content) c.of-fields.ensures

pub is_case-requires-clause-buffer : goal.is_case-requires-clause-buffer
is_case-requires-clause-buffer g c = let i = c.loop-number.invariant in rw (i.back.stays.geometry, i.capacity) c.requires.buffer

pub is_case-requires-clause-room : goal.is_case-requires-clause-room
is_case-requires-clause-room g c =
    let back = c.loop-number.invariant.back in
    rw back.stays.geometry (room_back (g.F.Flash.seen c.args.flash.now) (g.F.Flash.seen c.loop-number.flash) back _ c.requires.room)

pub returns-in_err-is_case-clause-returns : goal.returns-in_err-is_case-clause-returns
returns-in_err-is_case-clause-returns g c =
    let failed = err_from_is_err_and c.from_residual.result c.from_residual.ensures.1 in
    rw failed.1 (ap (λ l. l.counted) (sym c.loop-number.invariant.back.limits) ∙ c.in_err-is_case.ensures.spends.counted)

pub loop-number-preserved : goal.loop-number-preserved
loop-number-preserved g c =
    let f = g.F.Flash.seen c.args.flash.now in
    let i = c.loop-number.invariant in
    let e = c.in_ok-is_case.ensures in
    let is : c.in_ok-is_case.field-0 ≡ is_case c.args.erasing f.geometry c.args.op.now f.content (reading_of c.loop-number.number) =
    rw (i.back.stays.geometry, i.back.stays.content, c.of-reading.ensures) at e.is.0 in
    record {
      count = omega (
        arith,
        i.count,
        as_number c.in_ok-is_case.field-0 c.from.result c.from.ensures ∙ ap (λ (b : Bool). if b then 1 else 0) is,
        count_next c.args.erasing f.geometry c.args.op.now f.content c.loop-number.number (omega (arith, c.loop-number-test.true, c.most_readings-number-end.ensures.few)),
      );
      few = omega (arith, i.few, at_most_one c.in_ok-is_case.field-0 c.from.result c.from.ensures);
      back = back_on f (g.F.Flash.seen c.loop-number.flash) i.back (g.F.Flash.seen c.is_case.new.flash) (record { stays = e.stays; limits = e.spends.limits });
      capacity = e.capacity ∙ i.capacity;
    }

pub returns-clause-count : goal.returns-clause-count
returns-clause-count g c =
    let f = g.F.Flash.seen c.args.flash.now in
    let none = none_from c.args.erasing f.geometry c.args.op.now f.content c.loop-number.number
    (λ i from below. not_named c.args.erasing f.geometry c.args.op.now f.content i
    (rw c.of-fields.ensures at (c.most_readings-number-end.ensures.rest i (omega (arith, from, c.loop-number-test.false)) below))) in
    omega (arith, c.loop-number.invariant.count, ap (λ (l : List Reading). length l) none)

pub returns-clause-few : goal.returns-clause-few
returns-clause-few g c = omega (arith, c.loop-number.invariant.few, c.loop-number.auto.number-end, c.most_readings-number-end.ensures.few)
