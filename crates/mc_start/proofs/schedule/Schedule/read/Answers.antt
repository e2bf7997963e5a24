use Rattle.std.specs.Prelude.{Ok, codes, decimal, List, ℕ}
use Rattle.std.proofs.{Common.{rules, arith, sym, ap, ◌∙◌}, lemmas.Result.{err_from_is_err_and}, lemmas.Slice.Eq.{bytes_eq-Decides}}
use Rattle.mc_output.specs.{facts.Reading.{dash, not_next, not_last, left_next, text_next, text_last, all_read, added_valid}, facts.Parting.{parted, one_piece}}
use Rattle.mc_start.specs.facts.Reading.{spelling}
use Rattle.mc_start.proofs.schedule.Schedule.read.Goals as goal

pub returns-then-eq-clause-only : goal.returns-then-eq-clause-only
returns-then-eq-clause-only c = λ l ok given.
    let empty = dash spelling l c.args.text.now ok ((bytes_eq-Decides c.args.text.now (codes "-")).0 (sym (c.if-eq.ensures))) given in
    ap (λ (xs : List ℕ). Ok xs) (c.new-schedule.ensures ∙ sym empty)

pub returns-in_err-add-clause-exact : goal.returns-in_err-add-clause-exact
returns-in_err-add-clause-exact c =
    let q = err_from_is_err_and c.from_residual.result c.from_residual.ensures.1 in
    let p = parted 46 (omega arith) c.cuts.rest.now c.split_once.result c.split_once.ensures.cases c.in-Some.first c.in-Some.after c.in-Some.is in
    rw q.1 (λ l ok given. not_next spelling c.cuts.schedule l c.cuts.rest.now c.in-Some.first.now c.in-Some.after.now ok (c.cuts.invariant.left l ok given) p.parts p.lacks
    c.in_err-add.ensures.refused)

pub returns-in_err-add-clause-only : goal.returns-in_err-add-clause-only
returns-in_err-add-clause-only c = λ l ok given.
    let p = parted 46 (omega arith) c.cuts.rest.now c.split_once.result c.split_once.ensures.cases c.in-Some.first c.in-Some.after c.in-Some.is in
    absurd (not_next spelling c.cuts.schedule l c.cuts.rest.now c.in-Some.first.now c.in-Some.after.now ok (c.cuts.invariant.left l ok given) p.parts p.lacks c.in_err-add.ensures.refused)

pub cuts-preserved : goal.cuts-preserved
cuts-preserved c =
    let p = parted 46 (omega arith) c.cuts.rest.now c.split_once.result c.split_once.ensures.cases c.in-Some.first c.in-Some.after c.in-Some.is in
    record {
      utf8 = search rules;
      valid = added_valid spelling c.cuts.schedule c.add.new.self c.in-Some.first.now c.cuts.invariant.valid c.in_ok-add.ensures.added;
      text = text_next 46 decimal c.cuts.schedule c.add.new.self c.args.text.now c.cuts.rest.now c.in-Some.first.now c.in-Some.after.now c.cuts.invariant.text p.parts c.in_ok-add.ensures.added;
      left = λ m ok given. left_next spelling c.cuts.schedule m c.add.new.self c.cuts.rest.now c.in-Some.first.now c.in-Some.after.now ok (c.cuts.invariant.left m ok given)
          p.parts p.lacks c.in_ok-add.ensures.added;
    }

pub returns-in_err-add-2-clause-exact : goal.returns-in_err-add-2-clause-exact
returns-in_err-add-2-clause-exact c =
    let q = err_from_is_err_and c.from_residual-in_err-add-2.result c.from_residual-in_err-add-2.ensures.1 in
    let lacks = one_piece 46 (omega arith) c.cuts.rest.now c.split_once.result c.split_once.ensures.cases c.in_default.is in
    rw q.1 (λ l ok given. not_last spelling c.cuts.schedule l c.cuts.rest.now ok (c.cuts.invariant.left l ok given) lacks c.in_err-add-2.ensures.refused)

pub returns-in_err-add-2-clause-only : goal.returns-in_err-add-2-clause-only
returns-in_err-add-2-clause-only c = λ l ok given.
    let lacks = one_piece 46 (omega arith) c.cuts.rest.now c.split_once.result c.split_once.ensures.cases c.in_default.is in
    absurd (not_last spelling c.cuts.schedule l c.cuts.rest.now ok (c.cuts.invariant.left l ok given) lacks c.in_err-add-2.ensures.refused)

pub returns-clause-exact : goal.returns-clause-exact
returns-clause-exact c = text_last 46 decimal c.cuts.schedule c.add-2.new.self c.args.text.now c.cuts.rest.now c.cuts.invariant.text c.in_ok-add-2.ensures.added

pub returns-clause-only : goal.returns-clause-only
returns-clause-only c = λ l ok given.
    let lacks = one_piece 46 (omega arith) c.cuts.rest.now c.split_once.result c.split_once.ensures.cases c.in_default.is in
    ap (λ (xs : List ℕ). Ok xs) (all_read spelling c.cuts.schedule l c.add-2.new.self c.cuts.rest.now ok (c.cuts.invariant.left l ok given) lacks c.in_ok-add-2.ensures.added)

pub returns-clause-valid : goal.returns-clause-valid
returns-clause-valid c = added_valid spelling c.cuts.schedule c.add-2.new.self c.cuts.rest.now c.cuts.invariant.valid c.in_ok-add-2.ensures.added
