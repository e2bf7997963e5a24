use Rattle.std.proofs.{Common.{rules, arith}, lemmas.Result.{err_from_is_err_and}, lemmas.Slice.Eq.{bytes_eq-Decides}}
use Rattle.mc_output.specs.{facts.Reading.{dash, not_next, not_last, left_next, text_next, text_last, all_read, added_valid}, facts.Parting.{parted, one_piece}}
use Rattle.mc_campaign.specs.Texts.{cut_text}
use Rattle.mc_campaign.proofs.Reading.{spelling}
use Rattle.mc_campaign.proofs.campaign.Campaign.read.Goals as goal

pub returns-then-eq-clause-only : goal.returns-then-eq-clause-only
returns-then-eq-clause-only c = grind (arith, dash, spelling, bytes_eq-Decides)

pub returns-in_err-add-clause-exact : goal.returns-in_err-add-clause-exact
returns-in_err-add-clause-exact c =
    let q = err_from_is_err_and c.from_residual.result c.from_residual.ensures.1 in
    let p = parted 44 (omega arith) c.cuts.rest.now c.split_once.result c.split_once.ensures.cases c.in-Some.first c.in-Some.after c.in-Some.is in
    rw q.1 (λ m ok summary. not_next spelling c.cuts.campaign m c.cuts.rest.now c.in-Some.first.now c.in-Some.after.now ok
    (c.cuts.invariant.left m ok summary) p.parts p.lacks c.in_err-add.ensures.refused)

pub returns-in_err-add-clause-only : goal.returns-in_err-add-clause-only
returns-in_err-add-clause-only c = λ m ok summary.
    let p = parted 44 (omega arith) c.cuts.rest.now c.split_once.result c.split_once.ensures.cases c.in-Some.first c.in-Some.after c.in-Some.is in
    absurd (not_next spelling c.cuts.campaign m c.cuts.rest.now c.in-Some.first.now c.in-Some.after.now ok
    (c.cuts.invariant.left m ok summary) p.parts p.lacks c.in_err-add.ensures.refused)

pub cuts-preserved : goal.cuts-preserved
cuts-preserved c =
    let p = parted 44 (omega arith) c.cuts.rest.now c.split_once.result c.split_once.ensures.cases c.in-Some.first c.in-Some.after c.in-Some.is in
    record {
      utf8 = search rules;
      valid = added_valid spelling c.cuts.campaign c.add.new.self c.in-Some.first.now c.cuts.invariant.valid c.in_ok-add.ensures.added;
      text = text_next 44 cut_text c.cuts.campaign c.add.new.self c.args.text.now c.cuts.rest.now c.in-Some.first.now c.in-Some.after.now
          c.cuts.invariant.text p.parts c.in_ok-add.ensures.added;
      left = λ m ok summary. left_next spelling c.cuts.campaign m c.add.new.self c.cuts.rest.now c.in-Some.first.now c.in-Some.after.now
          ok (c.cuts.invariant.left m ok summary) p.parts p.lacks c.in_ok-add.ensures.added;
    }

pub returns-in_err-add-2-clause-exact : goal.returns-in_err-add-2-clause-exact
returns-in_err-add-2-clause-exact c = grind (arith, err_from_is_err_and, one_piece, not_last, spelling)

pub returns-in_err-add-2-clause-only : goal.returns-in_err-add-2-clause-only
returns-in_err-add-2-clause-only c = grind (arith, one_piece, not_last, spelling)

pub returns-clause-exact : goal.returns-clause-exact
returns-clause-exact c = text_last 44 cut_text c.cuts.campaign c.add-2.new.self c.args.text.now c.cuts.rest.now c.cuts.invariant.text c.in_ok-add-2.ensures.added

pub returns-clause-only : goal.returns-clause-only
returns-clause-only c = grind (arith, one_piece, all_read, spelling)

pub returns-clause-valid : goal.returns-clause-valid
returns-clause-valid c = added_valid spelling c.cuts.campaign c.add-2.new.self c.cuts.rest.now c.cuts.invariant.valid c.in_ok-add-2.ensures.added
