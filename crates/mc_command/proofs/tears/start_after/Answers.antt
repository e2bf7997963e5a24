use Rattle.std.specs.Prelude.{Err, Ok, Option}
use Rattle.std.proofs.{Common.{inl, inr, refl, rules, subst}, lemmas.Result.{err_from_is_err_and}}
use Rattle.mc_image.specs.Valid.{Identity}
use Rattle.mc_command.proofs.tears.start_after.Goals as goal
use Rattle.mc_verdict.specs.Verdicts.{IsExpectation}

pub returns-clause-given : goal.returns-clause-given
returns-clause-given g c = record {
  given = c.in_ok-given.given;
  gives = c.in_ok-given.ensures.given;
  cut = _;
  cut_is = c.in_ok-flash.ensures.cut;
  start_is = c.in-Ok.ensures;
  expected = c.in_ok-expectation.expectation;
  expects = subst (λ (named : Option (Identity × Identity)). IsExpectation c.args.asked.now named (Ok c.in_ok-expectation.expectation)) c.named.ensures c.in_ok-expectation.ensures;
  expectation_is = search rules;
}

pub returns-in_err-given-clause-refused : goal.returns-in_err-given-clause-refused
returns-in_err-given-clause-refused g c =
    let p = err_from_is_err_and c.from_residual.result c.from_residual.ensures.1 in
    rw (p.1, p.2) (inl c.in_err-given.ensures.refused)

pub returns-in_err-expectation-clause-refused : goal.returns-in_err-expectation-clause-refused
returns-in_err-expectation-clause-refused g c =
    let p = err_from_is_err_and c.from_residual-in_err-expectation.result c.from_residual-in_err-expectation.ensures.1 in
    let refused = c.in_err-expectation.field-0.0 in
    let fails = subst (λ (named : Option (Identity × Identity)). IsExpectation c.args.asked.now named (Err refused)) c.named.ensures c.in_err-expectation.ensures in
    rw (p.1, p.2) (inr (inl (record { given = c.in_ok-given.given; gives = c.in_ok-given.ensures.given; fails = inl fails })))

pub returns-in_err-flash-clause-refused : goal.returns-in_err-flash-clause-refused
returns-in_err-flash-clause-refused g c =
    let p = err_from_is_err_and c.from_residual-in_err-flash.result c.from_residual-in_err-flash.ensures.1 in
    let fails = inr (c.in_err-flash.field-0.0, refl, c.in_err-flash.ensures.cut) in
    rw (p.1, p.2) (inr (inl (record { given = c.in_ok-given.given; gives = c.in_ok-given.ensures.given; fails = fails })))
