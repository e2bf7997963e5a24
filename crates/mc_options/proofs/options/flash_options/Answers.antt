use Rattle.std.specs.Prelude.{Err}
use Rattle.std.proofs.{Common.{ap, ◌∙◌, inl, inr}, lemmas.Result.{err_from_is_err_and}}
use Rattle.clap.specs.Matches.{found_of}
use Rattle.mc_flash.specs.Geometry.{refusal_of}
use Rattle.mc_options.proofs.GivenOptions.{refused_source, not_given, judges_err, judges_ok}
use Rattle.mc_options.specs.declared.refusal.Refusal.{Refusal}
use Rattle.mc_options.proofs.options.flash_options.Goals as goal

pub returns-in_err-source-clause-source : goal.returns-in_err-source-clause-source
returns-in_err-source-clause-source c = λ none.
    let p = err_from_is_err_and c.from_residual.result c.from_residual.ensures.1 in
    p.1 ∙ ap (λ (r : Refusal). Err r) (p.2 ∙ refused_source (found_of c.args.arguments.now) _ c.in_err-source.ensures none)

pub returns-in_err-layout-clause-judged : goal.returns-in_err-layout-clause-judged
returns-in_err-layout-clause-judged c = λ s g rules source layout given.
    let p = err_from_is_err_and c.from_residual-in_err-layout.result c.from_residual-in_err-layout.ensures.1 in
    rw (p.1, p.2) (judges_err _ _ (refusal_of g) _ (c.in_err-layout.ensures.judged g layout))

pub returns-in_err-rules-clause-source : goal.returns-in_err-rules-clause-source
returns-in_err-rules-clause-source c = λ none. not_given (found_of c.args.arguments.now) _ c.in_ok-source.ensures none

pub returns-clause-source : goal.returns-clause-source
returns-clause-source c = λ none. not_given (found_of c.args.arguments.now) _ c.in_ok-source.ensures none

pub returns-clause-judged : goal.returns-clause-judged
returns-clause-judged c = λ s g rules source layout given. judges_ok (refusal_of g) _ _ (c.in_ok-layout.ensures.judged g layout)

pub returns-in_err-layout-clause-refused : goal.returns-in_err-layout-clause-refused
returns-in_err-layout-clause-refused c =
    let p = err_from_is_err_and c.from_residual-in_err-layout.result c.from_residual-in_err-layout.ensures.1 in
    rw (p.1, p.2) (inr (inl c.in_err-layout.ensures.refused))

pub returns-in_err-rules-clause-refused : goal.returns-in_err-rules-clause-refused
returns-in_err-rules-clause-refused c =
    let p = err_from_is_err_and c.from_residual-in_err-rules.result c.from_residual-in_err-rules.ensures.1 in
    rw (p.1, p.2) (inr (inr c.in_err-rules.ensures.refused))
