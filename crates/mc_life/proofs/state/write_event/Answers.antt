use Rattle.std.proofs.{Common.{option_map, [], ◌∷◌, ◌++◌}, lemmas.Result.{err_from_is_err_and}}
use Rattle.mc_output.specs.facts.Results.{on_err, on_ok}
use Rattle.mc_boot.specs.Outcome.{shown}
use Rattle.mc_life.specs.Replay.{stated, outcome_text, state_text}
use Rattle.mc_life.proofs.Lines.{all_out, end_begun, first_begun, words_begun}
use Rattle.mc_life.proofs.state.write_event.Goals as goal

pub returns-in_err-write_line-clause-prefix : goal.returns-in_err-write_line-clause-prefix
returns-in_err-write_line-clause-prefix g c =
    let p = err_from_is_err_and c.from_residual.result c.from_residual.ensures.1 in
    rw p.1 (first_begun _ c.args.words.now ((outcome_text (option_map shown c.args.outcome.now) ++ state_text (stated c.args.state.now)) ++ 10 ∷ []) _ _
    (rw c.number_line.ensures at c.in_err-write_line.ensures.prefix))

pub returns-in_err-write_text-clause-prefix : goal.returns-in_err-write_text-clause-prefix
returns-in_err-write_text-clause-prefix g c =
    let p = err_from_is_err_and c.from_residual-in_err-write_text.result c.from_residual-in_err-write_text.ensures.1 in
    rw p.1 (words_begun _ _ ((outcome_text (option_map shown c.args.outcome.now) ++ state_text (stated c.args.state.now)) ++ 10 ∷ []) _ _
    (rw c.number_line.ensures at c.in_ok-write_line.ensures.whole) _ (rw c.as_bytes.ensures.value at c.in_err-write_text.ensures.prefix))

pub returns-clause-whole : goal.returns-clause-whole
returns-clause-whole g c =
    on_ok c.write_line-2.result _ _
    (λ p. all_out _ _ _ _ _ (rw c.number_line.ensures at c.in_ok-write_line.ensures.whole) _ (rw c.as_bytes.ensures.value at c.in_ok-write_text.ensures.whole) _ p)
    (rw c.end_line.ensures at c.write_line-2.ensures.whole)

pub returns-clause-prefix : goal.returns-clause-prefix
returns-clause-prefix g c =
    on_err c.write_line-2.result _ _
    (λ p. end_begun _ _ _ _ _ (rw c.number_line.ensures at c.in_ok-write_line.ensures.whole) _ (rw c.as_bytes.ensures.value at c.in_ok-write_text.ensures.whole) _ p)
    (rw c.end_line.ensures at c.write_line-2.ensures.prefix)
