use Rattle.std.proofs.Common.{◌≡◌, inl, inr, refl}
use Rattle.std.proofs.lemmas.Result.{err_from_is_err_and}
use Rattle.mc_options.specs.declared.refusal.Refusal.TheVariants as refusals
use Rattle.mc_actions.proofs.Showing.{all_shown, broken_at_head, broken_between, broken_in_first, broken_in_second, of_cases, second_replayed, when_err, when_ok}
use Rattle.mc_actions.proofs.rounds.show.Goals as goal

pub returns-in_err-write_text : goal.returns-in_err-write_text
returns-in_err-write_text g c =
    let p = err_from_is_err_and c.from_residual-in_err-write_text.result c.from_residual-in_err-write_text.ensures.1 in
    broken_at_head _ _ _ c.in_ok-then.ensures.begins _ _ _ p.0 p.1 (inl p.2) c.in_err-write_text.ensures.prefix

pub returns-in_err-map_err : goal.returns-in_err-map_err
returns-in_err-map_err g c =
    let both = c.in_ok-then.ensures.begins in
    let p = err_from_is_err_and c.from_residual-in_err-map_err.result c.from_residual-in_err-map_err.ensures.1 in
    let d = of_cases (λ e d. d ≡ refusals.Trace e) _ _ c.in_err-map_err.ensures.cases in
    let prefix = rw c.schedule-firsts.ensures at c.write_round.ensures.prefix in
    let begun = when_err _ c.in_err-map_err.ensures.variant (prefix _ _ both.all.replayed.first) in
    broken_in_first _ _ _ both _ _ _ c.in_ok-write_text.ensures.whole _ p.0 p.1 (inr (d.0, rw p.2 d.1)) begun.0 begun.1 begun.2

pub returns-in_err-write_text-2 : goal.returns-in_err-write_text-2
returns-in_err-write_text-2 g c =
    let both = c.in_ok-then.ensures.begins in
    let p = err_from_is_err_and c.from_residual-in_err-write_text-2.result c.from_residual-in_err-write_text-2.ensures.1 in
    let whole = rw c.schedule-firsts.ensures at c.write_round.ensures.whole in
    let first = when_ok _ c.in_ok-map_err.ensures.variant whole in
    broken_between _ _ _ both _ _ _ c.in_ok-write_text.ensures.whole _ first.0 first.1 first.2 _ p.0 p.1 (inl p.2) c.in_err-write_text-2.ensures.prefix

pub returns-in_err-map_err-2 : goal.returns-in_err-map_err-2
returns-in_err-map_err-2 g c =
    let both = c.in_ok-then.ensures.begins in
    let p = err_from_is_err_and c.from_residual-in_err-map_err-2.result c.from_residual-in_err-map_err-2.ensures.1 in
    let d = of_cases (λ e d. d ≡ refusals.Trace e) _ _ c.in_err-map_err-2.ensures.cases in
    let whole = rw c.schedule-firsts.ensures at c.write_round.ensures.whole in
    let first = when_ok _ c.in_ok-map_err.ensures.variant whole in
    let prefix = rw c.schedule-seconds.ensures at c.write_round-2.ensures.prefix in
    let later = second_replayed _ _ _ _ _ _ _ both.all.replayed both.begins in
    let begun = when_err _ c.in_err-map_err-2.ensures.variant (prefix _ _ later) in
    broken_in_second _ _ _ both _ _ _ c.in_ok-write_text.ensures.whole _ first.0 first.1 first.2 _ c.in_ok-write_text-2.ensures.whole _ p.0 p.1 (inr (d.0, rw p.2 d.1)) begun.0 begun.1 begun.2

pub returns : goal.returns
returns g c =
    let both = c.in_ok-then.ensures.begins in
    let whole = rw c.schedule-firsts.ensures at c.write_round.ensures.whole in
    let first = when_ok _ c.in_ok-map_err.ensures.variant whole in
    let last = rw c.schedule-seconds.ensures at c.write_round-2.ensures.whole in
    let second = when_ok _ c.in_ok-map_err-2.ensures.variant last in
    all_shown _ _ _ both _ _ _ c.in_ok-write_text.ensures.whole _ first.0 first.1 first.2 _ c.in_ok-write_text-2.ensures.whole _ refl second.0 second.1 second.2
