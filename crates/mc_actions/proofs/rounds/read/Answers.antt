use Rattle.std.proofs.{Common.{inl, inr}, lemmas.Result.{err_from_is_err_and}}
use Rattle.mc_actions.proofs.rounds.read.Goals as goal

pub returns-clause-given : goal.returns-clause-given
returns-clause-given g c = record {
  start = record { options = c.in-Ok.options; given = c.in-Ok.ensures.given; made = c.in_ok-read_start.ensures.given };
  campaign = c.in_ok-campaign.ensures.given;
  confirms = (c.get_flag.ensures.value, c.get_flag.ensures.other, c.get_flag.ensures.none);
  kept = c.in_ok-check_outputs.ensures.kept;
}

pub returns-in-Err-clause-refused : goal.returns-in-Err-clause-refused
returns-in-Err-clause-refused g c = inl c.in-Err.ensures.refused

pub returns-in_err-campaign-clause-refused : goal.returns-in_err-campaign-clause-refused
returns-in_err-campaign-clause-refused g c =
    let p = err_from_is_err_and c.from_residual.result c.from_residual.ensures.1 in
    rw (p.1, p.2) (inr (_, c.in-Ok.ensures.given, inl c.in_err-campaign.ensures.refused))

pub returns-in_err-check_outputs-clause-refused : goal.returns-in_err-check_outputs-clause-refused
returns-in_err-check_outputs-clause-refused g c =
    let p = err_from_is_err_and c.from_residual-in_err-check_outputs.result c.from_residual-in_err-check_outputs.ensures.1 in
    rw (p.1, p.2) (inr (_, c.in-Ok.ensures.given, inr (_, c.in_ok-campaign.ensures.given, inl c.in_err-check_outputs.ensures.refused)))

pub returns-in_err-read_start-clause-refused : goal.returns-in_err-read_start-clause-refused
returns-in_err-read_start-clause-refused g c =
    let p = err_from_is_err_and c.from_residual-in_err-read_start.result c.from_residual-in_err-read_start.ensures.1 in
    rw (p.1, p.2) (inr (_, c.in-Ok.ensures.given, inr (_, c.in_ok-campaign.ensures.given, inr (c.in_ok-check_outputs.ensures.kept, c.in_err-read_start.ensures.refused))))
