use Rattle.std.proofs.Common.{inl}
use Rattle.mc_command.proofs.run_request.Goals as goal

pub returns : goal.returns
returns g c = rw c.in-Some.ensures (inl (c.in_ok-request.request, c.in_ok-request.ensures.0, c.answer.ensures))
