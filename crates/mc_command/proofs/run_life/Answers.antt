use Rattle.std.proofs.Common.{inl}
use Rattle.mc_command.proofs.run_life.Goals as goal

pub returns : goal.returns
returns g c = inl (c.in_ok-life.life, c.in_ok-life.ensures.given, c.answer.ensures)
