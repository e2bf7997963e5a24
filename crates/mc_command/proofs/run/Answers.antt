use Rattle.std.proofs.Common.{inl, inr, refl}
use Rattle.mc_command.proofs.run.Goals as goal

pub returns-in-Ok-clause-runs : goal.returns-in-Ok-clause-runs
returns-in-Ok-clause-runs g c = inl (_, rw c.new-watched.ensures at c.in-Ok.ensures.stands, rw (c.as_slice.ensures.value, c.new-watched.ensures) at c.run_words.ensures.runs)

pub returns-then-any-clause-runs : goal.returns-then-any-clause-runs
returns-then-any-clause-runs g c = inr (c.in-Err.refusal, rw c.new-watched.ensures at c.in-Err.ensures.refused, c.report-status.ensures.exact, refl)
