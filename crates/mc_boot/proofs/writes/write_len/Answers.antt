use Rattle.std.proofs.Common.{refl}
use Rattle.mc_boot.proofs.writes.write_len.Goals as goal

pub returns-in-Unit-clause-len : goal.returns-in-Unit-clause-len
returns-in-Unit-clause-len c = rw (c.in-Unit.is, c.unit.ensures.value) refl
