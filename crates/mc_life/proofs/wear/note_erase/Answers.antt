use Rattle.std.proofs.Common.{arith}
use Rattle.mc_life.proofs.Worn.{erased_none, erased_once}
use Rattle.mc_life.proofs.wear.note_erase.Goals as goal

pub returns-then-sector-len : goal.returns-then-sector-len
returns-then-sector-len c slot = grind (arith, erased_once)

pub returns-else-sector-len : goal.returns-else-sector-len
returns-else-sector-len c slot = erased_none slot c.args.sector c.args.counts.now.items (omega arith) c.type_inv.counts
