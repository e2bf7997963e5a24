use Rattle.mc_boot.proofs.LifeProof as proof
use Rattle.mc_boot.proofs.TornDrops.{drops_law}
use Rattle.mc_boot.proofs.TornStarts.{torn_starts}
use Rattle.mc_boot.proofs.Tears.{bits_law, cuts_law}
use Rattle.mc_boot.proofs.torn.torn_law.Goals as goal

pub returns-clause-torn : goal.returns-clause-torn
returns-clause-torn c = λ f r. proof.torn_law (record { begins = c.one_reading.ensures.begins; same = c.same_prefix.ensures.id }) f r

pub returns-clause-bits : goal.returns-clause-bits
returns-clause-bits c = bits_law

pub returns-clause-cuts : goal.returns-clause-cuts
returns-clause-cuts c = cuts_law

pub returns-clause-life : goal.returns-clause-life
returns-clause-life c = λ f r. proof.torn_life (record { begins = c.one_reading.ensures.begins; same = c.same_prefix.ensures.id }) f r

pub returns-clause-starts : goal.returns-clause-starts
returns-clause-starts c = λ f r. torn_starts (record { begins = c.one_reading.ensures.begins; same = c.same_prefix.ensures.id }) f r

pub returns-clause-only : goal.returns-clause-only
returns-clause-only c = λ f r. proof.torn_only (record { begins = c.one_reading.ensures.begins; same = c.same_prefix.ensures.id }) f r

pub returns-clause-drops : goal.returns-clause-drops
returns-clause-drops c = drops_law (record { begins = c.one_reading.ensures.begins; same = c.same_prefix.ensures.id })
