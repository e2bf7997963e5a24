use Rattle.mc_boot.proofs.LifeProof as proof
use Rattle.mc_boot.proofs.{DeliveredStarts.{starts_law}, Wearing.{wear_law, work_law}}
use Rattle.mc_boot.proofs.life.life_law.Goals as goal

pub returns-clause-life : goal.returns-clause-life
returns-clause-life c = proof.life_law (record { begins = c.one_reading.ensures.begins; same = c.same_prefix.ensures.id })

pub returns-clause-next : goal.returns-clause-next
returns-clause-next c = proof.next_law (record { begins = c.one_reading.ensures.begins; same = c.same_prefix.ensures.id })

pub returns-clause-only : goal.returns-clause-only
returns-clause-only c = proof.only_law (record { begins = c.one_reading.ensures.begins; same = c.same_prefix.ensures.id })

pub returns-clause-work : goal.returns-clause-work
returns-clause-work c = work_law

pub returns-clause-starts : goal.returns-clause-starts
returns-clause-starts c = starts_law (record { begins = c.one_reading.ensures.begins; same = c.same_prefix.ensures.id })

pub returns-clause-wear : goal.returns-clause-wear
returns-clause-wear c = wear_law
