use Rattle.mc_boot.proofs.RestartProof as proof
use Rattle.mc_boot.proofs.RestartProof.{rounds_law}
use Rattle.mc_boot.proofs.restart.restart_law.Goals as goal

pub returns-clause-starts : goal.returns-clause-starts
returns-clause-starts c = proof.starts_exist

pub returns-clause-restart : goal.returns-clause-restart
returns-clause-restart c = proof.restart_law (record { begins = c.one_reading.ensures.begins; same = c.same_prefix.ensures.id })

pub returns-clause-rounds : goal.returns-clause-rounds
returns-clause-rounds c = rounds_law (record { begins = c.one_reading.ensures.begins; same = c.same_prefix.ensures.id })
