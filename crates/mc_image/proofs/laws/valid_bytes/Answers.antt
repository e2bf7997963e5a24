use Rattle.mc_image.proofs.Views.{valid_true, true_valid, id_valid, id_none, fault_valid, valid_fault}
use Rattle.mc_image.proofs.laws.valid_bytes.Goals as goal

pub returns-clause-valid : goal.returns-clause-valid
returns-clause-valid c = λ b bytes. (valid_true b bytes, true_valid b)

pub returns-clause-same : goal.returns-clause-same
returns-clause-same c = id_valid

pub returns-clause-none : goal.returns-clause-none
returns-clause-none c = id_none

pub returns-clause-fault : goal.returns-clause-fault
returns-clause-fault c = λ b bytes. (fault_valid b bytes, valid_fault b)
