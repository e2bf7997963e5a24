use Rattle.mc_tear.proofs.{CasesTorn.{cases_are_torn}, ChainProof.{each_chain_ends}, EndsProof.{each_ends}, Inside.{inside_is_apart}, Read.{each_is_read}}
use Rattle.mc_tear.proofs.law.readings_law.Goals as goal

pub returns-clause-torn : goal.returns-clause-torn
returns-clause-torn c = cases_are_torn

pub returns-clause-each : goal.returns-clause-each
returns-clause-each c = each_is_read

pub returns-clause-ends : goal.returns-clause-ends
returns-clause-ends c = each_ends

pub returns-clause-chain : goal.returns-clause-chain
returns-clause-chain c = each_chain_ends c.same_prefix.ensures.id

pub returns-clause-inside : goal.returns-clause-inside
returns-clause-inside c = inside_is_apart c.same_prefix.ensures.id
