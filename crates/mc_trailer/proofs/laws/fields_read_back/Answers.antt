use Rattle.mc_trailer.specs.facts.Fields.{reads_back, writes_keep}
use Rattle.mc_trailer.proofs.laws.fields_read_back.Goals as goal

pub returns-clause-reads : goal.returns-clause-reads
returns-clause-reads c = reads_back

pub returns-clause-keeps : goal.returns-clause-keeps
returns-clause-keeps c = writes_keep
