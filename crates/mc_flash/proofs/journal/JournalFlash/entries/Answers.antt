use Rattle.std.proofs.Common.{ap, arith}
use Rattle.mc_flash.specs.Usage.{Seen}
use Rattle.mc_flash.proofs.journal.JournalFlash.entries.Goals as goal

pub returns-clause-value : goal.returns-clause-value
returns-clause-value c = omega (arith, c.len.ensures, c.self.inside.entries.ok.0, ap (λ (f : Seen). f.usage.counts.entries) c.self.view_is)
