use Rattle.std.proofs.Common.{◌∙◌}
use Rattle.mc_image.proofs.Scans.{digest_none, digest_many, digest_one, digest_length}
use Rattle.mc_image.proofs.areas.EntryScan.found_digest.Goals as goal

pub returns-in-Nothing-clause-exact : goal.returns-in-Nothing-clause-exact
returns-in-Nothing-clause-exact c = λ bytes h filled. digest_none c.args.self.now bytes h filled c.in-Nothing.is

pub returns-in-Many-clause-exact : goal.returns-in-Many-clause-exact
returns-in-Many-clause-exact c = λ bytes h filled. digest_many c.args.self.now bytes h filled c.in-Many.is

pub returns-then-len-eq32-clause-exact : goal.returns-then-len-eq32-clause-exact
returns-then-len-eq32-clause-exact c = λ bytes h filled. digest_one c.args.self.now bytes h filled c.in-One.value c.in-One.is

pub returns-else-len-eq32-clause-exact : goal.returns-else-len-eq32-clause-exact
returns-else-len-eq32-clause-exact c = λ bytes h filled. digest_length c.args.self.now bytes h filled c.in-One.value c.in-One.is (λ e. c.if-len-eq32.false (c.len.ensures ∙ e))
