use Rattle.std.proofs.Common.{◌∙◌}
use Rattle.mc_imgtool.proofs.verification.write_good.Goals as goal

pub returns-clause-whole : goal.returns-clause-whole
returns-clause-whole g c = rw (c.as_bytes.ensures.value ∙ c.as_str.ensures ∙ c.good_line-line.ensures) at c.write_text.ensures.whole

pub returns-clause-prefix : goal.returns-clause-prefix
returns-clause-prefix g c = rw (c.as_bytes.ensures.value ∙ c.as_str.ensures ∙ c.good_line-line.ensures) at c.write_text.ensures.prefix
