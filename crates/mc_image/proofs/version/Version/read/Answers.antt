use Rattle.std.proofs.Common.{sym, ◌∙◌, subst}
use Rattle.mc_image.proofs.VersionJudged.{Judges, read_exact, read_only, read_range, read_printed}
use Rattle.mc_image.proofs.version.Version.read.Goals as goal

pub returns-clause-exact : goal.returns-clause-exact
returns-clause-exact c = let bytes = c.as_bytes.ensures.value in subst (Judges c.args.text.now) (sym (rw bytes at c.version_read.ensures)) (read_exact c.args.text.now)

pub returns-clause-only : goal.returns-clause-only
returns-clause-only c = λ v names. let bytes = c.as_bytes.ensures.value in (rw bytes at c.version_read.ensures) ∙ read_only c.args.text.now v names

pub returns-clause-range : goal.returns-clause-range
returns-clause-range c = λ ns form out. let bytes = c.as_bytes.ensures.value in (rw bytes at c.version_read.ensures) ∙ read_range c.args.text.now ns form out

pub returns-clause-printed : goal.returns-clause-printed
returns-clause-printed c = λ v fits same. let bytes = c.as_bytes.ensures.value in (rw bytes at c.version_read.ensures) ∙ read_printed c.args.text.now v fits same
