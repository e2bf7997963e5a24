use Rattle.std.proofs.Common.{◌∙◌, sym, ap}
use Rattle.mc_image.specs.Verdict.{verdict}
use Rattle.mc_image.proofs.laws.any_cut.Goals as goal

pub returns : goal.returns
returns c = λ pieces others same first second fed also r s finishes ends. finishes _ fed ∙ ap verdict same ∙ sym (ends _ also)
