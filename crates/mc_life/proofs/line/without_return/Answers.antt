use Rattle.std.proofs.{Common.{arith}, lemmas.Str.Pattern.{strip_suffix_char}}
use Rattle.mc_life.proofs.Saying.{returned}
use Rattle.mc_life.proofs.line.without_return.Goals as goal

pub returns : goal.returns
returns c = returned _ _ _ c.unwrap_or.ensures (strip_suffix_char 13 c.args.text.now c.strip_suffix.result c.strip_suffix.ensures.cases (omega arith))
