use Rattle.mc_flash.proofs.Lanes.{blank_is_greatest}
use Rattle.std.proofs.Common.{rules}
use Rattle.mc_flash.proofs.erased.blank_word.Goals as goal

pub returns : goal.returns
returns c = blank_is_greatest c.args.word c.from_le_bytes.result (search rules) (search rules) c.from_le_bytes.ensures
