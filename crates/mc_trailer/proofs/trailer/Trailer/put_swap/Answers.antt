use Rattle.std.proofs.Common.{append_assoc}
use Rattle.mc_trailer.proofs.trailer.Trailer.put_swap.Goals as goal

pub returns-clause-text : goal.returns-clause-text
returns-clause-text c = rw (c.put_number.ensures.text, c.put-2.ensures.text, c.put_hex.ensures.text, c.put.ensures.text) (simp append_assoc)
