use Rattle.std.proofs.{Common.{replicate, arith}, lemmas.List.{length-take-le}}
use Rattle.mc_life.proofs.Reading.{prefix_bytes, long}
use Rattle.mc_life.proofs.event.bytes_of.Goals as goal

pub returns-then-len-gt8 : goal.returns-then-len-gt8
returns-then-len-gt8 c b at_most bytes is = let n = long b c.args.text.now is in let h = c.if-len-gt8.true in omega (arith, n, at_most, h)

pub returns-then-not-decode : goal.returns-then-not-decode
returns-then-not-decode c b at_most bytes is = grind (arith, long, length-take-le, replicate)

pub returns : goal.returns
returns c = grind (arith, length-take-le, replicate, prefix_bytes)
