use Rattle.std.proofs.Common.{length, ap, ◌∙◌, arith, length-append}
use Rattle.mc_output.proofs.Digits.{all_shown, length_shown, next_shown}
use Rattle.mc_output.proofs.line.Line.put_hex.Goals as goal

pub put_digit-requires-clause-room : goal.put_digit-requires-clause-room
put_digit-requires-clause-room c =
    omega (arith, length_shown c.args.self.now c.loop-byte.self c.args.bytes.now c.loop-byte.byte-index c.loop-byte.invariant)

pub put_digit-requires-in-loop-byte-clause-room : goal.put_digit-requires-in-loop-byte-clause-room
put_digit-requires-in-loop-byte-clause-room c =
    let one_more = ap length c.put_digit.ensures ∙ length-append c.loop-byte.self _ in
    omega (arith, one_more, length_shown c.args.self.now c.loop-byte.self c.args.bytes.now c.loop-byte.byte-index c.loop-byte.invariant)

pub loop-byte-preserved : goal.loop-byte-preserved
loop-byte-preserved c =
    rw (c.put_digit-in-loop-byte.ensures, c.put_digit.ensures)
    (next_shown c.args.self.now c.loop-byte.self c.args.bytes.now c.loop-byte.byte-index c.loop-byte.invariant (omega arith))

pub returns-clause-text : goal.returns-clause-text
returns-clause-text c = all_shown c.args.self.now c.loop-byte.self c.args.bytes.now c.loop-byte.byte-index c.loop-byte.invariant (omega arith)

pub returns-clause-length : goal.returns-clause-length
returns-clause-length c =
    omega (arith, length_shown c.args.self.now c.loop-byte.self c.args.bytes.now c.loop-byte.byte-index c.loop-byte.invariant)
