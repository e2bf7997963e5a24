use Rattle.std.proofs.Common.{arith}
use Rattle.mc_image.proofs.JudgeLaws.{payload_taken}
use Rattle.mc_image.proofs.judge.Judge.in_payload.Goals as goal

pub returns-then-left-taken : goal.returns-then-left-taken
returns-then-left-taken c =
    let n = c.split_at.ensures.front_len in
    payload_taken _ _ c.args.piece.now c.split_at.result.0.now c.split_at.result.1.now c.requires.fed c.requires.nonempty (λ i. omega (arith, c.type_inv.piece i)) c.split_at.ensures.by_index.0
    c.args.left (omega (arith, n)) _ c.args.header c.requires.stage c.update.ensures (λ bytes all hashed has rest. record { bytes = all; stage = (hashed, has, omega (arith, rest, n), omega arith) })

pub returns-else-left-taken : goal.returns-else-left-taken
returns-else-left-taken c =
    let n = c.split_at.ensures.front_len in
    payload_taken _ _ c.args.piece.now c.split_at.result.0.now c.split_at.result.1.now c.requires.fed c.requires.nonempty (λ i. omega (arith, c.type_inv.piece i)) c.split_at.ensures.by_index.0
    c.args.left (omega (arith, n)) _ c.args.header c.requires.stage c.update.ensures (λ bytes all hashed has rest. c.after_payload.ensures bytes all hashed has (omega (arith, rest, n)))
