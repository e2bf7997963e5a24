use Rattle.std.proofs.Common.{arith, sym, ◌∙◌}
use Rattle.mc_tear.specs.Cases.{torn_byte, written_byte, written_len}
use Rattle.mc_tear.proofs.Ranges.{none_differs, one_differs}
use Rattle.mc_tear.proofs.torn.is_unfinished.Goals as goal

pub returns-then-bytes-k : goal.returns-then-bytes-k
returns-then-bytes-k g c = λ e r is.
    let f = g.F.Flash.seen c.args.flash.now in
    one_differs (torn_byte e f.geometry c.args.op.now f.content r) (written_byte c.args.op.now f.content) c.args.bytes.now (written_len f.geometry c.args.op.now) is c.loop-k.k
    (rw c.layout.ensures at rw c.written_len-k-end.ensures at c.loop-k-test.true) (λ same. c.if-bytes-k.true (same ∙ sym c.written_byte.ensures))

pub returns : goal.returns
returns g c = λ e r is.
    let f = g.F.Flash.seen c.args.flash.now in
    let len = rw c.layout.ensures at c.written_len-k-end.ensures in
    none_differs (torn_byte e f.geometry c.args.op.now f.content r) (written_byte c.args.op.now f.content) c.args.bytes.now (written_len f.geometry c.args.op.now) is
    (λ k short. c.loop-k.invariant k (omega (arith, short, c.loop-k-test.false, len)))
