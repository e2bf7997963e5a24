use Rattle.std.proofs.Common.{sym}
use Rattle.mc_image.proofs.Scans.{bad_short, bad_head, bad_entries}
use Rattle.mc_image.proofs.areas.ProtectedArea.is_bad.Goals as goal

pub returns-then-not-is_full : goal.returns-then-not-is_full
returns-then-not-is_full c = λ bytes f is. bad_short c.args.self.now bytes f (sym c.if-not-is_full.ensures)

pub returns-then-is_other_head : goal.returns-then-is_other_head
returns-then-is_other_head c = λ bytes f is. bad_head c.args.self.now c.args.total bytes f (sym c.if-not-is_full.ensures) is (sym (rw c.as_slice.ensures.bytes at c.if-is_other_head.ensures))

pub returns : goal.returns
returns c = λ bytes f is. bad_entries c.args.self.now c.args.total bytes f (sym c.if-not-is_full.ensures) is c.is_between.result
    (sym (rw c.as_slice.ensures.bytes at c.if-is_other_head.ensures)) (c.is_between.ensures _ f.scan)
