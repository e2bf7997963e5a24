use Rattle.std.proofs.Common.{arith, refl}
use Rattle.mc_boot.proofs.CourseJoins.{course_meets}
use Rattle.mc_boot.proofs.kept_operations.begins_anew.Goals as goal

pub returns-then-done-harmless_len-clause-meets : goal.returns-then-done-harmless_len-clause-meets
returns-then-done-harmless_len-clause-meets c =
    let starts = c.starts_as.ensures c.if-not-starts_as.false in
    course_meets c.args.cut.now c.args.next.now c.args.done 0 _ (c.is_same_swap.ensures c.if-not-is_same_swap.false) (λ lists. rw (lists, starts, c.requires) refl)
    c.harmless_opening_len-harmless_len.ensures (omega arith) (omega arith)
