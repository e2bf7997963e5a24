use Rattle.std.proofs.Common.{arith}
use Rattle.mc_boot.specs.Boot.{course_list}
use Rattle.mc_boot.proofs.CourseJoins.{course_meets, rest_is}
use Rattle.mc_boot.proofs.kept_operations.goes_on.Goals as goal

pub returns-then-done-kept-2-clause-meets : goal.returns-then-done-kept-2-clause-meets
returns-then-done-kept-2-clause-meets c =
    let a = c.args.cut.now in
    let b = c.args.next.now in
    let comes = c.comes_to.ensures c.if-not-comes_to.false in
    course_meets a b c.args.done _ _ (c.is_same_swap.ensures c.if-not-is_same_swap.false) (λ lists. rest_is (course_list b) (course_list a) _ (omega arith) (rw (lists, c.requires) comes))
    (c.harmless_transfer_len-harmless_len.ensures.harmless c.args.image_ok c.requires) (omega arith) (omega arith)
