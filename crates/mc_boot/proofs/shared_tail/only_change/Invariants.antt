use Rattle.mc_boot.specs.{Boot.{course_list}, inner.Idle.{AllIdleBut}}
use Rattle.mc_boot.proofs.shared_tail.only_change.Given as goal

abbrev pub invariant-loop-number : goal.invariant-loop-number
invariant-loop-number g l =
    let seen = g.F.Flash.seen l.flash in
    AllIdleBut seen.geometry seen.content (course_list l.course) l.only l.number
