use Rattle.std.proofs.Common.{◌≡◌, arith, Some, sym, ◌∙◌}
use Rattle.mc_boot.specs.{Joins.{erases_of}, inner.Meets.{GoesOnWith}}
use Rattle.mc_boot.proofs.SharedTailProof.{tail_shared_among, tail_shared_beyond}
use Rattle.mc_boot.proofs.shared_tail.SharedTail.find.Goals as goal
use Rattle.mc_boot.proofs.shared_tail.SharedTail.find.Goals.{then-done-kept, else-done-kept+in_ok-only}
use Rattle.mc_boot.specs.Plan.{power_on}

pub returns-then-done-eq0 : goal.returns-then-done-eq0
returns-then-done-eq0 g c = grind arith

pub returns : goal.returns
returns g c =
    let seen = g.F.Flash.seen c.args.flash.now in
    let a = c.in-Some.course in
    let b = c.in-Some-course.following in
    let at_a : c.args.cut.now.course ≡ Some a = cc in
    let at_b : c.args.next.now.course ≡ Some b = cc in
    let done : c.count-done.result ≡ c.args.cut.now.done = c.count-done.ensures in
    let goes : GoesOnWith a c.args.cut.now.done b c.in_ok-kept.kept = rw done at c.in_ok-kept.ensures.meets in
    let erases : c.erases_of-erases.result ≡ erases_of b = c.erases_of-erases.ensures.count in
    λ r s whole is start. elim c.if-done-kept.branch [
      | then-done-kept w ↦
          tail_shared_among (power_on r seen.geometry s) seen.content c.args.cut.now c.args.next.now a b whole _ is at_a at_b c.requires start
          goes done erases (omega (arith, w.if-done-kept.true))
      | else-done-kept+in_ok-only w ↦
          tail_shared_beyond (power_on r seen.geometry s) seen.content c.args.cut.now c.args.next.now a b whole _ is at_a at_b c.requires start
          goes done erases (omega (arith, w.if-done-kept.false))
          (λ i lt other. w.in_ok-only.ensures i lt (λ same. other (same ∙ sym w.only-is)))
    ]
