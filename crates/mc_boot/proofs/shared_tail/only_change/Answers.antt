use Rattle.std.proofs.Common.{◌≡◌, ◌≢◌, ℕ, IfSome, slice_get, true, arith, ◌∙◌, sym}
use borrow.Author.Count.{below_more}
use Rattle.mc_boot.specs.{Boot.{course_list}, inner.Idle.{changes_nothing}}
use Rattle.mc_boot.proofs.shared_tail.only_change.Goals as goal
use Rattle.mc_boot.proofs.shared_tail.only_change.Goals.{then-not-is_idle+else-only-count, else-not-is_idle}

pub loop-number-preserved : goal.loop-number-preserved
loop-number-preserved g c =
    let seen = g.F.Flash.seen c.args.flash.now in
    elim c.if-not-is_idle.branch [
      | then-not-is_idle+else-only-count w ↦ (λ i lt other. c.loop-number.invariant i (omega arith) (omega arith))
      | else-not-is_idle w ↦
          below_more (λ (i : ℕ). i ≢ c.if-not-is_idle.only → IfSome (slice_get (course_list c.args.course.now) i) (λ op. changes_nothing seen.geometry seen.content op ≡ true))
          c.loop-number.number (λ i lt other. c.loop-number.invariant i lt (λ same. other (same ∙ sym w.only-is))) (λ _. c.is_idle.ensures w.if-not-is_idle.false)
    ]
