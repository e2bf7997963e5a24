use Rattle.std.proofs.Common.{ap, subst, ◌≡◌, ◌∙◌}
use Rattle.std.specs.Prelude.{◌+◌}
use Rattle.mc_boot.specs.Plan.{again}
use Rattle.mc_explore.specs.{Boots.{at_cut}, inner.OneRound.{begins}}
use Rattle.mc_flash.specs.facts.Spends.{keeps_both}
use Rattle.mc_tears.proofs.Standing.{back_is, back_keeps, can_pass, marks_after, stands_marked, stands_next}
use Rattle.mc_tears.specs.{Tears.{cut_end}, inner.Standing.{LeavesBytes, Stands}}
use Rattle.mc_tears.proofs.tears.end_after.Given.{Over}
use Rattle.mc_tears.proofs.tears.end_after.Goals as goal
use Rattle.mc_tears.proofs.tears.end_after.Goals.{In_ok-here, In_ok-pass}

marked_here : (g : Over) (c : In_ok-here g) → Stands (begins c.args.rounds.now) c.args.at.now (g.F.Flash.seen c.mark.new.self)
marked_here g c =
    let x = begins c.args.rounds.now in
    rw c.in_ok-here.ensures.1 (stands_marked x c.args.at.now (g.F.Flash.seen c.args.flash.now) c.requires.stands)

pub pass-requires : goal.pass-requires
pass-requires g c =
    let at = (goal.at.pass-requires g c).In_ok-here in
    can_pass (begins c.args.rounds.now) c.args.at.now (g.F.Flash.seen c.mark.new.self) (marked_here g at) c.requires.early

later_there : (g : Over) (c : In_ok-pass g) → Stands (begins c.args.rounds.now) c.pass.new.at (g.F.Flash.seen c.pass.new.flash) × (c.pass.new.at.done ≡ c.args.at.now.done + 1)
later_there g c =
    let e = c.in_ok-pass.ensures in
    stands_next (begins c.args.rounds.now) c.args.at.now (g.F.Flash.seen c.mark.new.self) (marked_here g (goal.at.In_ok-pass g c).In_ok-here) c.requires.early c.pass.new.at
    (g.F.Flash.seen c.pass.new.flash)
    e.passes.0 e.passes.1 e.spends.limits

pub end_at-requires-clause-stands : goal.end_at-requires-clause-stands
end_at-requires-clause-stands g c = (later_there g (goal.at.end_at-requires-clause-stands g c).In_ok-pass).0

pub end_at-requires-clause-marks : goal.end_at-requires-clause-marks
end_at-requires-clause-marks g c =
    let e = c.in_ok-pass.ensures in
    let m = c.in_ok-here.ensures.1 in
    let f = g.F.Flash.seen c.args.flash.now in
    marks_after 1 f (g.F.Flash.seen c.pass.new.flash) (rw m at e.keeps) (e.spends.limits ∙ ap (λ s. s.usage.limits) m) c.requires.marks

pub returns-clause-end : goal.returns-clause-end
returns-clause-end g c =
    let at = (goal.at.returns-clause-end g c).In_ok-pass in
    c.in_ok-end.ensures.end ∙ ap (cut_end (begins c.args.rounds.now)) (later_there g at).1

pub returns-clause-returns : goal.returns-clause-returns
returns-clause-returns g c =
    let pass = c.in_ok-pass.ensures in
    let back = c.in_ok-end.ensures.returns in
    let mid = g.F.Flash.seen c.mark.new.self in
    let there = g.F.Flash.seen c.pass.new.flash in
    let last = g.F.Flash.seen c.end_at.new.flash in
    rw (c.back_to.ensures, c.in_ok-here.ensures.0) (back_is (g.F.Flash.seen c.args.flash.now) mid last c.in_ok-here.ensures.1
    (keeps_both mid there last pass.keeps (back_keeps there last back)) (back.limits ∙ pass.spends.limits))

pub returns-clause-bytes : goal.returns-clause-bytes
returns-clause-bytes g c =
    let x = begins c.args.rounds.now in
    let at = (goal.at.returns-clause-bytes g c).In_ok-pass in
    subst (λ m. LeavesBytes (again x (at_cut x m))) (later_there g at).1 c.in_ok-end.ensures.bytes
