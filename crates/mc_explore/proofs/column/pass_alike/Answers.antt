use Rattle.std.proofs.Common.{arith, true, ◌+◌, ◌<◌, ◌≡◌, ℕ}
use Rattle.mc_explore.proofs.{BootTails.{ended_so, ends_of, same_end}, Passing.{at_next, mid_there, next_passes, next_there, passed_on, passed_within, twin_alike, twins_alike}}
use Rattle.mc_explore.specs.{declared.rounds.Both.{Both}, declared.rounds.BootTree.{BootTree}, inner.BootEnds.{report_of}, inner.BootTree.{model_of}}
use Rattle.mc_explore.specs.inner.Table.{HasSameLimits, IsAmong, PassesAlike, ReachesChild}
use Rattle.mc_walk.specs.Walks.{HasPassedTwins, IsBeforeTwin, Walked}
use Rattle.mc_explore.proofs.column.pass_alike.Goals as goal

pub alike-init : goal.alike-init
alike-init g c =
    let passes = twins_alike model_of report_of ends_of ended_so same_end _ _ _ _ c.in_ok-passed.ensures.passes in
    record { passes = passes; within = passed_within model_of report_of _ _ _ c.requires.among c.requires.stands _ _ passes }

-- From run to run of twins.
module _ (walk mid : Walked BootTree) (number count p : ℕ) (among : IsAmong (model_of walk.flash_tree) number count walk)
    (stands : walk.stands ≡ true) (passes : PassesAlike model_of report_of walk p mid)
    (twin : Both) (before : IsBeforeTwin (model_of mid.flash_tree) mid twin) where
  more : number + p + 1 < count
  more = next_there model_of report_of walk number count among stands (number + p) mid twin (mid_there model_of report_of walk number count among stands p mid passes) before

  module _ (at : Walked BootTree) (reaches : ReachesChild (model_of mid.flash_tree) (number + p + 1) mid at) (limits : HasSameLimits mid at) where
    stands_there : at.stands ≡ true
    stands_there = (at_next model_of report_of walk number count among stands p mid passes more at reaches limits).stands

    module _ (new : Walked BootTree) (q : ℕ) (other : Both) (further : HasPassedTwins (model_of at.flash_tree) at q other new) where
      onward : PassesAlike model_of report_of walk (p + (1 + q)) new
      onward =
          passed_on model_of report_of walk number count among stands p mid passes more at reaches limits new q (twin_alike model_of report_of ends_of ended_so same_end mid twin before)
          (twins_alike model_of report_of ends_of ended_so same_end at new q other further)

      onward_within : number + (p + (1 + q)) < count
      onward_within = passed_within model_of report_of walk number count among stands (p + (1 + q)) new onward

pub go_to_child-requires-clause-passed : goal.go_to_child-requires-clause-passed
go_to_child-requires-clause-passed g c =
    next_passes model_of report_of _ _ _ c.requires.among c.requires.stands _ _ c.alike.invariant.passes
    (more _ _ _ _ _ c.requires.among c.requires.stands c.alike.invariant.passes _ c.in-Some.ensures)

pub pass_twins-requires-in-Some : goal.pass_twins-requires-in-Some
pass_twins-requires-in-Some g c =
    stands_there _ _ _ _ _ c.requires.among c.requires.stands c.alike.invariant.passes _ c.in-Some.ensures _ c.in_ok-go_to_child.ensures.reaches c.in_ok-go_to_child.ensures.limits

pub overflow_add-passed : goal.overflow_add-passed
overflow_add-passed g c =
    let within = onward_within _ _ _ _ _ c.requires.among c.requires.stands c.alike.invariant.passes _ c.in-Some.ensures _ c.in_ok-go_to_child.ensures.reaches c.in_ok-go_to_child.ensures.limits
    _ _ _ c.in_ok-more.ensures.passes in
    omega (arith, within)

pub overflow_add-passed-in-Some : goal.overflow_add-passed-in-Some
overflow_add-passed-in-Some g c =
    let within = onward_within _ _ _ _ _ c.requires.among c.requires.stands c.alike.invariant.passes _ c.in-Some.ensures _ c.in_ok-go_to_child.ensures.reaches c.in_ok-go_to_child.ensures.limits
    _ _ _ c.in_ok-more.ensures.passes in
    omega (arith, within)

pub alike-preserved : goal.alike-preserved
alike-preserved g c =
    let passes = onward _ _ _ _ _ c.requires.among c.requires.stands c.alike.invariant.passes _ c.in-Some.ensures _ c.in_ok-go_to_child.ensures.reaches c.in_ok-go_to_child.ensures.limits
    _ _ _ c.in_ok-more.ensures.passes in
    record { passes = passes; within = passed_within model_of report_of _ _ _ c.requires.among c.requires.stands _ _ passes }
