use Rattle.std.proofs.Common.{List, arith, refl, rules, sym, ℕ, ◌∙◌}
use Rattle.mc_explore.proofs.{BootTails.{tail_likes}, LastCuts.{joined_there, node_there, parent_there, told_turned}}
use Rattle.mc_explore.proofs.last_cuts.find_last_cuts.Given.{Over}
use Rattle.mc_explore.specs.{facts.Children.{child_here}, inner.{BootRows.{AreLikePaths, EndSoAt}, BootTree.{begins_of, boot_model, model_is, model_of}, LastCuts.{IsJoined}}}
use Rattle.mc_tree.specs.Tree.{landed}
use Rattle.mc_walk.specs.TreeModel.{HasChild}
use Rattle.mc_explore.proofs.last_cuts.find_last_cuts.Goals as goal
use Rattle.mc_explore.proofs.last_cuts.find_last_cuts.Goals.{In_ok-shared_tail}

pub tail_of-requires : goal.tail_of-requires
tail_of-requires g c =
    let walk = c.args.walk.now in
    let step = c.in_ok-step.ensures.step in
    let k = model_of walk.flash_tree in
    let here : HasChild k c.in_ok-step.step.now.at c.in_ok-step.step.now.parent c.summary-summary.result.now walk.seen =
    (landed k.tree k.root step.before, c.in_ok-step.step.now.number, child_here k walk c.in_ok-step.step.now c.summary-summary.result.now c.summary-summary.ensures step) in
    rw c.flash.ensures (rw c.flash_tree-flash_tree.ensures here)

-- The children of the node lie among those of its parent.
joined : (g : Over) (c : In_ok-shared_tail g) → IsJoined (model_of c.args.walk.now.flash_tree) (AreLikePaths c.args.walk.now.flash_tree) c.in_ok-parent_path.parent_path.now c.args.path.now
    c.in_ok-shared_tail.shared_tail
joined g c =
    let walk = c.args.walk.now in
    let t = walk.flash_tree in
    let step = c.in_ok-step.step.now in
    let summary = c.summary-summary.result.now in
    let k = boot_model (begins_of t) t.rounds in
    let found = rw (c.flash.ensures, c.flash_tree-flash_tree.ensures, model_is t) at c.tail_of.ensures in
    let like = rw c.in_ok-shared_tail.was at (tail_likes (begins_of t) t.rounds step.parent summary walk.seen step.at c.tail_of.result found) in
    rw (model_is t) (joined_there k walk step summary c.in_ok-parent_path.parent_path.now c.args.path.now c.in_ok-parent_path.field-0-0.now (rw (model_is t) at c.in_ok-step.ensures.step)
    (rw (model_is t) at c.summary-summary.ensures) c.requires.path c.in_ok-parent_path.ensures.cases.0 (AreLikePaths t) c.in_ok-shared_tail.shared_tail like)

pub returns-then-not-has_all-clause-kept : goal.returns-then-not-has_all-clause-kept
returns-then-not-has_all-clause-kept g c = λ kept.
    let a = (goal.at.returns-then-not-has_all-clause-kept g c).In_ok-shared_tail in
    record {
      at_cuts = told_turned (EndSoAt c.args.walk.now.flash_tree) _ c.turn_to.new.self c.turn_to.ensures.kept kept.at_cuts;
      joined_is = rw (sym c.turn_to.ensures.path, sym c.of-path.ensures) at (joined g a);
    }

pub returns-clause-kept : goal.returns-clause-kept
returns-clause-kept g c = λ kept.
    record {
      at_cuts = told_turned (EndSoAt c.args.walk.now.flash_tree) _ c.turn_to.new.self c.turn_to.ensures.kept kept.at_cuts;
      joined_is = rw c.turn_to.ensures.joined tt;
    }

pub returns-clause-cuts : goal.returns-clause-cuts
returns-clause-cuts g c =
    let a = (goal.at.returns-clause-cuts g c).In_ok-shared_tail in
    let walk = c.args.walk.now in
    let k = model_of walk.flash_tree in
    let of : List ℕ = c.in_ok-parent_path.parent_path.now in
    let step = c.in_ok-step.step.now in
    let summary = c.summary-summary.result.now in
    let last = c.in_ok-parent_path.field-0-0.now in
    let split = c.in_ok-parent_path.ensures.cases.0 in
    let parent = parent_there k walk step summary of c.args.path.now last c.in_ok-step.ensures.step c.summary-summary.ensures c.requires.path split in
    let node = node_there k walk step summary of c.args.path.now last c.in_ok-step.ensures.step c.summary-summary.ensures c.requires.path split in
    let count = rw c.flash_tree-flash_tree.ensures at c.width-count.ensures in
    let whole = rw c.flash_tree-flash_tree.ensures at c.width.ensures in
    record {
      joined = rw (sym c.turn_to.ensures.path) at (joined g a);
      count_is = count (landed k.tree k.root c.args.path.now) node;
      whole = rw (sym c.turn_to.ensures.path) at (c.if-not-has_all.ensures.whole refl ∙ whole (landed k.tree k.root of) parent);
      low = c.if-not-has_all.ensures.low refl;
      some = omega (arith, c.if-count-eq0.false);
      small = search rules;
    }
