use Rattle.mc_explore.specs.inner.BootTree.{model_of}
use Rattle.mc_explore.specs.inner.BootEnds.{report_of}
use Rattle.std.proofs.Common.{◌-◌, ◌≤◌}
use Rattle.mc_explore.specs.{facts.Children.{HasCome}, inner.Table.{AreRuns, paths_of, weigh_below}}
use Rattle.mc_explore.proofs.column.+column.Given as goal

abbrev pub decreases-column : goal.decreases-column
decreases-column g l = l.bound

abbrev pub invariant-children : goal.invariant-children
invariant-children g l =
    let old = l.fn.walk in
    let k = model_of old.flash_tree in
    record {
      within : l.number ≤ l.count;
      come : HasCome model_of old l.number l.walk;
      runs : AreRuns (weigh_below (paths_of k) (report_of old.flash_tree) l.fn.expectation old.path) l.count l.bound l.number l.runs.items;
    }

abbrev pub decreases-children : goal.decreases-children
decreases-children g l = l.count - l.number
