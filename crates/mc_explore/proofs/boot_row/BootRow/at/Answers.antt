use Rattle.mc_explore.specs.inner.BootTree.{model_is}
use Rattle.mc_explore.proofs.boot_row.BootRow.at.Goals as goal

pub returns : goal.returns
returns g c = record {
  cuts_are = c.along-cuts.ensures;
  ends_so = rw (model_is c.args.walk.now.flash_tree) at ((rw c.flash_tree.ensures at c.ends-ends.ensures) _ c.summary.ensures.summary_is);
}
