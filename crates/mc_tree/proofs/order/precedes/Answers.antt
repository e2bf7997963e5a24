use Rattle.mc_tree.proofs.Preceding.{slice_before}
use Rattle.mc_tree.proofs.order.precedes.Goals as goal

pub returns : goal.returns
returns c = slice_before c.args.path.now c.args.other.now c.lt.result c.lt.ensures
