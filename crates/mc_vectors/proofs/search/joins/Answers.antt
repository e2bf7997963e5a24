use Rattle.std.proofs.Common.{sym, ◌∙◌}
use Rattle.mc_explore.specs.facts.Children.{child_here}
use Rattle.mc_vectors.proofs.Arrived.{goes_on, model_of}
use Rattle.mc_vectors.proofs.search.joins.Goals as goal

pub tail_of-requires : goal.tail_of-requires
tail_of-requires g c =
    let w = c.args.walk.now in
    rw (c.flash.ensures, c.flash_tree-flash_tree.ensures) (_, _, child_here (model_of w.flash_tree) w c.in-Some.step.now c.summary.result.now c.summary.ensures c.in-Some.ensures.step)

pub returns : goal.returns
returns g c is =
    goes_on c.args.walk.now c.in-Some.step.now c.in-Some.ensures.step c.summary.result.now c.summary.ensures c.flash_tree-flash_tree.result (g.F.Flash.seen c.flash.result.now)
    c.flash_tree-flash_tree.ensures c.flash.ensures c.tail_of.result c.tail_of.ensures (sym c.is_some.ensures ∙ is)
