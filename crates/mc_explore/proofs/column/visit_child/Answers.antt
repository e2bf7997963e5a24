use Rattle.mc_explore.proofs.column.visit_child.Goals as goal

pub returns-clause-ended : goal.returns-clause-ended
returns-clause-ended g c = (rw c.flash_tree.ensures at c.ended.ensures) c.go_to_child.new.walk.path c.summary.ensures.summary_is
