use Rattle.std.proofs.{lemmas.Option.{slice_get_read}, Common.{◌≡◌, arith, length, refl, Some, ap, subst, ◌∙◌}}
use Rattle.std.specs.List.{slice_get}
use Rattle.mc_tree.specs.Tree.{labelled}
use Rattle.mc_walk.specs.Walks.{Walked}
use Rattle.mc_walk.proofs.Along.{label_at, no_label}
use Rattle.mc_walk.proofs.walk.Walk.label.Goals as goal

pub returns-in_err-frame : goal.returns-in_err-frame
returns-in_err-frame g c = grind (arith, no_label)

pub returns : goal.returns
returns g c =
    let w = c.self.inside in
    let k = g.B.FlashTree.model w.flash_tree in
    subst (λ (z : Walked g.row.B.Denot). Some c.label.result ≡ slice_get (labelled (g.B.FlashTree.model z.flash_tree).tree (g.B.FlashTree.label_of z.flash_tree) (g.B.FlashTree.model z.flash_tree).root
    z.path) c.args.step) c.self.view_is
    (label_at k (g.B.FlashTree.label_of w.flash_tree) w.bound c.args.step (g.F.Flash.seen w.flash) w.frames.items w.summary c.in_ok-frame.frame.now c.label.result
    (ap (λ (z : Walked _). z.stands) c.self.view_is ∙ c.requires) c.self.invariant.going (let l = rw c.deref.ensures.value at c.in_ok-frame.ensures.lookup in
    slice_get_read w.frames.items (length w.frames.items) c.args.step c.in_ok-frame.frame.now refl (omega (arith, l.2)) l.1) (c.label.ensures))
