use Rattle.std.proofs.Common.{◌+◌, ◌*◌, true, false, Some, length, refl, subst, ap, ◌∙◌, arith}
use Rattle.mc_walk.specs.{Walks.{Walked, walked, GoesDown}, declared.frame.Frame.{Frame}}
use Rattle.mc_walk.proofs.{Steps.{Ready, Arrives, can_reach, no_child, ready_here, ready_room, ready_mark, arrives, gone_down}, walk.Walk.go_down.Given.{Over}}
use Rattle.mc_walk.proofs.walk.Walk.go_down.Goals as goal
use Rattle.mc_walk.proofs.walk.Walk.go_down.Goals.{In_ok-at, In_ok-summary}

abbrev down : (g : Over) (c : In_ok-at g) → Frame g.row.B-Child.Denot g.row.B-Summary.Denot
down g c = record { at = c.in_ok-at.at; number = c.args.number; parent = c.in-Some.parent }

abbrev IsReady : (g : Over) (c : In_ok-at g) → Frame g.row.B-Child.Denot g.row.B-Summary.Denot → Type 0
IsReady g c f =
    let k = g.B.FlashTree.model c.self.inside.flash_tree in
    Ready k c.self.inside.bound ((c.args.number + 1) * k.step) (g.F.Flash.seen c.self.inside.flash) (g.F.Flash.seen c.go_to_child.new.flash) c.self.inside.frames.items f

ready : (g : Over) (c : In_ok-at g) → IsReady g c (down g c)
ready g c = grind arith

abbrev WasReady : (g : Over) (c : In_ok-summary g) → Type 0
WasReady g c =
    let k = g.B.FlashTree.model c.self.inside.flash_tree in
    let f : Frame g.row.B-Child.Denot g.row.B-Summary.Denot = record { at = c.in_ok-at.at; number = c.args.number; parent = c.in-Some.parent } in
    Ready k c.self.inside.bound ((c.args.number + 1) * k.step) (g.F.Flash.seen c.self.inside.flash) (g.F.Flash.seen c.go_to_child.new.flash) c.self.inside.frames.items f

abbrev HasArrived : (g : Over) (c : In_ok-summary g) → Type 0
HasArrived g c =
    let k = g.B.FlashTree.model c.self.inside.flash_tree in
    Arrives k c.self.inside.bound ((c.args.number + 1) * k.step) (g.F.Flash.seen c.self.inside.flash) (g.F.Flash.seen c.enter.new.flash) c.enter.new.frames.items c.in_ok-summary.summary

there : (g : Over) (c : In_ok-summary g) → WasReady g c → HasArrived g c
there g c r =
    let h = c.in_ok-summary.ensures in
    arrives (g.B.FlashTree.model c.self.inside.flash_tree) c.self.inside.bound _ _ _ _ _ _ _ c.in_ok-summary.summary r h.stands h.frames h.spends

pub returns-in_default-clause-step : goal.returns-in_default-clause-step
returns-in_default-clause-step g c =
    let w = c.self.inside in
    subst (λ (z : Walked g.row.B.Denot). GoesDown (g.B.FlashTree.model z.flash_tree) c.args.number z false z) c.self.view_is
    (no_child (g.B.FlashTree.model w.flash_tree) w.flash_tree c.args.number w.bound _ (g.F.Flash.seen w.flash) w.frames.items w.summary c.self.invariant.going (ap length c.deref.ensures.value)
    (ap (λ (z : Walked _). z.stands) c.self.view_is ∙ c.requires) c.in_default.ensures)

pub go_to_child-requires : goal.go_to_child-requires
go_to_child-requires g c =
    let w = c.self.inside in
    can_reach (g.B.FlashTree.model w.flash_tree) c.args.number w.bound _ (g.F.Flash.seen w.flash) w.frames.items w.summary c.self.invariant.going (ap length c.deref.ensures.value) c.in-Some.parent
    c.in-Some.ensures

pub enter-requires : goal.enter-requires
enter-requires g c =
    let k = g.B.FlashTree.model c.self.inside.flash_tree in
    let a = goal.at.enter-requires g c in
    let r = ready g a.In_ok-at in
    record {
      comes = ready_here k _ _ _ _ _ _ r;
      room = ready_room k _ _ _ _ _ _ r;
      mark = ready_mark k _ _ _ _ _ _ r;
      at_most = omega (arith, r.at_most, c.self.invariant.reserved, c.self.inside.frames.ok.0);
    }

pub invariant_of-self-2 : goal.invariant_of-self-2
invariant_of-self-2 g c =
    let a = goal.at.invariant_of-self-2 g c in
    let h = there g a.In_ok-summary (ready g a.In_ok-at) in
    record { reserved = omega (arith, c.self.invariant.reserved, c.in_ok-summary.ensures.capacity); going = h.going }

pub returns-clause-step : goal.returns-clause-step
returns-clause-step g c =
    let w = c.self.inside in
    let a = goal.at.returns-clause-step g c in
    let h = there g a.In_ok-summary (ready g a.In_ok-at) in
    subst (λ (z : Walked g.row.B.Denot). GoesDown (g.B.FlashTree.model z.flash_tree) c.args.number z true
    (walked w.flash_tree w.bound (g.F.Flash.seen c.enter.new.flash) c.enter.new.frames.items (Some c.in_ok-summary.summary))) c.self.view_is
    (gone_down (g.B.FlashTree.model w.flash_tree) w.flash_tree w.bound _ c.args.number _ _ w.frames.items c.enter.new.frames.items (down g a.In_ok-at) _ w.summary h refl
    c.in_ok-summary.ensures.frames)

pub returns-clause-spends : goal.returns-clause-spends
returns-clause-spends g c = grind arith
