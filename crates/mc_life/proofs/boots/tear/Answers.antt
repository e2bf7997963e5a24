use Rattle.std.proofs.Common.{ap, sym, ◌≡◌, ◌∙◌}
use Rattle.std.specs.Prelude.{Some, option_map}
use Rattle.mc_boot.specs.Plan.{powered}
use Rattle.mc_flash.specs.{Geometry.{Geometry}}
use Rattle.mc_life.proofs.Losing.{so_torn, worn_to}
use Rattle.mc_life.specs.Device.{ComesTo, torn_so}
use Rattle.mc_life.proofs.boots.tear.Given.{Over}
use Rattle.mc_life.proofs.boots.tear.Goals as goal
use Rattle.mc_life.proofs.boots.tear.Goals.{In-Some, In-Some-2}

comes : (g : Over) (c : In-Some g) → ComesTo (powered c.args.rules (g.F.Flash.seen c.args.flash.now)) c.args.count c.in-Some.op (g.F.Flash.seen c.go_to.new.flash).content
comes g c = rw c.in-Some.is at c.in_ok-op.ensures.comes

-- What is left is torn so.
left : (g : Over) (c : In-Some-2 g) → let f = g.F.Flash.seen c.go_to.new.flash in
    torn_so (g.F.Flash.seen c.args.flash.now).geometry c.in-Some.op f.content c.args.reading.now ≡ Some (g.F.Flash.seen c.in-Some-2.torn).content
left g c =
    let f = g.F.Flash.seen c.go_to.new.flash in
    ap (λ (x : Geometry). torn_so x c.in-Some.op f.content c.args.reading.now) (sym c.in_ok-op.ensures.layout) ∙ sym c.in_ok-torn.ensures.content
    ∙ ap (option_map (λ h. (g.F.Flash.seen h).content)) c.in-Some-2.is

pub returns-clause-loses : goal.returns-clause-loses
returns-clause-loses g c =
    let at = goal.at.returns-clause-loses g c in
    let old = g.F.Flash.seen c.args.flash.now in
    let f = g.F.Flash.seen c.go_to.new.flash in
    let same = c.in_ok-op.ensures.layout in
    let a = rw c.in-Some.is at c.in_ok-op.ensures.applies in
    let is = left g at.In-Some-2 in
    record {
      op = c.in-Some.op;
      before = f.content;
      comes = comes g at.In-Some;
      leaves = is;
      is_torn = so_torn old.geometry c.in-Some.op f.content a.whole (rw (c.layout.ensures, same) at c.unit-unit.ensures.valid) (rw same at a.sized) (rw same at a.can) (rw same at a.makes)
          c.readings_law.ensures.torn c.args.reading.now (g.F.Flash.seen c.in-Some-2.torn).content is;
    }

pub returns-clause-wear : goal.returns-clause-wear
returns-clause-wear g c =
    let x = powered c.args.rules (g.F.Flash.seen c.args.flash.now) in
    let at = (goal.at.returns-clause-wear g c).In-Some in
    worn_to x c.args.count c.in-Some.op c.args.wear.now c.go_to.new.wear c.note.new.self (comes g at).next (rw c.in-Some.is at c.in_ok-op.ensures.wear) c.note.ensures
