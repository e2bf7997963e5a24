use Rattle.std.proofs.Common.{List, ap, ℕ, ◌≡◌, ◌∙◌}
use Rattle.mc_life.proofs.Losing.{applies_there, gentle_put, none_put, room_loaded, rough_put, still_content, still_geometry}
use Rattle.mc_life.proofs.tear.torn.Given.{Over}
use Rattle.mc_life.proofs.tear.torn.Goals as goal
use Rattle.mc_life.proofs.tear.torn.Goals.{In_ok-torn}

-- The flash that was loaded contains what the other does.
geometry : (g : Over) (c : In_ok-torn g) → (g.F.Flash.seen c.in_ok-torn.torn).geometry ≡ (g.F.Flash.seen c.args.flash.now).geometry
geometry g c = c.in_ok-torn.ensures.loads.geometry_is ∙ c.layout-layout.ensures

content : (g : Over) (c : In_ok-torn g) → (g.F.Flash.seen c.in_ok-torn.torn).content ≡ (g.F.Flash.seen c.args.flash.now).content
content g c =
    let f = g.F.Flash.seen c.args.flash.now in
    c.in_ok-torn.ensures.loads.content_is ∙ ap (λ (p : List ℕ). record { primary = p; secondary = c.read-secondary.result.now }) c.read-primary.ensures.value
    ∙ ap (λ (q : List ℕ). record { primary = f.content.primary; secondary = q }) c.read-secondary.ensures.value

pub put_case-requires-clause-room : goal.put_case-requires-clause-room
put_case-requires-clause-room g c =
    let l = c.in_ok-torn.ensures.loads in
    rw l.geometry_is (room_loaded g.F.Flash.counted _ _ _ c.args.grain (g.F.Flash.seen c.in_ok-torn.torn) c.unit-unit.ensures.valid l)

pub returns-then-branch-clause-content : goal.returns-then-branch-clause-content
returns-then-branch-clause-content g c =
    let at = (goal.at.returns-then-branch-clause-content g c).In_ok-torn in
    gentle_put (g.F.Flash.seen c.args.flash.now) (g.F.Flash.seen c.in_ok-torn.torn) c.args.op.now c.args.reading.now (geometry g at) (content g at) (g.F.Flash.seen c.put_case.new.flash)
    c.in_ok-put_case.field-0 c.in_ok-put_case.ensures.puts c.if-branch.true

pub put_case-requires-2-clause-applies : goal.put_case-requires-2-clause-applies
put_case-requires-2-clause-applies g c =
    let at = (goal.at.put_case-requires-2-clause-applies g c).In_ok-torn in
    let f = g.F.Flash.seen c.args.flash.now in
    let h = g.F.Flash.seen c.in_ok-torn.torn in
    let k = g.F.Flash.seen c.put_case.new.flash in
    let puts = c.in_ok-put_case.ensures.puts in
    applies_there f k c.args.op.now c.args.reading.now
    (still_geometry f h k c.args.op.now c.args.reading.now (geometry g at) (content g at) c.in_ok-put_case.field-0 puts c.if-branch.false)
    (still_content f h k c.args.op.now c.args.reading.now (geometry g at) (content g at) c.in_ok-put_case.field-0 puts c.if-branch.false) c.requires.applies

pub returns-then-branch-2-clause-content : goal.returns-then-branch-2-clause-content
returns-then-branch-2-clause-content g c =
    let at = (goal.at.returns-then-branch-2-clause-content g c).In_ok-torn in
    rough_put (g.F.Flash.seen c.args.flash.now) (g.F.Flash.seen c.in_ok-torn.torn) (g.F.Flash.seen c.put_case.new.flash) c.args.op.now c.args.reading.now (geometry g at) (content g at)
    c.in_ok-put_case.field-0 c.in_ok-put_case.ensures.puts c.if-branch.false (g.F.Flash.seen c.put_case-2.new.flash) c.in_ok-put_case-2.field-0
    c.in_ok-put_case-2.ensures.puts c.if-branch-2.true

pub returns-clause-content : goal.returns-clause-content
returns-clause-content g c =
    let at = (goal.at.returns-clause-content g c).In_ok-torn in
    none_put (g.F.Flash.seen c.args.flash.now) (g.F.Flash.seen c.in_ok-torn.torn) (g.F.Flash.seen c.put_case.new.flash) c.args.op.now c.args.reading.now (geometry g at) (content g at)
    c.in_ok-put_case.field-0 c.in_ok-put_case.ensures.puts c.if-branch.false (g.F.Flash.seen c.put_case-2.new.flash) c.in_ok-put_case-2.field-0
    c.in_ok-put_case-2.ensures.puts c.if-branch-2.false
