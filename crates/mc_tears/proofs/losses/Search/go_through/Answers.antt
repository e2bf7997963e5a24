use Rattle.std.proofs.Common.{arith, refl, subst, sym, ◌≡◌, ◌∙◌}
use Rattle.std.specs.Prelude.{length, ℕ, ◌*◌, ◌+◌, ◌<◌}
use Rattle.mc_boot.specs.Outcome.{ops_of}
use Rattle.mc_explore.specs.{facts.Summaries.{width_is}, inner.OneRound.{begins}}
use Rattle.mc_tears.proofs.{Ending.{none_made}, Losing.{cut_there, expands_on, marks_there, op_there}, Standing.{back_on, can_pass, op_fits, stands_back, stands_next}}
use Rattle.mc_tears.specs.{inner.Losing.{Expands}, inner.Standing.{Stands}}
use Rattle.mc_tears.proofs.losses.Search.go_through.Given.{Over}
use Rattle.mc_tears.proofs.losses.Search.go_through.Goals as goal
use Rattle.mc_tears.proofs.losses.Search.go_through.Goals.{In-loop-operation, In_ok-visit, In_ok-visit_tears}

pub loop-operation-init : goal.loop-operation-init
loop-operation-init g c = record {
  ready = c.requires.ready;
  erasing = refl;
  stands = c.requires.stands;
  number = none_made (begins c.args.rounds.now) c.args.whole.now.summary c.requires.whole.summary;
  marks = c.requires.marks;
  capacity = refl;
  visited = λ x bound index p from exp. exp;
}

early : (g : Over) (c : In-loop-operation g) → c.loop-operation.operation < length (ops_of (begins c.args.rounds.now))
early g c = omega (arith, c.loop-operation-test.true, width_is (begins c.args.rounds.now) c.args.whole.now.summary c.requires.whole.summary)

pub visit-requires-clause-lost : goal.visit-requires-clause-lost
visit-requires-clause-lost g c =
    let i = c.loop-operation.invariant in
    cut_there (begins c.args.rounds.now) c.loop-operation.at c.loop-operation.operation (g.F.Flash.seen c.loop-operation.flash) i.stands i.number c.loop-operation.self.erasing
    (early g (goal.at.visit-requires-clause-lost g c).In-loop-operation)

-- The flash stands there still behind the visit of the cut.
there : (g : Over) (c : In_ok-visit g) → Stands (begins c.args.rounds.now) c.loop-operation.at (g.F.Flash.seen c.visit.new.flash)
there g c =
    stands_back (begins c.args.rounds.now) c.loop-operation.at (g.F.Flash.seen c.loop-operation.flash) c.loop-operation.invariant.stands (g.F.Flash.seen c.visit.new.flash) c.in_ok-visit.ensures.back

pub next_op-op-requires-clause-stands : goal.next_op-op-requires-clause-stands
next_op-op-requires-clause-stands g c = there g (goal.at.next_op-op-requires-clause-stands g c).In_ok-visit

pub next_op-op-requires-clause-early : goal.next_op-op-requires-clause-early
next_op-op-requires-clause-early g c =
    let early = early g (goal.at.next_op-op-requires-clause-early g c).In-loop-operation in
    omega (arith, early, c.loop-operation.invariant.number)

pub visit_tears-requires-clause-stands : goal.visit_tears-requires-clause-stands
visit_tears-requires-clause-stands g c =
    op_there (begins c.args.rounds.now) c.loop-operation.at c.loop-operation.operation (g.F.Flash.seen c.visit.new.flash)
    (there g (goal.at.visit_tears-requires-clause-stands g c).In_ok-visit) c.loop-operation.invariant.number c.next_op-op.result c.next_op-op.ensures.next c.next_op-op.ensures.applies

pub visit_tears-requires-clause-marks : goal.visit_tears-requires-clause-marks
visit_tears-requires-clause-marks g c =
    marks_there 2 (g.F.Flash.seen c.loop-operation.flash) (g.F.Flash.seen c.visit.new.flash) c.in_ok-visit.ensures.back c.loop-operation.invariant.marks

pub visit_tears-requires-clause-buffer : goal.visit_tears-requires-clause-buffer
visit_tears-requires-clause-buffer g c =
    let i = c.loop-operation.invariant in
    let here = there g (goal.at.visit_tears-requires-clause-buffer g c).In_ok-visit in
    let layout = here.at_is.layout_is ∙ sym c.requires.stands.at_is.layout_is in
    op_fits (begins c.args.rounds.now) c.loop-operation.at (g.F.Flash.seen c.visit.new.flash) here c.next_op-op.result _ c.next_op-op.ensures.applies
    (rw (layout, i.capacity) c.requires.buffer)

behind : (g : Over) (c : In_ok-visit_tears g) → Stands (begins c.args.rounds.now) c.loop-operation.at (g.F.Flash.seen c.visit.new.flash)
    → Stands (begins c.args.rounds.now) c.loop-operation.at (g.F.Flash.seen c.visit_tears.new.flash)
behind g c here =
    stands_back (begins c.args.rounds.now) c.loop-operation.at (g.F.Flash.seen c.visit.new.flash) here (g.F.Flash.seen c.visit_tears.new.flash) c.in_ok-visit_tears.ensures.back

pub pass-requires : goal.pass-requires
pass-requires g c =
    let at = goal.at.pass-requires g c in
    let early = early g at.In-loop-operation in
    let here = behind g at.In_ok-visit_tears (there g at.In_ok-visit) in
    can_pass (begins c.args.rounds.now) c.loop-operation.at (g.F.Flash.seen c.visit_tears.new.flash) here (omega (arith, early, c.loop-operation.invariant.number))

pub loop-operation-preserved : goal.loop-operation-preserved
loop-operation-preserved g c =
    let at = goal.at.loop-operation-preserved g c in
    let y = begins c.args.rounds.now in
    let n : ℕ = c.loop-operation.operation in
    let i = c.loop-operation.invariant in
    let cut = c.in_ok-visit.ensures in
    let tears = c.in_ok-visit_tears.ensures in
    let pass = c.in_ok-pass.ensures in
    let f = g.F.Flash.seen c.loop-operation.flash in
    let k = g.F.Flash.seen c.visit_tears.new.flash in
    let new = g.F.Flash.seen c.pass.new.flash in
    let early = early g at.In-loop-operation in
    let here = behind g at.In_ok-visit_tears (there g at.In_ok-visit) in
    let next = stands_next y c.loop-operation.at k here (omega (arith, early, i.number)) c.pass.new.at new pass.passes.0 pass.passes.1 pass.spends.limits in
    let back = back_on f (g.F.Flash.seen c.visit.new.flash) cut.back k tears.back in
    let marks = marks_there 2 f k back i.marks in
    let old = c.args.self.now.cases.items in
    let first = expands_on c.args.self.now.erasing c.loop-operation.self.erasing y c.args.before.now old c.loop-operation.self.cases.items c.visit.new.self.cases.items 0 (193 * n)
    (193 * n + 0) (193 * n + 1) (193 * n + 0 + 1) i.erasing i.visited (omega arith) cut.visited (omega arith) in
    record {
      ready = tears.ready;
      erasing = tears.erasing ∙ cut.erasing ∙ i.erasing;
      stands = next.0;
      number = omega (arith, next.1, i.number);
      marks = rw (pass.keeps.checkpoints, pass.spends.limits) marks;
      capacity = tears.capacity ∙ i.capacity;
      visited = expands_on c.args.self.now.erasing c.visit.new.self.erasing y c.args.before.now old c.visit.new.self.cases.items c.visit_tears.new.self.cases.items 0 (193 * n + 1)
          (193 * n + 1) (193 * (n + 1)) (193 * n + 193) (cut.erasing ∙ i.erasing) first refl tears.visited (omega arith);
    }

pub returns-clause-visited : goal.returns-clause-visited
returns-clause-visited g c =
    let y = begins c.args.rounds.now in
    let all : 193 * c.loop-operation.operation ≡ 193 * length (ops_of y) =
    omega (arith, c.loop-operation-test.false, c.loop-operation.auto.operation-end, width_is y c.args.whole.now.summary c.requires.whole.summary) in
    subst (λ m. Expands c.args.self.now.erasing y c.args.before.now c.args.self.now.cases.items 0 c.loop-operation.self.cases.items m) all c.loop-operation.invariant.visited
