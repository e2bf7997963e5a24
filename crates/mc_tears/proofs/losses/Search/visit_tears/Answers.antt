use Rattle.std.proofs.Common.{ap, arith, refl, subst, ◌≡◌, ◌∙◌}
use Rattle.std.specs.Prelude.{ℕ, ◌*◌, ◌+◌}
use Rattle.mc_explore.specs.inner.OneRound.{begins}
use Rattle.mc_tears.proofs.{Losing.{expands_on, marks_there, number_of_reading, stands_there}, Standing.{back_on}}
use Rattle.mc_tears.specs.{Losses.{reading_number}, inner.Losing.{Expands, torn_number}}
use Rattle.mc_tears.proofs.losses.Search.visit_tears.Goals as goal

pub loop-number-init : goal.loop-number-init
loop-number-init g c =
    let old = c.args.self.now.cases.items in
    let here : 193 * c.args.operation + 1 ≡ 193 * c.args.operation + 1 + 0 = omega arith in
    record {
      ready = c.requires.ready;
      erasing = refl;
      back = record { stays = record { geometry = refl; content = refl; checkpoints = refl; counts = refl }; limits = refl };
      capacity = refl;
      visited = subst (λ m. Expands c.args.self.now.erasing (begins c.args.rounds.now) c.args.before.now old (193 * c.args.operation + 1) old m) here
          (λ x bound index p from exp. exp);
    }

pub visit_tear-requires-clause-stands : goal.visit_tear-requires-clause-stands
visit_tear-requires-clause-stands g c =
    stands_there (begins c.args.rounds.now) c.args.operation c.args.op.now (g.F.Flash.seen c.args.flash.now) (g.F.Flash.seen c.loop-number.flash) c.loop-number.invariant.back c.requires.stands

pub visit_tear-requires-clause-marks : goal.visit_tear-requires-clause-marks
visit_tear-requires-clause-marks g c = marks_there 2 (g.F.Flash.seen c.args.flash.now) (g.F.Flash.seen c.loop-number.flash) c.loop-number.invariant.back c.requires.marks

pub visit_tear-requires-clause-buffer : goal.visit_tear-requires-clause-buffer
visit_tear-requires-clause-buffer g c = let i = c.loop-number.invariant in rw (i.back.stays.geometry, i.capacity) c.requires.buffer

pub loop-number-preserved : goal.loop-number-preserved
loop-number-preserved g c =
    let i = c.loop-number.invariant in
    let e = c.in_ok-visit_tear.ensures in
    let n : ℕ = c.loop-number.number in
    let here : reading_number c.of.result ≡ n = ap reading_number c.of.ensures ∙ number_of_reading n c.loop-number-test.true in
    let one : 193 * c.args.operation + 1 + n ≡ torn_number c.args.operation c.of.result = omega (arith, here) in
    let two : torn_number c.args.operation c.of.result + 1 ≡ 193 * c.args.operation + 1 + (n + 1) = omega (arith, here) in
    record {
      ready = e.ready;
      erasing = e.erasing ∙ i.erasing;
      back = back_on (g.F.Flash.seen c.args.flash.now) (g.F.Flash.seen c.loop-number.flash) i.back (g.F.Flash.seen c.visit_tear.new.flash) e.back;
      capacity = e.capacity ∙ i.capacity;
      visited = expands_on c.args.self.now.erasing c.loop-number.self.erasing (begins c.args.rounds.now) c.args.before.now c.args.self.now.cases.items c.loop-number.self.cases.items
          c.visit_tear.new.self.cases.items (193 * c.args.operation + 1) (193 * c.args.operation + 1 + n) (torn_number c.args.operation c.of.result)
          (193 * c.args.operation + 1 + (n + 1)) (torn_number c.args.operation c.of.result + 1) i.erasing i.visited one e.visited two;
    }

pub returns-clause-visited : goal.returns-clause-visited
returns-clause-visited g c =
    let all : 193 * c.args.operation + 1 + c.loop-number.number ≡ 193 * c.args.operation + 193 = omega (arith, c.loop-number-test.false, c.loop-number.auto.number-end) in
    subst (λ m. Expands c.args.self.now.erasing (begins c.args.rounds.now) c.args.before.now c.args.self.now.cases.items (193 * c.args.operation + 1) c.loop-number.self.cases.items m) all
    c.loop-number.invariant.visited
