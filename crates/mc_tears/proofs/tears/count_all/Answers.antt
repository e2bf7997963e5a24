use Rattle.std.proofs.{Common.{ap, arith, refl, subst, sym, ◌≡◌, ◌∙◌}, lemmas.List.Sums.{sum_by-cons}}
use Rattle.std.specs.Prelude.{List, Some, length, slice_get, sum_by, ℕ, ◌+◌, ◌<◌}
use Rattle.mc_boot.specs.Outcome.{ops_of}
use Rattle.mc_explore.specs.{Boots.{at_cut}, facts.Summaries.{width_is}, inner.OneRound.{begins}}
use Rattle.mc_flash.specs.facts.Spends.{keeps_both}
use Rattle.mc_tear.specs.Cases.{cases_of}
use Rattle.mc_tears.proofs.Ending.{none_made}
use Rattle.mc_tears.proofs.Listed.{up_to, up_to_end, up_to_first, up_to_next}
use Rattle.mc_tears.proofs.Standing.{back_is, back_keeps, can_pass, op_fits, stands_back, stands_marked, stands_next}
use Rattle.mc_tears.proofs.Written.{count_there}
use Rattle.mc_tears.specs.{Tears.{number_count}, inner.Standing.{Stands}}
use Rattle.mc_tears.proofs.tears.count_all.Given.{Over}
use Rattle.mc_tears.proofs.tears.count_all.Goals as goal
use Rattle.mc_tears.proofs.tears.count_all.Goals.{In-loop-number, In_ok-count_cases}

pub loop-number-init : goal.loop-number-init
loop-number-init g c =
    let x = begins c.args.rounds.now in
    let m = c.in_ok-here.ensures.1 in
    record {
      stands = rw m (stands_marked x c.args.whole.now.summary.boot (g.F.Flash.seen c.args.flash.now) c.requires.stands);
      number = none_made x c.args.whole.now.summary c.requires.whole.summary;
      count = omega (arith, ap (λ (l : List ℕ). sum_by (number_count c.args.erasing x) l) (up_to_first (length (ops_of x))));
      few = omega arith;
      keeps = rw m (record { geometry = refl; checkpoints = refl });
      limits = ap (λ s. s.usage.limits) m;
      capacity = refl;
    }

early : (g : Over) (c : In-loop-number g) → c.loop-number.at.done < length (ops_of (begins c.args.rounds.now))
early g c = omega (arith, c.loop-number.invariant.number, c.loop-number-test.true, width_is (begins c.args.rounds.now) c.args.whole.now.summary c.requires.whole.summary)

pub next_op-op-requires-clause-early : goal.next_op-op-requires-clause-early
next_op-op-requires-clause-early g c = early g (goal.at.next_op-op-requires-clause-early g c).In-loop-number

pub count_cases-requires-clause-buffer : goal.count_cases-requires-clause-buffer
count_cases-requires-clause-buffer g c =
    let i = c.loop-number.invariant in
    op_fits (begins c.args.rounds.now) c.loop-number.at (g.F.Flash.seen c.loop-number.flash) i.stands c.next_op-op.result _ c.next_op-op.ensures.applies
    (rw (i.keeps.geometry, i.capacity) c.requires.buffer)

there : (g : Over) (c : In_ok-count_cases g) → Stands (begins c.args.rounds.now) c.loop-number.at (g.F.Flash.seen c.count_cases.new.flash)
there g c =
    stands_back (begins c.args.rounds.now) c.loop-number.at (g.F.Flash.seen c.loop-number.flash) c.loop-number.invariant.stands (g.F.Flash.seen c.count_cases.new.flash)
    c.in_ok-count_cases.ensures.returns

pub pass-requires : goal.pass-requires
pass-requires g c =
    let at = goal.at.pass-requires g c in
    can_pass (begins c.args.rounds.now) c.loop-number.at (g.F.Flash.seen c.count_cases.new.flash) (there g at.In_ok-count_cases) (early g at.In-loop-number)

pub loop-number-preserved : goal.loop-number-preserved
loop-number-preserved g c =
    let x = begins c.args.rounds.now in
    let at = goal.at.loop-number-preserved g c in
    let n : ℕ = c.loop-number._number in
    let i = c.loop-number.invariant in
    let h = g.F.Flash.seen c.loop-number.flash in
    let k = g.F.Flash.seen c.count_cases.new.flash in
    let new = g.F.Flash.seen c.pass.new.flash in
    let cases = c.in_ok-count_cases.ensures in
    let pass = c.in_ok-pass.ensures in
    let op = c.next_op-op.result in
    let next = stands_next x c.loop-number.at k (there g at.In_ok-count_cases) (early g at.In-loop-number) c.pass.new.at new pass.passes.0 pass.passes.1 pass.spends.limits in
    let one : slice_get (ops_of x) n ≡ Some op = subst (λ m. slice_get (ops_of x) m ≡ Some op) i.number c.next_op-op.ensures.next in
    let many : number_count c.args.erasing x n ≡ length (cases_of c.args.erasing h.geometry op h.content) =
    count_there x n op one c.args.erasing
    ∙ ap (λ m. length (cases_of c.args.erasing x.geometry op (at_cut x m))) (sym i.number)
    ∙ ap (λ t. length (cases_of c.args.erasing x.geometry op t)) (sym i.stands.at_is.content_is)
    ∙ ap (λ y. length (cases_of c.args.erasing y op h.content)) (sym i.stands.at_is.layout_is) in
    let early = early g at.In-loop-number in
    let rest = ap (sum_by (number_count c.args.erasing x)) (up_to_next (length (ops_of x)) n (omega (arith, early, i.number)))
    ∙ sum_by-cons (number_count c.args.erasing x) n (up_to (length (ops_of x)) (n + 1)) in
    record {
      stands = next.0;
      number = omega (arith, next.1, i.number);
      count = omega (arith, i.count, rest, many, c.from.ensures, cases.count);
      few = omega (arith, i.few, c.from.ensures, cases.few);
      keeps = keeps_both _ h new i.keeps (keeps_both h k new (back_keeps h k cases.returns) pass.keeps);
      limits = pass.spends.limits ∙ cases.returns.limits ∙ i.limits;
      capacity = cases.capacity ∙ i.capacity;
    }

pub returns-clause-count : goal.returns-clause-count
returns-clause-count g c =
    let x = begins c.args.rounds.now in
    let i = c.loop-number.invariant in
    let last = up_to_end (length (ops_of x)) c.loop-number._number (omega (arith, c.loop-number-test.false, width_is x c.args.whole.now.summary c.requires.whole.summary)) in
    omega (arith, i.count, ap (λ (l : List ℕ). sum_by (number_count c.args.erasing x) l) last)

pub returns-clause-returns : goal.returns-clause-returns
returns-clause-returns g c =
    let i = c.loop-number.invariant in
    let m = c.in_ok-here.ensures.1 in
    rw (c.back_to.ensures, c.in_ok-here.ensures.0) (back_is (g.F.Flash.seen c.args.flash.now) (g.F.Flash.seen c.mark.new.self) (g.F.Flash.seen c.loop-number.flash) m (rw m i.keeps)
    (i.limits ∙ sym (ap (λ s. s.usage.limits) m)))
