use Rattle.std.proofs.Common.{Some, ap, arith, length, refl, suc, sym, ℕ, ◌+◌, ◌<◌, ◌∙◌, ◌≡◌}
use Rattle.std.proofs.lemmas.Option.{slice_get_read}
use Rattle.mc_explore.proofs.{LastCuts.{told_alike}, Runs.{some_there}}
use Rattle.mc_explore.specs.inner.Runs.{Begins, IsSplit, begin_of}
use Rattle.std.specs.List.{slice_get}
use Rattle.mc_explore.proofs.at_cuts.AtCuts.find.Given.{Over}
use Rattle.mc_explore.proofs.at_cuts.AtCuts.find.Goals as goal
use Rattle.mc_explore.proofs.at_cuts.AtCuts.find.Goals.{In_ok-run}

-- The run of the cut.
record IsThere (g : Over) (c : In_ok-run g) (i : ℕ) : Type 0 where
  is : slice_get c.args.self.now.told.items c.run_near.result ≡ Some c.in_ok-run.run'.now
  begins : Begins c.args.self.now.told.items c.args.self.now.count i c.run_near.result

there : (g : Over) (c : In_ok-run g) (i : ℕ) → i ≡ c.in_ok-index.index → IsSplit c.args.self.now.told.items c.args.self.now.count → i < c.args.self.now.count → IsThere g c i
there g c i index split lt =
    let runs = c.args.self.now.told.items in
    let begins = rw c.deref.ensures.value at c.run_near.ensures in
    let there = rw c.deref-2.ensures.value at c.in_ok-run.ensures.lookup in
    record {
      is = slice_get_read runs (length runs) c.run_near.result c.in_ok-run.run'.now refl there.3.0 there.1;
      begins = rw (sym index) at (begins split (some_there runs c.args.self.now.count split i lt) (omega (arith, lt, index)));
    }

pub returns-then-number-erases : goal.returns-then-number-erases
returns-then-number-erases g c = λ i at split lt.
    let index : i ≡ c.in_ok-index.index = omega (arith, at, c.index_in_parent.ensures, c.in_ok-index.ensures) in
    let t = there g (goal.at.returns-then-number-erases g c).In_ok-run i index split lt in
    told_alike c.args.shared_tail.now c.args.self.now c.args.number i 0 c.run_near.result c.in_ok-run.run'.now at t.is t.begins.first (omega (arith, t.begins.inside lt))
    (λ no. absurd (omega (arith, no)))

pub returns : goal.returns
returns g c = λ i at split lt.
    let index : i ≡ c.in_ok-index.index = omega (arith, at, c.index_in_parent.ensures, c.in_ok-index.ensures) in
    let t = there g (goal.at.returns g c).In_ok-run i index split lt in
    let one : c.run_near.result + 1 ≡ suc c.run_near.result = omega arith in
    let end = (rw c.deref-3.ensures.value at c.begin_at-end.ensures) ∙ ap (begin_of c.args.self.now.told.items c.args.self.now.count) one in
    told_alike c.args.shared_tail.now c.args.self.now c.args.number i _ c.run_near.result c.in_ok-run.run'.now at t.is t.begins.first
    (omega (arith, end, t.begins.inside lt, c.saturating_sub-2.ensures, c.saturating_sub.ensures, index))
    (λ _. omega (arith, c.if-number-erases.false, c.erases.ensures))
