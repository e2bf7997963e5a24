use Rattle.mc_flash.specs.Flash.{Content}
use Rattle.mc_tear.specs.declared.torn.Erasing.{Erasing}
use Rattle.std.specs.Prelude.{Contains, IsSome, List, Option, get_or, ℕ, ◌+◌, ◌<◌, ◌≡◌, ◌≤◌}
use Rattle.std.proofs.Common.{ap, arith, length, refl, subst, sym, ◌∙◌}
use Rattle.mc_start.specs.Start.{begun}
use Rattle.mc_tears.proofs.Losing.{are_all, are_cases}
use Rattle.mc_tears.specs.{Losses.{AnyLosses, AreLostCases, AtMost, after_losses}, declared.losses.LostCase.{LostCase}, declared.losses.Search.{Search}}
use Rattle.mc_tears.specs.inner.Losing.{IsDoneAt, searched}
use Rattle.mc_vectors.proofs.Searches.{begin as begin_case, passed}
use Rattle.mc_tears.proofs.losses.find_losses.Given.{Over}
use Rattle.mc_tears.proofs.losses.find_losses.Goals as goal
use Rattle.mc_tears.proofs.losses.find_losses.Goals.{In-Some, then-len-from+in_ok-losses+in_ok-expand_after, else-len-from}

pub loop-index-init : goal.loop-index-init
loop-index-init g c = rw c.new-search.ensures.erasing at (c.in_ok-begin.ensures.begun c.args.bound)

pub returns-in_default-clause-cases : goal.returns-in_default-clause-cases
returns-in_default-clause-cases g c =
    let e = c.args.erasing in
    let x = begun c.args.start.now in
    let cases : List LostCase = c.loop-index.search.cases.items in
    let all : length cases ≤ c.loop-index.index = omega (arith, c.in_default.ensures.lookup.3, ap (λ (l : List LostCase). length l) c.deref.ensures.value) in
    subst (AreLostCases e x (AtMost c.args.bound)) (sym c.found.ensures.cases) (are_cases e x c.args.bound cases c.loop-index.index c.loop-index.invariant.search all c.readings_law.ensures.chain)

pub returns-in_default-clause-whole : goal.returns-in_default-clause-whole
returns-in_default-clause-whole g c whole =
    let e = c.args.erasing in
    let x = begun c.args.start.now in
    let cases : List LostCase = c.loop-index.search.cases.items in
    let all : length cases ≤ c.loop-index.index = omega (arith, c.in_default.ensures.lookup.3, ap (λ (l : List LostCase). length l) c.deref.ensures.value) in
    subst (AreLostCases e x AnyLosses) (sym c.found.ensures.cases)
    (are_all e x c.args.bound cases c.loop-index.index c.loop-index.invariant.search all c.readings_law.ensures.chain (c.found.ensures.whole whole))

-- The case is one of the search.
there : (g : Over) (c : In-Some g) → Contains c.loop-index.search.cases.items c.in-Some.case.now
there g c =
    let read = c.in-Some.ensures.lookup in
    subst (λ (l : List LostCase). Contains l c.in-Some.case.now) c.deref.ensures.value (c.loop-index.index, read.3.0, sym read.1)

pub expand_after-requires-clause-occurs : goal.expand_after-requires-clause-occurs
expand_after-requires-clause-occurs g c =
    let x = begun c.args.start.now in
    let i = c.loop-index.invariant in
    let p : LostCase = c.in-Some.case.now in
    let losses = c.deref-then-len-from-2.result.now in
    let same : losses ≡ p.losses.items = c.deref-then-len-from-2.ensures.value ∙ c.in_ok-losses.ensures ∙ c.deref-then-len-from.ensures.value in
    let good = (i.search.each p (there g (goal.at.expand_after-requires-clause-occurs g c).In-Some)).0 in
    subst (λ (o : Option Content). IsSome o) (sym (ap (λ (e : Erasing). after_losses e x losses) i.erasing ∙ ap (after_losses c.args.erasing x) same ∙ good.leaves)) refl

pub loop-index-preserved : goal.loop-index-preserved
loop-index-preserved g c =
    let e = c.args.erasing in
    let x = begun c.args.start.now in
    let i = c.loop-index.invariant in
    let bound : ℕ = c.args.bound in
    let index : ℕ = c.loop-index.index in
    let cases : List LostCase = c.loop-index.search.cases.items in
    let p : LostCase = c.in-Some.case.now in
    let read = c.in-Some.ensures.lookup in
    let inside : index < length cases = omega (arith, read.3.0, ap (λ (l : List LostCase). length l) c.deref.ensures.value) in
    let here : p ≡ get_or cases index p = read.1 ∙ ap (λ (l : List LostCase). get_or l index p) c.deref.ensures.value in
    elim c.if-len-from.branch [
      | then-len-from+in_ok-losses+in_ok-expand_after b ↦
          let few : length p.losses.items < bound = omega (arith, b.if-len-from.true, c.len.ensures, c.from.ensures) in
          let exp = begin_case (searched e x bound) cases index p inside here i.search i.below few in
          let all = rw i.erasing at b.in_ok-expand_after.ensures.expanded in
          let both = all bound index p (sym (b.deref-then-len-from-2.ensures.value ∙ b.in_ok-losses.ensures ∙ b.deref-then-len-from.ensures.value)) exp in
          subst (λ (s : Search). IsDoneAt e x bound s (index + 1)) (sym b.search-is)
          (record { ready = b.in_ok-expand_after.ensures.ready; erasing = b.in_ok-expand_after.ensures.erasing ∙ i.erasing; search = both.0; below = both.1 })
      | else-len-from b ↦
          let both = passed (searched e x bound) cases index p inside here i.search i.below (λ asked. omega (arith, b.if-len-from.false, c.len.ensures, c.from.ensures, asked)) in
          subst (λ (s : Search). IsDoneAt e x bound s (index + 1)) (sym b.search-is) (record { ready = i.ready; erasing = i.erasing; search = both.0; below = both.1 })
    ]
