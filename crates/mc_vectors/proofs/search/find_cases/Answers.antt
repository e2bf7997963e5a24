use Rattle.std.specs.Prelude.{Contains, List, get_or, is_some, true, ℕ, ◌+◌, ◌<◌, ◌≡◌, ◌≤◌, ◌⊎◌}
use Rattle.std.proofs.Common.{ap, arith, inl, inr, length, subst, sym, ◌∙◌}
use Rattle.mc_start.specs.Start.{begun}
use Rattle.mc_vectors.specs.{Cases.{AnyCuts, AreCases, AtMost}, declared.case.Case.{Case}, declared.search.Search.{Search}, inner.Searching.{IsDoneAt}}
use Rattle.mc_vectors.proofs.{Covered.{are_all, are_cases}, Extended.{begin as begin_case, passed}}
use Rattle.mc_vectors.proofs.search.find_cases.Goals.{After-case-then-cuts-from-1, then-not-case+then-cuts-from+in_ok-expand, else-not-case, else-not-case-via-then-not-case+else-cuts-from, else-not-case-via-else-not-case}
use Rattle.mc_vectors.proofs.search.find_cases.Goals as goal

pub loop-index-init : goal.loop-index-init
loop-index-init g c =
    let both = c.in_ok-begin.ensures.begun c.args.bound in
    record { ready = c.in_ok-begin.ensures.ready; search = both.0; below = both.1 }

pub returns-in_default-clause-cases : goal.returns-in_default-clause-cases
returns-in_default-clause-cases g c =
    let x = begun c.args.start.now in
    let cases : List Case = c.loop-index.search.cases.items in
    let all : length cases ≤ c.loop-index.index = omega (arith, c.in_default.ensures.lookup.3, ap (λ (l : List Case). length l) c.deref.ensures.value) in
    subst (AreCases x (AtMost c.args.bound)) (sym c.found.ensures.cases) (are_cases x c.args.bound cases c.loop-index.index c.loop-index.invariant.search all)

pub returns-in_default-clause-whole : goal.returns-in_default-clause-whole
returns-in_default-clause-whole g c whole =
    let x = begun c.args.start.now in
    let cases : List Case = c.loop-index.search.cases.items in
    let all : length cases ≤ c.loop-index.index = omega (arith, c.in_default.ensures.lookup.3, ap (λ (l : List Case). length l) c.deref.ensures.value) in
    subst (AreCases x AnyCuts) (sym c.found.ensures.cases) (are_all x c.args.bound cases c.loop-index.index c.loop-index.invariant.search all (c.found.ensures.whole whole))

pub expand-requires-clause-occurs : goal.expand-requires-clause-occurs
expand-requires-clause-occurs g c =
    let cases : List Case = c.loop-index.search.cases.items in
    let p : Case = c.in-Some.case.now in
    let read = c.in-Some.ensures.lookup in
    let inside : Contains cases p = subst (λ (l : List Case). Contains l p) c.deref.ensures.value (c.loop-index.index, read.3.0, sym read.1) in
    ap is_some ((c.loop-index.invariant.search.each p inside).0.leaves)

pub loop-index-preserved : goal.loop-index-preserved
loop-index-preserved g c =
    let x = begun c.args.start.now in
    let i = c.loop-index.invariant in
    let bound : ℕ = c.args.bound in
    let index : ℕ = c.loop-index.index in
    let cases : List Case = c.loop-index.search.cases.items in
    let p : Case = c.in-Some.case.now in
    let read = c.in-Some.ensures.lookup in
    let inside : index < length cases = omega (arith, read.3.0, ap (λ (l : List Case). length l) c.deref.ensures.value) in
    let here : p ≡ get_or cases index p = read.1 ∙ ap (λ (l : List Case). get_or l index p) c.deref.ensures.value in
    elim c.if-not-case.branch [
      | then-not-case+then-cuts-from+in_ok-expand b ↦
          let few : length p.schedule < bound = omega (arith, b.if-cuts-from.true, ap (λ (l : List ℕ). length l) b.cuts.ensures.value, b.from.ensures) in
          let both = b.in_ok-expand.ensures.expanded bound index (begin_case x bound cases index p inside here i.search i.below (b.if-not-case.true) few) in
          subst (λ (s : Search). IsDoneAt x bound c.args.start.now.geometry.sector s (index + 1)) (sym b.search-is)
          (record { ready = b.in_ok-expand.ensures.ready; search = both.0; below = both.1 })
      | else-not-case b ↦
          let over : (p.joins ≡ true) ⊎ (bound ≤ length p.schedule) = elim b.else-not-case.branch [
            | else-not-case-via-then-not-case+else-cuts-from v ↦ inr (omega (arith, v.if-cuts-from.false, ap (λ (l : List ℕ). length l) v.cuts.ensures.value, v.from.ensures))
            | else-not-case-via-else-not-case v ↦ inl (v.if-not-case.false)
          ] in
          let both = passed x bound cases index p inside here i.search i.below over in
          subst (λ (s : Search). IsDoneAt x bound c.args.start.now.geometry.sector s (index + 1)) (sym b.search-is) (record { ready = i.ready; search = both.0; below = both.1 })
    ]
