use Rattle.std.specs.{Io.KnownBytes.{Appends}, Prelude.{Err, IsErrOf, List, None, Option, Some, option_map, ℕ}}
use Rattle.std.proofs.{Common.{◌≡◌, ◌⊎◌, ap, inl, inr, refl, subst, sym, ◌∙◌}, KnownBytes.{Appends-trans}, lemmas.Result.{err_from_is_err_and}}
use Rattle.mc_command.specs.{Inspections.{AnswersInspect, Inspection}, declared.inspect.Inspected.{Inspected}}
use Rattle.mc_command.proofs.inspect.answer.Goals as goal
use Rattle.mc_explore.specs.Rows.{subject}
use Rattle.mc_flash.specs.Flash.{Content}
use Rattle.mc_options.proofs.Begun.{first_begun, then_begun}
use Rattle.mc_options.specs.Requests.{End}
use Rattle.mc_options.specs.declared.refusal.Refusal.TheVariants as refusals
use Rattle.mc_output.specs.Text.{AppendsPrefix}
use Rattle.mc_start.specs.Start.{Started, begun}
use Rattle.mc_trace.specs.{Inspection.{inspection_text}, declared.error.TraceError.{TraceError}}
use Rattle.mc_trace.specs.declared.error.TraceError.TheVariants as errors
use Rattle.mc_verdict.specs.Requests.{ConcludesCensus}

-- What is made of what was lent is made of what it was lent of.
fused : {A B C : Type 0} (f : A → B) (h : B → C) (o : Option A) (p : Option B) → option_map f o ≡ p → option_map (λ a. h (f a)) o ≡ option_map h p
fused f h None p is = rw (sym is) refl
fused f h (Some a) p is = rw (sym is) refl

module _ (i : Inspected) (a : Inspection i) (s : Started) (told : Option Content) (here : s ≡ i.wanted.start) (same : told ≡ a.named) (b0 b1 : Option (List ℕ)) (end : End) where
  abbrev text : List ℕ
  text = inspection_text (begun s) told

  is_text : text ≡ inspection_text (begun i.wanted.start) a.named
  is_text = ap (λ (x : Started). inspection_text (begun x) told) here ∙ ap (λ (n : Option Content). inspection_text (begun i.wanted.start) n) same

  -- An explanation that is not written.
  unwritten : (e : TraceError) → end ≡ Err (refusals.Trace e) → (IsErrOf {T = Unit {0}} (Err e) errors.Write → AppendsPrefix b0 b1 text)
      → (IsErrOf {T = Unit {0}} (Err e) errors.Memory → b1 ≡ b0) → (e ≡ errors.Memory) ⊎ (e ≡ errors.Write) → AnswersInspect i b0 b1 end
  unwritten e is prefix none (inl memory) = inr (inl (refusals.Trace e, is, inr (inr (ap (λ (x : TraceError). refusals.Trace x) memory)), none (rw memory refl)))
  unwritten e is prefix none (inr write) =
      let out = subst (λ (t : List ℕ). AppendsPrefix b0 b1 t) is_text (prefix (rw write refl)) in
      inr (inr (refusals.Trace e, is, inr (ap (λ (x : TraceError). refusals.Trace x) write), a, first_begun b0 b1 _ _ out))

  -- It is out, and what the census is concluded with.
  explained : Appends b0 b1 text → (b2 : Option (List ℕ)) → ConcludesCensus subject i.wanted a.census.counts a.census.are b1 b2 end → AnswersInspect i b0 b2 end
  explained whole b2 (inl p) = inl (a, p.0, Appends-trans b0 b1 b2 _ _ (subst (λ (t : List ℕ). Appends b0 b1 t) is_text whole) p.1)
  explained whole b2 (inr p) = inr (inr (p.0, p.1, inl p.2, a, then_begun b0 b1 b2 _ _ (subst (λ (t : List ℕ). Appends b0 b1 t) is_text whole) p.3))

pub returns-in_err-named : goal.returns-in_err-named
returns-in_err-named g c =
    let p = err_from_is_err_and c.from_residual-in_err-named.result c.from_residual-in_err-named.ensures.1 in
    inr (inl (p.0, p.1, inr (inl (rw p.2 c.in_err-named.ensures.refused)), refl))

pub returns-in-Ok : goal.returns-in-Ok
returns-in-Ok g c =
    let told = fused (λ r. r.now) (λ (s : Started). s.content) _ _ c.as_ref.ensures.value in
    let a : Inspection c.args.asked.now = record { census = record { counts = _; are = c.in_ok-counts.ensures.counts }; named = _; are = c.in_ok-named.ensures.named } in
    explained _ a _ _ c.start-start.ensures told _ _ _ c.in-Ok.ensures.whole _ (c.conclude.ensures c.in_ok-counts.ensures.counts)

pub returns : goal.returns
returns g c =
    let told = fused (λ r. r.now) (λ (s : Started). s.content) _ _ c.as_ref.ensures.value in
    let a : Inspection c.args.asked.now = record { census = record { counts = _; are = c.in_ok-counts.ensures.counts }; named = _; are = c.in_ok-named.ensures.named } in
    unwritten _ a _ _ c.start-start.ensures told _ _ _ _ refl c.in-Err.ensures.prefix (λ memory. ap (λ w. g.O.Write.contents w) (c.in-Err.ensures.none memory)) c.in-Err.ensures.err
