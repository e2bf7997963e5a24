use Rattle.std.proofs.Common.{List, [], ap, arith, length, subst, sym, take, ℕ, ◌++◌, ◌+◌, ◌-◌, ◌<◌, ◌≤◌, ◌^◌, ◌∙◌, ◌∷◌, ◌≡◌}
use Rattle.std.proofs.{lemmas.Fmt.{decimal_nonempty}, Math.ListN.{get_or, set}}
use Rattle.mc_start.specs.{Start.{IsNextText, on_last, schedule_text}, facts.Counting.{ends_set, ends_there, last_changed, next_joined, next_number}}
use Rattle.std.specs.Prelude.{codes, decimal}
use Rattle.mc_start.proofs.schedule.Schedule.count_up.Goals as goal

pub returns-in-Some-clause-counted : goal.returns-in-Some-clause-counted
returns-in-Some-clause-counted c = λ yes.
    let s = c.self.inside in
    last_changed s.cuts s.len (omega (arith, c.if-self-eq0.false)) (omega (arith, c.self.invariant)) (λ n. n + 1) 0 c.in-Some.cut c.in-Some.ensures.1 ∙ ap (on_last (λ n. n + 1)) c.self.view_is

pub returns-in-Some-clause-text : goal.returns-in-Some-clause-text
returns-in-Some-clause-text c = λ yes.
    let s = c.self.inside in
    let some : 0 < s.len = omega (arith, c.if-self-eq0.false) in
    let within : s.len ≤ length s.cuts = omega (arith, c.self.invariant) in
    let last : ℕ = get_or s.cuts (s.len - 1) 0 in
    let small : last + 1 < 2 ^ 32 = c.in-Some.ensures.0 in
    let front : List ℕ = take (s.len - 1) s.cuts in
    let old : c.args.self.now ≡ front ++ last ∷ [] = sym c.self.view_is ∙ ends_there s.cuts s.len some within 0 in
    let new = ends_set s.cuts s.len some within c.in-Some.cut ∙ ap (λ (n : ℕ). front ++ n ∷ []) c.in-Some.ensures.1 in
    let is = next_joined (codes ".") decimal front last (last + 1) (decimal_nonempty last (omega (arith, small))) (next_number last small) in
    subst (λ l. IsNextText (schedule_text l) (schedule_text (take s.len (set s.cuts (s.len - 1) c.in-Some.cut)))) (sym old)
    (subst (λ l. IsNextText (schedule_text (front ++ last ∷ [])) (schedule_text l)) (sym new) is)
