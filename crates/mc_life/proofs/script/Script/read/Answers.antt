use Rattle.std.proofs.{Common.{◌≡◌, ℕ, ◌≤◌, ◌^◌, List, Option, None, Some, length, IfSome, ap, subst, sym, ◌∙◌}, lemmas.Str.{IsUtf8-string_bytes}}
use Rattle.mc_life.proofs.script.Script.read.Goals as goal

same_as : (known : Option (List ℕ)) (a b : List ℕ) → a ≡ b → IfSome known (λ xs. b ≡ xs) → IfSome known (λ xs. a ≡ xs)
same_as None a b e all = tt
same_as (Some xs) a b e all = e ∙ all

pub returns-in-Ok-clause-reads : goal.returns-in-Ok-clause-reads
returns-in-Ok-clause-reads g c =
    let e : c.in-Ok.text.bytes.items ≡ c.in_ok-bytes.bytes.items = ap (λ v. v.items) c.in-Ok.ensures.ok in
    let whole = c.in_ok-bytes.ensures.whole in
    (subst (λ (z : List ℕ). length z ≤ 2 ^ 24) (sym e) whole.0, IsUtf8-string_bytes c.in-Ok.text, same_as _ _ _ e whole.1)
