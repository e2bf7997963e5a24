use Rattle.std.proofs.{Common.{◌≡◌, ◌-◌, ◌≤◌, ℕ, suc, List, [], ◌∷◌, length, take, drop, get_or, Some, refl, arith}, lemmas.List.{take_all}}
use Rattle.mc_image.specs.inner.VersionReading.{numeral_at}
use Rattle.mc_image.proofs.reading.numeral_at.Goals as goal

-- a zero stands alone
zero_first : (text : List ℕ) → 1 ≤ length text → get_or text 0 0 ≡ 48 → numeral_at text ≡ Some (0, take (length text - 1) (drop 1 text))
unfolding numeral_at
zero_first [] some is = absurd (omega (arith, some))
zero_first (c ∷ cs) some is = let all : take (suc (length cs) - 1) cs ≡ cs = take_all (suc (length cs) - 1) cs (omega arith) in rw (is, all) refl

pub returns-in-48 : goal.returns-in-48
returns-in-48 c = zero_first c.args.text.now c.in-48.len_at_least cc
