-- What follows of the writes of a trailer. Proved here, so that the crates above can cite it.
use Rattle.std.specs.Prelude.{◌≡◌, ℕ, ◌/◌, ◌<◌}
use Rattle.std.proofs.{Common.{ap, ◌∙◌}, Math.Nat.{div_self}}

one_piece : (u n : ℕ) → 0 < u → n ≡ u → n / u ≡ 1
one_piece u n some is = ap (λ m. m / u) is ∙ div_self some
