use Rattle.std.proofs.{Common.{ap, arith, length, sym, ◌*◌, ◌∙◌, ◌≡◌, ◌≤◌}, Math.Nat.{mul-le-mul_right}}
use Rattle.mc_flash.specs.Flash.{IsSized}
use Rattle.mc_start.proofs.Starts.{known}
use Rattle.mc_start.proofs.start.Start.again.Goals as goal

pub image_in-requires-2 : goal.image_in-requires-2
image_in-requires-2 g c =
    let at = c.self.inside.layout in
    let valid = c.self.invariant.0 in
    let shorter : at.secondary * at.sector ≤ at.primary * at.sector = mul-le-mul_right at.sector (omega (arith, valid.counts)) in
    let sized : IsSized at c.in_ok-content.content = grind arith in
    let here : length c.bytes-2.result.now ≡ at.secondary * at.sector = ap length c.bytes-2.ensures ∙ sized.secondary in
    omega (arith, valid.size)

pub invariant_of-result : goal.invariant_of-result
invariant_of-result g c = (
  c.self.invariant.0,
  grind arith,
  grind arith,
  known _ _ c.image_in.result c.image_in.ensures (sym c.bytes.ensures),
  known _ _ c.image_in-2.result c.image_in-2.ensures (sym c.bytes-2.ensures),
)
