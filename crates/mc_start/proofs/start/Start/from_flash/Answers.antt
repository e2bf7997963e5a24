use Rattle.std.proofs.Common.{◌≡◌, ℕ, ◌+◌, ◌*◌, ◌≤◌, List, length, take, drop, Ok, ap, refl, rules, arith}
use Rattle.std.proofs.{Math.Nat.{mul-le-mul_right}, lemmas.Bool.Decides.{nat_tests}}
use Rattle.mc_flash.specs.{Flash.{Content, size_of}, Geometry.{Geometry}, declared.op.Slot.TheVariants.{Primary, Secondary}}
use Rattle.mc_start.specs.Start.{of_flash}
use Rattle.mc_start.proofs.Starts.{known}
use Rattle.mc_start.proofs.start.Start.from_flash.Goals as goal

right_size : (g : Geometry) (bytes low high : List ℕ) (p s : ℕ) (content : Content) → p ≡ size_of g Primary → s ≡ size_of g Secondary → length bytes ≡ p + s → low ≡ take p bytes → high ≡ drop p bytes
    → content ≡ record { primary = low; secondary = high } → of_flash g bytes ≡ Ok content
right_size g bytes low high p s content p_is s_is len low_is high_is is = grind (arith, nat_tests)

pub returns : goal.returns
returns c =
    let parts = c.split_at.ensures in (
      refl,
      refl,
      right_size c.args.layout.now c.args.bytes.now _ _ _ _ _ c.size-primary.ensures.value c.size-secondary.ensures.value c.if-bytes-primary.false parts.front parts.back c.in_ok-of.ensures,
      refl,
    )

pub invariant_of-result : goal.invariant_of-result
invariant_of-result c =
    let content = c.in_ok-of.ensures in (
      c.size-primary.ensures.valid,
      search rules,
      c.in_ok-layout_line.ensures,
      known _ _ c.image_in.result c.image_in.ensures (ap (λ (s : Content). s.primary) content),
      known _ _ c.image_in-2.result c.image_in-2.ensures (ap (λ (s : Content). s.secondary) content),
    )

pub image_in-requires : goal.image_in-requires
image_in-requires c = omega (arith, c.split_at.ensures.front_len, c.size-primary.ensures.value, c.size-primary.ensures.valid.size)

pub image_in-requires-2 : goal.image_in-requires-2
image_in-requires-2 c =
    let g = c.args.layout.now in
    let valid = c.size-primary.ensures.valid in
    let shorter : g.secondary * g.sector ≤ g.primary * g.sector = mul-le-mul_right g.sector (omega (arith, valid.counts)) in
    omega (arith, c.split_at.ensures.back_len, c.size-secondary.ensures.value, c.if-bytes-primary.false, valid.size)
