use Rattle.std.proofs.{Common.{◌^◌, eqb, sym, ap, ◌∙◌, arith, w8}, lemmas.Simd.{bitmask_splat}}
use Rattle.mc_flash.proofs.Lanes.{every_lane}
use Rattle.mc_flash.proofs.erased.blank_lanes.Goals as goal

pub returns : goal.returns
returns c =
    let lanes = c.args.group in
    let long = c.fits-group.0 in
    ap (λ m. eqb m 4294967295) (bitmask_splat w8 eqb lanes 32 255 long (omega arith))
    ∙ every_lane (λ b. eqb b 255) lanes 4294967295 (ap (λ n. 2 ^ n) (sym long))
