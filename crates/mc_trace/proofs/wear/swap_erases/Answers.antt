use Rattle.std.proofs.{Common.{ℕ, ◌*◌, ◌≤◌, arith, sym, ◌∙◌}, Math.Nat.{mul-le-mul_right}}
use Rattle.mc_flash.specs.Geometry.{greatest_sectors}
use Rattle.mc_trace.proofs.SwapWork.{begun_erasing_count, erase_count, whole}
use Rattle.mc_trace.proofs.wear.swap_erases.Goals as goal

few : (n t : ℕ) → n ≤ 3 → t ≤ 262144 → n * t ≤ 786432
few n t trailers sectors = let most = mul-le-mul_right t trailers in omega (arith, most, sectors)

pub overflow_mul-result : goal.overflow_mul-result
overflow_mul-result c = grind arith

pub returns-clause-count : goal.returns-clause-count
returns-clause-count c grain =
    let l = c.args.layout.now in
    rw (c.trailers.ensures.count, c.trailer_sectors.ensures.value, c.greatest_sectors.ensures.value)
    (sym (erase_count l _ _ _ (whole grain l c.args.kind c.greatest_sectors.ensures.valid) ∙ begun_erasing_count l c.args.kind (greatest_sectors l)))

pub returns-clause-few : goal.returns-clause-few
returns-clause-few c = grind arith
