use Rattle.std.proofs.Common.{◌+◌, ◌*◌, ◌≤◌, arith}
use Rattle.mc_flash.specs.facts.Usage.{few_saved}
use Rattle.mc_flash.proofs.reserve.most_saved.Goals as goal

at_most : (c : goal.After-sector) → (3 * c.trailer_sectors.result + 3 * c.greatest_sectors.result) * c.sector.result ≤ 50331648
at_most c =
    rw (c.trailer_sectors.ensures.value, c.greatest_sectors.ensures.value, c.sector.ensures.value)
    (few_saved c.args.layout.now c.sector.ensures.valid)

pub overflow_mul-result : goal.overflow_mul-result
overflow_mul-result c = omega (arith, at_most c)

pub returns-clause-value : goal.returns-clause-value
returns-clause-value c = cc

pub returns-clause-at_most : goal.returns-clause-at_most
returns-clause-at_most c = at_most c
