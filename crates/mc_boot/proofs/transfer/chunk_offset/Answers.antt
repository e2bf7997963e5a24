use Rattle.std.proofs.Common.{arith}
use Rattle.mc_boot.proofs.Courses.{can_chunk, slot_small}
use Rattle.mc_boot.proofs.transfer.chunk_offset.Goals as goal

pub overflow_mul-result : goal.overflow_mul-result
overflow_mul-result c =
    let range = can_chunk c.args.layout.now c.args.slot c.args.sector c.args.chunk c.sector.ensures.valid c.requires.there c.requires.below in
    let small = slot_small c.args.layout.now c.args.slot c.sector.ensures.valid in
    rw c.sector.ensures.value (omega (arith, range.inside, small))

pub overflow_mul-result-2 : goal.overflow_mul-result-2
overflow_mul-result-2 c = grind arith

pub overflow_add-result : goal.overflow_add-result
overflow_add-result c =
    let range = can_chunk c.args.layout.now c.args.slot c.args.sector c.args.chunk c.chunk.ensures.valid c.requires.there c.requires.below in
    let small = slot_small c.args.layout.now c.args.slot c.chunk.ensures.valid in
    rw (c.sector.ensures.value, c.chunk.ensures.value) (omega (arith, range.inside, small))
