use Rattle.mc_boot.proofs.Courses.{can_copy}
use Rattle.mc_boot.proofs.transfer.chunk_copy.Goals as goal

pub returns-clause-inside : goal.returns-clause-inside
returns-clause-inside c =
    rw (c.chunk_offset-at.ensures, c.chunk_offset-offset.ensures, c.chunk.ensures.value) (can_copy c.args.layout.now c.args.transfer c.args.chunk c.chunk.ensures.valid c.requires.inside
    c.requires.below)
