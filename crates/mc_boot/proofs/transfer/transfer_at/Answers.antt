use Rattle.std.proofs.Common.{◌-◌, ◌/◌, arith}
use Rattle.mc_boot.proofs.Courses.{get_moved, get_brought, get_taken}
use Rattle.mc_boot.proofs.transfer.transfer_at.Goals as goal

pub returns-then-index-sectors-clause-at : goal.returns-then-index-sectors-clause-at
returns-then-index-sectors-clause-at c = get_moved c.args.layout.now c.args.sectors c.args.index c.if-index-sectors.true

pub returns-then-index-sectors-eq0-clause-at : goal.returns-then-index-sectors-eq0-clause-at
returns-then-index-sectors-eq0-clause-at c =
    rw c.max_sectors-max_sectors.ensures.value (get_brought c.args.layout.now c.args.sectors c.args.index ((c.args.index - c.args.sectors) / 2) (omega arith) (omega arith))

pub returns-else-index-sectors-eq0-clause-at : goal.returns-else-index-sectors-eq0-clause-at
returns-else-index-sectors-eq0-clause-at c =
    rw c.max_sectors-max_sectors.ensures.value (get_taken c.args.layout.now c.args.sectors c.args.index ((c.args.index - c.args.sectors) / 2) (omega arith) (omega arith))
