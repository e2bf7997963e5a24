use Rattle.std.proofs.Common.{sym, arith, refl}
use Rattle.mc_boot.specs.Plan.{moved_up}
use Rattle.mc_boot.proofs.{Courses.{get_moved}, Transfers.{left_after, left_none, left_at_pair}}
use Rattle.mc_boot.proofs.transfer.first_left.Goals as goal
use Rattle.mc_boot.proofs.transfer.first_left.Goals.{else-entry-max_sectors-via-then-entry-max_sectors+else-entry-max_sectors-2, else-entry-max_sectors-via-else-entry-max_sectors}

pub returns-then-entry-sectors : goal.returns-then-entry-sectors
returns-then-entry-sectors c =
    let fits = c.requires in
    rw c.in-Some.is (sym (left_after c.args.layout.now c.args.sectors c.in-Some.entry c.in-Some.entry (moved_up c.args.sectors c.in-Some.entry) (omega (arith, fits))
    (get_moved c.args.layout.now c.args.sectors c.in-Some.entry c.if-entry-sectors.true) refl))

pub returns-then-entry-max_sectors-2 : goal.returns-then-entry-max_sectors-2
returns-then-entry-max_sectors-2 c = grind (arith, left_at_pair)

pub returns : goal.returns
returns c = grind (arith, left_none, else-entry-max_sectors-via-then-entry-max_sectors+else-entry-max_sectors-2, else-entry-max_sectors-via-else-entry-max_sectors)
