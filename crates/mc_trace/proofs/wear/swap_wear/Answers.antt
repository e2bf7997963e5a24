use Rattle.std.proofs.Common.{sym}
use Rattle.mc_trace.proofs.SwapWear.{primary_data, primary_trailer, secondary_data, secondary_trailer}
use Rattle.mc_trace.proofs.wear.swap_wear.Goals as goal

pub returns-in-Primary-clause-data : goal.returns-in-Primary-clause-data
returns-in-Primary-clause-data c grain =
    rw (c.in-Primary.is, c.min-data.ensures, c.greatest_sectors-sectors.ensures.value) (sym (primary_data grain c.args.layout.now c.greatest_sectors-sectors.ensures.valid))

pub returns-in-Primary-clause-trailer : goal.returns-in-Primary-clause-trailer
returns-in-Primary-clause-trailer c grain = rw c.in-Primary.is (sym (primary_trailer grain c.args.layout.now c.greatest_sectors-sectors.ensures.valid))

pub returns-in-Secondary-clause-data : goal.returns-in-Secondary-clause-data
returns-in-Secondary-clause-data c grain = rw c.in-Secondary.is (sym (secondary_data grain c.args.layout.now c.greatest_sectors-sectors.ensures.valid))

pub returns-in-Secondary-clause-trailer : goal.returns-in-Secondary-clause-trailer
returns-in-Secondary-clause-trailer c grain = rw c.in-Secondary.is (sym (secondary_trailer grain c.args.layout.now c.greatest_sectors-sectors.ensures.valid))
