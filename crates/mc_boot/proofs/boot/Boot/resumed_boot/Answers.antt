use Rattle.mc_boot.proofs.boot.Boot.resumed_boot.Goals as goal

pub returns-in-2-clause-progress : goal.returns-in-2-clause-progress
returns-in-2-clause-progress g c =
    let count = rw (c.sector.ensures.value, c.layout.ensures) at c.div_ceil-sectors.ensures in
    rw (c.in-2.is, ← count) c.resumed_swap.ensures.progress

pub returns-in-3-clause-progress : goal.returns-in-3-clause-progress
returns-in-3-clause-progress g c =
    let count = rw (c.sector.ensures.value, c.layout.ensures) at c.div_ceil-sectors.ensures in
    rw (c.in-3.is, ← count) c.resumed_swap-in-3.ensures.progress

pub returns-in-4-clause-progress : goal.returns-in-4-clause-progress
returns-in-4-clause-progress g c =
    let count = rw (c.sector.ensures.value, c.layout.ensures) at c.div_ceil-sectors.ensures in
    rw (c.in-4.is, ← count) c.resumed_swap-in-4.ensures.progress
