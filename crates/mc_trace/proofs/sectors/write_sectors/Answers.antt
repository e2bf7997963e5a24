use Rattle.mc_trace.proofs.sectors.write_sectors.Goals as goal

pub returns-in-Ok : goal.returns-in-Ok
returns-in-Ok g c =
    (c.in_ok-text.ensures.0, c.in_ok-text.ensures.1, rw (c.as_bytes.ensures.value, c.in_ok-text.ensures.2) at c.in-Ok.ensures.whole)

pub returns : goal.returns
returns g c =
    (c.in_ok-text.ensures.0, c.in_ok-text.ensures.1, rw (c.as_bytes.ensures.value, c.in_ok-text.ensures.2) at c.in-Err.ensures.prefix)
