use Rattle.mc_actions.proofs.trailers.trailers_of.Goals as goal

pub returns : goal.returns
returns c =
    let l = rw (c.layout.ensures.value, c.primary.ensures.value, c.secondary.ensures.value) at c.in_ok-flash.ensures.loads in
    record { primary = rw (l.geometry_is, l.content_is) at c.read-primary.ensures; secondary = rw (l.geometry_is, l.content_is) at c.read-secondary.ensures }
