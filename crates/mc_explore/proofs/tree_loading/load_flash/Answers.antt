use Rattle.mc_explore.proofs.tree_loading.load_flash.Goals as goal

pub returns-clause-loads : goal.returns-clause-loads
returns-clause-loads g c =
    rw (c.layout.ensures.value, c.primary-primary.ensures.value, c.secondary-secondary.ensures.value, c.rules-grain.ensures) at c.in_ok-flash.ensures.loads
