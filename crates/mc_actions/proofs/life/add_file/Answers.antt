use Rattle.mc_actions.proofs.Shelving.{added, unadded}
use Rattle.mc_actions.proofs.life.add_file.Goals as goal

pub returns-in-Err : goal.returns-in-Err
returns-in-Err g c =
    let p = unadded _ c.args.shelf.now.items c.args.name.now _ _ c.in-Err.ensures.refused c.unless_unopened.ensures.unopened c.unless_unopened.ensures.refused in
    record { added = p.0; refused = p.1 }

pub returns-clause-added : goal.returns-clause-added
returns-clause-added g c =
    let pushed = rw c.in_ok-file.ensures at c.in-Ok-push.ensures.items in
    added _ _ _ _ _ pushed c.in-Ok.ensures.bytes
