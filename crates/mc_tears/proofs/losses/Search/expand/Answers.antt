use Rattle.std.specs.Prelude.{length, ◌*◌}
use Rattle.mc_boot.specs.Outcome.{ops_of}
use Rattle.mc_output.specs.facts.Results.{on_ok}
use Rattle.mc_start.specs.Start.{begun}
use Rattle.mc_tears.proofs.Losing.{ends_before}
use Rattle.mc_tears.specs.inner.Losing.{searched}
use Rattle.mc_vectors.proofs.Searches.{finished}
use Rattle.mc_tears.proofs.losses.Search.expand.Goals as goal

pub returns-clause-expanded : goal.returns-clause-expanded
returns-clause-expanded g c =
    let e = c.args.self.now.erasing in
    let y = begun c.args.start.now in
    on_ok c.go_through.result _ _ (λ visited x bound index p from exp.
    let all = visited x bound index p from exp in
    finished (searched e x bound) c.go_through.new.self.cases.items index p all.inside all.here (193 * length (ops_of y)) all
    (λ i u leaves. ends_before e x c.args.before.now y p from i u leaves)) c.go_through.ensures.visited
