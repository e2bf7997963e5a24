use Rattle.std.proofs.Common.{◌≡◌, ◌+◌, ◌-◌, ◌*◌, ◌<◌, ◌≤◌}
use Rattle.mc_tree.specs.Tree.{Lost}
use Rattle.mc_explore.specs.Subject.{are_lawful}
use Rattle.mc_explore.proofs.Counted.{AreCounted}
use Rattle.mc_explore.proofs.tally.survey_rows.Given as goal

abbrev pub invariant-rows : goal.invariant-rows
invariant-rows g l =
    let x = g.X.Subject.subject in
    let cost = x.most_for_row l.fn.explorer.state.start.rules l.fn.explorer.state.start.geometry in
    record {
      counted : AreCounted x (are_lawful x g.met.X.Subject.laws.order g.met.X.Subject.laws.some_rest) l.expectation l.until l.fn.explorer.state l.limit l.explorer.state l.tally l.rights;
      not_lost : l.explorer.state.position ≡ Lost → l.fn.explorer.state.position ≡ Lost;
      stuck : l.fn.explorer.state.position ≡ Lost → (l.explorer.state.position ≡ Lost) × (l.tally.rows < l.limit);
      still : l.explorer.state.position ≡ Lost → l.explorer ≡ l.fn.explorer;
      start : l.explorer.state.start ≡ l.fn.explorer.state.start;
      limits : l.explorer.usage.limits ≡ l.fn.explorer.usage.limits;
      applied : l.explorer.usage.applied + (l.limit - l.tally.rows) * cost ≤ l.fn.explorer.usage.applied + l.limit * cost;
    }

abbrev pub decreases-rows : goal.decreases-rows
decreases-rows g l = l.limit - l.tally.rows
