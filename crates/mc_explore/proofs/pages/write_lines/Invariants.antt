use Rattle.std.proofs.Common.{◌≡◌, ◌+◌, ◌*◌, ◌<◌, ◌≤◌}
use Rattle.mc_tree.specs.Tree.{Lost}
use Rattle.mc_explore.specs.Subject.{are_lawful, rows_of}
use Rattle.mc_explore.proofs.PageText.{AreOut}
use Rattle.mc_explore.proofs.pages.write_lines.Given as goal

abbrev pub invariant-fill : goal.invariant-fill
invariant-fill g l =
    let x = g.X.Subject.subject in
    let laws = are_lawful x g.met.X.Subject.laws.order g.met.X.Subject.laws.some_rest in
    let cost = x.most_for_row l.fn.explorer.state.start.rules l.fn.explorer.state.start.geometry in
    record {
      page : AreOut (rows_of x) laws l.until l.fn.explorer.state l.limit (g.W.Write.contents l.fn.writer) l.explorer.state l.room (g.W.Write.contents l.writer);
      not_lost : l.explorer.state.position ≡ Lost → l.fn.explorer.state.position ≡ Lost;
      stuck : l.fn.explorer.state.position ≡ Lost → (l.explorer.state.position ≡ Lost) × (0 < l.room);
      unwritten : l.explorer.state.position ≡ Lost → (l.explorer ≡ l.fn.explorer) × (l.writer ≡ l.fn.writer);
      start : l.explorer.state.start ≡ l.fn.explorer.state.start;
      limits : l.explorer.usage.limits ≡ l.fn.explorer.usage.limits;
      applied : l.explorer.usage.applied + l.room * cost ≤ l.fn.explorer.usage.applied + l.limit * cost;
    }

abbrev pub decreases-fill : goal.decreases-fill
decreases-fill g l = l.room
