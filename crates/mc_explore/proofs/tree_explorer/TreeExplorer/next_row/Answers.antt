use Rattle.std.proofs.Common.{None, Option, Some, ap, inl, option_map, sym, ◌∙◌, ◌≡◌}
use Rattle.mc_start.specs.Start.{begun}
use Rattle.mc_explore.specs.declared.boot_row.BootRow.{BootRow}
use Rattle.mc_explore.proofs.{CutsAlong.{is_none}, Visiting.{Found, finds_none, found_by, next_there, sound_on}}
use Rattle.mc_explore.proofs.tree_explorer.TreeExplorer.next_row.Given.{Over}
use Rattle.mc_explore.proofs.tree_explorer.TreeExplorer.next_row.Goals as goal
use Rattle.mc_explore.proofs.tree_explorer.TreeExplorer.next_row.Goals.{In_ok-_counted_up}

-- What was found.
found : (g : Over) (c : In_ok-_counted_up g) (row : Option BootRow) → c.next.new.self.row ≡ row
    → Found g.X.Subject.subject g.X.Subject.edge g.met.X.Subject.laws (begun c.self.inside.start.now) c.self.inside.choice g.F.Flash.counted c.self.inside.bound c.self.inside.rows c.next.new.self
    c.self.inside.last row
found g c row is = found_by _ _ _ _ _ _ _ _ _ _ c.self.invariant.0 c.in_ok-_counted_up.ensures.finds c.in_ok-_counted_up.ensures.costs row is

pub invariant_of-self-2 : goal.invariant_of-self-2
invariant_of-self-2 g c =
    let f = found g (goal.at.invariant_of-self-2 g c).In_ok-_counted_up (Some c.in-Some.row.now) (sym c.in-Some.ensures) in
    (sound_on _ _ _ _ _ _ _ _ _ _ c.in-Some.row.now f, c.self.invariant.1, λ works. inl c.clear.ensures)

pub returns-clause-found : goal.returns-clause-found
returns-clause-found g c =
    let f = found g (goal.at.returns-clause-found g c).In_ok-_counted_up (Some c.in-Some.row.now) (sym c.in-Some.ensures) in
    rw (sym c.self.view_is, c.row-2.ensures) (next_there _ _ _ _ _ _ _ _ _ _ c.in-Some.row.now f)

pub returns-clause-restarts : goal.returns-clause-restarts
returns-clause-restarts g c =
    let f = found g (goal.at.returns-clause-restarts g c).In_ok-_counted_up (Some c.in-Some.row.now) (sym c.in-Some.ensures) in
    rw (sym c.self.view_is, c.row-2.ensures) (c.restarts.ensures _ _ _ (next_there _ _ _ _ _ _ _ _ _ _ c.in-Some.row.now f).1)

pub returns-in_default-clause-found : goal.returns-in_default-clause-found
returns-in_default-clause-found g c =
    let none = is_none c.row.result c.in_default.not-Some in
    let f = found g (goal.at.returns-in_default-clause-found g c).In_ok-_counted_up None (sym c.row.ensures ∙ ap (option_map (λ row. row.now)) none) in
    rw (sym c.self.view_is) (finds_none _ _ _ _ _ _ _ _ _ _ f)
