use Rattle.std.proofs.{lemmas.Result.{err_from_is_err_and}}
use Rattle.std.proofs.Common.{None, Option, Some, ap, inl, inr, option_map, refl, subst, sym, true, ◌∙◌, ◌≡◌}
use Rattle.mc_start.specs.Start.{begun}
use Rattle.mc_explore.specs.{declared.boot_row.BootRow.{BootRow}, inner.Exploring.{IsCountedUp}, inner.Lines.{IsLine}}
use Rattle.mc_explore.proofs.{CutsAlong.{is_none}, Visiting.{Found, first_row, found_by, moved_on, no_row, sound_on, stays_so}}
use Rattle.mc_explore.proofs.tree_explorer.TreeExplorer.write_next_row.Given.{Over}
use Rattle.mc_explore.proofs.tree_explorer.TreeExplorer.write_next_row.Goals as goal
use Rattle.mc_explore.proofs.tree_explorer.TreeExplorer.write_next_row.Goals.{After-turn_to, In_ok-counted_up}

-- What was found.
found : (g : Over) (c : In_ok-counted_up g) (row : Option BootRow) → c.next.new.self.row ≡ row
    → Found g.X.Subject.subject g.X.Subject.edge g.met.X.Subject.laws (begun c.self.inside.start.now) c.self.inside.choice g.F.Flash.counted c.self.inside.bound c.self.inside.rows c.next.new.self
    c.self.inside.last row
found g c row is = found_by _ _ _ _ _ _ _ _ _ _ c.self.invariant.0 c.in_ok-counted_up.ensures.finds c.in_ok-counted_up.ensures.costs row is

pub returns-in_default-clause-writes : goal.returns-in_default-clause-writes
returns-in_default-clause-writes g c =
    let none = is_none c.row.result c.in_default.not-Some in
    let f = found g (goal.at.returns-in_default-clause-writes g c).In_ok-counted_up None (sym c.row.ensures ∙ ap (option_map (λ row. row.now)) none) in
    rw (sym c.self.view_is) (inl (no_row _ _ _ _ _ _ _ _ _ _ f, stays_so _ _ _ _ _ _ _ _ _ _ f), refl)

pub returns-then-not-is_shown-clause-writes : goal.returns-then-not-is_shown-clause-writes
returns-then-not-is_shown-clause-writes g c =
    let row = c.in-Some.row.now in
    let f = found g (goal.at.returns-then-not-is_shown-clause-writes g c).In_ok-counted_up (Some row) (sym c.in-Some.ensures) in
    rw (sym c.self.view_is) (
      inr (
        g.X.Subject.edge.shown_of row,
        first_row _ _ _ _ _ _ _ _ _ _ row f,
        λ before. absurd (let no = sym c.if-not-is_shown.true ∙ c.is_shown.ensures.1 before in cc),
        moved_on _ _ _ _ _ _ _ _ _ _ row f,
      ),
      refl,
    )

pub invariant_of-self-then-not-is_shown : goal.invariant_of-self-then-not-is_shown
invariant_of-self-then-not-is_shown g c =
    let f = found g (goal.at.invariant_of-self-then-not-is_shown g c).In_ok-counted_up (Some c.in-Some.row.now) (sym c.in-Some.ensures) in
    (sound_on _ _ _ _ _ _ _ _ _ _ c.in-Some.row.now f, c.self.invariant.1, λ works. inl c.clear-then-not-is_shown.ensures)

-- The line is that of the row.
turned : (g : Over) (c : After-turn_to g) → In_ok-counted_up g → IsLine g.X.Subject.subject (g.X.Subject.edge.shown_of c.in-Some.row.now) c.turn_to.new.self.text.items c.turn_to.new.self.key
turned g c up =
    let e = c.in_ok-counted_up.ensures in
    let old = c.self.inside.rows.row in
    let counted : c.in_ok-counted_up.counted_up ≡ true → IsCountedUp old (Some c.in-Some.row.now) = λ is. subst (IsCountedUp old) (sym c.in-Some.ensures) (e.counted is) in
    c.turn_to.ensures old counted (c.self.invariant.2 e.costs.0)

pub invariant_of-self-in_err-write_text : goal.invariant_of-self-in_err-write_text
invariant_of-self-in_err-write_text g c =
    let a = goal.at.invariant_of-self-in_err-write_text g c in
    let row = c.in-Some.row.now in
    let f = found g a.In_ok-counted_up (Some row) (sym c.in-Some.ensures) in
    (sound_on _ _ _ _ _ _ _ _ _ _ row f, c.self.invariant.1, λ works. inr (row, sym c.in-Some.ensures, turned g a.After-turn_to a.In_ok-counted_up))

pub returns-in_err-write_text-clause-began : goal.returns-in_err-write_text-clause-began
returns-in_err-write_text-clause-began g c =
    let a = goal.at.returns-in_err-write_text-clause-began g c in
    let row = c.in-Some.row.now in
    let f = found g a.In_ok-counted_up (Some row) (sym c.in-Some.ensures) in
    let p = err_from_is_err_and c.from_residual-in_err-write_text.result c.from_residual-in_err-write_text.ensures.1 in
    let text = c.as_slice.ensures.value ∙ (turned g a.After-turn_to a.In_ok-counted_up).0 in
    let first = first_row _ _ _ _ _ _ _ _ _ _ row f in
    rw p.1 (rw (sym c.self.view_is) (inr (
      g.X.Subject.edge.shown_of row,
      _,
      (first, c.is_shown.ensures.0 c.if-not-is_shown.false, refl),
      (rw (sym c.self.view_is) at c.restarts.ensures) (g.X.Subject.edge.shown_of row) first.is_row,
      rw text at c.in_err-write_text.ensures.prefix,
    )))

pub invariant_of-self-2 : goal.invariant_of-self-2
invariant_of-self-2 g c =
    let a = goal.at.invariant_of-self-2 g c in
    let row = c.in-Some.row.now in
    let f = found g a.In_ok-counted_up (Some row) (sym c.in-Some.ensures) in
    (sound_on _ _ _ _ _ _ _ _ _ _ row f, c.self.invariant.1, λ works. inr (row, sym c.in-Some.ensures, turned g a.After-turn_to a.In_ok-counted_up))

pub returns-clause-writes : goal.returns-clause-writes
returns-clause-writes g c =
    let a = goal.at.returns-clause-writes g c in
    let row = c.in-Some.row.now in
    let f = found g a.In_ok-counted_up (Some row) (sym c.in-Some.ensures) in
    let text = c.as_slice.ensures.value ∙ (turned g a.After-turn_to a.In_ok-counted_up).0 in
    let first = first_row _ _ _ _ _ _ _ _ _ _ row f in
    rw (sym c.self.view_is) (
      g.X.Subject.edge.shown_of row,
      (first, c.is_shown.ensures.0 c.if-not-is_shown.false, moved_on _ _ _ _ _ _ _ _ _ _ row f),
      (rw (sym c.self.view_is) at c.restarts.ensures) (g.X.Subject.edge.shown_of row) first.is_row,
      rw text at c.in_ok-write_text.ensures.whole,
    )
