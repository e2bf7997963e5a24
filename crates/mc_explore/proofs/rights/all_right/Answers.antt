use Rattle.std.proofs.{Common.{◌≡◌, false, is_some, not, sym, ap, ◌∙◌, arith}, lemmas.List.Elements.{All-from_recursion, recursion_from_All}}
use Rattle.mc_explore.specs.{Right.{is_right}, declared.rights.RightsOf.{RightsOf}}
use Rattle.mc_explore.proofs.JudgedRows.{all_found, none_found}
use Rattle.mc_explore.proofs.rights.all_right.Goals as goal

pub returns : goal.returns
returns g c = λ e rows is.
    let x = g.X.Subject.subject in
    let here = ap (λ (r : RightsOf g.row.X-Key.Denot). is_some r.first_not_right) is in (
      λ none. All-from_recursion _ rows (none_found (λ row. is_right e (x.ends row)) x.key rows (sym here ∙ c.is_none.ensures ∙ ap not none)),
      λ all. let some : not c.is_none.result ≡ false = sym c.is_none.ensures ∙ here ∙ all_found (λ row. is_right e (x.ends row)) x.key rows (recursion_from_All _ rows all) in grind arith,
    )
