use Rattle.std.proofs.{Common.{◌≡◌, false, is_some, not, sym, ap, ◌∙◌, arith}, lemmas.List.Elements.{All-from_recursion, All-weaker, recursion_from_All}}
use Rattle.mc_explore.specs.{Survey.{is_boot}, declared.census.CensusOf.{CensusOf}}
use Rattle.mc_explore.proofs.JudgedRows.{all_found, boots_if, boots_then, none_found}
use Rattle.mc_explore.proofs.census.each_boots.Goals as goal

pub returns : goal.returns
returns g c = λ rows is.
    let x = g.X.Subject.subject in
    let here = ap (λ (r : CensusOf g.row.X-Key.Denot). is_some r.first_not_boot) is in (
      λ none.
          let all = none_found (λ row. is_boot (x.ends row).result) x.key rows (sym here ∙ c.is_none.ensures ∙ ap not none) in
          All-weaker _ _ (λ row. boots_if (x.ends row).result) rows (All-from_recursion _ rows all),
      λ all.
          let pass = recursion_from_All _ rows (All-weaker _ _ (λ row. boots_then (x.ends row).result) rows all) in
          let some : not c.is_none.result ≡ false = sym c.is_none.ensures ∙ here ∙ all_found (λ row. is_boot (x.ends row).result) x.key rows pass in grind arith,
    )
