use Rattle.std.specs.Prelude.{IsOk, List, Option, codes, unwrap_or, ℕ, ◌≡◌}
use Rattle.std.proofs.{Common.{[], ap, sym, true≢false, ◌∙◌}, lemmas.Slice.Eq.{bytes_eq-Decides}}
use Rattle.clap.specs.Matches.{found_of}
use Rattle.mc_actions.specs.{Vectors.{GivesCuts}, declared.vectors.Cuts.{Cuts}}
use Rattle.mc_actions.specs.declared.vectors.Cuts.TheVariants as cuts
use Rattle.mc_actions.proofs.vectors.Cuts.read.Goals as goal

pub returns-in_err-census_options-clause-taken : goal.returns-in_err-census_options-clause-taken
returns-in_err-census_options-clause-taken c asked given = by asked given
  where
    by : (asked : Cuts) → GivesCuts (found_of c.args.arguments.now) asked → IsOk c.from_residual-in_err-census_options.result
    by (cuts.AtMost n) g = absurd (true≢false (sym (c.in_err-census_options.ensures.taken n g)))
    by cuts.Any g =
        let text : List ℕ = c.in_ok-required.field-0.now in
        let same : text ≡ codes "all" = ap (λ (o : Option (List ℕ)). unwrap_or o []) (sym c.in_ok-required.ensures ∙ g) in
        absurd (true≢false (sym ((bytes_eq-Decides text (codes "all")).1 same) ∙ sym (c.if-eq.ensures)))
