use Rattle.std.proofs.Common.{List, ap, arith, length, sym, ℕ, ◌∙◌}
use Rattle.mc_explore.specs.{facts.OneRoundPaths.{one_round_cuts}, inner.{BootRows.{cuts_along}, BootTree.{begins_of}}}
use Rattle.mc_explore.proofs.boot_row.Cuts.along.Goals as goal

pub returns-in-One : goal.returns-in-One
returns-in-One g c =
    let w = c.args.walk.now in
    let rounds = ap (λ r. r.rounds) (sym c.flash_tree.ensures) ∙ c.in-One.is in
    ap (λ l. record { numbers = l; in_first = 0 }) c.requires.path ∙ sym (one_round_cuts (begins_of w.flash_tree) w.path)
    ∙ ap (λ r. cuts_along r (begins_of w.flash_tree) w.path) (sym rounds)

pub named-requires-clause-at_most : goal.named-requires-clause-at_most
named-requires-clause-at_most g c = omega (arith, c.cuts-cuts.ensures.at_most, ap (λ (l : List ℕ). length l) (c.cuts-cuts.ensures.value ∙ c.requires.path))
