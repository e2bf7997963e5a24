use Rattle.std.proofs.Common.{◌≡◌, List, ℕ, Some, ◌∷◌, take, option_map, sym, ap, ◌∙◌}
use Rattle.mc_explore.proofs.Counting.{cut_prefixed, with_schedule}
use Rattle.mc_explore.proofs.census.CensusOf+Schedule.prefixed.Goals as goal
use Rattle.mc_explore.proofs.census.CensusOf+Schedule.prefixed.Goals.{in-Some, in-None}

pub returns : goal.returns
returns c = λ a is.
    let changed : c.match-self.first_not_boot ≡ option_map (λ l. take 16 (c.args.step ∷ l)) c.args.self.now.first_not_boot = elim c.match-self.branch [
      | in-Some w ↦ w.first_not_boot-is ∙ ap (λ (l : List ℕ). Some l) w.prefixed.ensures ∙ ap (option_map (λ l. take 16 (c.args.step ∷ l))) (sym w.in-Some.is)
      | in-None w ↦ w.first_not_boot-is ∙ ap (option_map (λ l. take 16 (c.args.step ∷ l))) (sym w.in-None.is)
    ] in
    ap (with_schedule c.args.self.now) changed ∙ cut_prefixed c.args.step c.args.self.now a is
