use Rattle.std.proofs.Common.{◌≡◌, List, ℕ, Some, option_map, sym, ap, ◌∙◌}
use Rattle.mc_start.specs.Start.{lowered}
use Rattle.mc_explore.proofs.Counting.{cut_lowered, with_schedule}
use Rattle.mc_explore.proofs.census.CensusOf+Schedule.first_lowered.Goals as goal
use Rattle.mc_explore.proofs.census.CensusOf+Schedule.first_lowered.Goals.{in-Some, in-None}

pub returns : goal.returns
returns c = λ a is.
    let changed : c.match-self.first_not_boot ≡ option_map (lowered c.args.children) c.args.self.now.first_not_boot = elim c.match-self.branch [
      | in-Some w ↦ w.first_not_boot-is ∙ ap (λ (l : List ℕ). Some l) w.first_lowered.ensures ∙ ap (option_map (lowered c.args.children)) (sym w.in-Some.is)
      | in-None w ↦ w.first_not_boot-is ∙ ap (option_map (lowered c.args.children)) (sym w.in-None.is)
    ] in
    ap (with_schedule c.args.self.now) changed ∙ cut_lowered c.args.children c.args.self.now a is
