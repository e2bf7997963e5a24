use Rattle.std.proofs.Common.{ap, sym, ◌∙◌}
use Rattle.std.specs.Option.{option_copied}
use Rattle.mc_explore.proofs.last_cuts.is_told_last.Goals as goal

pub returns-in-Some : goal.returns-in-Some
returns-in-Some c = λ yes.
    (c.in-Some.run'.now, rw c.deref.ensures.value at (sym c.last.ensures.value ∙ ap option_copied c.in-Some.is), c.is_same.ensures yes)
