use Rattle.std.specs.Prelude.{◌≡◌, ◌+◌, ◌*◌, ◌≤◌, ◌∷◌, ◌++◌, length, get_or, take}
use Rattle.mc_start.specs.Start.{schedule_text}
use Rattle.mc_start.proofs.schedule.Schedule.put_into.Given as goal

abbrev pub invariant-loop-cut : goal.invariant-loop-cut
invariant-loop-cut l =
    (l.line ≡ l.fn.line ++ schedule_text (get_or l.self 0 0 ∷ take l.cut-index l.rest)) × (length l.line ≤ length l.fn.line + 10 + 11 * l.cut-index)
