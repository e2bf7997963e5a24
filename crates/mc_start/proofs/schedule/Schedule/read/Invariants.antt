use Rattle.std.specs.{Prelude.{◌≡◌, ℕ, List, ◌++◌, length, decimal}, Str.{IsUtf8}}
use Rattle.mc_start.specs.Start.{IsSchedule, schedule_text}
use Rattle.mc_output.specs.facts.Reading.{beyond, IsLeft}
use Rattle.mc_start.proofs.schedule.Schedule.read.Given as goal

abbrev pub invariant-cuts : goal.invariant-cuts
invariant-cuts l = record {
  utf8 : IsUtf8 l.rest;
  valid : IsSchedule l.schedule;
  text : l.fn.text ≡ beyond 46 decimal l.schedule ++ l.rest;
  left : (m : List ℕ) → IsSchedule m → l.fn.text ≡ schedule_text m → IsLeft 46 decimal l.schedule m l.rest;
}

abbrev pub decreases-cuts : goal.decreases-cuts
decreases-cuts l = length l.rest
