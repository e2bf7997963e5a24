use Rattle.std.proofs.Common.{rules}
use Rattle.mc_command.proofs.inspect.find_in.Goals as goal

pub returns-in-Ok-clause-found : goal.returns-in-Ok-clause-found
returns-in-Ok-clause-found c =
    record {
      start = c.in_ok-start.start;
      swap = search rules;
      nearest = rw (c.primary-primary.ensures.value, c.secondary-secondary.ensures.value) at c.in-Ok.ensures.nearest;
    }
