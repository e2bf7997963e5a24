use Rattle.std.proofs.Common.{sym, ◌∙◌, arith}
use Rattle.mc_trailer.specs.facts.Entries.{greatest_at}
use Rattle.mc_trailer.proofs.entries.highest_entry.Goals as goal

pub returns-then-is_written-clause-value : goal.returns-then-is_written-clause-value
returns-then-is_written-clause-value g c =
    sym (greatest_at _ _ _ (omega (arith, c.without_blank_end-entry.ensures.at_most)) (sym c.is_written.ensures ∙ c.if-is_written.true)
    (λ e over below. c.loop-entry.invariant e (omega (arith, over)) below))
