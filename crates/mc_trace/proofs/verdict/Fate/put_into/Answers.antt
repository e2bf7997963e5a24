use Rattle.std.proofs.Common.{append_assoc}
use Rattle.mc_trace.specs.Verdict.{fate_text}
use Rattle.mc_trace.proofs.verdict.Fate.put_into.Goals as goal

pub returns-in-NeedsSectors-clause-text : goal.returns-in-NeedsSectors-clause-text
unfolding fate_text
returns-in-NeedsSectors-clause-text c = rw (c.put_number.ensures.text, c.put.ensures.text, c.in-NeedsSectors.is) (append_assoc c.args.line.now _ _)

pub returns-in-NeedsOther-clause-text : goal.returns-in-NeedsOther-clause-text
unfolding fate_text
returns-in-NeedsOther-clause-text c = rw (c.put-in-NeedsOther.ensures.text, c.in-NeedsOther.is)

pub returns-in-Loses-clause-text : goal.returns-in-Loses-clause-text
unfolding fate_text
returns-in-Loses-clause-text c = rw (c.put-in-Loses.ensures.text, c.in-Loses.is)
