use Rattle.std.proofs.Common.{sym, subst, ◌∙◌}
use Rattle.std.specs.Str.{IsUtf8}
use Rattle.mc_explore.specs.Survey.{IsRowLine}
use Rattle.mc_explore.proofs.{Bytes.{schedule_utf8}, TornPages.{spaceless, before_space, unread}}
use Rattle.mc_explore.proofs.torn.schedule_of.Goals as goal

pub returns-in_default-clause-none : goal.returns-in_default-clause-none
returns-in_default-clause-none c l = spaceless c.args.line.now l c.in_default.ensures.none

pub returns-in-Ok-clause-none : goal.returns-in-Ok-clause-none
returns-in-Ok-clause-none c =
    let parts = c.in-Some.ensures.some in
    unread c.read.result c.ok.result (λ l. IsRowLine l c.args.line.now) c.ok.ensures.value
    (λ l row. c.read.ensures.only l row.schedule (c.in-Ok.ensures.cases.0 ∙ before_space c.args.line.now c.in-Some.first.now _ l parts.0 parts.1 row))

pub returns-in-Err-clause-none : goal.returns-in-Err-clause-none
returns-in-Err-clause-none c l row =
    let parts = c.in-Some.ensures.some in
    c.in-Err.ensures.cases.0 (subst IsUtf8 (sym (before_space c.args.line.now c.in-Some.first.now _ l parts.0 parts.1 row)) (schedule_utf8 l))
