use Rattle.std.proofs.Common.{◌∙◌}
use Rattle.mc_boot.proofs.Plans.{begun_resumed, begun_new}
use Rattle.mc_boot.proofs.boot.Boot.begin.Goals as goal
use Rattle.mc_boot.specs.Plan.{powered}

pub returns-then-resumes_by-clause-progress : goal.returns-then-resumes_by-clause-progress
returns-then-resumes_by-clause-progress g c =
    c.resumed_boot.ensures.progress
    ∙ begun_resumed (powered c.args.rules (g.F.Flash.seen c.args.flash.now)) c.read-primary.result c.read-secondary.result c.resumes_by.result
    c.read-primary.ensures c.read-secondary.ensures c.resumes_by.ensures c.if-resumes_by.true

pub returns-else-resumes_by-clause-progress : goal.returns-else-resumes_by-clause-progress
returns-else-resumes_by-clause-progress g c =
    c.new_boot.ensures.progress
    ∙ begun_new (powered c.args.rules (g.F.Flash.seen c.args.flash.now)) c.read-primary.result c.read-secondary.result c.resumes_by.result c.swap_type-kind.result
    c.read-primary.ensures c.read-secondary.ensures c.resumes_by.ensures c.if-resumes_by.false c.swap_type-kind.ensures.value
