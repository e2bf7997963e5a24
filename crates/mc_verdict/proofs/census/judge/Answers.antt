use Rattle.mc_verdict.proofs.Judging.{is_verdict}
use Rattle.mc_verdict.proofs.census.judge.Goals as goal

pub returns : goal.returns
returns g c = λ e rows census rights.
    is_verdict g.X.Subject.subject.ends e rows c.args.counts.now.rights _ _ _ _ _ c.verdict.result (c.each_boots-boots.ensures rows census)
    (c.right_if_asked-right.ensures e rows rights) c.verdict.ensures
