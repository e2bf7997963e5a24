use Rattle.mc_verdict.proofs.Judging.{is_verdict}
use Rattle.mc_verdict.proofs.explore.judge.Goals as goal

pub returns : goal.returns
returns g c = λ e page tally rights.
    is_verdict g.X.Subject.subject.ends e page.rows c.args.rights.now _ _ _ _ _ c.verdict.result (c.all_boot-boots.ensures page tally)
    (c.right_if_asked-right.ensures e page.rows rights) (rw (c.is_whole.ensures page tally) at c.verdict.ensures)
