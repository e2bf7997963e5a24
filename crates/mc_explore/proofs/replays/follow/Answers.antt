use Rattle.std.proofs.Common.{length, refl, ap, ◌∙◌}
use Rattle.mc_explore.proofs.Walks.{followed, stops}
use Rattle.mc_explore.proofs.replays.follow.Goals as goal

pub returns-then-not-branch-clause-refused : goal.returns-then-not-branch-clause-refused
returns-then-not-branch-clause-refused g c =
    stops _ _ _ _ _ _ _ _ c.requires.loaded c.in_ok-begin.ensures.begins c.in_ok-follow.field-0 c.if-not-branch.true c.in_ok-follow.ensures.step refl c.len.result
    (c.len.ensures.value ∙ ap length c.path.ensures)

pub returns-clause-followed : goal.returns-clause-followed
returns-clause-followed g c =
    followed _ _ _ _ _ _ _ _ c.requires.loaded c.in_ok-begin.ensures.begins c.in_ok-follow.field-0 c.if-not-branch.false c.in_ok-follow.ensures.step c.in_ok-begin.ensures.spends
    c.in_ok-follow.ensures.spends

pub begin-requires : goal.begin-requires
begin-requires g c = c.requires.loaded.fresh

pub follow-requires : goal.follow-requires
follow-requires g c = c.in_ok-begin.ensures.begins.stands

pub returns-clause-summary : goal.returns-clause-summary
returns-clause-summary g c = c.summary-summary.ensures
