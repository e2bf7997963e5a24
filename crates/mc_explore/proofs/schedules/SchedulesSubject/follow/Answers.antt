use Rattle.mc_explore.specs.facts.Following.{cheap, follows_schedule}
use Rattle.mc_explore.proofs.schedules.SchedulesSubject.follow.Goals as goal

pub returns-clause-follows : goal.returns-clause-follows
returns-clause-follows g c =
    follows_schedule c.args.walk.now c.follow.new.self c.args.key.now c.requires.root c.requires.rounds c.in_ok-went.went (rw c.cuts.ensures.value at c.in_ok-went.ensures.step)

pub returns-clause-cheap : goal.returns-clause-cheap
returns-clause-cheap g c =
    cheap c.args.walk.now c.follow.new.self c.args.key.now c.requires.root c.requires.rounds c.requires.valid c.in_ok-went.went (rw c.cuts.ensures.value at c.in_ok-went.ensures.step)
    (rw c.cuts.ensures.value at c.in_ok-went.ensures.spends)
