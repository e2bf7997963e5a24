use Rattle.mc_start.specs.Start.{begun}
use Rattle.mc_vectors.proofs.Arrived.{arrived, stands_below}
use Rattle.mc_vectors.proofs.search.walk_to.Goals as goal

pub returns-clause-at : goal.returns-clause-at
returns-clause-at g c =
    let l = c.in_ok-walk.ensures.loaded in
    arrived (begun c.args.start.now) c.args.schedule.now c.cuts-cuts.result.now c.in_ok-walk.walk c.begin.new.self c.follow.new.self c.in_ok-begin.field-0 l.start_is l.bound_is
    c.cuts-cuts.ensures.value c.requires.few c.requires.occurs c.in_ok-begin.ensures.begins c.in_ok-follow.field-0 c.in_ok-follow.ensures.step

pub returns-clause-more : goal.returns-clause-more
returns-clause-more g c =
    let l = c.in_ok-walk.ensures.loaded in
    stands_below (begun c.args.start.now) c.args.schedule.now c.cuts-cuts.result.now c.in_ok-walk.walk c.begin.new.self c.follow.new.self c.in_ok-begin.field-0 l.start_is l.bound_is
    c.cuts-cuts.ensures.value c.requires.few c.requires.occurs c.in_ok-begin.ensures.begins c.in_ok-follow.field-0 c.in_ok-follow.ensures.step
