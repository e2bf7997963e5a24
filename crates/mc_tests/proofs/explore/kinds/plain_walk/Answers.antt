use Rattle.std.proofs.Common.{arith, subst, sym, true}
use Rattle.mc_explore.specs.{facts.BootRoom.{clear_one}, inner.OneRound.{begins, one_round, one_round_is}}
use Rattle.mc_start.specs.Start.{begun}
use Rattle.mc_walk.specs.Walks.{IsFresh}
use Rattle.mc_tests.specs.declared.explore.plain.Plain.{Plain}
use Rattle.mc_tests.proofs.explore.kinds.plain_walk.Goals as goal

pub start-requires : goal.start-requires
start-requires c =
    let loads = rw (c.layout.ensures.value, c.primary-primary.ensures.value, c.secondary-secondary.ensures.value, c.rules-grain.ensures) at c.in_ok-flash.ensures.loads in
    rw one_round_is (clear_one (begun c.args.start.now) true 2 3 _ loads (omega arith))

pub returns-clause-fresh : goal.returns-clause-fresh
returns-clause-fresh c =
    subst (λ (t : Plain). IsFresh (one_round (begins t.boots)) c.in_ok-walk.walk) (sym c.in_ok-walk.ensures.of.flash_tree_is) c.in_ok-walk.ensures.fresh
