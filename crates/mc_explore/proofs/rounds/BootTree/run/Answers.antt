use Rattle.std.proofs.{Common.{◌+◌}, lemmas.Result.{err_from_is_err_and}}
use Rattle.mc_flash.specs.{Usage.{most_operations}, facts.Spends.{ran_out_later, spent_both}}
use Rattle.mc_explore.specs.inner.OneRound.{begins}
use Rattle.mc_explore.proofs.BootSteps.{both_outcomes, second_room, write_room}
use Rattle.mc_explore.proofs.rounds.BootTree.run.Goals as goal

pub returns-clause-summary : goal.returns-clause-summary
returns-clause-summary g c =
    let start = begins c.args.self.now.one_round in
    both_outcomes start c.args.self.now.rounds (g.F.Flash.seen c.args.flash.now) (g.F.Flash.seen c.run.new.flash) (g.F.Flash.seen c.go_between.new.flash)
    c.in_ok-first.first c.in_ok-second.second c.requires.two c.requires.begun.layout_is c.in_ok-first.ensures.counts.keeps.geometry
    c.in_ok-first.ensures.ran.summary_is c.in_ok-first.ensures.ran.left_is
    c.in_ok-go_between.ensures.content c.in_ok-second.ensures.ran.summary_is

pub returns-clause-spends : goal.returns-clause-spends
returns-clause-spends g c =
    let start = begins c.args.self.now.one_round in
    let n = most_operations start.rules.grain start.geometry in
    let h = c.in_ok-first.ensures in
    let write = c.in_ok-go_between.ensures.spends (write_room start _ _ c.requires.room h.counts h.spends.limits) in
    spent_both n (1 + n) _ _ _ h.spends (spent_both 1 n _ _ (g.F.Flash.seen c.run-2.new.flash) write c.in_ok-second.ensures.spends)

pub run-requires-2-clause-room : goal.run-requires-2-clause-room
run-requires-2-clause-room g c =
    let start = begins c.args.self.now.one_round in
    let h = c.in_ok-first.ensures in
    let between = c.in_ok-go_between.ensures in
    let old = g.F.Flash.seen c.args.flash.now in
    let mid = g.F.Flash.seen c.run.new.flash in
    let write = between.spends (write_room start old mid c.requires.room h.counts h.spends.limits) in
    second_room start old mid c.requires.room h.counts h.spends.limits (g.F.Flash.seen c.go_between.new.flash) between.counts write.limits

pub returns-in_err-go_between-clause-spends : goal.returns-in_err-go_between-clause-spends
returns-in_err-go_between-clause-spends g c =
    let start = begins c.args.self.now.one_round in
    let h = c.in_ok-first.ensures in
    let p = err_from_is_err_and c.from_residual-in_err-go_between.result c.from_residual-in_err-go_between.ensures.1 in
    rw p.1 (ran_out_later _ _ _ _ h.spends (c.in_err-go_between.ensures.spends (write_room start _ _ c.requires.room h.counts h.spends.limits)))

pub returns-in_err-second-clause-spends : goal.returns-in_err-second-clause-spends
returns-in_err-second-clause-spends g c =
    let start = begins c.args.self.now.one_round in
    let h = c.in_ok-first.ensures in
    let p = err_from_is_err_and c.from_residual-in_err-second.result c.from_residual-in_err-second.ensures.1 in
    let write = c.in_ok-go_between.ensures.spends (write_room start _ _ c.requires.room h.counts h.spends.limits) in
    rw p.1 (ran_out_later _ _ _ _ h.spends (ran_out_later _ _ _ _ write c.in_err-second.ensures.spends))
