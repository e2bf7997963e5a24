use Rattle.std.proofs.{Common.{refl}, lemmas.List.{get_or_read_under}}
use Rattle.mc_campaign.proofs.Along.{along_more, none_there, stops_there}
use Rattle.mc_explore.proofs.CutsAlong.{is_none}
use Rattle.mc_campaign.proofs.campaign_path.follow.Goals as goal

pub returns-in_default-clause-follows : goal.returns-in_default-clause-follows
returns-in_default-clause-follows g c =
    let cuts = c.cuts-cut-items.ensures.value in
    let inside = rw cuts at c.loop-cut-test.true in
    let cut = get_or_read_under _ _ _ _ (0, 0) c.cut-item.is c.loop-cut-test.true refl in
    none_there c.args.campaign.now c.args.confirms c.args.walk.now c.loop-cut.cut-index c.loop-cut.walk c.loop-cut.invariant inside
    c.summary.result.now c.summary.ensures c.child_of.result (rw (cut, cuts) at c.child_of.ensures) c.requires.valid c.requires.rounds (is_none c.child_of.result c.in_default.not-Some)

pub returns-then-not-branch-clause-follows : goal.returns-then-not-branch-clause-follows
returns-then-not-branch-clause-follows g c =
    let cuts = c.cuts-cut-items.ensures.value in
    let inside = rw cuts at c.loop-cut-test.true in
    let cut = get_or_read_under _ _ _ _ (0, 0) c.cut-item.is c.loop-cut-test.true refl in
    stops_there c.args.campaign.now c.args.confirms c.args.walk.now c.loop-cut.cut-index c.loop-cut.walk c.loop-cut.invariant inside
    c.summary.result.now c.summary.ensures c.child_of.result (rw (cut, cuts) at c.child_of.ensures) c.requires.valid c.requires.rounds
    c.in-Some.number c.in_ok-go_down.field-0 c.go_down.new.self c.in-Some.is c.if-not-branch.true c.in_ok-go_down.ensures.step

pub loop-cut-preserved : goal.loop-cut-preserved
loop-cut-preserved g c =
    let cuts = c.cuts-cut-items.ensures.value in
    let inside = rw cuts at c.loop-cut-test.true in
    let cut = get_or_read_under _ _ _ _ (0, 0) c.cut-item.is c.loop-cut-test.true refl in
    along_more c.args.campaign.now c.args.confirms c.args.walk.now c.loop-cut.cut-index c.loop-cut.walk c.loop-cut.invariant inside
    c.summary.result.now c.summary.ensures c.child_of.result (rw (cut, cuts) at c.child_of.ensures) c.requires.valid c.requires.rounds
    c.in-Some.number c.in_ok-go_down.field-0 c.go_down.new.self c.in-Some.is c.if-not-branch.false c.in_ok-go_down.ensures.step
    (record { limits = c.in_ok-go_down.ensures.spends.limits; failed = c.in_ok-go_down.ensures.spends.failed })
