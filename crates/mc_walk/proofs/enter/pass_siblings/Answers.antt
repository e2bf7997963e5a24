use Rattle.std.proofs.Common.{◌-◌, ap, arith, ◌∙◌}
use Rattle.mc_flash.specs.facts.Spends.{mark_spends, ran_out_later}
use Rattle.mc_walk.proofs.Steps.{can_pass_twins, has_passed, last_now, last_set, mark_passed}
use Rattle.mc_walk.proofs.enter.pass_siblings.Goals as goal

pub pass_twins-requires : goal.pass_twins-requires
pass_twins-requires g c =
    let k = g.B.FlashTree.model c.args.flash_tree in
    let is = last_now k _ _ _ _ _ (ap (λ z. z - 1) (c.len-end.ensures ∙ c.args.frames.now.ok.0)) c.index_mut-last.ensures.value c.requires.frames_are in
    can_pass_twins k _ _ _ c.requires c.index_mut-last.result.now is c.width.result _ c.width.ensures (omega arith)

pub returns-in_err-mark-clause-out : goal.returns-in_err-mark-clause-out
returns-in_err-mark-clause-out g c =
    let k = g.B.FlashTree.model c.args.flash_tree in
    let h = c.in_ok-count.ensures in
    let is = last_now k _ _ _ _ _ (ap (λ z. z - 1) (c.len-end.ensures ∙ c.args.frames.now.ok.0)) c.index_mut-last.ensures.value c.requires.frames_are in
    let room = mark_passed k _ _ _ c.requires c.index_mut-last.result.now is c.width.result _ c.width.ensures (omega arith) _ _ _ c.pass_twins.new.at h.keeps h.passes h.spends in
    grind (arith, ran_out_later, mark_spends)

pub returns-clause-passes : goal.returns-clause-passes
returns-clause-passes g c =
    let k = g.B.FlashTree.model c.args.flash_tree in
    let h = c.in_ok-count.ensures in
    let index_is = ap (λ z. z - 1) (c.len-end.ensures ∙ c.args.frames.now.ok.0) in
    let is = last_now k _ _ _ _ _ index_is c.index_mut-last.ensures.value c.requires.frames_are in
    has_passed k _ _ _ c.requires c.index_mut-last.result.now is c.width.result _ c.width.ensures (omega arith) _ _ _ c.pass_twins.new.at h.keeps h.passes h.spends _ _ c.in_ok-mark.ensures.1
    (last_set k _ _ _ _ _ index_is c.requires.frames_are)
