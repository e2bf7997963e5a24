use Rattle.std.proofs.Common.{get_or, ◌+◌, ℕ, true, false, refl, ap, subst, arith}
use Rattle.mc_boot.specs.Plan.{powered}
use Rattle.mc_life.specs.Device.{Cuts}
use Rattle.mc_life.proofs.Booting.{cut_fails, cut_more}
use Rattle.mc_life.proofs.boots.cut_all.Goals as goal

pub cuts-preserved : goal.cuts-preserved
cuts-preserved g c =
    let x = powered c.args.rules (g.F.Flash.seen c.args.flash.now) in
    let i = c.cuts.invariant in
    let e = c.in_ok-cut.ensures in
    let f = g.F.Flash.seen c.cuts.flash in
    let h = g.F.Flash.seen c.cut.new.flash in
    let cuts : Cuts (powered c.args.rules f) (get_or c.args.cuts.now c.cuts.count-index 0) true h.content = subst (λ b. Cuts (powered c.args.rules f)
    (get_or c.args.cuts.now c.cuts.count-index 0) b h.content) c.if-not-branch.false e.cuts in
    record {
      are = cut_more x c.args.cuts.now c.cuts.count-index c.args.wear.now c.cuts.wear f i.are (omega arith) _ refl h c.cut.new.wear cuts e.layout (e.wear c.if-not-branch.false);
      number = ap (λ (n : ℕ). n + 1) i.number;
    }

pub returns-then-not-branch-clause-refused : goal.returns-then-not-branch-clause-refused
returns-then-not-branch-clause-refused g c =
    let x = powered c.args.rules (g.F.Flash.seen c.args.flash.now) in
    let i = c.cuts.invariant in
    let e = c.in_ok-cut.ensures in
    let f = g.F.Flash.seen c.cuts.flash in
    let h = g.F.Flash.seen c.cut.new.flash in
    let cuts : Cuts (powered c.args.rules f) (get_or c.args.cuts.now c.cuts.count-index 0) false h.content = subst (λ b. Cuts (powered c.args.rules f)
    (get_or c.args.cuts.now c.cuts.count-index 0) b h.content) c.if-not-branch.true e.cuts in
    cut_fails x c.args.cuts.now c.cuts.count-index c.args.wear.now c.cuts.wear f i.are (omega arith) _ c.cuts.number refl i.number cuts
