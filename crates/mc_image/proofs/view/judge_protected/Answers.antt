use Rattle.std.proofs.{Common.{◌≡◌, [], false, true, refl}, lemmas.Bool.{ne_eqb}}
use Rattle.mc_image.specs.Valid.{is_bad_area, protected_fault}
use Rattle.mc_image.proofs.view.judge_protected.Goals as goal

pub returns-then-header-eq0 : goal.returns-then-header-eq0
unfolding protected_fault
returns-then-header-eq0 c bytes is area = rw (← is.protected, c.if-header-eq0.true) refl

pub returns-then-is_bad : goal.returns-then-is_bad
unfolding protected_fault
returns-then-is_bad c bytes is area =
    let bad : true ≡ is_bad_area 0x6908 c.args.area.now = c.if-is_bad.ensures c.args.area.now (c.feed.ensures [] c.new.ensures) c.requires in
    rw (← is.protected, ne_eqb c.args.header.now.protected 0 c.if-header-eq0.false, ← area, ← bad) refl

pub returns : goal.returns
unfolding protected_fault
returns c bytes is area =
    let good : false ≡ is_bad_area 0x6908 c.args.area.now = c.if-is_bad.ensures c.args.area.now (c.feed.ensures [] c.new.ensures) c.requires in
    rw (← is.protected, ne_eqb c.args.header.now.protected 0 c.if-header-eq0.false, ← area, ← good) refl
