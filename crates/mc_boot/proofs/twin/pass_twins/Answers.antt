use Rattle.std.proofs.Common.{Some, ap, refl, subst, sym, ◌*◌, ◌≡◌, ◌∙◌}
use Rattle.mc_boot.proofs.Twins.{copies_twin}
use Rattle.mc_boot.specs.{Boot.{Progress, progress, to_come}, Copies.{whole_copy}, Twins.{ErasesFirst}, facts.Leaps.{all_copies, leap_comes, leap_counts, leap_out, leap_spent}}
use Rattle.mc_flash.specs.{Flash.{CanTry, apply}, Geometry.{Geometry, IsLayout}, facts.Done.{did}}
use Rattle.mc_boot.proofs.twin.pass_twins.Goals as goal

pub returns-in-Ok-true-clause-goes : goal.returns-in-Ok-true-clause-goes
returns-in-Ok-true-clause-goes g c =
    let e = c.in-Ok-true.ensures in
    let leaps = rw c.in-Ok-true.field-0-test at e.leaps in
    let copies = c.in-Some.copies in
    let are = all_copies _ c.args.most copies c.in-Some.ensures.copies in
    record {
      come = λ r s. leap_comes copies (progress c.args.cut.now) (progress c.leap.new.self) _ _ are leaps _ refl;
      layout = rw (sym e.keeps.geometry) at (e.layout _ c.requires.layout);
      whole = e.whole;
      keeps = e.keeps;
    }

pub returns-in-Ok-true-clause-counts : goal.returns-in-Ok-true-clause-counts
returns-in-Ok-true-clause-counts g c =
    let leaps = rw c.in-Ok-true.field-0-test at c.in-Ok-true.ensures.leaps in
    let copies = c.in-Some.copies in
    leap_counts copies (progress c.args.cut.now) (progress c.leap.new.self) _ _ (all_copies _ c.args.most copies c.in-Some.ensures.copies) leaps

pub returns-in-Ok-true-clause-passed : goal.returns-in-Ok-true-clause-passed
returns-in-Ok-true-clause-passed g c =
    let leaps = rw c.in-Ok-true.field-0-test at c.in-Ok-true.ensures.leaps in
    let copies = c.in-Some.copies in
    record {
      at_most = c.in-Some.ensures.copies.at_most;
      count_is = ap (λ (p : Progress). p.count) leaps.0;
      spent = leap_spent copies (progress c.args.cut.now) (progress c.leap.new.self) _ _ (all_copies _ c.args.most copies c.in-Some.ensures.copies) leaps;
    }

pub returns-in-Ok-true-clause-twins : goal.returns-in-Ok-true-clause-twins
returns-in-Ok-true-clause-twins g c = λ x j same sized come start some le.
    let old = g.F.Flash.seen c.args.flash.now in
    let new = g.F.Flash.seen c.leap.new.flash in
    let leaps = rw c.in-Ok-true.field-0-test at c.in-Ok-true.ensures.leaps in
    let copies = c.in-Some.copies in
    let op = whole_copy copies copies.count in
    let here = c.layout.ensures ∙ sym same in
    let ok : IsLayout x.geometry = subst IsLayout here c.unit-unit.ensures.valid in
    let can = subst (λ (y : Geometry). CanTry y op) (sym same) leaps.3 in
    let made = subst (λ (y : Geometry). apply y op old.content ≡ Some new.content) (sym same) (did op old new leaps.1.0).applied in
    let erases = subst (λ (p : Progress). ErasesFirst x.geometry p.to_come copies.to copies.offset (copies.count * copies.len)) start
    (subst (λ (y : Geometry). ErasesFirst y (to_come c.args.next.now) copies.to copies.offset (copies.count * copies.len)) here (c.if-not-erases_first.ensures refl)) in
    copies_twin x (progress c.args.cut.now) old.content ok sized come copies new.content can (all_copies _ c.args.most copies c.in-Some.ensures.copies) made erases j some le

pub returns-in-Err-clause-out : goal.returns-in-Err-clause-out
returns-in-Err-clause-out g c =
    let copies = c.in-Some.copies in
    leap_out copies (progress c.args.cut.now) (progress c.leap.new.self) _ _ (all_copies _ c.args.most copies c.in-Some.ensures.copies) _ c.in-Err.ensures.leaps c.requires.room
