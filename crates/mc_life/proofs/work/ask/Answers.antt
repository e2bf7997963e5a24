use Rattle.std.proofs.{Common.{◌∙◌}, lemmas.Result.{err_from_is_err_and}}
use Rattle.mc_flash.specs.facts.Done.{does_keep}
use Rattle.mc_life.proofs.Going.{both_left, first_fails, magic_keeps, magic_left, second_fails}
use Rattle.mc_life.proofs.work.ask.Goals as goal

pub returns-in_err-write_magic-clause-refused : goal.returns-in_err-write_magic-clause-refused
returns-in_err-write_magic-clause-refused g c =
    let p = err_from_is_err_and c.from_residual.result c.from_residual.ensures.1 in
    rw (p.1, p.2) (first_fails _ _ c.args.request _ c.in_err-write_magic.ensures)

pub returns-in-Test-clause-content : goal.returns-in-Test-clause-content
returns-in-Test-clause-content g c = rw c.in-Test.is (magic_left (g.F.Flash.seen c.args.flash.now) (g.F.Flash.seen c.write_magic.new.flash) c.in_ok-write_magic.ensures)

pub returns-in-Test-clause-layout : goal.returns-in-Test-clause-layout
returns-in-Test-clause-layout g c = magic_keeps (g.F.Flash.seen c.args.flash.now) (g.F.Flash.seen c.write_magic.new.flash) c.in_ok-write_magic.ensures

pub returns-in-Perm-clause-content : goal.returns-in-Perm-clause-content
returns-in-Perm-clause-content g c =
    rw c.in-Perm.is (both_left (g.F.Flash.seen c.args.flash.now) (g.F.Flash.seen c.write_magic.new.flash) c.in_ok-write_magic.ensures
    (g.F.Flash.seen c.write_image_ok.new.flash) c.write_image_ok.result c.write_image_ok.ensures)

pub returns-in-Perm-clause-layout : goal.returns-in-Perm-clause-layout
returns-in-Perm-clause-layout g c =
    (does_keep _ (g.F.Flash.seen c.write_magic.new.flash) (g.F.Flash.seen c.write_image_ok.new.flash) c.write_image_ok.result c.write_image_ok.ensures).geometry
    ∙ magic_keeps (g.F.Flash.seen c.args.flash.now) (g.F.Flash.seen c.write_magic.new.flash) c.in_ok-write_magic.ensures

pub returns-in-Perm-clause-refused : goal.returns-in-Perm-clause-refused
returns-in-Perm-clause-refused g c =
    rw c.in-Perm.is (second_fails (g.F.Flash.seen c.args.flash.now) (g.F.Flash.seen c.write_magic.new.flash) c.in_ok-write_magic.ensures
    (g.F.Flash.seen c.write_image_ok.new.flash) c.write_image_ok.result c.write_image_ok.ensures)
