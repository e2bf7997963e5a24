use Rattle.std.proofs.Common.{arith, refl}
use Rattle.std.proofs.lemmas.Bool.Decides.{nat_tests}
use Rattle.mc_options.proofs.layout_file.setting_of.Goals as goal

pub returns-in-None-clause-refused : goal.returns-in-None-clause-refused
returns-in-None-clause-refused c =
    let none = c.option_in.ensures in
    let said = c.said_in-said.ensures in
    let some = c.if-is_empty.false in
    (refl, ((λ blank. absurd (grind (arith, nat_tests))), λ option value gives. (rw c.in-None.is at none) option value gives.0 (rw said gives.1)))
