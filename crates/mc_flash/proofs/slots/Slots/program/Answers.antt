use Rattle.std.proofs.Common.{◌≡◌, None, refl, sym}
use Rattle.std.specs.Prelude.{Option, Err}
use Rattle.mc_flash.specs.{Flash.{Becomes, Content}, declared.flash.FlashError.TheVariants.{NotErased}}
use Rattle.mc_flash.proofs.Undo.{program_refused}
use Rattle.mc_flash.proofs.slots.Slots.program.Goals as goal

refused : (given : Option Content) (s : Content) → given ≡ None → Becomes given (Err NotErased) s s
refused given s none = rw none refl

pub returns-then-not-is_blank-clause-does : goal.returns-then-not-is_blank-clause-does
returns-then-not-is_blank-clause-does c =
    let w = c.args.self.now in
    refused _ w.content (program_refused w.layout w.content w.content c.args.slot c.args.offset c.args.bytes.now (sym c.if-not-is_blank.ensures))
