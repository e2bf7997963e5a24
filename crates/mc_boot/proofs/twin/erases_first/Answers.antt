use Rattle.std.proofs.Common.{Some, arith, slice_get, subst, ◌≡◌}
use Rattle.mc_boot.specs.Boot.{to_come}
use Rattle.mc_flash.specs.{declared.op.Op.TheVariants.{Erase}, declared.op.Slot.{Slot}}
use Rattle.mc_boot.proofs.twin.erases_first.Goals as goal

pub returns : goal.returns
returns c = λ is.
    let a = c.in-Some-Erase in
    let same : a.first ≡ c.args.slot = grind arith in
    let here : slice_get (to_come c.args.boot.now) 0 ≡ Some (Erase a.first a.sector) = cc in
    let first = subst (λ (s : Slot). slice_get (to_come c.args.boot.now) 0 ≡ Some (Erase s a.sector)) same here in
    let lie = c.lie_in_data.ensures in
    record { sector = a.sector; first = first; below = lie.data is; from = lie.from is; to = lie.to is }
