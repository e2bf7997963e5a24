-- What follows for an image that confirms itself. Proved here, so that the crates above can cite it.
use Rattle.std.specs.Prelude.{◌≡◌, Bool, true, false, if◌then◌else◌, Some, None, Result, Ok, Err, OnOk, IfErr}
use Rattle.std.proofs.Common.{arith, sym, ap, ◌∙◌}
use Rattle.mc_flash.specs.{Flash.{apply, Content, put, with_bytes}, facts.Done.{did, does_keep, undefined}, Geometry.{Geometry, IsLayout}}
use Rattle.mc_flash.specs.{Usage.{no_counts, Seen, Does, Keeps, Allows, LeaveRoom, Spends, plus}, facts.Spends.{done_notes}}
use Rattle.mc_flash.specs.declared.flash.FlashError.{FlashError}
use Rattle.mc_flash.specs.declared.flash.FlashError.TheVariants as errors
use Rattle.mc_flash.specs.declared.op.Slot.TheVariants.{Primary}
use Rattle.mc_trailer.specs.Trailer.{one_unit, place}
use Rattle.mc_trailer.specs.declared.places.Field.TheVariants as field
use Rattle.mc_boot.specs.{Restart.{Confirms, confirmed, may_confirm, one_write}, Plan.{image_ok_write}}

-- Where image-ok may be written its write is defined, and it leaves the confirmed content.
pub confirm_defined : (g : Geometry) (s : Content) → IsLayout g → may_confirm g s ≡ true → apply g (image_ok_write g Primary) s ≡ Some (confirmed g s)
unfolding apply confirmed
confirm_defined g s ok may = grind arith

pub confirm_stays : (g : Geometry) (s : Content) → may_confirm g s ≡ false → confirmed g s ≡ s
unfolding confirmed
confirm_stays g s may = ap (λ (c : Bool). if c then with_bytes s Primary (put s.primary (place g Primary field.ImageOk) (one_unit g 1)) else s) may

module _ (old new : Seen) (ok : IsLayout old.geometry) where
  -- The write is not refused.
  pub confirm_fails : (e : FlashError) → may_confirm old.geometry old.content ≡ true → Does (image_ok_write old.geometry Primary) old (Err e) new → Confirms old (Err e) new
  confirm_fails errors.Memory may does = (may, does)
  confirm_fails errors.NotErased may does =
      let not_so : None ≡ Some (confirmed old.geometry old.content) = sym (undefined (image_ok_write old.geometry Primary) old does.0) ∙ confirm_defined old.geometry old.content ok may in
      absurd cc

  pub confirms_content : (result : Result Bool FlashError) → Confirms old result new → OnOk result (new.content ≡ confirmed old.geometry old.content)
  confirms_content it c = grind (arith, did, confirm_defined, confirm_stays)

module _ (old new : Seen) where
  pub confirms_err : (result : Result Bool FlashError) → Confirms old result new → IfErr result (λ e. (e ≡ errors.Memory) × (new.content ≡ old.content))
  confirms_err it c = grind arith

  pub confirms_keeps : (result : Result Bool FlashError) → Confirms old result new → Keeps old new
  confirms_keeps (Ok true) c = does_keep (image_ok_write old.geometry Primary) old new (Ok tt) c.1
  confirms_keeps (Ok false) c = let same = c.1 in record { geometry = ap (λ (f : Seen). f.geometry) same; checkpoints = ap (λ (f : Seen). f.checkpoints) same }
  confirms_keeps (Err errors.Memory) c = does_keep (image_ok_write old.geometry Primary) old new (Err errors.Memory) c.1
  confirms_keeps (Err errors.NotErased) c = absurd c

  pub confirms_counts : (result : Result Bool FlashError) → Confirms old result new → LeaveRoom new.usage.counts no_counts (plus old.usage.counts one_write)
  confirms_counts it c = grind (arith, done_notes)

  pub confirms_spends : (result : Result Bool FlashError) → Confirms old result new → Allows one_write old → Spends 1 old result new
  confirms_spends it c room = grind (arith, done_notes)
