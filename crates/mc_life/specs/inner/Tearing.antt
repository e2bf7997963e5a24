-- What is done to a flash where an operation is torn that can be read so.
use Rattle.std.specs.Prelude.{Bool, false, true, ◌≡◌}
use Rattle.mc_flash.specs.{Usage.{HasRoom, Seen, Stays}, declared.op.Op.{Op}}
use Rattle.mc_tear.specs.{Cases.{is_case, torn}, declared.reading.Reading.{Reading}, declared.torn.Erasing.{Erasing}, inner.Room.{tear_counts}}

-- The reading is a case of the operation, and the flash is that of it; or it is none, and all stays.
pub record Puts (e : Erasing) (op : Op) (r : Reading) (old new : Seen) (is : Bool) : Type 0 where
  pub case : is ≡ is_case e old.geometry op old.content r
  pub geometry : new.geometry ≡ old.geometry
  pub put : is ≡ true → new.content ≡ torn e old.geometry op old.content r
  pub stays : is ≡ false → Stays old new × HasRoom (tear_counts old.geometry) new
