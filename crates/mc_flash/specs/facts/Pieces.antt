-- The layout by the pieces in which a sector is copied is one, too.
use Rattle.std.proofs.Math.Nat.{mod_self}
use Rattle.std.specs.Prelude.{length, ℕ, ◌<◌}
use Rattle.mc_flash.specs.{Flash.{CanTry, IsRange, sectors_of}, Geometry.{Geometry, IsLayout, in_pieces}, declared.flash.Grain.{Grain}, declared.op.Op.{Op}}
use Rattle.mc_flash.specs.{declared.op.Op.TheVariants.{Copy, Erase, Program}, declared.op.Slot.{Slot}, declared.op.Slot.TheVariants.{Primary, Secondary}}
use Rattle.mc_flash.specs.facts.Layouts.{small_unit, whole_sector}
use Rattle.mc_flash.specs.declared.flash.Grain.TheVariants as grains

pub pieces_layout : (c : Grain) (g : Geometry) → IsLayout g → IsLayout (in_pieces c g)
pieces_layout grains.Call g ok = ok
pieces_layout grains.Unit g ok = record {
  unit = ok.unit;
  least_sector = ok.least_sector;
  greatest_sector = ok.greatest_sector;
  sector = ok.sector;
  some_chunk = (small_unit g ok).0;
  chunk_units = mod_self g.unit;
  sector_chunks = whole_sector g ok;
  some_sectors = ok.some_sectors;
  few_sectors = ok.few_sectors;
  some_secondary = ok.some_secondary;
  counts = ok.counts;
  size = ok.size;
  room = ok.room;
}
