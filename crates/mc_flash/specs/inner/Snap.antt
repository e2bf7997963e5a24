-- A flash that keeps copies, as a flash is seen.
use Rattle.std.specs.Prelude.{Bool, List, false, map, ◌*◌, ◌+◌}
use Rattle.mc_flash.specs.{Flash.{Content}, Geometry.{Geometry}, Usage.{Checkpoint, Limits, Seen, most_operations, most_saved, no_counts}}
use Rattle.mc_flash.specs.declared.snap.SnapFlash.{SnapFlash}
use Rattle.mc_flash.specs.declared.flash.Grain.TheVariants as grains

-- a copy, as a marked content
abbrev pub copy_seen : Content → Checkpoint
copy_seen content = record { content = content; counts = no_counts }

-- limits that no number of boots meets, for a flash that does not count
unfoldable pub ample : Geometry → Limits
ample g = record {
  counted = false;
  entries = 32 * (most_operations grains.Call g + most_operations grains.Unit g);
  saved = 32 * most_saved g;
  checkpoints = 33;
}

abbrev pub copies_seen : Geometry → Content → List Checkpoint → Bool → Seen
copies_seen g content checkpoints failed = record {
  geometry = g;
  content = content;
  checkpoints = checkpoints;
  usage = record { counts = no_counts; limits = ample g; applied = 0; failed = failed };
}

abbrev pub snap_seen : SnapFlash → Seen
snap_seen f = copies_seen f.slots.layout f.slots.content (map copy_seen f.checkpoints.items) f.failed
