-- The room of a flash that was loaded for so many boots.
use Rattle.std.specs.Prelude.{ℕ, ◌+◌, ◌*◌, ◌≤◌}
use Rattle.mc_flash.specs.{Geometry.{Geometry}, Usage.{Limits, IsWithin, limits_for, most_operations, most_saved}, declared.flash.Grain.{Grain}}

pub record AreLimits (grain : Grain) (g : Geometry) (boots : ℕ) (limits : Limits) : Type 0 where
  pub for_entries : boots * most_operations grain g ≤ limits.entries
  pub for_saved : boots * most_saved g ≤ limits.saved
  pub for_checkpoints : boots + 1 ≤ limits.checkpoints

pub limits_are : (grain : Grain) (g : Geometry) (boots : ℕ) (limits : Limits) → IsWithin (limits_for grain g boots) limits → AreLimits grain g boots limits
unfolding limits_for
limits_are grain g boots limits within = record { for_entries = within.entries; for_saved = within.saved; for_checkpoints = within.checkpoints }
