-- Cuts one operation apart after which the same boot begins.
use Rattle.std.specs.Prelude.{List, Some, slice_get, suc, ℕ, ◌*◌, ◌+◌, ◌<◌, ◌≡◌, ◌≤◌}
use Rattle.mc_boot.specs.{Boot.{Progress}, Outcome.{at, ops_of, outcome_of}, Plan.{PowerOn, again, plan}}
use Rattle.mc_flash.specs.{Flash.{Content, IsSized}, Geometry.{Geometry}, Usage.{Seen, Spent}, declared.op.Op.{Op}, declared.op.Op.TheVariants.{Erase}}
use Rattle.mc_flash.specs.{declared.op.Slot.{Slot}, facts.Layouts.{data_sectors}}

-- Where the power comes on, the same boot begins. It leaves the same from its first operation on, and has the same outcome.
pub record BeginAlike (x y : PowerOn) : Type 0 where
  pub plan_is : plan x ≡ plan y
  pub ops_are : ops_of x ≡ ops_of y
  pub later : (i : ℕ) → at x (suc i) ≡ at y (suc i)
  pub outcome_is : outcome_of x ≡ outcome_of y

-- So it is at u, and after so many operations of the boot from x.
pub record HasTwin (x : PowerOn) (u : Content) (done : ℕ) : Type 0 where
  pub twin : Content
  pub twin_is : at x done ≡ Some twin
  pub sized : IsSized x.geometry twin
  pub alike : BeginAlike (again x u) (again x twin)

-- A boot went on by so many operations, at most that many, and spent no more.
pub record HasPassed (most : ℕ) (p : Progress) (old : Seen) (count : ℕ) (q : Progress) (new : Seen) : Type 0 where
  pub at_most : count ≤ most
  pub count_is : q.count ≡ p.count + count
  pub spent : Spent count old new

-- The first of some operations erases a sector that holds no trailer, and in which these bytes of the slot lie.
pub record ErasesFirst (g : Geometry) (ops : List Op) (slot : Slot) (offset len : ℕ) : Type 0 where
  pub sector : ℕ
  pub first : slice_get ops 0 ≡ Some (Erase slot sector)
  pub below : sector < data_sectors g slot
  pub from : sector * g.sector ≤ offset
  pub to : offset + len ≤ sector * g.sector + g.sector
