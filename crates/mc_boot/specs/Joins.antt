-- How many erases a course begins with, and a boot that was cut.
use Rattle.std.specs.Prelude.{Some, if◌then◌else◌, length, ℕ, ◌*◌, ◌+◌, ◌<◌, ◌==◌, ◌≡◌}
use Rattle.mc_boot.specs.{Boot.{HasCome, IsBootOf, all_of, progress}, Outcome.{Report, ops_of, outcome_of}, Plan.{PowerOn, plan}, declared.boot.Boot.{Boot}}
use Rattle.mc_boot.specs.{declared.course.Course.{Course}, declared.course.Opening.{Opening}, declared.course.Opening.TheVariants.{New, Resumed}}
use Rattle.mc_flash.specs.{Flash.{Content, IsSized}, Geometry.{Geometry, trailer_sectors}}

-- How many erases a course of n sectors begins with that begins so, before it writes in their sectors: of a trailer, and of the
-- sector that a transfer copies to. After the last transfer none.
abbrev pub erases_at : Geometry → ℕ → Opening → ℕ
erases_at g n (New kind size) = trailer_sectors g
erases_at g n (Resumed first erases image_ok) =
    if first == 3 * n then 0 else (if erases then trailer_sectors g else 0) + 1

abbrev pub erases_of : Course → ℕ
erases_of b = erases_at b.layout b.sectors b.opening

-- A boot that was cut, and what it would have done.

-- A boot of s has come to where its flash holds u, and not yet to its end; uncut it would end with that outcome. Of s no more
-- is known than the length of its slots.
pub record IsCut (x : PowerOn) (u : Content) (b : Boot) (whole : Report) : Type 0 where
  pub sized : IsSized x.geometry x.content
  pub layout : IsBootOf x.geometry b
  pub list : all_of b ≡ (plan x).list
  pub come : HasCome x (progress b) u
  pub early : b.done < length (ops_of x)
  pub outcome : outcome_of x ≡ Some whole
