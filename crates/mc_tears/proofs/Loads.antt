-- What a start that was loaded has room for.
use Rattle.std.proofs.{Common.{ap, arith, subst, sym, ◌∙◌}, Math.Nat.{mul-le-mul_right}}
use Rattle.std.specs.Prelude.{Bool, List, length, ℕ, ◌*◌, ◌+◌, ◌≡◌, ◌≤◌}
use Rattle.mc_boot.proofs.Courses.{some_trailer}
use Rattle.mc_boot.specs.{Plan.{PowerOn}}
use Rattle.mc_explore.specs.{Boots.{at_cut}, declared.one_round.Summary.{Summary}, facts.Occurring.{at_zero}, facts.Summaries.{first_left, first_on}}
use Rattle.mc_explore.specs.inner.OneRound.{HasMade, IsOf, IsSummary, most_of}
use Rattle.mc_flash.specs.{Geometry.{Geometry, IsLayout, greatest_sectors, trailer_sectors}, declared.flash.Grain.{Grain}}
use Rattle.mc_flash.specs.Usage.{Allows, Checkpoint, Counts, HasRoom, Loads, Seen, Usage, limits_for, most_operations, most_saved, no_counts}
use Rattle.mc_flash.specs.declared.flash.Grain.TheVariants as grains
use Rattle.mc_tears.proofs.Ending.{none_made}
use Rattle.mc_tears.specs.inner.Standing.{CanMark, Stands}

-- A boot may make two operations, and save a sector.
two_operations : (grain : Grain) (g : Geometry) → 2 ≤ most_operations grain g
two_operations grains.Call g = omega arith
two_operations grains.Unit g = omega arith

one_saved : (g : Geometry) → IsLayout g → g.sector ≤ most_saved g
one_saved g ok = let some : 1 ≤ 3 * trailer_sectors g + 3 * greatest_sectors g = omega (arith, some_trailer g ok) in omega (arith, mul-le-mul_right g.sector some)

module _ (counted : Bool) (x : PowerOn) (p q : List ℕ) (f : Seen) (l : Loads counted x.geometry p q x.rules.grain 3 f) where
  none_counted : f.usage.counts ≡ no_counts
  none_counted = ap (λ (u : Usage). u.counts) l.usage_is

  none_marked : length f.checkpoints ≡ 0
  none_marked = ap (λ (c : List Checkpoint). length c) l.none

  thrice : Allows (record { entries = 3 * (most_of x).entries; saved = 3 * (most_of x).saved }) f
  unfolding limits_for
  thrice =
      let room = l.room in
      record { entries = omega (arith, ap (λ (c : Counts). c.entries) none_counted, room.entries); saved = omega (arith, ap (λ (c : Counts). c.saved) none_counted, room.saved) }

  pub room_loaded : HasRoom (most_of x) f
  unfolding limits_for
  room_loaded =
      let all = thrice in
      let room = l.room in
      record { allows = record { entries = omega (arith, all.entries); saved = omega (arith, all.saved) }; mark = omega (arith, none_marked, room.checkpoints) }

  pub marks_loaded : CanMark 2 f
  unfolding limits_for
  marks_loaded = let room = l.room in omega (arith, none_marked, room.checkpoints)

  pub stands_loaded : (summary : Summary) → IsLayout x.geometry → IsOf x x → IsSummary x summary → f.content ≡ x.content → Stands x summary.boot f
  stands_loaded summary ok of is content =
      let none = none_made x summary is in
      let all = thrice in
      let left = first_left x summary is no_counts in
      let two = two_operations x.rules.grain x.geometry in
      let one = one_saved x.geometry ok in
      record {
        layout = ok;
        at_is = record {
          on_is = (of, subst (λ m. HasMade x m summary.boot) (sym none) (first_on x summary is));
          content_is = content ∙ at_zero x ∙ ap (at_cut x) (sym none);
          layout_is = l.geometry_is;
        };
        allows = record { entries = omega (arith, all.entries, left.entries, two); saved = omega (arith, all.saved, left.saved, one) };
      }
