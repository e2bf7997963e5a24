-- The room for a walk through a tree of boots.
use Rattle.std.specs.Prelude.{Bool, ℕ, ◌*◌, ◌+◌, ◌≡◌, ◌≤◌}
use Rattle.std.proofs.{Common.{ap, arith}, Math.Nat.{mul-le-mul_right}}
use Rattle.mc_boot.specs.Plan.{PowerOn}
use Rattle.mc_flash.specs.{Geometry.{Geometry}, Usage.{Seen, Usage, most_operations, most_saved}, declared.flash.Grain.{Grain}}
use Rattle.mc_flash.specs.declared.flash.Grain.TheVariants as grains
use Rattle.mc_start.specs.facts.Room.{limits_are}
use Rattle.mc_walk.specs.Walks.{IsClear}
use Rattle.mc_explore.specs.{Rounds.{more_of}, declared.rounds.Rounds.{Rounds}, inner.Exploring.{LoadsFor}, inner.BootTree.{boot_model}, inner.OneRound.{round_model}}
use Rattle.mc_explore.specs.declared.rounds.Rounds.TheVariants as kinds

-- A boot makes some operation at most.
pub some_operations : (grain : Grain) (g : Geometry) → 1 ≤ most_operations grain g
some_operations grains.Call g = omega arith
some_operations grains.Unit g = omega arith

module _ (start : PowerOn) (counted : Bool) (bound boots_for : ℕ) (f : Seen) (l : LoadsFor counted start boots_for f) where
  -- A flash that was loaded for so many boots more than there are cuts, or for more, serves for a walk: through one round, along schedules too.
  pub clear_one : bound + 1 ≤ boots_for → IsClear (round_model start) bound f
  clear_one at_most =
      let g = start.geometry in
      let grain = start.rules.grain in
      let limits = limits_are grain g boots_for f.usage.limits l.room in
      let entries : (bound + 1) * most_operations grain g ≤ boots_for * most_operations grain g = mul-le-mul_right (most_operations grain g) at_most in
      let saved : (bound + 1) * most_saved g ≤ boots_for * most_saved g = mul-le-mul_right (most_saved g) at_most in
      record {
        root = record { content_is = l.content_is; layout_is = l.geometry_is };
        none = l.none;
        counts = ap (λ (x : Usage). x.counts) l.usage_is;
        roomy = record { entries = omega (arith, limits.for_entries, entries); saved = omega (arith, limits.for_saved, saved); checkpoints = omega (arith, limits.for_checkpoints, at_most) };
      }

  pub clear : (rounds : Rounds) → bound + more_of rounds ≤ boots_for → IsClear (boot_model start rounds) bound f
  clear kinds.One at_most =
      let one = clear_one at_most in
      record {
        root = record { content_is = one.root.content_is; layout_is = one.root.layout_is };
        none = one.none;
        counts = one.counts;
        roomy = record { entries = one.roomy.entries; saved = one.roomy.saved; checkpoints = one.roomy.checkpoints };
      }
  clear (kinds.Two confirms) at_most =
      let g = start.geometry in
      let grain = start.rules.grain in
      let most : ℕ = most_operations grain g in
      let limits = limits_are grain g boots_for f.usage.limits l.room in
      let entries : bound * most + 3 * most ≤ boots_for * most = more bound boots_for most at_most in
      let saved : bound * most_saved g + 3 * most_saved g ≤ boots_for * most_saved g = more bound boots_for (most_saved g) at_most in
      record {
        root = record { content_is = l.content_is; layout_is = l.geometry_is };
        none = l.none;
        counts = ap (λ (x : Usage). x.counts) l.usage_is;
        roomy = record {
          entries = omega (arith, limits.for_entries, entries, some_operations grain g);
          saved = omega (arith, limits.for_saved, saved);
          checkpoints = omega (arith, limits.for_checkpoints, at_most);
        };
      }
    where
      more : (n many m : ℕ) → n + 3 ≤ many → n * m + 3 * m ≤ many * m
      more n many m le = let e : (n + 3) * m ≡ n * m + 3 * m = omega arith in omega (arith, mul-le-mul_right m le, e)
