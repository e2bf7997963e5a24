use Rattle.std.proofs.Common.{◌≡◌, ℕ, ◌≤◌, ◌<◌, ◌*◌, false}
use Rattle.mc_trailer.specs.Trailer.{is_written}
use Rattle.mc_trailer.proofs.entries.without_blank_end.Given as goal

-- no entry from here on is written
abbrev pub invariant-loop-first : goal.invariant-loop-first
invariant-loop-first g l = record {
  at_most : l.end ≤ 3 * (g.F.Flash.seen l.flash).geometry.max_sectors;
  none : (e : ℕ) → l.end ≤ e → e < 3 * (g.F.Flash.seen l.flash).geometry.max_sectors → is_written (g.F.Flash.seen l.flash).geometry (g.F.Flash.seen l.flash).content e ≡ false;
}

abbrev pub decreases-loop-first : goal.decreases-loop-first
decreases-loop-first g l = l.end
