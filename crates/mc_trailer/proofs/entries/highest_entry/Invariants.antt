use Rattle.std.proofs.Common.{◌≡◌, ℕ, ◌≤◌, ◌<◌, ◌*◌, false}
use Rattle.mc_trailer.specs.Trailer.{is_written}
use Rattle.mc_trailer.proofs.entries.highest_entry.Given as goal

-- no entry from here on is written
abbrev pub invariant-loop-entry : goal.invariant-loop-entry
invariant-loop-entry g l =
    (e : ℕ) → l.entry ≤ e → e < 3 * (g.F.Flash.seen l.flash).geometry.max_sectors → is_written (g.F.Flash.seen l.flash).geometry (g.F.Flash.seen l.flash).content e ≡ false
