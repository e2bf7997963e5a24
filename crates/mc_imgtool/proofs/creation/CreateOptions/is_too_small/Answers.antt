use Rattle.std.proofs.Common.{◌≡◌, ℕ, ◌+◌, ◌-◌, ◌*◌, ◌≤◌, arith}
use Rattle.std.specs.Prelude.{nat_lt}
use Rattle.mc_imgtool.proofs.creation.CreateOptions.is_too_small.Goals as goal

less : (slot trailer size : ℕ) → trailer ≤ slot → nat_lt (slot - trailer) size ≡ nat_lt slot (size + trailer)
less slot trailer size fits = grind arith

pub returns-else-slot-trailer : goal.returns-else-slot-trailer
returns-else-slot-trailer c =
    let o = c.args.self.now in
    let fits = rw (c.from-slot.ensures, c.from.ensures, c.from-2.ensures) at c.if-slot-trailer.false in
    rw (c.from-slot.ensures, c.from.ensures, c.from-2.ensures) (less c.args.slot (3 * o.max_sectors * o.align + 48) c.args.size fits)
