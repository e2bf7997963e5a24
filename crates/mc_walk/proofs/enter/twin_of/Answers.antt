use Rattle.std.proofs.{Common.{arith, length, refl, slice_get, sym, Some, ℕ, ◌-◌, ◌≡◌}, lemmas.Option.{slice_get_within}}
use Rattle.mc_walk.proofs.Stacks.{last_of}
use Rattle.mc_walk.proofs.enter.twin_of.Goals as goal

pub returns : goal.returns
returns g c = λ found.
    let last = c.in-Some.ensures in
    let n : ℕ = length c.args.frames.now - 1 in
    let at : slice_get c.args.frames.now n ≡ Some c.in-Some.frame.now = sym {b = slice_get c.args.frames.now n} last.value in
    let within = slice_get_within c.args.frames.now n c.in-Some.frame.now at in
    let split = last_of c.args.frames.now n c.in-Some.frame.now (omega (arith, within)) at in
    rw c.in-Some-summary.is (record {
      stood_is = refl;
      before = split.0;
      frame = c.in-Some.frame.now;
      frames_are = split.1;
      open_is = λ node summary. omega (arith, c.width.ensures node summary, c.saturating_sub-last.ensures, c.if-last-frame.false);
      small = omega (arith, c.width.type_inv, c.saturating_sub-last.ensures, c.if-last-frame.false);
      twin = c.has_twin.ensures found;
    })
