use Rattle.std.specs.{Prelude.{length, sum_by, ◌*◌, ◌+◌, ◌≡◌, ◌≤◌}, Vec.{vec_capacity}}
use Rattle.mc_boot.specs.Outcome.{ops_of}
use Rattle.mc_explore.specs.inner.OneRound.{begins}
use Rattle.mc_flash.specs.Usage.{Keeps, marked}
use Rattle.mc_tears.proofs.Listed.{up_to}
use Rattle.mc_tears.specs.{Tears.{number_count, numbers}, inner.Standing.{Stands}}
use Rattle.mc_tears.proofs.tears.count_all.Given as goal

abbrev pub invariant-loop-number : goal.invariant-loop-number
invariant-loop-number g l =
    let x = begins l.rounds in
    let old = g.F.Flash.seen l.fn.flash in
    let now = g.F.Flash.seen l.flash in
    record {
      stands : Stands x l.at now;
      number : l.at.done ≡ l._number;
      count : l.count + sum_by (number_count l.erasing x) (up_to (length (ops_of x)) l._number) ≡ sum_by (number_count l.erasing x) (numbers x);
      few : l.count ≤ 192 * l._number;
      keeps : Keeps (marked old) now;
      limits : now.usage.limits ≡ old.usage.limits;
      capacity : vec_capacity l.buffer ≡ vec_capacity l.fn.buffer;
    }
