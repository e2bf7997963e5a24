use Rattle.std.specs.{Prelude.{length, ◌+◌, ◌≡◌, ◌≤◌}, Vec.{vec_capacity}}
use Rattle.mc_tear.specs.Cases.{cases_of}
use Rattle.mc_tears.proofs.Listed.{cases_from}
use Rattle.mc_tears.specs.inner.Standing.{IsBack}
use Rattle.mc_tears.proofs.cases.count_cases.Given as goal

abbrev pub invariant-loop-number : goal.invariant-loop-number
invariant-loop-number g l =
    let f = g.F.Flash.seen l.fn.flash in
    record {
      count : l.count + length (cases_from l.erasing f.geometry l.op f.content l.number) ≡ length (cases_of l.erasing f.geometry l.op f.content);
      few : l.count ≤ l.number;
      back : IsBack f (g.F.Flash.seen l.flash);
      capacity : vec_capacity l.buffer ≡ vec_capacity l.fn.buffer;
    }
