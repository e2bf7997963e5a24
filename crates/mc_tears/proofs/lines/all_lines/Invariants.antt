use Rattle.std.specs.{Prelude.{length, map, ◌++◌, ◌≡◌}, Vec.{vec_capacity}}
use Rattle.mc_boot.specs.Outcome.{ops_of}
use Rattle.mc_explore.specs.inner.OneRound.{begins}
use Rattle.mc_tears.proofs.Listed.{up_to}
use Rattle.mc_tears.specs.{Tears.{number_text, numbers}, inner.Standing.{IsHere}}
use Rattle.mc_tears.proofs.lines.all_lines.Given as goal

abbrev pub invariant-loop-number : goal.invariant-loop-number
invariant-loop-number g l =
    let x = begins l.rounds in
    record {
      here : IsHere x l.here (g.F.Flash.seen l.flash);
      number : l.here.at.done ≡ l._number;
      lines : map (λ text. text.items) l.lines.items ++ map (number_text l.asked x) (up_to (length (ops_of x)) l._number) ≡ map (number_text l.asked x) (numbers x);
      capacity : vec_capacity l.buffer ≡ vec_capacity l.fn.buffer;
    }
