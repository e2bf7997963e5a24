use Rattle.std.specs.{List.{list_all}, Prelude.{flat_map, length, ◌&&◌, ◌≡◌}, Vec.{vec_capacity}}
use Rattle.mc_boot.specs.Outcome.{ops_of}
use Rattle.mc_explore.specs.inner.OneRound.{begins}
use Rattle.mc_output.specs.facts.Prefixes.{IsOut}
use Rattle.mc_tears.proofs.Listed.{up_to}
use Rattle.mc_tears.specs.{Tears.{all_right, lines_text, number_right, number_text}, inner.Standing.{IsHere}}
use Rattle.mc_tears.proofs.tears.write_all.Given as goal

abbrev pub invariant-loop-number : goal.invariant-loop-number
invariant-loop-number g l =
    let x = begins l.rounds in
    let old = g.F.Flash.seen l.fn.flash in
    let now = g.F.Flash.seen l.flash in
    record {
      here : IsHere x l.here now;
      number : l.here.at.done ≡ l._number;
      out : IsOut (g.W.Write.contents l.fn.writer) (g.W.Write.contents l.writer) (lines_text l.asked x) (flat_map (number_text l.asked x) (up_to (length (ops_of x)) l._number));
      right : (l.right && list_all (number_right l.asked x) (up_to (length (ops_of x)) l._number)) ≡ all_right l.asked x;
      limits : now.usage.limits ≡ old.usage.limits;
      capacity : vec_capacity l.buffer ≡ vec_capacity l.fn.buffer;
    }
