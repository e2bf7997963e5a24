use Rattle.std.specs.{List.{list_all}, Prelude.{Some, flat_map, ◌&&◌, ◌≡◌}, Vec.{vec_capacity}}
use Rattle.mc_explore.specs.{Boots.{at_cut}, inner.OneRound.{begins}}
use Rattle.mc_output.specs.facts.Prefixes.{IsOut}
use Rattle.mc_tears.proofs.{Listed.{cases_from}, Written.{right_of}}
use Rattle.mc_tears.specs.{Tears.{case_text, op_right, op_text}, inner.Standing.{IsBack}}
use Rattle.mc_tears.proofs.cases.write_cases.Given as goal

abbrev pub invariant-loop-number : goal.invariant-loop-number
invariant-loop-number g l =
    let x = begins l.rounds in
    let n = l.between.number in
    let op = l.between.op in
    let left = cases_from l.asked.erasing x.geometry op (at_cut x n) l.number in
    record {
      out : IsOut (g.W.Write.contents l.fn.writer) (g.W.Write.contents l.writer) (op_text l.asked x n (Some op)) (flat_map (case_text l.asked x n op) left);
      right : (l.right && list_all (right_of l.asked x n op) left) ≡ op_right l.asked x n (Some op);
      back : IsBack (g.F.Flash.seen l.fn.flash) (g.F.Flash.seen l.flash);
      capacity : vec_capacity l.buffer ≡ vec_capacity l.fn.buffer;
    }
