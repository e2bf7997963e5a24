use Rattle.std.proofs.{Common.{Global, Vec, arith}, lemmas.List.{nil_from_length}}
use Rattle.std.specs.Prelude.{List, map, ℕ}
use Rattle.mc_start.specs.Start.{begun}
use Rattle.mc_trace.proofs.{Headed.{first_occurs}, TornLines.{added_last, added_more}}
use Rattle.mc_trace.proofs.torn.+add_lines.Goals as goal

abbrev lists : Vec (Vec ℕ Global) Global → List (List ℕ)
lists lines = map (λ text. text.items) lines.items

pub returns-in_default-split_first : goal.returns-in_default-split_first
returns-in_default-split_first g t c =
    added_last c.args.asked.now c.requires.asked (begun c.args.start.now) lists _ _ c.in-Ok.lines c.in-Ok-push.ensures.items c.in-Ok.ensures c.args.cuts.now
    (nil_from_length c.args.cuts.now c.in_default-split_first.ensures.cases)

pub add_lines-requires : goal.add_lines-requires
add_lines-requires g t c κs within =
    let some = first_occurs (begun c.args.start.now) c.in-Some.cut.now c.in-Some.rest.now (rw c.in-Some.ensures.cases.0 at c.requires.occurs) in
    (omega (arith, c.decreases, c.in-Some.ensures.cases.1), (within, (c.requires.asked, rw c.in_ok-next.ensures some.1)))

pub returns : goal.returns
returns g t c =
    added_more c.args.asked.now c.requires.asked (begun c.args.start.now) lists _ _ c.in-Ok.lines c.in-Ok-push.ensures.items c.in-Ok.ensures c.add_lines.result c.args.cuts.now c.in-Some.cut.now
    c.in-Some.rest.now _ _ c.in-Some.ensures.cases.0 c.in_ok-next.ensures c.add_lines.ensures
