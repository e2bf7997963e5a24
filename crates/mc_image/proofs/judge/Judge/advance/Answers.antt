use Rattle.std.proofs.{Common.{arith, sym, ◌∙◌, length, subst, List, ℕ}, lemmas.List.{take_rest, drop_all}}
use Rattle.mc_image.specs.inner.Reading.{Goes}
use Rattle.mc_image.specs.Judging.{Judges}
use Rattle.mc_image.proofs.JudgeLaws.{over_goes}
use Rattle.mc_image.proofs.judge.Judge.advance.Goals as goal

pub returns-in-Over : goal.returns-in-Over
returns-in-Over c =
    let piece = c.args.piece.now in
    subst (λ (x : List ℕ). Goes (Judges c.args.self.now) (Judges c.args.self.now) c.args.piece.now x) (sym (take_rest piece (length piece) ∙ drop_all (length piece) piece (omega arith)))
    (over_goes c.args.self.now piece c.in-Over.field-0 c.in-Over.is c.requires.nonempty (λ i. omega (arith, c.type_inv.piece i)))
