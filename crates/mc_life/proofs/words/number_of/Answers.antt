use Rattle.std.proofs.Common.{List, ℕ, codes, sym, ap, ◌++◌, ◌∙◌}
use Rattle.mc_life.proofs.Spelling.{hexadecimal_read}
use Rattle.mc_life.proofs.words.number_of.Goals as goal

pub returns-in-Some : goal.returns-in-Some
returns-in-Some c =
    let strips = c.in-Some.ensures.cases in
    hexadecimal_read _ _ (strips.1.1 ∙ ap (λ (l : List ℕ). codes "0x" ++ l) (sym strips.2)) _ c.hexadecimal_number.ensures
