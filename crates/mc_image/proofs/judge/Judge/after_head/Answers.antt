use Rattle.std.proofs.{Common.{◌++◌, arith, sym, ap, ◌∙◌, subst, append_assoc, List, ℕ}, lemmas.List.{drop_all}}
use Rattle.mc_image.specs.{Image.{u16_at}, inner.Reading.{head_fault, Scans}}
use Rattle.mc_image.specs.Verdict.{verdict}
use Rattle.mc_image.proofs.{JudgeLaws.{plain_error, head_fault_more}, Scans.{head_first}}
use Rattle.mc_image.proofs.judge.Judge.after_head.Goals as goal

pub returns-in-Err : goal.returns-in-Err
returns-in-Err c = λ body rest are is held len. record {
  bytes = are;
  stage = λ more both.
      let wrong = ap head_fault (sym (c.as_slice.ensures.bytes ∙ held)) ∙ c.in-Err.ensures in
      ap verdict (append_assoc body rest more) ∙ plain_error c.args.sealed body is (rest ++ more) _ (head_first (rest ++ more) _ (head_fault_more rest more (omega (arith, len)) ∙ wrong));
}

pub returns-in-Ok : goal.returns-in-Ok
returns-in-Ok c = λ body rest are is held len.
    let same = c.as_slice.ensures.bytes ∙ held in
    c.continue_plain.ensures body rest are is (record {
      none = ap head_fault (sym same) ∙ c.in-Ok.ensures.0;
      head = omega (arith, len);
      total = c.in-Ok.ensures.3 ∙ ap (u16_at 2) same;
      left = omega (arith, len, c.in-Ok.ensures.2);
      scan = subst (λ (x : List ℕ). Scans c.new.result x) (sym (drop_all 4 rest (omega (arith, len)))) c.new.ensures;
    })
