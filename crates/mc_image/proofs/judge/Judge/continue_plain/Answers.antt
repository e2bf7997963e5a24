use Rattle.std.proofs.Common.{◌≡◌, arith, ap, ◌∙◌, subst, append_assoc, List, ℕ}
use Rattle.mc_image.specs.{Image.{IsBytes}, inner.Judging.{IsPlain}}
use Rattle.mc_image.specs.Verdict.{verdict}
use Rattle.mc_image.proofs.judge.Judge.continue_plain.Goals as goal

pub returns-then-left-gt0 : goal.returns-then-left-gt0
returns-then-left-gt0 c = grind arith

pub returns-else-left-gt0 : goal.returns-else-left-gt0
returns-else-left-gt0 c = λ body area are is plain.
    let z : c.args.left ≡ 0 = omega arith in
    record {
      bytes = are;
      stage = λ more both.
          let same = append_assoc body area more in
          ap verdict same ∙ c.answer_of.ensures body area is (subst (λ (n : ℕ). IsPlain c.args.total n c.args.scan area) z plain) more (subst (λ (x : List ℕ). IsBytes x) same both);
    }
