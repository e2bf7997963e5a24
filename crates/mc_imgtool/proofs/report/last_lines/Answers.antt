use Rattle.std.proofs.Common.{◌≡◌, ℕ, List, ◌++◌, codes, decimal, length, string_bytes, IfOk, refl, subst, ap, ◌∙◌}
use Rattle.mc_image.specs.{Image.{Image, image_text}, Valid.{is_good}}
use Rattle.mc_imgtool.specs.Lines.{last_lines, judgement}
use Rattle.mc_imgtool.proofs.report.last_lines.Goals as goal
use Rattle.mc_imgtool.proofs.report.last_lines.Goals.{then-is_good, else-is_good}

given : (v : Image) (size rest : ℕ) (word : List ℕ) → size ≡ length (image_text v) → word ≡ judgement (is_good v)
    → codes "total " ++ (decimal size ++ (codes "\nrest " ++ (decimal rest ++ (codes "\ndigest " ++ (word ++ codes "\n"))))) ≡ last_lines v rest
unfolding last_lines
given v size rest word p q = rw (p, q) refl

word : (c : goal.After-format) → c.if-is_good.judgement.now ≡ judgement c.is_good.result
word c = elim c.if-is_good.branch as (λ _. c.if-is_good.judgement.now ≡ judgement c.is_good.result) [
  | then-is_good w ↦ rw w.if-is_good.true (ap (λ b. b.now) w.judgement-is)
  | else-is_good w ↦ rw w.if-is_good.false (ap (λ b. b.now) w.judgement-is)
]

pub returns : goal.returns
returns c =
    let is = given c.args.image.now c.size-total.result c.args.rest c.if-is_good.judgement.now c.size-total.ensures (word c ∙ ap judgement c.is_good.ensures) in
    subst (λ (z : List ℕ). IfOk c.format.result (λ text. string_bytes text ≡ z)) is c.format.ensures.ok
