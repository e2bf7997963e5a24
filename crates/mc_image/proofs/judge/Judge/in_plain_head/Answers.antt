use Rattle.std.proofs.{Common.{arith, refl, sym, ap, ◌∙◌, length}, lemmas.Bool.{eqb-true, eqb-false}}
use Rattle.mc_image.proofs.JudgeLaws.{head_taken}
use Rattle.mc_image.proofs.judge.Judge.in_plain_head.Goals as goal

pub returns-then-is_full : goal.returns-then-is_full
returns-then-is_full c = head_taken _ _ c.args.piece.now _ c.requires.fed c.requires.nonempty (λ i. omega (arith, c.type_inv.piece i))
    c.args.sealed c.args.head c.with.result.0 c.requires.stage c.with.ensures.held c.with.ensures.rest (λ body rest all sealed is le.
    c.after_head.ensures body rest all sealed is (sym (ap length is) ∙ eqb-true _ _ (sym c.if-is_full.ensures)))

pub returns-else-is_full : goal.returns-else-is_full
returns-else-is_full c = head_taken _ _ c.args.piece.now _ c.requires.fed c.requires.nonempty (λ i. omega (arith, c.type_inv.piece i))
    c.args.sealed c.args.head c.with.result.0 c.requires.stage c.with.ensures.held c.with.ensures.rest (λ body rest all sealed is le.
    let l = ap length is in
    record { bytes = all; stage = record { body = body; rest = rest; split = refl; sealed = sealed; stands = (omega (arith, eqb-false _ _ (sym c.if-is_full.ensures), le, l), is) } })
