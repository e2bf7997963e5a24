use Rattle.std.proofs.{Common.{arith, sym, ap, ◌∙◌, length}, lemmas.Bool.{eqb-true, eqb-false}}
use Rattle.mc_image.proofs.JudgeLaws.{fields_taken}
use Rattle.mc_image.proofs.judge.Judge.in_fields.Goals as goal

pub returns-then-is_full : goal.returns-then-is_full
returns-then-is_full c = fields_taken _ _ c.args.piece.now _ c.requires.fed c.requires.nonempty (λ i. omega (arith, c.type_inv.piece i))
    _ c.args.fields c.with.result.0 c.requires.stage c.with.ensures.held c.with.ensures.rest c.update.ensures (λ bytes all hashed is le.
    c.after_fields.ensures bytes all hashed is (sym (ap length is) ∙ eqb-true _ _ (sym c.if-is_full.ensures)))

pub returns-else-is_full : goal.returns-else-is_full
returns-else-is_full c = fields_taken _ _ c.args.piece.now _ c.requires.fed c.requires.nonempty (λ i. omega (arith, c.type_inv.piece i))
    _ c.args.fields c.with.result.0 c.requires.stage c.with.ensures.held c.with.ensures.rest c.update.ensures (λ bytes all hashed is le.
    record { bytes = all; stage = (hashed, omega (arith, eqb-false _ _ (sym c.if-is_full.ensures), le, ap length is), is) })
