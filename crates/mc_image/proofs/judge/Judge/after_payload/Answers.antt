use Rattle.std.proofs.Common.{arith, sym, ◌∙◌}
use Rattle.mc_image.proofs.JudgeLaws.{header_ends, protected_none}
use Rattle.mc_image.proofs.judge.Judge.after_payload.Goals as goal

pub returns-then-header-eq0 : goal.returns-then-header-eq0
returns-then-header-eq0 c = λ bytes are holds has len.
    let e = header_ends c.args.header bytes has.fields in
    c.seal.ensures bytes are holds has (omega (arith, e.0, e.1, len, c.if-header-eq0.true)) (protected_none bytes (sym has.fields.protected ∙ c.if-header-eq0.true))
