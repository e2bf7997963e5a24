use Rattle.std.proofs.{Common.{◌≡◌, ◌-◌, ◌++◌, arith, sym, ap, ◌∙◌, length, subst, List, ℕ, false, []}, lemmas.List.{append-nil}}
use Rattle.mc_image.specs.{Image.{protected_end}, Valid.{protected_fault}, inner.Judging.{HasHeader, IsProtected}}
use Rattle.mc_image.specs.Verdict.{verdict}
use Rattle.mc_image.proofs.JudgeLaws.{has_header_more, body_ends, protected_bad, protected_tested, protected_taken}
use Rattle.mc_image.proofs.judge.Judge.in_protected.Goals as goal

pub returns-then-left-taken : goal.returns-then-left-taken
returns-then-left-taken c =
    protected_taken _ _ c.args.piece.now c.split_at.result.0.now c.split_at.result.1.now c.requires.fed c.requires.nonempty (λ i. omega (arith, c.type_inv.piece i)) c.split_at.ensures.by_index.0
    c.args.left (omega (arith, c.split_at.ensures.front_len)) _ c.args.header c.args.area c.feed-area.result c.requires.stage c.update.ensures c.feed-area.ensures (λ bytes all hashed _ p.
    record { bytes = all; stage = (hashed, omega arith, subst (λ (k : ℕ). IsProtected c.args.header (c.args.left - k) c.feed-area.result bytes) c.split_at.ensures.front_len p) })

pub returns-then-is_bad : goal.returns-then-is_bad
returns-then-is_bad c =
    protected_taken _ _ c.args.piece.now c.split_at.result.0.now c.split_at.result.1.now c.requires.fed c.requires.nonempty (λ i. omega (arith, c.type_inv.piece i)) c.split_at.ensures.by_index.0
    c.args.left (omega (arith, c.split_at.ensures.front_len)) _ c.args.header c.args.area c.feed-area.result c.requires.stage c.update.ensures c.feed-area.ensures (λ bytes all hashed ne p.
    let size : length p.rest ≡ c.args.header.protected = omega (arith, p.left, c.split_at.ensures.front_len) in
    let bad = c.if-is_bad.ensures p.rest p.area (sym size) in
    record { bytes = all; stage = λ after both. ap (λ x. verdict (x ++ after)) p.split ∙ protected_bad c.args.header p.prefix p.rest p.header p.len size ne after bad })

pub returns-else-is_bad : goal.returns-else-is_bad
returns-else-is_bad c =
    protected_taken _ _ c.args.piece.now c.split_at.result.0.now c.split_at.result.1.now c.requires.fed c.requires.nonempty (λ i. omega (arith, c.type_inv.piece i)) c.split_at.ensures.by_index.0
    c.args.left (omega (arith, c.split_at.ensures.front_len)) _ c.args.header c.args.area c.feed-area.result c.requires.stage c.update.ensures c.feed-area.ensures (λ bytes all hashed ne p.
    let size : length p.rest ≡ c.args.header.protected = omega (arith, p.left, c.split_at.ensures.front_len) in
    let tested = protected_tested c.args.header p.prefix p.rest p.header p.len size ne [] false (c.if-is_bad.ensures p.rest p.area (sym size)) in
    c.seal.ensures bytes all hashed (subst (λ (x : List ℕ). HasHeader c.args.header x) (sym p.split) (has_header_more c.args.header p.prefix p.rest p.header))
    (subst (λ (x : List ℕ). length x ≡ protected_end x) (sym p.split) (body_ends c.args.header p.prefix p.rest p.header p.len size ne))
    (ap protected_fault p.split ∙ ap (λ x. protected_fault (p.prefix ++ x)) (sym (append-nil p.rest)) ∙ tested))
