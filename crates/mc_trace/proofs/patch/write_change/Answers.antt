use Rattle.std.proofs.{Common.{◌≡◌, ◌++◌, ◌∷◌, [], List, ℕ, append_assoc, refl}, lemmas.Result.{err_from_is_err_and}}
use Rattle.mc_trace.proofs.patch.write_change.Goals as goal

-- A space, between a beginning and a source.
spaced : (s b : List ℕ) → (s ++ 32 ∷ []) ++ b ≡ s ++ (32 ∷ b)
spaced s b = simp append_assoc

ended : (s b e : List ℕ) → ((s ++ 32 ∷ []) ++ b) ++ e ≡ s ++ (32 ∷ (b ++ e))
ended s b e = simp append_assoc

pub returns-then-not-put_source-clause-written : goal.returns-then-not-put_source-clause-written
returns-then-not-put_source-clause-written g c =
    rw (c.if-not-put_source.ensures.left refl)
    (rw (c.if-not-put_source.ensures.same refl, c.put.ensures.text, c.put_sector.ensures.text, c.new-line.ensures, spaced) at c.write_bytes.ensures.written)

pub returns-in_err-write_line-clause-written : goal.returns-in_err-write_line-clause-written
returns-in_err-write_line-clause-written g c =
    let failed = err_from_is_err_and c.from_residual.result c.from_residual.ensures.1 in
    rw failed.1 (rw (c.put-2.ensures.text, c.if-not-put_source.ensures.said refl, c.put.ensures.text, c.put_sector.ensures.text, c.new-line.ensures, ended) at
    c.in_err-write_line.ensures.prefix)

pub returns-clause-written : goal.returns-clause-written
returns-clause-written g c =
    rw (c.put-2.ensures.text, c.if-not-put_source.ensures.said refl, c.put.ensures.text, c.put_sector.ensures.text, c.new-line.ensures, ended) at c.in_ok-write_line.ensures.whole
