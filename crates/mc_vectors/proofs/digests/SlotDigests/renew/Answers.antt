use Rattle.std.specs.{List.{range_with_len}, Prelude.{List, [], map, ℕ, ◌++◌, ◌∷◌}}
use Rattle.std.proofs.{Common.{ap, arith, sym, ◌∙◌}, lemmas.List.FromFn.{map-range_with_len_more}}
use Rattle.mc_vectors.specs.Cases.{sector_digest}
use Rattle.mc_vectors.proofs.Digested.{made}
use Rattle.mc_vectors.proofs.digests.SlotDigests.renew.Goals as goal

pub loop-number-preserved : goal.loop-number-preserved
loop-number-preserved c =
    let f : ℕ → List ℕ = sector_digest c.args.size c.args.bytes.now in
    let n : ℕ = c.loop-number.number in
    c.in_ok-push.ensures.items ∙ ap (λ (l : List (List ℕ)). l ++ c.digest_of.result ∷ []) c.loop-number.invariant
    ∙ ap (λ (d : List ℕ). map f (range_with_len 0 n) ++ d ∷ []) c.digest_of.ensures ∙ sym (map-range_with_len_more f 0 n n (omega arith))

pub returns-clause-kept : goal.returns-clause-kept
returns-clause-kept c =
    made c.args.size c.args.bytes.now _ c.loop-number.number c.requires.some c.requires.whole
    (c.in_ok-extend_from_slice.ensures.items ∙ ap (λ (l : List ℕ). l ++ c.args.bytes.now) c.clear.ensures.items)
    (omega (arith, c.loop-number-test.false, c.loop-number.auto.number-end))
    c.loop-number.invariant
