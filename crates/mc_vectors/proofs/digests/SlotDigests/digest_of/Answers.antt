use Rattle.std.specs.{List.{between}, Prelude.{List, ℕ, ◌+◌, ◌*◌, ◌≡◌}}
use Rattle.std.proofs.{Common.{ap, arith, sym, ◌∙◌}, lemmas.Slice.Eq.{bytes_eq-Decides}}
use Rattle.sha2.specs.Sha256.{sha256}
use Rattle.mc_vectors.proofs.Digested.{digest_at}
use Rattle.mc_vectors.proofs.digests.SlotDigests.digest_of.Goals as goal

pub returns-then-eq : goal.returns-then-eq
returns-then-eq c =
    let size : ℕ = c.args.size in
    let at : ℕ = c.args.number * size in
    let part : List ℕ → List ℕ = between at (at + size) in
    let same : part c.deref.result.now ≡ part c.args.bytes.now = (bytes_eq-Decides (part c.deref.result.now) (part c.args.bytes.now)).0 (sym (c.if-eq.ensures)) in
    c.index.ensures ∙ digest_at size c.args.self.now c.requires.kept c.args.number c.index.result.now (omega (arith, c.len.ensures, c.if-number-len.true))
    ∙ ap (λ (b : List ℕ). sha256 (part b)) (sym c.deref.ensures.value) ∙ ap sha256 same
