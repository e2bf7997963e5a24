-- The digests of sectors, one after another.
use Rattle.std.specs.{List.{concat, range_with_len}, Prelude.{get_or, length, map, take}}
use Rattle.std.proofs.{Common.{List, [], append-nil, append_assoc, ap, arith, sym, ℕ, ◌++◌, ◌+◌, ◌/◌, ◌<◌, ◌∙◌, ◌∷◌, ◌≡◌}, Math.Nat.{mul-div_cancel}}
use Rattle.std.proofs.{lemmas.List.{take_more}, lemmas.List.Folds.{concat-append}, lemmas.List.FromFn.{get_or-map-range_with_len, length-map-range_with_len}}
use Rattle.std.proofs.lemmas.List.Concat.{concat_is}
use Rattle.mc_flash.specs.Geometry.{Geometry}
use Rattle.mc_vectors.specs.{Cases.{flash_digest, sector_digest}, declared.digests.SlotDigests.{SlotDigests}, inner.Digests.{AreDigests, IsWhole}}
use Rattle.sha2.specs.Sha256.{sha256}

-- One list more is joined.
pub concat_more : (m : List ℕ) (xs : List (List ℕ)) (i : ℕ) (x : List ℕ) → i < length xs → x ≡ get_or xs i x → (m ++ concat (take i xs)) ++ x ≡ m ++ concat (take (i + 1) xs)
concat_more m xs i x inside is =
    let last : concat (x ∷ []) ≡ x = concat_is (x ∷ []) ∙ append-nil x in
    let next : take (i + 1) xs ≡ take i xs ++ x ∷ [] = take_more xs i x inside ∙ ap (λ y. take i xs ++ y ∷ []) (sym is) in
    append_assoc m (concat (take i xs)) x
    ∙ ap (λ y. m ++ y) (sym (ap (λ (ys : List (List ℕ)). concat ys) next ∙ concat-append (take i xs) (x ∷ []) ∙ ap (λ y. concat (take i xs) ++ y) last))

module _ (size : ℕ) (s : SlotDigests) (kept : AreDigests size s) where
  pub digest_at : (number : ℕ) (d : List ℕ) → number < length s.digests.items → get_or s.digests.items number d ≡ sector_digest size s.bytes.items number
  digest_at number d inside = grind (arith, length-map-range_with_len, get_or-map-range_with_len)

-- Those of all sectors of these bytes were taken.
pub made : (size : ℕ) (bytes : List ℕ) (s : SlotDigests) (number : ℕ) → 0 < size → IsWhole size bytes → s.bytes.items ≡ bytes → number ≡ length bytes / size
    → s.digests.items ≡ map (sector_digest size bytes) (range_with_len 0 number) → AreDigests size s
made size bytes s number some whole is all are = grind (arith, mul-div_cancel, length-map-range_with_len)

-- Both slots have them.
pub both : (g : Geometry) (size : ℕ) (one two : SlotDigests) (primary secondary : List ℕ) → size ≡ g.sector → AreDigests size one → AreDigests size two → one.bytes.items ≡ primary
    → two.bytes.items ≡ secondary → sha256 (concat one.digests.items ++ concat two.digests.items) ≡ flash_digest g (record { primary = primary; secondary = secondary })
unfolding flash_digest
both g size one two primary secondary same first second is1 is2 = cc (same, first.digests_are, second.digests_are, is1, is2)
