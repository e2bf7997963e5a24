-- Where an operation writes, and tests of bytes one after another.
use Rattle.std.proofs.{Common.{ap, arith, eq-eqb, inl, inr, subst, sym, ◌∙◌}, lemmas.Bool.{cases_eq}}
use Rattle.std.proofs.lemmas.List.FromFn.{get_or-map-range_with_len, length-map-range_with_len}
use Rattle.std.specs.List.{list_all, range_with_len}
use Rattle.std.specs.Prelude.{Bool, List, false, length, map, not, refl, slice_index, suc, true, zero, ℕ, ◌+◌, ◌<◌, ◌==◌, ◌≡◌, ◌≢◌, ◌≤◌}
use Rattle.mc_boot.proofs.{Courses.{slot_small}, Transfers.{other_number}}
use Rattle.mc_flash.specs.{Flash.{CanTry, Content, IsRange}, Geometry.{Geometry, IsLayout}, declared.op.Op.{Op}, declared.op.Op.TheVariants.{Copy, Erase, Program}}
use Rattle.mc_flash.specs.facts.Layouts.{sector_inside, whole_sector, whole_times}
use Rattle.mc_tear.specs.{Cases.{slot_of, torn_byte, torn_bytes, written_from, written_len}, declared.reading.Reading.{Reading}, declared.torn.Erasing.{Erasing}}

-- It writes whole units in its slot, and at least one.
pub range_of : (g : Geometry) (op : Op) → IsLayout g → CanTry g op → IsRange g (slot_of op) (written_from g op) (written_len g op)
range_of g (Erase slot sector) ok can = record {
  inside = sector_inside g slot sector can;
  start = whole_times g sector g.sector (whole_sector g ok);
  units = whole_sector g ok;
  some = let least = ok.least_sector in omega (arith, least);
}
range_of g (Program slot at bytes) ok can = can
range_of g (Copy from at to offset len) ok can = can.1

pub range_small : (g : Geometry) (op : Op) → IsLayout g → CanTry g op → written_from g op + written_len g op ≤ 16777216
range_small g op ok can = let range = range_of g op ok can in omega (arith, range.inside, slot_small g (slot_of op) ok)

-- All pass, or one does not.
pub all_pass : (p : ℕ → Bool) (a n : ℕ) → ((i : ℕ) → a ≤ i → i < a + n → p i ≡ true) → list_all p (range_with_len a n) ≡ true
all_pass p a zero each = refl
all_pass p a (suc n) each = rw (each a (omega arith) (omega arith)) (all_pass p (a + 1) n (λ i from below. each i (omega (arith, from)) (omega (arith, below))))

pub one_fails : (p : ℕ → Bool) (a n i : ℕ) → a ≤ i → i < a + n → p i ≡ false → list_all p (range_with_len a n) ≡ false
one_fails p a zero i from below fails = absurd (omega (arith, from, below))
one_fails p a (suc n) i from below fails = elim (cases_eq i a) [
  | inl here ↦ first (subst (λ (m : ℕ). p m ≡ false) here fails)
  | inr other ↦ later (p a) (one_fails p (a + 1) n i (omega (arith, from, other)) (omega (arith, below)) fails)
]
  where
    first : p a ≡ false → list_all p (range_with_len a (suc n)) ≡ false
    first is = rw is refl

    later : (b : Bool) → list_all p (range_with_len (a + 1) n) ≡ false → list_all p (range_with_len a (suc n)) ≡ false
    later b rest = grind (arith, rest)

-- Bytes one after another, against others.
module _ (f h : ℕ → ℕ) (xs : List ℕ) (n : ℕ) (is : xs ≡ map f (range_with_len 0 n)) where
  of_list : (k : ℕ) → k < n → slice_index xs k ≡ f k
  of_list k short = ap (λ (ys : List ℕ). slice_index ys k) is ∙ get_or-map-range_with_len f 0 n k k 0 short (omega arith)

  pub one_differs : (k : ℕ) → k < n → slice_index xs k ≢ h k → true ≡ not (list_all (λ i. f i == h i) (range_with_len 0 n))
  one_differs k short other =
      let fails : (f k == h k) ≡ false = other_number (f k) (h k) (λ same. other (of_list k short ∙ same)) in
      sym (ap not (one_fails (λ i. f i == h i) 0 n k (omega arith) (omega (arith, short)) fails))

  pub none_differs : ((k : ℕ) → k < n → slice_index xs k ≡ h k) → false ≡ not (list_all (λ i. f i == h i) (range_with_len 0 n))
  none_differs same = sym (ap not (all_pass (λ i. f i == h i) 0 n (λ i from below. eq-eqb (f i) (h i) (sym (of_list i (omega (arith, below))) ∙ same i (omega (arith, below))))))

pub torn_len : (e : Erasing) (g : Geometry) (op : Op) (s : Content) (r : Reading) → length (torn_bytes e g op s r) ≡ written_len g op
torn_len e g op s r = length-map-range_with_len (torn_byte e g op s r) 0 (written_len g op)
