-- The sectors in which two flashes differ, one after another.
use Rattle.std.specs.Prelude.{bytes_eq, cond, false, min, not, suc, take, true, zero}
use Rattle.std.proofs.Common.{List, [], Bool, ap, append-nil, append_assoc, arith, length, length-append, refl, subst, sym, take-add, ℕ, ◌*◌, ◌++◌, ◌+◌, ◌<◌, ◌∙◌, ◌∷◌, ◌≡◌, ◌≤◌}
use Rattle.std.proofs.{Math.Path.{ap₂}, lemmas.List.{take_all}, lemmas.List.Elements.{filter-append}}
use Rattle.std.proofs.{lemmas.List.FromFn.{filter_of_map_range_with_len_more, length-map-range_with_len}, lemmas.List.Sums.{count_by-le-length, length-filter}}
use Rattle.std.proofs.lemmas.Slice.Eq.{bytes_eq-Decides}
use Rattle.mc_flash.specs.{Flash.{Content, IsSized, bytes_of, sectors_of}, Geometry.{Geometry}, declared.op.Slot.{Slot}}
use Rattle.mc_flash.specs.{declared.op.Slot.TheVariants.{Primary, Secondary}, facts.Changes.{sized_is}}
use Rattle.mc_vectors.specs.{Locating.{content_of, differing, distance, held_in, is_other, slot_sectors}, declared.locating.SectorId.{SectorId}}
use Rattle.mc_vectors.specs.inner.Locating.{differing_first, differing_in}

parts_none : {A : Type 0} (xs ys : List A) → xs ++ ys ≡ [] → (xs ≡ []) × (ys ≡ [])
parts_none [] ys e = (refl, e)
parts_none (x ∷ xs) ys e = absurd cc

module _ (g : Geometry) (s t : Content) where
  module _ (slot : Slot) (n : ℕ) where
    abbrev at : SectorId
    at = record { slot = slot; number = n }

    abbrev so_far : List SectorId
    so_far = differing_first g s t slot n

    -- Of one sector more.
    next : (b : Bool) → is_other g s t at ≡ b → differing_first g s t slot (n + 1) ≡ so_far ++ cond b (at ∷ []) []
    next b is =
        filter_of_map_range_with_len_more (is_other g s t) (λ i. record { slot = slot; number = i }) 0 n n (omega arith)
        ∙ ap (λ c. so_far ++ cond c (at ∷ []) []) is

    pub one_more : is_other g s t at ≡ true → differing_first g s t slot (n + 1) ≡ so_far ++ at ∷ []
    one_more is = next true is

    pub no_more : is_other g s t at ≡ false → differing_first g s t slot (n + 1) ≡ so_far
    no_more is = next false is ∙ append-nil so_far

    -- They stand after others.
    pub listed_more : (old now : List SectorId) → now ≡ old ++ so_far → is_other g s t at ≡ true → now ++ at ∷ [] ≡ old ++ differing_first g s t slot (n + 1)
    listed_more old now are is = grind (arith, append_assoc, one_more)

    -- So many are counted, and no more than that.
    module _ (count most : ℕ) (counted : count ≡ min most (length so_far)) where
      pub count_one : count < most → is_other g s t at ≡ true → count + 1 ≡ min most (length (differing_first g s t slot (n + 1)))
      count_one room is = omega (arith, counted, ap (λ (l : List SectorId). length l) (one_more is), length-append so_far (at ∷ []))

      pub count_full : most ≤ count → count ≡ min most (length (differing_first g s t slot (n + 1)))
      count_full full =
          let more : length (differing_first g s t slot (n + 1)) ≡ length so_far + length (cond (is_other g s t at) (at ∷ []) []) =
          ap (λ (l : List SectorId). length l) (next (is_other g s t at) refl) ∙ length-append so_far (cond (is_other g s t at) (at ∷ []) []) in
          omega (arith, counted, more)

      pub count_none : is_other g s t at ≡ false → count ≡ min most (length (differing_first g s t slot (n + 1)))
      count_none is = omega (arith, counted, ap (λ (l : List SectorId). length l) (no_more is))

  -- Of both slots.
  pub in_both : differing g s t ≡ differing_in g s t Primary ++ differing_in g s t Secondary
  unfolding differing
  in_both = filter-append (is_other g s t) (slot_sectors g Primary) (slot_sectors g Secondary)

  pub distance_both : distance g s t ≡ length (differing_in g s t Primary) + length (differing_in g s t Secondary)
  distance_both = ap (λ (l : List SectorId). length l) in_both ∙ length-append (differing_in g s t Primary) (differing_in g s t Secondary)

  few : (slot : Slot) → length (differing_in g s t slot) ≤ sectors_of g slot
  few slot = grind (arith, length-map-range_with_len, length-filter, count_by-le-length)

  pub distance_few : distance g s t ≤ g.primary + g.secondary
  distance_few = omega (arith, distance_both, few Primary, few Secondary)

-- Where no sector differs, the flashes are one.
module _ (g : Geometry) (s t : Content) (one : IsSized g s) (other : IsSized g t) where
  held_same : (at : SectorId) → is_other g s t at ≡ false → held_in g s at ≡ held_in g t at
  held_same at is = (bytes_eq-Decides (held_in g s at) (held_in g t at)).0 (by (bytes_eq (held_in g s at) (held_in g t at)) is)
    where
      by : (b : Bool) → not b ≡ false → b ≡ true
      by true e = refl
      by false e = absurd cc

  module _ (slot : Slot) where
    sector_more : (n : ℕ) (s : Content) → take ((n + 1) * g.sector) (bytes_of s slot) ≡ take (n * g.sector) (bytes_of s slot) ++ held_in g s (record { slot = slot; number = n })
    sector_more n s = grind (arith, take-add)

    abbrev IsSameFirst : ℕ → Type 0
    IsSameFirst n = differing_first g s t slot n ≡ [] → take (n * g.sector) (bytes_of s slot) ≡ take (n * g.sector) (bytes_of t slot)

    same_next : (n : ℕ) → IsSameFirst n → IsSameFirst (n + 1)
    same_next n before none = by (is_other g s t (at g s t slot n)) refl
      where
        by : (b : Bool) → is_other g s t (at g s t slot n) ≡ b → take ((n + 1) * g.sector) (bytes_of s slot) ≡ take ((n + 1) * g.sector) (bytes_of t slot)
        by true is = absurd (omega (arith, ap (λ (l : List SectorId). length l) (sym (one_more g s t slot n is) ∙ none), length-append (differing_first g s t slot n) (at g s t slot n ∷ [])))
        by false is =
            sector_more n s ∙ ap₂ (λ (x y : List ℕ). x ++ y) (before (sym (no_more g s t slot n is) ∙ none)) (held_same (at g s t slot n) is) ∙ sym (sector_more n t)

    same_first : (n : ℕ) → IsSameFirst n
    same_first zero none = let e : 0 * g.sector ≡ 0 = omega arith in rw e refl
    same_first (suc n) none = let e : n + 1 ≡ suc n = omega arith in (subst IsSameFirst e (same_next n (same_first n))) none

    same_bytes : differing_in g s t slot ≡ [] → bytes_of s slot ≡ bytes_of t slot
    same_bytes none =
        sym (take_all (sectors_of g slot * g.sector) (bytes_of s slot) (omega (arith, sized_is g s slot one)))
        ∙ same_first (sectors_of g slot) none
        ∙ take_all (sectors_of g slot * g.sector) (bytes_of t slot) (omega (arith, sized_is g t slot other))

  pub same_content : differing g s t ≡ [] → s ≡ t
  same_content none =
      let both = parts_none (differing_in g s t Primary) (differing_in g s t Secondary) (sym (in_both g s t) ∙ none) in
      ap₂ content_of (same_bytes Primary both.0) (same_bytes Secondary both.1)
