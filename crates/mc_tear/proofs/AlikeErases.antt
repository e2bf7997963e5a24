-- The secondary's trailer is erased in flashes that boots treat alike.
use Rattle.std.proofs.{Common.{ap, arith, inl, inr, subst, sym, ◌∙◌}, lemmas.Bool.{cases_lt}}
use Rattle.std.specs.List.{range_with_len}
use Rattle.std.specs.Prelude.{List, None, Some, map, refl, suc, zero, ℕ, ◌*◌, ◌++◌, ◌+◌, ◌-◌, ◌<◌, ◌≡◌, ◌≤◌, ◌⊎◌}
use Rattle.mc_boot.proofs.Keeps.{Erased, erased_here, erased_still}
use Rattle.mc_boot.specs.{Plan.{trailer_erase, trailer_erases}, Torn.{IsTorn}}
use Rattle.mc_flash.specs.{Flash.{Content, IsSized, apply, byte, sectors_of, size_of}, Geometry.{Geometry, IsLayout, trailer_sectors}, declared.op.Op.{Op}}
use Rattle.mc_flash.specs.{declared.op.Slot.{Slot}, declared.op.Slot.TheVariants.{Secondary}}
use Rattle.mc_flash.specs.facts.{Layouts.{data_end, data_sectors, trailer_leaves_one}}
use Rattle.mc_tear.proofs.{AlikeFlashes.{Alike, BlankSecond, Tears, erase_makes, erase_torn}, Near.{Near, nowhere}, NearOps.{near_erase}, NearTorn.{GoesOn, Leaves}}
use Rattle.mc_tear.proofs.{Pairs.{BothDo, Pairs, pairs_range}, Whole.{whole_is}}
use Rattle.mc_tear.specs.{Cases.{tearing_of}, declared.torn.Erasing.{Erasing}}
use Rattle.mc_trailer.specs.declared.tables.Rules.{Rules}

module _ (e : Erasing) (r : Rules) (g : Geometry) (ok : IsLayout g) (H : Slot → ℕ → Type 0) (I : ℕ → ℕ → Content → Content → Type 0)
    (alike : (i m : ℕ) (s t : Content) → Near g H s t → I i m s t → Alike e r g s t)
    (alike_torn : (i m : ℕ) (s t u v : Content) (ops : List Op) → I i (suc m) s t → Leaves e g (trailer_erase g Secondary i) ops s u → IsTorn (tearing_of e) g (trailer_erase g Secondary i) t v
    → Near g H u v → Alike e r g u v)
    (kept : (i m : ℕ) (s t u w : Content) → Near g H s t → I i (suc m) s t → i < trailer_sectors g → apply g (trailer_erase g Secondary i) s ≡ Some u
    → apply g (trailer_erase g Secondary i) t ≡ Some w → I (i + 1) m u w)
    (ys : List Op) (Z : Content → Content → Type 0)
    (ends : (i : ℕ) (u w : Content) → Near g H u w → BlankSecond g u → BlankSecond g w → I i 0 u w → GoesOn g ys u × Pairs g (Tears e r g) (Near g nowhere) Z ys u w) where
  abbrev T : Content → Content → Op → List Op → Type 0
  T = Tears e r g

  abbrev f : ℕ → Op
  f = trailer_erase g Secondary

  -- The first so many are erased.
  abbrev Cleared : ℕ → Content → Type 0
  Cleared i s = (p : ℕ) → (sectors_of g Secondary - i) * g.sector ≤ p → p < size_of g Secondary → byte s Secondary p ≡ 255

  record K (i m : ℕ) (s t : Content) : Type 0 where
    count : i + m ≡ trailer_sectors g
    near_ : Near g H s t
    more : I i m s t
    clear_s : Cleared i s
    clear_t : Cleared i t

  module _ (i m : ℕ) (s t : Content) (k : K i (suc m) s t) where
    below : i < trailer_sectors g
    below = let c = k.count in omega (arith, c)

    sector_below : sectors_of g Secondary - 1 - i < sectors_of g Secondary
    sector_below = let leaves = trailer_leaves_one g Secondary ok in omega (arith, below, leaves)

    sector_from : data_sectors g Secondary ≤ sectors_of g Secondary - 1 - i
    sector_from = let leaves = trailer_leaves_one g Secondary ok in omega (arith, below, leaves)

    next_sector : (sectors_of g Secondary - i) * g.sector ≡ (sectors_of g Secondary - 1 - i) * g.sector + g.sector
    next_sector =
        let up : sectors_of g Secondary - i ≡ sectors_of g Secondary - 1 - i + 1 = (let leaves = trailer_leaves_one g Secondary ok in omega (arith, below, leaves)) in
        ap (λ n. n * g.sector) up ∙ omega arith

    cleared_on : (x y : Content) → IsSized g x → apply g (f i) x ≡ Some y → Cleared i x → Cleared (i + 1) y
    cleared_on x y sized made was p from short = elim (cases_lt p ((sectors_of g Secondary - 1 - i) * g.sector + g.sector)) [
      | inl here ↦ erased_here g Secondary i x y p ch from_here here
      | inr above ↦ erased_still g Secondary i x y p ch (was p (omega (arith, above, next_sector)) short)
    ]
      where
        ch : Erased g Secondary i x y
        ch = whole_is g ok x sized (f i) y sector_below made

        from_here : (sectors_of g Secondary - 1 - i) * g.sector ≤ p
        from_here = let same : (sectors_of g Secondary - (i + 1)) * g.sector ≡ (sectors_of g Secondary - 1 - i) * g.sector = ap (λ n. n * g.sector) (omega arith) in omega (arith, same, from)

    step : T s t (f i) (map f (range_with_len (i + 1) m) ++ ys) × BothDo g (Near g nowhere) (K (i + 1) m) (f i) s t
    step = by (near_erase g ok H H Secondary (sectors_of g Secondary - 1 - i) sector_below (λ o j low out. inl out) s t k.near_)
      where
        whole : (u : Content) × (apply g (f i) s ≡ Some u)
        whole = let made = erase_makes e g ok H s t k.near_ (sectors_of g Secondary - 1 - i) sector_from sector_below s k.near_.outer.sized_u in (made.0, made.1)

        goes : (n : ℕ) (u w : Content) → m ≡ n → apply g (f i) s ≡ Some u → K (i + 1) m u w → GoesOn g (map f (range_with_len (i + 1) n) ++ ys) u
        goes zero u w none made is =
            let so : K (i + 1) 0 u w = subst (λ j. K (i + 1) j u w) none is in
            (ends (i + 1) u w so.near_ (blank u so.clear_s so.count) (blank w so.clear_t so.count) so.more).0
          where
            blank : (x : Content) → Cleared (i + 1) x → i + 1 + 0 ≡ trailer_sectors g → BlankSecond g x
            blank x clear count p high short =
                let same : (sectors_of g Secondary - (i + 1)) * g.sector ≡ data_end g Secondary = ap (λ n. (sectors_of g Secondary - n) * g.sector) (omega (arith, count)) in
                clear p (omega (arith, same, high)) short
        goes (suc n) u w some made is =
            let next = erase_makes e g ok H u w is.near_ (sectors_of g Secondary - 1 - (i + 1)) (let leaves = trailer_leaves_one g Secondary ok in let c = is.count in omega (arith, c, some, leaves))
            (let leaves = trailer_leaves_one g Secondary ok in let c = is.count in omega (arith, c, some, leaves)) u is.near_.outer.sized_u in
            (f (i + 1), map f (range_with_len (i + 1 + 1) n) ++ ys, refl, next.0, next.1)

        by : ((apply g (f i) s ≡ None) × (apply g (f i) t ≡ None)) ⊎ ((u : Content) × (w : Content) × (apply g (f i) s ≡ Some u) × (apply g (f i) t ≡ Some w) × Near g H u w)
            → T s t (f i) (map f (range_with_len (i + 1) m) ++ ys) × BothDo g (Near g nowhere) (K (i + 1) m) (f i) s t
        by (inl none) = absurd (let no_ : None ≡ Some whole.0 = sym none.0 ∙ whole.1 in cc)
        by (inr (u, w, at_u, at_w, near_)) = (
          (
            alike i (suc m) s t k.near_ k.more,
            λ v torn_v.
                let l = erase_torn e g ok H s t k.near_ (sectors_of g Secondary - 1 - i) sector_from sector_below v torn_v (map f (range_with_len (i + 1) m) ++ ys) u at_u (goes m u w refl at_u so) in
                (l.0, l.1, alike_torn i m s t l.0 v (map f (range_with_len (i + 1) m) ++ ys) k.more l.1 torn_v l.2),
          ),
          inr (u, w, at_u, at_w, so),
        )
          where
            so : K (i + 1) m u w
            so = record {
              count = let c = k.count in omega (arith, c);
              near_ = near_;
              more = kept i m s t u w k.near_ k.more below at_u at_w;
              clear_s = cleared_on s u k.near_.outer.sized_u at_u k.clear_s;
              clear_t = cleared_on t w k.near_.outer.sized_v at_w k.clear_t;
            }

  blank_of : (i : ℕ) (x : Content) → Cleared i x → i + 0 ≡ trailer_sectors g → BlankSecond g x
  blank_of i x clear count p high short =
      let same : (sectors_of g Secondary - i) * g.sector ≡ data_end g Secondary = ap (λ n. (sectors_of g Secondary - n) * g.sector) (omega (arith, count)) in
      clear p (omega (arith, same, high)) short

  none_yet : (x : Content) → Cleared 0 x
  none_yet x p from short =
      let whole : (sectors_of g Secondary - 0) * g.sector ≡ sectors_of g Secondary * g.sector = ap (λ n. n * g.sector) (omega arith) in
      absurd (omega (arith, whole, from, short))

  pub second_erased : (s t : Content) → Near g H s t → I 0 (trailer_sectors g) s t → Pairs g T (Near g nowhere) Z (trailer_erases g Secondary ++ ys) s t
  second_erased s t near_ more = pairs_range g T (Near g nowhere) K f ys Z step
      (λ i u w k. (ends i u w k.near_ (blank_of i u k.clear_s k.count) (blank_of i w k.clear_t k.count) k.more).1)
      0 (trailer_sectors g) s t (record { count = omega arith; near_ = near_; more = more; clear_s = none_yet s; clear_t = none_yet t })
