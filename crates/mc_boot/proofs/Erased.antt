-- Sectors that are erased already: to erase them again changes nothing.
use Rattle.std.specs.Prelude.{◌≡◌, ◌≢◌, ◌⊎◌, ℕ, zero, suc, ◌+◌, ◌*◌, ◌-◌, ◌<◌, ◌≤◌, true, List, [], ◌∷◌, length, replicate, take, drop, refl}
use Rattle.std.specs.List.{between, AllByRecursion}
use Rattle.std.proofs.{Common.{arith, sym, ap, subst, ◌∙◌, inl, inr}, lemmas.Bool.{cases_lt}, lemmas.Grind.{elements}, lemmas.List.{length-replicate}}
use Rattle.mc_flash.specs.{Geometry.{Geometry}, Flash.{is_blank, Content, byte, bytes_of}, facts.Changes.{Changed, range_blank}, declared.op.Slot.{Slot}}
use Rattle.mc_flash.specs.declared.op.Slot.TheVariants.{Primary, Secondary}
use Rattle.mc_boot.proofs.Meets.{blank, erase_in, erases, Fit, fit_longer, same_bytes, same_content, which_slot, all_weaker}
use Rattle.mc_boot.specs.inner.Meets.{Sector}

module _ (g : Geometry) where
  -- Each byte of the sector is 0xff.
  abbrev pub IsErased : Content → Sector → Type 0
  IsErased s e = (i : ℕ) → i < g.sector → byte s e.slot (e.index * g.sector + i) ≡ 255

  abbrev pub AreErased : List Sector → Content → Type 0
  AreErased es s = AllByRecursion (IsErased s) es

  abbrev Ends : Content → Sector → Type 0
  Ends s e = e.index * g.sector + g.sector ≤ length (bytes_of s e.slot)

  wide : length {A = ℕ} (replicate g.sector 255) ≡ g.sector
  wide = length-replicate {A = ℕ} g.sector 255

  -- What the test of a sector's bytes says.
  pub erased_here : (s : Content) (e : Sector) → Ends s e
      → is_blank (between (e.index * g.sector) (e.index * g.sector + g.sector) (bytes_of s e.slot)) ≡ true → IsErased s e
  erased_here s e ends is i lt = range_blank (bytes_of s e.slot) (e.index * g.sector) g.sector i ends is lt

  becomes : (s : Content) (e : Sector) → Ends s e → IsErased (erase_in g s e) e
  becomes s e ends i lt =
      (erases g s e ends).inside i (omega (arith, wide, lt)) ∙ (grind (arith, elements))

  stays : (s : Content) (e f : Sector) → Ends s f → IsErased s e → IsErased (erase_in g s f) e
  stays s e f ends is i lt = by (which_slot e.slot f.slot)
    where
      at : ℕ
      at = e.index * g.sector + i

      after : Changed s (erase_in g s f) f.slot (f.index * g.sector) (replicate g.sector 255)
      after = erases g s f ends

      here : byte s f.slot at ≡ 255 → byte (erase_in g s f) f.slot at ≡ 255
      here was = elim (cases_lt at (f.index * g.sector)) [
        | inl low ↦ after.before at low ∙ was
        | inr high ↦ elim (cases_lt at (f.index * g.sector + g.sector)) [
          | inl low ↦ inner (at - f.index * g.sector) (omega (arith, high)) (omega (arith, low, high))
          | inr beyond ↦ after.beyond at (omega (arith, wide, beyond)) ∙ was
        ]
      ]
        where
          inner : (k : ℕ) → f.index * g.sector + k ≡ at → k < g.sector → byte (erase_in g s f) f.slot at ≡ 255
          inner k same short =
              subst (λ n. byte (erase_in g s f) f.slot n ≡ 255) same
              (after.inside k (omega (arith, wide, short)) ∙ (grind (arith, elements)))

      by : (e.slot ≡ f.slot) ⊎ (e.slot ≢ f.slot) → byte (erase_in g s f) e.slot at ≡ 255
      by (inl same) = rw same (here (rw same at (is i lt)))
      by (inr no_) = after.other e.slot at no_ ∙ is i lt

  noop : (s : Content) (e : Sector) → Ends s e → IsErased s e → erase_in g s e ≡ s
  noop s e ends is =
      same_content s (erase_in g s e) (each Primary) (each Secondary)
    where
      after : Changed s (erase_in g s e) e.slot (e.index * g.sector) (replicate g.sector 255)
      after = erases g s e ends

      inner : (i k : ℕ) → e.index * g.sector + k ≡ i → k < g.sector → byte (erase_in g s e) e.slot i ≡ byte s e.slot i
      inner i k at short =
          subst (λ n. byte (erase_in g s e) e.slot n ≡ byte s e.slot n) at
          (after.inside k (omega (arith, wide, short)) ∙ (grind (arith, elements)) ∙ sym (is k short))

      here : (i : ℕ) → byte (erase_in g s e) e.slot i ≡ byte s e.slot i
      here i = elim (cases_lt i (e.index * g.sector)) [
        | inl low ↦ after.before i low
        | inr high ↦ elim (cases_lt i (e.index * g.sector + g.sector)) [
          | inl low ↦ inner i (i - e.index * g.sector) (omega (arith, high)) (omega (arith, low, high))
          | inr beyond ↦ after.beyond i (omega (arith, wide, beyond))
        ]
      ]

      by : (o : Slot) (i : ℕ) → (o ≡ e.slot) ⊎ (o ≢ e.slot) → byte (erase_in g s e) o i ≡ byte s o i
      by o i (inl same) = rw same (here i)
      by o i (inr no_) = after.other o i no_

      each : (o : Slot) → bytes_of (erase_in g s e) o ≡ bytes_of s o
      each o = same_bytes s (erase_in g s e) o (after.sizes o) (λ i. by o i (which_slot o e.slot))

  pub fit_erased : (es : List Sector) (s : Content) (e : Sector) → Ends s e → Fit g es s → Fit g es (erase_in g s e)
  fit_erased es s e ends fits =
      fit_longer g es s (erase_in g s e) (λ o. omega (arith, (erases g s e ends).sizes o)) fits

  -- To blank sectors that are erased changes nothing.
  pub blank_noop : (es : List Sector) (s : Content) → Fit g es s → AreErased es s → blank g es s ≡ s
  blank_noop [] s fits are = refl
  blank_noop (e ∷ es) s fits are =
      ap (blank g es) (noop s e fits.0 are.0) ∙ blank_noop es s fits.1 are.1

  -- Sectors that are erased stay so.
  pub blank_stays : (xs es : List Sector) (s : Content) → Fit g es s → AreErased xs s → AreErased xs (blank g es s)
  blank_stays xs [] s fits are = are
  blank_stays xs (e ∷ es) s fits are =
      blank_stays xs es (erase_in g s e) (fit_erased es s e fits.0 fits.1) (all_weaker _ _ (λ x is. stays s x e fits.0 is) xs are)

  -- Sectors that were blanked are erased.
  pub blank_erased : (es : List Sector) (s : Content) → Fit g es s → AreErased es (blank g es s)
  blank_erased [] s fits = tt
  blank_erased (e ∷ es) s fits =
      let fit = fit_erased es s e fits.0 fits.1 in
      ((blank_stays (e ∷ []) es (erase_in g s e) fit (becomes s e fits.0, tt)).0, blank_erased es (erase_in g s e) fit)

-- The first of sectors that are erased.
pub erased_prefix : (g : Geometry) (es : List Sector) (s : Content) (i : ℕ) → AreErased g es s → AreErased g (take i es) s
erased_prefix g es s zero are = tt
erased_prefix g [] s (suc i) are = tt
erased_prefix g (e ∷ es) s (suc i) are = (are.0, erased_prefix g es s i are.1)

pub fit_prefix : (g : Geometry) (es : List Sector) (s : Content) (i : ℕ) → Fit g es s → Fit g (take i es) s
fit_prefix g es s zero fits = tt
fit_prefix g [] s (suc i) fits = tt
fit_prefix g (e ∷ es) s (suc i) fits = (fits.0, fit_prefix g es s i fits.1)

pub fit_beyond : (g : Geometry) (es : List Sector) (s : Content) (i : ℕ) → Fit g es s → Fit g (drop i es) s
fit_beyond g es s zero fits = fits
fit_beyond g [] s (suc i) fits = tt
fit_beyond g (e ∷ es) s (suc i) fits = fit_beyond g es s i fits.1

pub fit_blanked : (g : Geometry) (es xs : List Sector) (s : Content) → Fit g es s → Fit g xs s → Fit g xs (blank g es s)
fit_blanked g [] xs s fits fit = fit
fit_blanked g (e ∷ es) xs s fits fit =
    fit_blanked g es xs (erase_in g s e) (fit_erased g es s e fits.0 fits.1) (fit_erased g xs s e fits.0 fit)
