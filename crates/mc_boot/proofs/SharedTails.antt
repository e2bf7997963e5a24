-- Where the flashes after a cut lie among those of the boot that was cut.
use Rattle.std.specs.Prelude.{◌≡◌, ℕ, ◌+◌, ◌-◌, ◌<◌, ◌≤◌, max, List, [], ◌∷◌, ◌++◌, length, map, take, drop, Some, refl}
use Rattle.std.proofs.{Common.{arith, sym, ap, subst, ◌∙◌, inl, inr, length-append}, Math.Seq.{take-add, take-length, take-append-add}, lemmas.Bool.{cases_lt}}
use Rattle.std.proofs.lemmas.List.{length-take-le, length-map, take-append-drop, take-append-le, take-map}
use Rattle.mc_flash.specs.{Geometry.{Geometry}, Flash.{Content}, declared.op.Op.{Op}, facts.Changes.{same_content}}
use Rattle.mc_boot.specs.{Plan.{plan, PowerOn, again}, facts.Run.{happening_prefix}, Outcome.{applied, at, happening, ops_of}, inner.Meets.{Sector, erase_of}}
use Rattle.mc_boot.proofs.Meets.{Fit, blank, fit_longer, fit_there}
use Rattle.mc_boot.proofs.Erased.{AreErased, blank_erased, blank_noop, blank_stays, erased_prefix, fit_beyond, fit_blanked, fit_prefix}
use Rattle.mc_boot.proofs.Joins.{Joins, Met, applied_beyond, applied_longer, erases_applied, happens_all, happens_few_of, meets}
use lib.Seq.{take-take}

blank_append : (g : Geometry) (xs ys : List Sector) (s : Content) → blank g (xs ++ ys) s ≡ blank g ys (blank g xs s)
blank_append g [] ys s = refl
blank_append g (x ∷ xs) ys s = blank_append g xs ys _

take_mapped : {A B : Type 0} (f : A → B) (xs : List A) (ys : List B) (i : ℕ) → i ≤ length xs → take i (map f xs ++ ys) ≡ map f (take i xs)
take_mapped f xs ys i at_most = take-append-le i (map f xs) ys (simp length-map at_most) ∙ take-map f i xs

module _ (from : PowerOn) (u : Content) (c j : ℕ) (es : List Sector) (joins : Joins from u c j es) where
  met : Met from u j es
  met = meets from u c j es joins

  abbrev rest : List Op
  rest = happening from.geometry (drop (length es) (plan (again from u)).list) (blank from.geometry es u)

  ops_are : ops_of (again from u) ≡ map erase_of es ++ rest
  unfolding ops_of
  ops_are = grind (arith, happening_prefix, erases_applied)

  pub next_erases : length es ≤ length (ops_of (again from u))
  next_erases = grind (arith, ops_are, length-append, length-map)

  -- The boot that was cut leaves after j operations more what the next one's first operations make of another content.
  further : (i : ℕ) → at from (j + i) ≡ applied from.geometry (take i (ops_of (again from u))) met.from
  unfolding at
  further i =
      let count : j ≡ length (take j (plan from).list) = sym (length-take-le j (plan from).list (omega (arith, joins.passed, joins.early, at_most))) in
      let prefix : take (j + i) (ops_of from) ≡ take j (plan from).list ++ take i (ops_of (again from u)) =
      ap (take (j + i)) (happens_all from u c j es joins)
      ∙ ap (λ n. take (n + i) (take j (plan from).list ++ ops_of (again from u))) count
      ∙ take-append-add (take j (plan from).list) (ops_of (again from u)) i in
      ap (λ (xs : List Op). applied from.geometry xs from.content) prefix
      ∙ applied_beyond from.geometry (take j (plan from).list) (take i (ops_of (again from u))) from.content met.from met.start
    where
      at_most : length (ops_of from) ≤ length (plan from).list
      at_most = happens_few_of from

  -- Among the erases.
  next_at : (i : ℕ) → i ≤ length es → at (again from u) i ≡ Some (blank from.geometry (take i es) u)
  unfolding at
  next_at i at_most = grind (arith, ops_are, take_mapped, erases_applied)

  further_at : (i : ℕ) → i ≤ length es → at from (j + i) ≡ Some (blank from.geometry (take i es) met.from)
  further_at i at_most = further i ∙ (grind (arith, ops_are, take_mapped, erases_applied))

  -- After the erases both are the same.
  pub late : (i : ℕ) → length es ≤ i → at (again from u) i ≡ at from (j + i)
  unfolding at
  late i many =
      beyond u ∙ ap (λ x. applied from.geometry (take (i - length es) rest) x) met.alike ∙ sym (beyond met.from) ∙ sym (further i)
    where
      count : i ≡ length (map erase_of es) + (i - length es)
      count = omega (arith, many, length-map {A = Sector} {B = Op} es erase_of)

      prefix : take i (ops_of (again from u)) ≡ map erase_of es ++ take (i - length es) rest
      prefix =
          ap (take i) ops_are
          ∙ ap (λ n. take n (map erase_of es ++ rest)) count
          ∙ take-append-add (map erase_of es) rest (i - length es)

      beyond : (x : Content) → applied from.geometry (take i (ops_of (again from u))) x ≡ applied from.geometry (take (i - length es) rest) (blank from.geometry es x)
      beyond x =
          ap (λ (xs : List Op). applied from.geometry xs x) prefix
          ∙ applied_beyond from.geometry (map erase_of es) (take (i - length es) rest) x (blank from.geometry es x) (erases_applied from.geometry es x)

  pub fits : Fit from.geometry es u
  unfolding at ops_of
  fits =
      fit_longer from.geometry es from.content u (applied_longer from.geometry (take c (ops_of from)) from.content u joins.cut) (fit_there from.geometry es from.content joins.sized joins.there)

  fits_some : (i : ℕ) (x : Content) → Fit from.geometry es x → Fit from.geometry (take i es) x
  fits_some i x fit = fit_prefix from.geometry es x i fit

  -- Sectors that are erased already change nothing.
  pub stays : (i : ℕ) → i ≤ length es → AreErased from.geometry (take i es) u → at (again from u) i ≡ at from c
  stays i at_most are = next_at i at_most ∙ ap (λ x. Some x) (blank_noop from.geometry (take i es) u (fits_some i u fits) are) ∙ sym joins.cut

  module _ (within : c ≤ j + length es) where
    was : u ≡ blank from.geometry (take (c - j) es) met.from
    was =
        let index : j + (c - j) ≡ c = (let p = joins.passed in omega (arith, p)) in
        grind (arith, same_content, blank, further_at)

    are_erased : AreErased from.geometry (take (c - j) es) u
    are_erased = grind (arith, was, blank_erased, fits_some)

    -- The cut lay among the erases, or before them.
    pub among : (i : ℕ) → i < length es → at (again from u) i ≡ at from (max c (j + i))
    among i at_most = elim (cases_lt i (c - j)) [
      | inl low ↦
          let same : max c (j + i) ≡ c = omega (arith, low) in
          let prefix : take i (take (c - j) es) ≡ take i es = take-take i (c - j) es (omega (arith, low)) in
          stays i (omega (arith, at_most)) (subst (λ xs. AreErased from.geometry xs u) prefix (erased_prefix from.geometry (take (c - j) es) u i are_erased)) ∙ ap (at from) (sym same)
      | inr high ↦
          let same : max c (j + i) ≡ j + i = omega (arith, high) in
          let more : List Sector = take (i - (c - j)) (drop (c - j) es) in
          let parts : take i es ≡ take (c - j) es ++ more = ap (λ n. take n es) (omega (arith, high)) ∙ take-add (c - j) (i - (c - j)) es in
          let blanked : (x : Content) → blank from.geometry (take i es) x ≡ blank from.geometry more (blank from.geometry (take (c - j) es) x) =
          (λ x. ap (λ xs. blank from.geometry xs x) parts ∙ blank_append from.geometry (take (c - j) es) more x) in
          let alike : blank from.geometry (take i es) u ≡ blank from.geometry (take i es) met.from =
          blanked u ∙ ap (blank from.geometry more) (blank_noop from.geometry (take (c - j) es) u (fits_some (c - j) u fits) are_erased ∙ was) ∙ sym (blanked met.from) in
          next_at i (omega (arith, at_most)) ∙ ap (λ x. Some x) alike ∙ sym (further_at i (omega (arith, at_most))) ∙ ap (at from) (sym same)
    ]

  -- All that is left to be erased is erased already.
  pub beyond_erased : (i : ℕ) → i ≤ length es → AreErased from.geometry (drop i es) u → at (again from u) i ≡ at from (j + length es)
  beyond_erased i at_most are =
      let fit = fits_some i u fits in
      let parts : es ≡ take i es ++ drop i es = sym (take-append-drop i es) in
      let left : Fit from.geometry (drop i es) (blank from.geometry (take i es) u) = fit_blanked from.geometry (take i es) (drop i es) u fit (fit_beyond from.geometry es u i fits) in
      grind (arith, blank, blank_append, blank_noop, blank_stays, take-length, next_at, at_most, further_at)
