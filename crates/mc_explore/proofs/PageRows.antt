-- The rows of a page, as they are taken one after another.
use Rattle.std.specs.Prelude.{nat_le, if◌then◌else◌, Bool, true, false, ◌∷◌, ◌<◌, ◌⊎◌, Contains}
use Rattle.std.proofs.Common.{◌≡◌, ℕ, suc, ◌+◌, ◌*◌, ◌≤◌, List, [], ◌++◌, length, drop, Some, None, Option, refl, sym, ap, subst, ◌∙◌, append_assoc, append-nil, arith, inl, inr}
use Rattle.std.proofs.{lemmas.Bool.Decides.{nat_tests}, lemmas.List.{take_all, take_at, length-append}}
use Rattle.std.proofs.lemmas.List.Elements.{All-nil, All-cons, All-head, All-tail, All-same, All-weaker, All-contains_itself}
use Rattle.mc_tree.specs.{Tree.{last_key, Ascends}, facts.Lists.{pairs_rest, pairs_head}, facts.Order.{cases_of}}
use Rattle.mc_explore.specs.facts.Listings.{rest_next, rest_over}
use Rattle.mc_explore.specs.Pages.{Listing, IsLawful, IsRest, FindsRow, Page, IsBefore, AreBefore, Shown, rows_taken, TakesPage, FindsBefore, page_at, state_past}

-- ---- how many rows are taken

none_first : (n : ℕ) → nat_le 0 n ≡ true
none_first n = grind (arith, nat_tests)

one_less : (k n : ℕ) → nat_le (suc k) (suc n) ≡ nat_le k n
one_less k n = grind arith

not_full : (k : ℕ) → nat_le (suc k) 0 ≡ false
not_full k = grind (arith, nat_tests)

module _ {S K R C : Type 0} (l : Listing S K R C) where
  -- ---- the page of some rows

  -- A page of those rows, which goes on after the last of them or not.
  abbrev pub page_with : S → List R → Bool → Page R C
  page_with state rows full = record { rows = rows; goes_on = if full then Some (l.cursor state (last_key l.key l.no_key rows)) else None }

  -- Fewer rows than there is room for.
  short_page : (state : S) (limit : ℕ) (rows : List R) → length rows < limit → page_with state rows false ≡ page_at l state limit rows
  short_page state limit rows short = grind (arith, take_all)

  -- As many rows as there is room for.
  full_page : (state : S) (limit : ℕ) (rows more : List R) → length rows ≡ limit → page_with state rows true ≡ page_at l state limit (rows ++ more)
  full_page state limit rows more full = grind (arith, length-append, take_at)

  -- ---- how many rows are taken

  taken_full : (shown : List R) → rows_taken l 0 shown ≡ 0
  taken_full shown = ap (λ b. if b then 0 else suc (length shown)) (none_first (length shown))

  taken_none : (k : ℕ) → rows_taken l (suc k) [] ≡ 1
  taken_none k = ap (λ b. if b then suc k else 1) (not_full k)

  taken_on : (k : ℕ) (row : R) (shown : List R) → rows_taken l (suc k) (row ∷ shown) ≡ suc (rows_taken l k shown)
  taken_on k row shown = ap (λ b. if b then suc k else suc (suc (length shown))) (one_less k (length shown)) ∙ one_more (nat_le k (length shown)) k (suc (length shown))
    where
      one_more : (b : Bool) (x y : ℕ) → (if b then suc x else suc y) ≡ suc (if b then x else y)
      one_more true x y = refl
      one_more false x y = refl

  abbrev RowsBefore : R → R → Type 0
  RowsBefore a b = l.Before (l.key a) (l.key b)

-- ---- the rows that are shown

module _ {S K R C : Type 0} (l : Listing S K R C) (laws : IsLawful l) where
  module _ (until : Option K) where
    -- The next row is the first of them.
    shown_on : (row : R) (rows shown : List R) → IsBefore l until (l.key row) → AreBefore l until (row ∷ rows) shown → (left : List R) × (shown ≡ row ∷ left) × AreBefore l until rows left
    shown_on row rows [] before are = absurd (All-head (λ x. IsBefore l until (l.key x) → ⊥) row rows (All-same (λ x. IsBefore l until (l.key x) → ⊥) (row ∷ rows) are.others are.parted are.none)
        before)
    shown_on row rows (x ∷ shown) before are =
        let parted : row ∷ rows ≡ x ∷ (shown ++ are.others) = are.parted in
        let first : x ≡ row = cc in
        (shown, ap (λ z. z ∷ shown) first, record { others = are.others; parted = cc; before = All-tail (λ y. IsBefore l until (l.key y)) x shown are.before; none = are.none })

    -- Where it is not shown, or there is none, none is.
    shown_over : (row : R) (rows shown : List R) → (IsBefore l until (l.key row) → ⊥) → AreBefore l until (row ∷ rows) shown → shown ≡ []
    shown_over row rows [] not are = refl
    shown_over row rows (x ∷ shown) not are =
        let parted : row ∷ rows ≡ x ∷ (shown ++ are.others) = are.parted in
        let first : x ≡ row = cc in
        absurd (not (subst (λ y. IsBefore l until (l.key y)) first (All-head (λ y. IsBefore l until (l.key y)) x shown are.before)))

    shown_none : (rows shown : List R) → rows ≡ [] → AreBefore l until rows shown → shown ≡ []
    shown_none rows [] none are = refl
    shown_none rows (x ∷ shown) none are = let no : [] ≡ x ∷ (shown ++ are.others) = sym none ∙ are.parted in absurd cc

    before_cases : (k : K) → IsBefore l until k ⊎ (IsBefore l until k → ⊥)
    before_cases k = by until
      where
        by : (bound : Option K) → IsBefore l bound k ⊎ (IsBefore l bound k → ⊥)
        by None = inl tt
        by (Some m) = cases_of l.Before laws.order k m

    before_back : (k m : K) → l.Before k m → IsBefore l until m → IsBefore l until k
    before_back k m p q = by until q
      where
        by : (bound : Option K) → IsBefore l bound m → IsBefore l bound k
        by None q = tt
        by (Some n) q = laws.order.trans k m n p q

    -- Some of the rows to come are, since they ascend.
    some_before : (rows : List R) → Ascends l.Before l.key rows → (shown : List R) × AreBefore l until rows shown
    some_before [] up = ([], record { others = []; parted = refl; before = All-nil (λ row. IsBefore l until (l.key row)); none = All-nil (λ row. IsBefore l until (l.key row) → ⊥) })
    some_before (x ∷ rows) up = elim (before_cases (l.key x)) [
      | inl before ↦
          let q = some_before rows (pairs_rest (RowsBefore l) x rows up) in (
            x ∷ q.0,
            record { others = q.1.others; parted = ap (λ z. x ∷ z) q.1.parted; before = All-cons (λ row. IsBefore l until (l.key row)) x q.0 before q.1.before; none = q.1.none },
          )
      | inr not ↦
          let later : (y : R) → Contains rows y → IsBefore l until (l.key y) → ⊥ = λ y c before. not (before_back (l.key x) (l.key y) (pairs_head (RowsBefore l) x y rows up c) before) in (
            [],
            record {
              others = x ∷ rows;
              parted = refl;
              before = All-nil (λ row. IsBefore l until (l.key row));
              none = All-cons (λ row. IsBefore l until (l.key row) → ⊥) x rows not (All-weaker (Contains rows) (λ row. IsBefore l until (l.key row) → ⊥) later rows (All-contains_itself rows));
            },
          )
    ]

    pub some_shown : (state : S) → Shown l until state
    some_shown state =
        let r = laws.some_rest state in
        let s = some_before r.0 r.1.ascends in
        record { rows = r.0; rest = r.1; shown = s.0; are = s.1 }

  -- ---- rows that were taken

  module _ (until : Option K) (old : S) (limit : ℕ) where
    -- Of the rows that are shown these were taken, and there is room for so many more.
    pub record SoFar (now : S) (room : ℕ) (some rows shown : List R) : Type 0 where
      pub left : Shown l until now
      pub shown_are : shown ≡ some ++ left.shown
      pub room_is : limit ≡ length some + room
      pub past : state_past l old (rows_taken l limit shown) rows ≡ state_past l now (rows_taken l room left.shown) left.rows
      pub dropped : drop (rows_taken l limit shown) rows ≡ drop (rows_taken l room left.shown) left.rows
      pub cursor_is : (k : K) → l.cursor now k ≡ l.cursor old k

    -- So it is of each list of the rows to come, of which there is one.
    abbrev pub AreSoFar : S → ℕ → List R → Type 0
    AreSoFar now room some = (of : Shown l until old) → SoFar now room some of.rows of.shown

  pub none_so_far : (until : Option K) (old : S) (limit : ℕ) → AreSoFar until old limit old limit []
  none_so_far until old limit of = record { left = of; shown_are = refl; room_is = omega arith; past = refl; dropped = refl; cursor_is = λ k. refl }

  module _ (until : Option K) (old : S) (limit : ℕ) (now : S) (room : ℕ) (some : List R) (so_far : AreSoFar until old limit now room some) where
    -- Of the rows to come, and of those that are shown, the next row is the first.
    pub record Next (row : R) (left : Shown l until now) : Type 0 where
      pub others : Shown l until (l.moved_to now (l.key row))
      pub rows_are : left.rows ≡ row ∷ others.rows
      pub shown_are : left.shown ≡ row ∷ others.shown

    pub next_of : (row : R) (left : Shown l until now) → FindsRow l now (Some row) → IsBefore l until (l.key row) → Next row left
    next_of row left f b =
        let n = rest_next l laws now row left.rows f left.rest in
        let s = shown_on until row n.0 left.shown b (subst (λ z. AreBefore l until z left.shown) n.1 left.are) in
        record { others = record { rows = n.0; rest = n.2; shown = s.0; are = s.2 }; rows_are = n.1; shown_are = s.1 }

    module _ (k : ℕ) (is : room ≡ suc k) where
      -- One row more.
      pub one_more : (new : S) (row : R) → FindsBefore l until now (Some row) new → AreSoFar until old limit new k (some ++ row ∷ [])
      unfolding state_past
      one_more new row (found, shows, moved) of =
          let p = so_far of in
          let n = next_of row p.left found shows in
          let taken : rows_taken l room p.left.shown ≡ suc (rows_taken l k n.others.shown) =
          ap (λ z. rows_taken l z p.left.shown) is ∙ ap (λ z. rows_taken l (suc k) z) n.shown_are ∙ taken_on l k row n.others.shown in
          subst (λ s. SoFar until old limit s k (some ++ row ∷ []) of.rows of.shown) (sym moved) (record {
            left = n.others;
            shown_are = p.shown_are ∙ ap (λ z. some ++ z) n.shown_are ∙ sym (append_assoc some (row ∷ []) n.others.shown);
            room_is = omega (arith, p.room_is, is, length-append some (row ∷ []));
            past = p.past ∙ ap (λ z. state_past l now z p.left.rows) taken ∙ ap (λ z. state_past l now (suc (rows_taken l k n.others.shown)) z) n.rows_are;
            dropped = p.dropped ∙ ap (λ z. drop z p.left.rows) taken ∙ ap (λ z. drop (suc (rows_taken l k n.others.shown)) z) n.rows_are;
            cursor_is = λ m. laws.cursor_stays now (l.key row) m ∙ p.cursor_is m;
          })

      -- Where no further row is shown: the row that is taken then, or that there is none.
      record Ended (new : S) (left : Shown l until now) : Type 0 where
        pub none : left.shown ≡ []
        pub past : state_past l now 1 left.rows ≡ new
        pub rest : IsRest l new (drop 1 left.rows)

      ended : (new : S) (left : Shown l until now) → FindsBefore l until now None new → Ended new left
      unfolding state_past
      ended new left (inl (over, same)) =
          let none : left.rows ≡ [] = rest_over l laws now left.rows over left.rest in
          record {
            none = shown_none until left.rows left.shown none left.are;
            past = ap (λ z. state_past l now 1 z) none ∙ sym same;
            rest = subst (λ s. IsRest l s (drop 1 left.rows)) (sym same) (subst (λ z. IsRest l now z) (none ∙ sym (ap (λ z. drop 1 z) none)) left.rest);
          }
      ended new left (inr (row, found, not, moved)) =
          let n = rest_next l laws now row left.rows found left.rest in
          record {
            none = shown_over until row n.0 left.shown not (subst (λ z. AreBefore l until z left.shown) n.1 left.are);
            past = ap (λ z. state_past l now 1 z) n.1 ∙ sym moved;
            rest = subst (λ s. IsRest l s (drop 1 left.rows)) (sym moved) (subst (λ z. IsRest l (l.moved_to now (l.key row)) z) (sym (ap (λ z. drop 1 z) n.1)) n.2);
          }

      -- The page is not full then, and has those rows.
      pub page_short : (new : S) → FindsBefore l until now None new → TakesPage l until old new limit (page_with l old some false)
      page_short new f =
          let of = some_shown until old in
          let p = so_far of in
          let e = ended new p.left f in
          let shown : some ≡ of.shown = sym (p.shown_are ∙ ap (λ z. some ++ z) e.none ∙ append-nil some) in
          let taken : rows_taken l room p.left.shown ≡ 1 = ap (λ z. rows_taken l z p.left.shown) is ∙ ap (λ z. rows_taken l (suc k) z) e.none ∙ taken_none l k in
          record {
            of = of;
            page_is = short_page l old limit some (omega (arith, p.room_is, is)) ∙ ap (λ z. page_at l old limit z) shown;
            left = subst (IsRest l new) (sym (p.dropped ∙ ap (λ z. drop z p.left.rows) taken)) e.rest;
            past = sym (p.past ∙ ap (λ z. state_past l now z p.left.rows) taken ∙ e.past);
          }

    -- The page that is full.
    pub page_full : room ≡ 0 → TakesPage l until old now limit (page_with l old some true)
    unfolding state_past
    page_full full =
        let of = some_shown until old in
        let p = so_far of in
        let taken : rows_taken l room p.left.shown ≡ 0 = ap (λ z. rows_taken l z p.left.shown) full ∙ taken_full l p.left.shown in
        record {
          of = of;
          page_is = full_page l old limit some p.left.shown (omega (arith, p.room_is, full)) ∙ ap (λ z. page_at l old limit z) (sym p.shown_are);
          left = subst (IsRest l now) (sym (p.dropped ∙ ap (λ z. drop z p.left.rows) taken)) p.left.rest;
          past = sym (p.past ∙ ap (λ z. state_past l now z p.left.rows) taken);
        }

    -- The cursor that it goes on from.
    pub cursor_is : (cursor : C) → cursor ≡ l.cursor now (last_key l.key l.no_key some) → Some cursor ≡ (page_with l old some true).goes_on
    cursor_is cursor is =
        let p = so_far (some_shown until old) in
        ap (λ c. Some c) (is ∙ p.cursor_is (last_key l.key l.no_key some))

-- ---- what a page costs

-- One row of those that are left.
pub row_paid : (old new room left cost most : ℕ) → room ≡ suc left → new ≤ old + cost → old + room * cost ≤ most → new + left * cost ≤ most
row_paid old new room left cost most is more less = let e : room * cost ≡ left * cost + cost = ap (λ n. n * cost) is ∙ one_more left cost in omega (arith, more, less, e)
  where
    one_more : (n l : ℕ) → suc n * l ≡ n * l + l
    one_more n l = omega arith
