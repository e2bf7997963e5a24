-- A page of all rows to come.
use Rattle.std.specs.{Prelude.{zero, nat_le, if◌then◌else◌, true, false, ◌∷◌, ◌<◌, All}, Io.KnownBytes.{Appends}}
use Rattle.std.proofs.Common.{◌≡◌, ℕ, suc, ◌≤◌, List, [], ◌++◌, length, drop, None, Option, refl, sym, ap, subst, ◌∙◌, append-nil, arith, inl, inr}
use Rattle.std.proofs.{lemmas.Bool.{cases_lt}, lemmas.Bool.Decides.{nat_tests}, lemmas.List.Elements.{All-head}}
use Rattle.mc_output.specs.Text.{AppendsPrefix}
use Rattle.mc_explore.specs.Pages.{Listing, IsRest, Page, IsBefore, AreBefore, rows_taken, TakesPage, ShownIsOut, ShownBegan, PageIsOut, PageBegan, page_at, page_text, state_past}

module _ {S K R C : Type 0} (l : Listing S K R C) where
  pub all_shown : (rows shown : List R) → AreBefore l None rows shown → rows ≡ shown
  all_shown rows shown are = by are.others are.parted are.none
    where
      by : (others : List R) → rows ≡ shown ++ others → All (λ row. IsBefore l None (l.key row) → ⊥) others → rows ≡ shown
      by [] parted none = parted ∙ append-nil shown
      by (x ∷ others) parted none = absurd (All-head (λ row. IsBefore l None (l.key row) → ⊥) x others none tt)

  -- Past the last row nothing is taken.
  past_over : (state : S) (n : ℕ) (rows : List R) → length rows ≤ n → state_past l state n rows ≡ state_past l state (length rows) rows
  unfolding state_past
  past_over state zero [] at_most = refl
  past_over state zero (row ∷ rows) at_most = absurd (omega (arith, at_most))
  past_over state (suc n) [] at_most = refl
  past_over state (suc n) (row ∷ rows) at_most = past_over (l.moved_to state (l.key row)) n rows (omega (arith, at_most))

  drop_over : (n : ℕ) (rows : List R) → length rows ≤ n → drop n rows ≡ []
  drop_over zero [] at_most = refl
  drop_over zero (row ∷ rows) at_most = absurd (omega (arith, at_most))
  drop_over (suc n) [] at_most = refl
  drop_over (suc n) (row ∷ rows) at_most = drop_over n rows (omega (arith, at_most))

  taken_all : (state : S) (limit : ℕ) (rows : List R) → (state_past l state (rows_taken l limit rows) rows ≡ state_past l state limit rows) × (drop (rows_taken l limit rows) rows ≡ drop limit rows)
  taken_all state limit rows = elim (cases_lt (length rows) limit) [
    | inl short ↦
        let over : rows_taken l limit rows ≡ suc (length rows) = ap (λ b. if b then limit else suc (length rows)) (above short) in (
          ap (λ n. state_past l state n rows) over ∙ past_over state (suc (length rows)) rows (omega arith) ∙ sym (past_over state limit rows (omega (arith, short))),
          ap (λ n. drop n rows) over ∙ drop_over (suc (length rows)) rows (omega arith) ∙ sym (drop_over limit rows (omega (arith, short))),
        )
    | inr full ↦
        let same : rows_taken l limit rows ≡ limit = ap (λ b. if b then limit else suc (length rows)) (within full) in
        (ap (λ n. state_past l state n rows) same, ap (λ n. drop n rows) same)
  ]
    where
      above : length rows < limit → nat_le limit (length rows) ≡ false
      above short = grind (arith, nat_tests)

      within : limit ≤ length rows → nat_le limit (length rows) ≡ true
      within full = grind (arith, nat_tests)

  -- A page of all rows to come, where the explorer took its rows.
  pub record Whole (old new : S) (limit : ℕ) (page : Page R C) : Type 0 where
    pub rows : List R
    pub rest : IsRest l old rows
    pub page_is : page ≡ page_at l old limit rows
    pub left : IsRest l new (drop limit rows)
    pub past : new ≡ state_past l old limit rows

  pub whole_taken : (old new : S) (limit : ℕ) (page : Page R C) → (t : TakesPage l None old new limit page) → (w : Whole old new limit page) × (w.rows ≡ t.of.rows)
  whole_taken old new limit page t =
      let all = all_shown t.of.rows t.of.shown t.of.are in
      let taken = taken_all old limit t.of.rows in
      let w : Whole old new limit page = record {
        rows = t.of.rows;
        rest = t.of.rest;
        page_is = t.page_is ∙ ap (λ z. page_at l old limit z) (sym all);
        left = subst (IsRest l new) (ap (λ z. drop (rows_taken l limit z) t.of.rows) (sym all) ∙ taken.1) t.left;
        past = t.past ∙ ap (λ z. state_past l old (rows_taken l limit z) t.of.rows) (sym all) ∙ taken.0;
      } in
      (w, refl)

  pub whole_page : (old new : S) (limit : ℕ) (before after : Option (List ℕ)) → ShownIsOut l None old new limit before after → PageIsOut l old new limit before after
  whole_page old new limit before after s =
      let w = whole_taken old new limit s.page s.taken in
      record {
        rows = w.0.rows;
        rest = w.0.rest;
        restarts = subst (All (l.Restarts old)) (sym w.1) s.restarts;
        out = subst (λ z. Appends before after (page_text l z)) w.0.page_is s.out;
        left = w.0.left;
        past = w.0.past;
      }

  pub whole_began : (old : S) (limit : ℕ) (before after : Option (List ℕ)) → ShownBegan l None old limit before after → PageBegan l old limit before after
  whole_began old limit before after s =
      let all = all_shown s.of.rows s.of.shown s.of.are in
      record { rows = s.of.rows; rest = s.of.rest; restarts = s.restarts; out = subst (λ z. AppendsPrefix before after (page_text l (page_at l old limit z))) (sym all) s.out }
