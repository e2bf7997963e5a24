-- The rows that are printed and those that are counted are one page.
use Rattle.std.specs.{Prelude.{ℕ, All, Bool, List, [], ◌∷◌, ◌++◌, ◌||◌, ◌⊎◌, Option, Some, None, Ok, Err, false, option_map, true}, Io.KnownBytes.{Appends, Keeps}}
use Rattle.std.proofs.Common.{◌≡◌, ap, append-nil, inl, inr, refl, subst, sym, ◌∙◌}
use Rattle.mc_output.specs.{Text.{AppendsPrefix}, facts.Prefixes.{out_begun, out_more, out_stops}}
use Rattle.mc_explore.specs.{Pages.{IsBefore, IsLawful, IsRest, Page, Shown, page_at, page_text}, Subject.{Explored, IsPlaceBefore, Subject, rows_of, state_at}, facts.Listings.{one_rest}}
use Rattle.mc_explore.specs.{Right.{rights_by}, Survey.{tally_by, tally_text}, declared.expectation.Expectation.{Expectation}}
use Rattle.mc_explore.specs.{declared.rights.RightsOf.{RightsOf}, declared.subject.Fields.{Fields}, declared.tally.TallyOf.{TallyOf}}
use Rattle.mc_boot.specs.Plan.{PowerOn}
use Rattle.mc_tree.specs.Tree.{After, AtStart, Lost, Position}
use Rattle.mc_options.specs.declared.refusal.Refusal.{Refusal}
use Rattle.mc_options.specs.declared.refusal.Refusal.TheVariants as refusals
use Rattle.mc_explore.specs.declared.error.ExploreError.{ExploreError}
use Rattle.mc_explore.specs.declared.error.ExploreError.TheVariants as errors
use Rattle.mc_options.specs.Requests.{End, IsUnwritten}
use Rattle.mc_verdict.specs.Sessions.{BeginsAs, Begins, PrintsUntil, TalliesFor, ends_of, or_any}
use Rattle.mc_verdict.specs.{Verdicts.{AreCounted, IsExpectation, IsVerdict, is_of_slots, is_whole, lines_of}, declared.verdict.Asked.{Asked}}
use Rattle.mc_verdict.specs.{PagesAsked.{AnswersPage, AnswersSurvey, EndsPage, IsCutShort, IsPageUnwritten, IsStopped, IsUncounted, PageAsked, PrintBreaks, page_of, rights_of, survey_asked_text}, declared.explore.Exploration.{Exploration}}
use Rattle.std.proofs.{KnownBytes.{Appends-trans}, lemmas.List.Elements.{All-head, All-tail}}
use Rattle.mc_options.proofs.Begun.{first_begun, then_begun}

neither : (p q : Bool) → (p || q) ≡ false → (p ≡ false) × (q ≡ false)
neither true q e = absurd cc
neither false true e = absurd cc
neither false false e = (refl, refl)

not_both : (p : Bool) → p ≡ false → p ≡ true → ⊥
not_both p is_not is = let e : false ≡ true = sym is_not ∙ is in absurd (cc)

-- A list is parted in one way into elements of a kind and others.
parted_once : {R : Type 0} (P : R → Type 0) (xs ys us vs : List R) → xs ++ us ≡ ys ++ vs → All P xs → All (λ r. P r → ⊥) us → All P ys → All (λ r. P r → ⊥) vs → xs ≡ ys
parted_once P [] [] us vs e p n q m = refl
parted_once P [] (y ∷ ys) [] vs e p n q m = absurd cc
parted_once P [] (y ∷ ys) (u ∷ us) vs e p n q m = let same : u ≡ y = cc in absurd (All-head (λ r. P r → ⊥) u us n (subst P (sym same) (All-head P y ys q)))
parted_once P (x ∷ xs) [] us [] e p n q m = absurd cc
parted_once P (x ∷ xs) [] us (v ∷ vs) e p n q m = let same : x ≡ v = cc in absurd (All-head (λ r. P r → ⊥) v vs m (subst P same (All-head P x xs p)))
parted_once P (x ∷ xs) (y ∷ ys) us vs e p n q m =
    let tails : xs ++ us ≡ ys ++ vs = cc in
    let first : x ≡ y = cc in
    let rest : xs ≡ ys = parted_once P xs ys us vs tails (All-tail P x xs p) n (All-tail P y ys q) m in
    cc

-- All of a text is out: a beginning of it and more.
pub whole_begun : (before mid : Option (List ℕ)) (a b : List ℕ) → Appends before mid a → AppendsPrefix before mid (a ++ b)
whole_begun before mid a b p = out_stops before mid (a ++ b) b (out_more before before mid (a ++ b) a b (out_begun before (a ++ b)) p)

-- What is kept after a text is that text.
pub kept : (a b c : Option (List ℕ)) (text : List ℕ) → Appends a b text → Keeps b c → Appends a c text
kept None b c text p k = tt
kept (Some x) None c text p k = absurd p
kept (Some x) (Some y) None text p k = absurd k
kept (Some x) (Some y) (Some z) text p k = k ∙ p

-- Why rows end early, as a refusal.
pub of_survey : (error : ExploreError) (r : Refusal) → r ≡ refusals.Explore error → (error ≡ errors.Memory) ⊎ (error ≡ errors.Failed) → IsStopped r
of_survey error r is (inl e) = inl (is ∙ ap refusals.Explore e)
of_survey error r is (inr e) = inr (is ∙ ap refusals.Explore e)

pub of_rows : (error : ExploreError) (r : Refusal) → r ≡ refusals.Explore error → (error ≡ errors.Memory) ⊎ ((error ≡ errors.Failed) ⊎ (error ≡ errors.Write)) → IsStopped r ⊎ IsPageUnwritten r
of_rows error r is (inl e) = inl (inl (is ∙ ap refusals.Explore e))
of_rows error r is (inr (inl e)) = inl (inr (is ∙ ap refusals.Explore e))
of_rows error r is (inr (inr e)) = inr (is ∙ ap refusals.Explore e)

module _ {C K R U : Type 0} (x : Subject C K R U) (lawful : IsLawful (rows_of x)) (fields : U → Fields C K) where
  -- One exploration has one state at its beginning.
  same_place : (start : PowerOn) (c : C) (bound : ℕ) (k : K) (p q : Position K) → IsPlaceBefore x start c bound k p → IsPlaceBefore x start c bound k q → p ≡ q
  same_place start c bound k AtStart AtStart a b = refl
  same_place start c bound k AtStart (After m) a b = absurd (a.none_between m b.0 tt b.1.past)
  same_place start c bound k (After l) AtStart a b = absurd (b.none_between l a.0 tt a.1.past)
  same_place start c bound k (After l) (After m) a b =
      elim (lawful.order.total l m) [
        | inl before ↦ absurd (a.1.none_between m b.0 before b.1.past)
        | inr (inl same) ↦ ap After same
        | inr (inr before) ↦ absurd (b.1.none_between l a.0 before a.1.past)
      ]
  same_place start c bound k AtStart Lost a b = absurd b
  same_place start c bound k (After l) Lost a b = absurd b
  same_place start c bound k Lost q a b = absurd a

  same_start : (start : PowerOn) (c : C) (bound : ℕ) (after from : Option K) (cursor : Option U) (one two : Explored C K)
      → Begins x fields start c bound after from cursor (Ok one) → Begins x fields start c bound after from cursor (Ok two) → one.state ≡ two.state
  same_start start c bound (Some k) from cursor one two a b = a.1 ∙ sym b.1
  same_start start c bound None (Some k) cursor one two a b = a.2 ∙ (ap (state_at start c bound) (same_place start c bound k a.0 b.0 a.1 b.1) ∙ sym b.2)
  same_start start c bound None None (Some cursor) one two a b = a.2 ∙ sym b.2
  same_start start c bound None None None one two a b = a ∙ sym b

  module _ (e : Exploration C U K) (one two : Explored C K) (begins : BeginsAs x fields e (Ok one)) (again : BeginsAs x fields e (Ok two)) where
    pub same_state : one.state ≡ two.state
    same_state = same_start _ e.choice e.extent.cuts e.range.after e.range.from e.range.cursor one two begins again

    pub same_page : (s : Shown (rows_of x) e.range.until one.state) (t : Shown (rows_of x) e.range.until two.state)
        → page_at (rows_of x) two.state e.extent.limit t.shown ≡ page_at (rows_of x) one.state e.extent.limit s.shown
    same_page s t =
        let l = rows_of x in
        let rows : s.rows ≡ t.rows = one_rest l lawful one.state s.rows t.rows s.rest (subst (λ st. IsRest l st t.rows) (sym same_state) t.rest) in
        let shown : s.shown ≡ t.shown = parted_once (λ row. IsBefore l e.range.until (l.key row)) s.shown t.shown s.are.others t.are.others
        (sym s.are.parted ∙ (rows ∙ t.are.parted)) s.are.before s.are.none t.are.before t.are.none in
        sym (ap (λ st. page_at l st e.extent.limit s.shown) same_state ∙ ap (λ rows. page_at l two.state e.extent.limit rows) shown)

  -- What is right was counted of the rows of a page.
  pub are_counted : (page : Page R U) (o : Option Expectation) (s : Option (RightsOf K)) → s ≡ option_map (λ w. rights_by x.ends x.key w page.rows) o → AreCounted x (or_any o) page.rows s
  are_counted page None None is = tt
  are_counted page None (Some s) is = absurd cc
  are_counted page (Some o) None is = absurd cc
  are_counted page (Some o) (Some s) is = cc

  module _ (e : Exploration C U K) (a : Asked) (before : Option (List ℕ)) (w : Option Expectation) (expects : IsExpectation a (ends_of e.images_return e.start.named) (Ok w)) where
    -- The page is refused, or breaks.
    pub refused : (mid : Option (List ℕ)) (end : End) (r : Refusal) → end ≡ Err r → PrintBreaks x fields e before mid r → AnswersPage x fields e a before mid end
    refused mid end r is (inl none) = inr (inl (r, is, inr none.0, none.1))
    refused mid end r is (inr began) =
        let b = began.1 in
        let p : PageAsked x fields e a = record { explorer = b.explorer; begins = b.begins; of = b.out.of; expectation = w; expects = expects } in
        let short : IsCutShort x fields e a r = elim began.0 [ inl stopped ↦ inl (inr stopped) | inr unwritten ↦ inr (inl unwritten) ] in
        inr (inr (r, is, short, p, first_begun before mid _ _ b.out.out))

    -- The rows are counted.
    module _ (tally : TallyOf U) (shown : Option (RightsOf K)) (counted : TalliesFor x fields e w tally shown) where
      abbrev own : PageAsked x fields e a
      own = record { explorer = counted.tallies.explorer; begins = counted.tallies.begins; of = counted.tallies.counts.1.of; expectation = w; expects = expects }

      module _ (p : PageAsked x fields e a) (wanted_is : p.expectation ≡ w) where
        abbrev page : Page R U
        page = page_of x fields e a p

        one_page : counted.tallies.counts.0 ≡ page
        one_page = counted.tallies.counts.1.page_is ∙ same_page e p.explorer counted.tallies.explorer p.begins counted.tallies.begins p.of counted.tallies.counts.1.of

        rights_are : (o : Option Expectation) → w ≡ o → shown ≡ option_map (λ w. rights_by x.ends x.key w page.rows) o
        rights_are None is = counted.shown_is ∙ ap (option_map (λ _. counted.rights)) is
        rights_are (Some o) is =
            let of : counted.rights ≡ rights_by x.ends x.key (or_any w) counted.tallies.counts.0.rows = counted.tallies.counts.3 in
            let by : counted.rights ≡ rights_by x.ends x.key o page.rows =
            of
            ∙ (ap (λ (w : Option Expectation). rights_by x.ends x.key (or_any w) counted.tallies.counts.0.rows) is
            ∙ ap (λ (page : Page R U). rights_by x.ends x.key o page.rows) one_page) in
            counted.shown_is ∙ (ap (option_map (λ _. counted.rights)) is ∙ ap (λ (r : RightsOf K). Some r) by)

        shown_is : shown ≡ rights_of x fields e a p
        shown_is = rights_are p.expectation (sym wanted_is)

        tallied : tally ≡ tally_by x.ends page
        tallied = counted.tallies.counts.2 ∙ ap (tally_by x.ends) one_page

        verdict_there : (end : End)
            → ((o : Expectation) (page : Page R U) → tally ≡ tally_by x.ends page → AreCounted x o page.rows shown
            → IsVerdict x.ends a.all_boot (is_of_slots a) o page.rows shown (is_whole page) end)
            → EndsPage x fields e a p end
        verdict_there end verdict =
            subst (λ s. IsVerdict x.ends a.all_boot (is_of_slots a) (or_any p.expectation) page.rows s (is_whole page) end) shown_is
            (verdict (or_any p.expectation) page tallied (are_counted page p.expectation shown shown_is))

      -- The lines of a survey are out, or a beginning of them.
      abbrev text : List ℕ
      text = tally_text x tally ++ lines_of x shown

      surveyed : text ≡ survey_asked_text x fields e a own
      surveyed = ap (λ t. tally_text x t ++ lines_of x shown) (tallied own refl) ∙ ap (λ s. tally_text x (tally_by x.ends (page own refl)) ++ lines_of x s) (shown_is own refl)

      pub survey_broken : (after : Option (List ℕ)) (end : End) (r : Refusal) → end ≡ Err r → IsUnwritten r → AppendsPrefix before after text → AnswersSurvey x fields e a before after end
      survey_broken after end r is unwritten out = inr (inr (r, is, unwritten, own, subst (AppendsPrefix before after) surveyed out))

      pub survey_judged : (after : Option (List ℕ)) (end : End) → Appends before after text
          → ((o : Expectation) (page : Page R U) → tally ≡ tally_by x.ends page → AreCounted x o page.rows shown
          → IsVerdict x.ends a.all_boot (is_of_slots a) o page.rows shown (is_whole page) end)
          → AnswersSurvey x fields e a before after end
      survey_judged after end out verdict = inl (own, verdict_there own refl end verdict, subst (Appends before after) surveyed out)

    module _ (mid : Option (List ℕ)) (out : PrintsUntil x fields e before mid) where
      abbrev p : PageAsked x fields e a
      p = record { explorer = out.explorer; begins = out.begins; of = out.out.taken.of; expectation = w; expects = expects }

      abbrev text_of_page : List ℕ
      text_of_page = page_text (rows_of x) (page_of x fields e a p)

      printed : Appends before mid text_of_page
      printed = subst (λ (page : Page R U). Appends before mid (page_text (rows_of x) page)) out.out.taken.page_is out.out.out

      -- What a buffer holds of it cannot be handed on.
      pub unflushed : (last : Option (List ℕ)) (end : End) (r : Refusal) → Keeps mid last → end ≡ Err r → IsPageUnwritten r → AnswersPage x fields e a before last end
      unflushed last end r keeps is unwritten = inr (inr (r, is, inr (inl unwritten), p, whole_begun before last _ _ (kept before mid last text_of_page printed keeps)))

      module _ (last : Option (List ℕ)) (keeps : Keeps mid last) where
        flushed : Appends before last text_of_page
        flushed = kept before mid last text_of_page printed keeps

        -- It breaks once the page is out.
        pub broken : (end : End) (r : Refusal) → end ≡ Err r → IsUncounted x fields e r → AnswersPage x fields e a before last end
        broken end r is short = inr (inr (r, is, inl short, p, whole_begun before last _ _ flushed))

        -- Nothing more is asked.
        none_asked : (o : Option Expectation) → IsExpectation a (ends_of e.images_return e.start.named) (Ok o) → is_of_slots a ≡ false → o ≡ None
        none_asked None is is_not = refl
        none_asked (Some o) is is_not = absurd (not_both (is_of_slots a) is_not is.0)

        alone_text : is_of_slots a ≡ false → lines_of x (rights_of x fields e a p) ≡ []
        alone_text is_not = ap (λ o. lines_of x (option_map (λ w. rights_by x.ends x.key w (page_of x fields e a p).rows) o)) (none_asked w expects is_not)

        pub alone : (is_of_slots a || a.all_boot) ≡ false → AnswersPage x fields e a before last (Ok tt)
        alone is_not =
            let slots = neither (is_of_slots a) a.all_boot is_not in
            inl (
              p,
              (λ yes. absurd (not_both a.all_boot slots.1 yes), λ yes. absurd (not_both (is_of_slots a) slots.0 yes), λ yes. absurd (not_both (is_of_slots a || a.all_boot) is_not yes)),
              subst (λ (l : List ℕ). Appends before last (text_of_page ++ l)) (sym (alone_text slots.0)) (subst (Appends before last) (sym (append-nil text_of_page)) flushed),
            )

        -- The rows are counted once more.
        module _ (tally : TallyOf U) (shown : Option (RightsOf K)) (counted : TalliesFor x fields e w tally shown) where
          pub lines_broken : (after : Option (List ℕ)) (end : End) (r : Refusal) → end ≡ Err r → IsUnwritten r → AppendsPrefix last after (lines_of x shown)
              → AnswersPage x fields e a before after end
          lines_broken after end r is unwritten prefix =
              let more = subst (λ s. AppendsPrefix last after (lines_of x s)) (shown_is tally shown counted p refl) prefix in
              inr (inr (r, is, inr (inr unwritten), p, then_begun before last after _ _ flushed more))

          pub judged : (after : Option (List ℕ)) (end : End) → Appends last after (lines_of x shown)
              → ((o : Expectation) (page : Page R U) → tally ≡ tally_by x.ends page → AreCounted x o page.rows shown
              → IsVerdict x.ends a.all_boot (is_of_slots a) o page.rows shown (is_whole page) end)
              → AnswersPage x fields e a before after end
          judged after end lines verdict =
              let more = subst (λ s. Appends last after (lines_of x s)) (shown_is tally shown counted p refl) lines in
              inl (p, verdict_there tally shown counted p refl end verdict, Appends-trans before last after _ _ flushed more)
