-- A page, as its lines are written one after another.
use Rattle.std.specs.{Prelude.{All, Contains, flat_map, Bool, true, false, ◌∷◌, ◌<◌, ◌≤◌}, Io.KnownBytes.{Appends}}
use Rattle.std.proofs.Common.{◌≡◌, ℕ, suc, ◌+◌, List, [], ◌++◌, length, take, drop, Some, None, Option, refl, sym, ap, subst, ◌∙◌, append_assoc, append-nil, arith, inl, inr}
use Rattle.std.proofs.lemmas.List.Elements.{All-contains_itself, All-weaker}
use Rattle.std.proofs.{lemmas.List.{take_at, take-append-drop}, lemmas.List.Concat.{flat_map-append}, Math.Seq.{take-append-add}, KnownBytes.{Appends-trans}}
use Rattle.mc_tree.specs.Tree.{last_key, After}
use Rattle.mc_explore.specs.Pages.{Listing, IsLawful, IsRest, TakesPage, ShownIsOut, ShownBegan, FindsBefore, RowBegan, WritesRow, page_at, page_text, last_line, row_line}
use Rattle.mc_explore.proofs.PageRows.{AreSoFar, cursor_is, next_of, none_so_far, one_more, page_short, page_full, page_with, some_shown}
use Rattle.mc_output.specs.Text.{AppendsPrefix}

-- ---- texts that are out

Appends_none : (a : Option (List ℕ)) → Appends a a []
Appends_none it = grind (arith, append-nil)

-- A line of the page is out in part, and what stood before it is out.
prefix_of : (a b c : Option (List ℕ)) (page text line more : List ℕ) → page ≡ text ++ (line ++ more) → Appends a b text → AppendsPrefix b c line → AppendsPrefix a c page
prefix_of a b c page text line more e p q =
    let m : List ℕ = text ++ take q.0 line in
    let whole : page ≡ m ++ (drop q.0 line ++ more) =
    e ∙ ap (λ z. text ++ (z ++ more)) (sym (take-append-drop q.0 line))
    ∙ ap (λ z. text ++ z) (append_assoc (take q.0 line) (drop q.0 line) more)
    ∙ sym (append_assoc text (take q.0 line) (drop q.0 line ++ more)) in
    (length m, subst (Appends a c) (sym (ap (take (length m)) whole ∙ take_at m (drop q.0 line ++ more) (length m) refl)) (Appends-trans a b c text (take q.0 line) p q.1))

-- Nothing of the next line is out.
prefix_none : (a b : Option (List ℕ)) (page text more : List ℕ) → page ≡ text ++ more → Appends a b text → AppendsPrefix a b page
prefix_none a b page text more e p =
    (length text, subst (Appends a b) (sym (ap (take (length text)) e ∙ take_at text more (length text) refl)) p)

-- The last of some rows.
pub last_on : {K R : Type 0} (key : R → K) (k : K) (some : List R) (row : R) → last_key key k (some ++ row ∷ []) ≡ key row
last_on key k [] row = refl
last_on key k (x ∷ some) row = last_on key (key x) some row

-- ---- the lines of a page

module _ {S K R C : Type 0} (l : Listing S K R C) where
  abbrev lines : List R → List ℕ
  lines rows = flat_map (row_line l) rows

  -- The text of a page of which the first rows are known.
  known_text : (state : S) (limit room : ℕ) (some left shown : List R) → shown ≡ some ++ left → limit ≡ length some + room
      → page_text l (page_at l state limit shown) ≡ lines some ++ (lines (take room left) ++ last_line l (page_at l state limit shown).goes_on)
  known_text state limit room some left shown is room_is = grind (arith, take-append-add, flat_map-append, append_assoc)

module _ {S K R C : Type 0} (l : Listing S K R C) (laws : IsLawful l) (until : Option K) (old : S) (limit : ℕ) (before : Option (List ℕ)) where
  -- The lines of these rows are out, and after the last of them one has come.
  pub record AreOut (now : S) (room : ℕ) (after : Option (List ℕ)) : Type 0 where
    pub some : List R
    pub so_far : AreSoFar l laws until old limit now room some
    pub last_is : 0 < length some → l.position now ≡ After (last_key l.key l.no_key some)
    pub out : Appends before after (lines l some)

module _ {S K R C : Type 0} (l : Listing S K R C) (until : Option K) (old : S) (limit : ℕ) (before : Option (List ℕ)) where
  module _ (new : S) (full : Bool) (some : List R) (mid after : Option (List ℕ)) (line : List ℕ) (taken : TakesPage l until old new limit (page_with l old some full))
      (is : line ≡ last_line l (page_with l old some full).goes_on) (restarts : All (l.Restarts old) taken.of.rows) (p : Appends before mid (lines l some)) where
    -- The last line is out.
    pub page_out : Appends mid after line → ShownIsOut l until old new limit before after
    page_out q =
        record {
          page = page_with l old some full;
          taken = taken;
          restarts = restarts;
          out = subst (λ z. Appends before after (lines l some ++ z)) is
              (Appends-trans before mid after (lines l some) line p q);
        }

    -- A prefix of it is.
    pub page_began : AppendsPrefix mid after line → ShownBegan l until old limit before after
    page_began q =
        let page : List ℕ = page_text l (page_at l old limit taken.of.shown) in
        let text : page ≡ lines l some ++ (line ++ []) = sym (ap (page_text l) taken.page_is) ∙ ap (λ z. lines l some ++ z) (sym is ∙ sym (append-nil line)) in
        record { of = taken.of; restarts = restarts; out = prefix_of before mid after page (lines l some) line [] text p q }

pub page_begin : {S K R C : Type 0} (l : Listing S K R C) (laws : IsLawful l) (until : Option K) (old : S) (limit : ℕ) (out : Option (List ℕ))
    → AreOut l laws until old limit out old limit out
page_begin l laws until old limit out =
    record { some = []; so_far = none_so_far l laws until old limit; last_is = λ some. absurd (omega (arith, some)); out = Appends_none out }

module _ {S K R C : Type 0} {l : Listing S K R C} {laws : IsLawful l} {until : Option K} {old : S} {limit : ℕ} {before : Option (List ℕ)}
    {now : S} {room : ℕ} {after : Option (List ℕ)} (p : AreOut l laws until old limit before now room after) where
  -- The restart theorem, for each row to come.
  abbrev Law : Type 0
  Law = (row : R) → l.IsRow old row → l.Restarts old row

  all_restart : Law → (rows : List R) → IsRest l old rows → All (l.Restarts old) rows
  all_restart law rows rest = All-weaker (Contains rows) (l.Restarts old) (λ row there. law row (rest.only row there).0) rows (All-contains_itself rows)

  -- Nothing of the next line is out.
  pub began_before : Law → ShownBegan l until old limit before after
  began_before law =
      let of = some_shown l laws until old in
      let q = p.so_far of in
      let text = known_text l old limit room p.some q.left.shown of.shown q.shown_are q.room_is in
      record { of = of; restarts = all_restart law of.rows of.rest; out = prefix_none before after (page_text l (page_at l old limit of.shown)) (lines l p.some) _ text p.out }

  module _ (k : ℕ) (is : room ≡ suc k) where
    -- One row more.
    pub page_on : (new : S) (more : Option (List ℕ)) (row : R) → FindsBefore l until now (Some row) new → Appends after more (row_line l row) → AreOut l laws until old limit before new k more
    page_on new more row f a =
        let line : List ℕ = row_line l row in
        let on : lines l p.some ++ line ≡ lines l (p.some ++ row ∷ []) =
        ap (λ z. lines l p.some ++ z) (sym (append-nil line)) ∙ sym (flat_map-append (row_line l) p.some (row ∷ [])) in
        record {
          some = p.some ++ row ∷ [];
          so_far = one_more l laws until old limit now room p.some p.so_far k is new row f;
          last_is = λ _. ap l.position f.2 ∙ laws.position_is now (l.key row) ∙ ap (λ m. After m) (sym (last_on l.key l.no_key p.some row));
          out = subst (Appends before more) on (Appends-trans before after more (lines l p.some) line p.out a);
        }

    -- A prefix of its line is out.
    pub began_in_row : Law → (new : S) (more : Option (List ℕ)) (row : R) → FindsBefore l until now (Some row) new → AppendsPrefix after more (row_line l row)
        → ShownBegan l until old limit before more
    began_in_row law new more row (found, shows, moved) a =
        let of = some_shown l laws until old in
        let q = p.so_far of in
        let n = next_of l laws until old limit now room p.some p.so_far row q.left found shows in
        let page : List ℕ = page_text l (page_at l old limit of.shown) in
        let last : List ℕ = last_line l (page_at l old limit of.shown).goes_on in
        let others : List ℕ = lines l (take k n.others.shown) in
        let next : lines l (take room q.left.shown) ≡ row_line l row ++ others = ap (λ z. lines l (take room z)) n.shown_are ∙ ap (λ z. lines l (take z (row ∷ n.others.shown))) is in
        let text : page ≡ lines l p.some ++ (row_line l row ++ (others ++ last)) =
        known_text l old limit room p.some q.left.shown of.shown q.shown_are q.room_is
        ∙ ap (λ z. lines l p.some ++ (z ++ last)) next
        ∙ ap (λ z. lines l p.some ++ z) (append_assoc (row_line l row) others last) in
        record { of = of; restarts = all_restart law of.rows of.rest; out = prefix_of before after more page (lines l p.some) (row_line l row) (others ++ last) text p.out a }

    -- The line of the next row was written, or a prefix of it, or nothing.
    pub page_written : (new : S) (more : Option (List ℕ)) → WritesRow l until now true new after more → AreOut l laws until old limit before new k more
    page_written new more (row, f, restarts, a) = page_on new more row f a

    pub row_began : Law → (more : Option (List ℕ)) → RowBegan l until now after more → ShownBegan l until old limit before more
    row_began law more (inl same) = subst (ShownBegan l until old limit before) (sym same) (began_before law)
    row_began law more (inr (row, new, f, restarts, a)) = began_in_row law new more row f a

    -- Where no further row is shown, the last line says so: it is out, or a prefix of it.
    module _ (law : Law) (new : S) (none : FindsBefore l until now None new) (out : Option (List ℕ)) where
      end_taken : TakesPage l until old new limit (page_with l old p.some false)
      end_taken = page_short l laws until old limit now room p.some p.so_far k is new none

      pub end_out : Appends after out (last_line l None) → ShownIsOut l until old new limit before out
      end_out = page_out l until old limit before new false p.some after out _ end_taken refl (all_restart law end_taken.of.rows end_taken.of.rest) p.out

      pub end_began : AppendsPrefix after out (last_line l None) → ShownBegan l until old limit before out
      end_began = page_began l until old limit before new false p.some after out _ end_taken refl (all_restart law end_taken.of.rows end_taken.of.rest) p.out

  -- Where the page is full, the last line goes on after its last row: it is out, or a prefix of it.
  module _ (full : room ≡ 0) where
    pub last_index : 1 ≤ limit → l.position now ≡ After (last_key l.key l.no_key p.some)
    last_index some = let q = p.so_far (some_shown l laws until old) in p.last_is (omega (arith, some, full, q.room_is))

    module _ (law : Law) (out : Option (List ℕ)) where
      full_taken : TakesPage l until old now limit (page_with l old p.some true)
      full_taken = page_full l laws until old limit now room p.some p.so_far full

      abbrev next : List ℕ
      next = last_line l (Some (l.cursor now (last_key l.key l.no_key p.some)))

      next_is : next ≡ last_line l (page_with l old p.some true).goes_on
      next_is = ap (last_line l) (cursor_is l laws until old limit now room p.some p.so_far _ refl)

      pub full_out : Appends after out next → ShownIsOut l until old now limit before out
      full_out = page_out l until old limit before now true p.some after out next full_taken next_is (all_restart law full_taken.of.rows full_taken.of.rest) p.out

      pub full_began : AppendsPrefix after out next → ShownBegan l until old limit before out
      full_began = page_began l until old limit before now true p.some after out next full_taken next_is (all_restart law full_taken.of.rows full_taken.of.rest) p.out
