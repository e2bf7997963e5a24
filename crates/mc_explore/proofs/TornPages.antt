-- The whole row lines of a page of which only a beginning is there.
use Rattle.std.specs.Prelude.{◌≡◌, ◌⊎◌, ℕ, suc, ◌+◌, ◌-◌, ◌<◌, ◌≤◌, ◌^◌, List, [], ◌∷◌, ◌++◌, length, take, map, flat_map, codes, decimal, All, Contains, Option, Some, None, Result, Ok, Err, IfNone, refl}
use Rattle.std.specs.{Result.{result_ok}, Str.Iter.{LacksByte}}
use Rattle.std.proofs.{Common.{inl, inr, arith, sym, ap, subst, ◌∙◌, append_assoc, append-nil, length-append}, lemmas.Bool.{cases_lt}}
use Rattle.std.proofs.lemmas.List.{length-take, take-append-le}
use Rattle.std.proofs.lemmas.List.Elements.{All-nil, All-cons, All-head, All-tail, All-same, Contains-append_left, Contains-append_right}
use Rattle.std.proofs.{Math.Seq.{take-append-add}, lemmas.Fmt.{decimal_injective}}
use Rattle.mc_flash.specs.{Geometry.{IsLayout}, facts.Usage.{few_operations}}
use Rattle.mc_tree.specs.{Tree.{Allowed}, facts.Lists.{at_head, in_rest}}
use Rattle.mc_boot.specs.{Outcome.{ops_of}, facts.Bounds.{few_ops}, Plan.{PowerOn, again}}
use Rattle.mc_explore.specs.{Page.{row_line, last_line}, Rows.{IsRest, row_text, State, ShownRow, moved_to, schedules}}
use Rattle.mc_explore.specs.Boots.{at_cut, boots}
use Rattle.mc_explore.specs.{Survey.{AreLines, IsRowLine, AreRowLines, HasRows, IsOfLast, IsLastRow, Continues}, facts.Listed.{schedules_are_lawful}}
use Rattle.mc_explore.specs.{facts.Listings.{rest_tail}, facts.Occurring.{path_of}}
use Rattle.mc_start.specs.{Cursor.{cursor_text}, Start.{IsSchedule, schedule_text}, declared.cursor.Cursor.{Cursor}}
use Rattle.mc_start.specs.facts.Reading.{point_no_digit, points, spelling}
use Rattle.mc_explore.proofs.Bytes.{IsBetween, NoFeed, literal, and, feedless_prefix, schedule_between, lacks_feed, lacks_literal, row_feedless, cursor_feedless, no_space}
use Rattle.mc_output.specs.{facts.Parting.{Lacks, lacks_each, one_part, no_part, lacks_decimal}, facts.Reading.{dash}}

lacks : (byte : ℕ) (xs : List ℕ) → LacksByte byte xs → Lacks byte xs
lacks byte xs none = lacks_each byte xs none

-- ---- texts of schedules

abbrev Small : List ℕ → Type 0
Small = All (λ c. c < 2 ^ 32)

no_point : (x : ℕ) (xs : List ℕ) → Small (x ∷ xs) → Lacks 46 (decimal x)
no_point x xs small = lacks_decimal 46 point_no_digit x (All-head (λ c. c < 2 ^ 32) x xs small)

same_number : (x y : ℕ) (xs ys : List ℕ) → Small (x ∷ xs) → Small (y ∷ ys) → decimal x ≡ decimal y → x ≡ y
same_number x y xs ys p q e = grind (arith, decimal_injective)

same_numbers : (c d : ℕ) (cs ds : List ℕ) → Small (c ∷ cs) → Small (d ∷ ds) → decimal c ++ points cs ≡ decimal d ++ points ds → (c ≡ d) × (cs ≡ ds)
same_numbers c d [] [] p q e = (same_number c d [] [] p q (sym (append-nil (decimal c)) ∙ e ∙ append-nil (decimal d)), refl)
same_numbers c d [] (y ∷ ys) p q e = absurd (no_part 46 (decimal c) (decimal d) (decimal y ++ points ys) (no_point c [] p) (sym (append-nil (decimal c)) ∙ e))
same_numbers c d (x ∷ xs) [] p q e = absurd (no_part 46 (decimal d) (decimal c) (decimal x ++ points xs) (no_point d [] q) (sym (append-nil (decimal d)) ∙ sym e))
same_numbers c d (x ∷ xs) (y ∷ ys) p q e =
    let parts = one_part 46 (decimal c) (decimal d) (decimal x ++ points xs) (decimal y ++ points ys) (no_point c (x ∷ xs) p) (no_point d (y ∷ ys) q) e in
    let rest = same_numbers x y xs ys (All-tail (λ c. c < 2 ^ 32) c (x ∷ xs) p) (All-tail (λ c. c < 2 ^ 32) d (y ∷ ys) q) parts.1 in
    let first : x ≡ y = rest.0 in
    let others : xs ≡ ys = rest.1 in
    (same_number c d (x ∷ xs) (y ∷ ys) p q parts.0, cc)

-- A text is that of one schedule.
same_schedule : (l m : List ℕ) → IsSchedule l → IsSchedule m → schedule_text l ≡ schedule_text m → l ≡ m
same_schedule [] m p q e = sym (dash spelling m (codes "-") q refl e)
same_schedule (c ∷ cs) [] p q e = dash spelling (c ∷ cs) (codes "-") p refl (sym e)
same_schedule (c ∷ cs) (d ∷ ds) p q e =
    let same = same_numbers c d cs ds p.small q.small e in
    let first : c ≡ d = same.0 in
    let others : cs ≡ ds = same.1 in
    cc

-- ---- lines

-- A text without a space is no row line.
pub spaceless : (line l : List ℕ) → LacksByte 32 line → IsRowLine l line → ⊥
spaceless line l none row = no_part 32 line (schedule_text l) row.rest (lacks 32 line none) row.parts

-- What stands before the first space of a row line is the text of its schedule.
pub before_space : (line first after l : List ℕ) → LacksByte 32 first → line ≡ first ++ 32 ∷ after → IsRowLine l line → first ≡ schedule_text l
before_space line first after l none parts row =
    (one_part 32 first (schedule_text l) after row.rest (lacks 32 first none) (lacks 32 (schedule_text l) row.first_space) (sym parts ∙ row.parts)).0

-- A row line is that of one schedule.
same_row : (line l m : List ℕ) → IsRowLine l line → IsRowLine m line → l ≡ m
same_row line l m p q = same_schedule l m p.schedule q.schedule (before_space line (schedule_text l) p.rest m p.first_space p.parts q)

-- A text has one list of whole lines.
same_lines : (text : List ℕ) (xs ys : List (List ℕ)) → AreLines text xs → AreLines text ys → xs ≡ ys
same_lines text [] [] p q = refl
same_lines text [] (y ∷ ys) p (rest, is, none, q) = absurd (no_part 10 text y rest (lacks 10 text p) is)
same_lines text (x ∷ xs) [] (rest, is, none, p) q = absurd (no_part 10 text x rest (lacks 10 text q) is)
same_lines text (x ∷ xs) (y ∷ ys) (rest, is, none, p) (rest', is', none', q) =
    let parts = one_part 10 x y rest rest' (lacks 10 x none) (lacks 10 y none') (sym is ∙ is') in
    let first : x ≡ y = parts.0 in
    let others : xs ≡ ys = same_lines rest xs ys p (subst (λ t. AreLines t ys) (sym parts.1) q) in
    cc

-- And among them one list of row lines.
same_row_lines : (lines xs ys : List (List ℕ)) → AreRowLines lines xs → AreRowLines lines ys → xs ≡ ys
same_row_lines [] xs ys p q = p ∙ sym q
same_row_lines (line ∷ lines) xs ys (inl (l, more, row, is, p)) (inl (m, more', row', is', q)) =
    is ∙ ap (λ z. line ∷ z) (same_row_lines lines more more' p q) ∙ sym is'
same_row_lines (line ∷ lines) xs ys (inl (l, more, row, is, p)) (inr (none, q)) = absurd (none l row)
same_row_lines (line ∷ lines) xs ys (inr (none, p)) (inl (l, more, row, is, q)) = absurd (none l row)
same_row_lines (line ∷ lines) xs ys (inr (none, p)) (inr (none', q)) = same_row_lines lines xs ys p q

same_rows : (text : List ℕ) (xs ys : List (List ℕ)) → HasRows text xs → HasRows text ys → xs ≡ ys
same_rows text xs ys p q = grind (arith, same_row_lines, same_lines)

-- No schedule is read of a text of which only that would be read.
pub unread : {E : Type 0} (r : Result (List ℕ) E) (o : Option (List ℕ)) (P : List ℕ → Type 0) → o ≡ result_ok r → ((l : List ℕ) → P l → r ≡ Ok l) → IfNone o ((l : List ℕ) → P l → ⊥)
unread (Ok x) o P is only = rw is tt
unread (Err e) o P is only = rw is (λ l p. let q : Err e ≡ Ok l = only l p in absurd cc)

-- ---- read line by line

-- So far the last row line is that of the schedule.
pub record IsLastSoFar (text rest : List ℕ) (last : Option (List ℕ)) : Type 0 where
  pub lines : List (List ℕ)
  pub found : List (List ℕ)
  pub on : (more : List (List ℕ)) → AreLines rest more → AreLines text (lines ++ more)
  pub rows : AreRowLines lines found
  pub ends : IsOfLast found last

row_pushed : (lines found : List (List ℕ)) (line l : List ℕ) → IsRowLine l line → AreRowLines lines found → AreRowLines (lines ++ line ∷ []) (found ++ line ∷ [])
row_pushed [] found line l row p = inl (l, [], row, ap (λ z. z ++ line ∷ []) p, refl)
row_pushed (x ∷ lines) found line l row (inl (m, more, is_row, is, p)) = inl (m, more ++ line ∷ [], is_row, ap (λ z. z ++ line ∷ []) is, row_pushed lines more line l row p)
row_pushed (x ∷ lines) found line l row (inr (none, p)) = inr (none, row_pushed lines found line l row p)

other_pushed : (lines found : List (List ℕ)) (line : List ℕ) → ((l : List ℕ) → IsRowLine l line → ⊥) → AreRowLines lines found → AreRowLines (lines ++ line ∷ []) found
other_pushed [] found line none p = inr (none, p)
other_pushed (x ∷ lines) found line none (inl (m, more, is_row, is, p)) = inl (m, more, is_row, is, other_pushed lines more line none p)
other_pushed (x ∷ lines) found line none (inr (not, p)) = inr (not, other_pushed lines found line none p)

module _ (text rest line after : List ℕ) (last : Option (List ℕ)) (feedless : LacksByte 10 line) (parts : rest ≡ line ++ 10 ∷ after) (so_far : IsLastSoFar text rest last) where
  pushed : (more : List (List ℕ)) → AreLines after more → AreLines text ((so_far.lines ++ line ∷ []) ++ more)
  pushed more are = subst (AreLines text) (sym (append_assoc so_far.lines (line ∷ []) more)) (so_far.on (line ∷ more) (after, parts, feedless, are))

  -- One row line more, and one other line more.
  pub row_read : (l : List ℕ) → IsRowLine l line → IsLastSoFar text after (Some l)
  row_read l row = record {
    lines = so_far.lines ++ line ∷ [];
    found = so_far.found ++ line ∷ [];
    on = pushed;
    rows = row_pushed so_far.lines so_far.found line l row so_far.rows;
    ends = (so_far.found, line, refl, row);
  }

  pub other_read : ((l : List ℕ) → IsRowLine l line → ⊥) → IsLastSoFar text after last
  other_read none = record {
    lines = so_far.lines ++ line ∷ [];
    found = so_far.found;
    on = pushed;
    rows = other_pushed so_far.lines so_far.found line none so_far.rows;
    ends = so_far.ends;
  }

-- What is left has no line.
pub all_read : (text rest : List ℕ) (last : Option (List ℕ)) → LacksByte 10 rest → IsLastSoFar text rest last → IsLastRow text last
all_read text rest last feedless so_far = (
  so_far.found,
  record { lines = so_far.lines; whole = subst (AreLines text) (append-nil so_far.lines) (so_far.on [] feedless); rows = so_far.rows },
  so_far.ends,
)

-- ---- a page that is torn

small_cuts : (x : PowerOn) (l : List ℕ) → IsLayout x.geometry → Allowed boots x l → Small l
small_cuts x [] valid a = All-nil (λ c. c < 2 ^ 32)
small_cuts x (c ∷ cs) valid a =
    let first : c < length (ops_of x) = a.0 in
    All-cons (λ d. d < 2 ^ 32) c cs (omega (arith, first, few_ops x valid, few_operations x.rules.grain x.geometry valid)) (small_cuts (again x (at_cut x c)) cs valid a.1)

-- The schedules of rows can be printed.
abbrev pub AreShown : List ShownRow → Type 0
AreShown rows = (row : ShownRow) → Contains rows row → IsSchedule row.schedule

pub rest_shown : (state : State) (rows : List ShownRow) → IsLayout state.start.geometry → state.bound ≤ 16 → IsRest state rows → AreShown rows
rest_shown state rows valid at_most rest row is =
    let start = state.start in
    let path = path_of start state.bound row.schedule (rest.only row is).0.listed in
    record { at_most = omega (arith, path.0, at_most); small = small_cuts start row.schedule valid path.1 }

-- A line is torn within it, or after it.
torn_line : (line more : List ℕ) (n : ℕ) → (take n (line ++ 10 ∷ more) ≡ take n line) ⊎ ((m : ℕ) × (take n (line ++ 10 ∷ more) ≡ line ++ 10 ∷ take m more))
torn_line line more n = elim (cases_lt (length line) n) [
  | inl past ↦
      let m = n - suc (length line) in
      let e : n ≡ length line + suc m = omega arith in
      inr (m, ap (λ k. take k (line ++ 10 ∷ more)) e ∙ take-append-add line (10 ∷ more) (suc m))
  | inr within ↦ inl (take-append-le n line (10 ∷ more) within)
]

-- The rows of a page that are whole in a torn one.
pub record IsTorn (page : List ShownRow) (torn : List ℕ) : Type 0 where
  pub whole : List ShownRow
  pub left : List ShownRow
  pub parted : page ≡ whole ++ left
  pub rows : HasRows torn (map row_text whole)
  pub short : whole ≡ [] → (row : ShownRow) (more : List ShownRow) → page ≡ row ∷ more → length torn < length (row_line row)

within_line : (line : List ℕ) (n : ℕ) → NoFeed line → HasRows (take n line) []
within_line line n none = record { lines = []; whole = lacks_feed (take n line) (feedless_prefix n line none); rows = refl }

row_on : (line rest l : List ℕ) (found : List (List ℕ)) → NoFeed line → IsRowLine l line → HasRows rest found → HasRows (line ++ 10 ∷ rest) (line ∷ found)
row_on line rest l found none row h = record { lines = line ∷ h.lines; whole = (rest, refl, lacks_feed line none, h.whole); rows = inl (l, found, row, refl, h.rows) }

other_on : (line rest : List ℕ) (found : List (List ℕ)) → NoFeed line → ((l : List ℕ) → IsRowLine l line → ⊥) → HasRows rest found → HasRows (line ++ 10 ∷ rest) found
other_on line rest found none not h = record { lines = line ∷ h.lines; whole = (rest, refl, lacks_feed line none, h.whole); rows = inr (not, h.rows) }

-- The text of a row is a row line of its schedule.
row_line_is : (row : ShownRow) → IsSchedule row.schedule → IsRowLine row.schedule (row_text row)
row_line_is row ok = grind (arith, append_assoc, no_space)

-- The last line of a page, without its line feed, is none.
closing : Option Cursor → List ℕ
closing (Some cursor) = codes "next " ++ cursor_text cursor
closing None = codes "end"

closing_line : (o : Option Cursor) → last_line o ≡ closing o ++ 10 ∷ []
unfolding closing
closing_line (Some cursor) = refl
closing_line None = refl

closing_feedless : (o : Option Cursor) → NoFeed (closing o)
unfolding closing
closing_feedless (Some cursor) = and (literal (codes "next ") refl) (cursor_feedless cursor)
closing_feedless None = literal (codes "end") refl

no_word : (l : List ℕ) → codes "next" ≡ schedule_text l → ⊥
no_word l e =
    let all = All-same (IsBetween 45 57) (codes "next") (schedule_text l) e (schedule_between l) in
    omega (arith, (All-head (IsBetween 45 57) 110 (codes "ext") all).1)

closing_no_row : (o : Option Cursor) (l : List ℕ) → IsRowLine l (closing o) → ⊥
unfolding closing
closing_no_row (Some cursor) l row = no_word l (before_space (codes "next " ++ cursor_text cursor) (codes "next") (cursor_text cursor) l (lacks_literal 32 (codes "next") refl) refl row)
closing_no_row None l row = spaceless (codes "end") l (lacks_literal 32 (codes "end") refl) row

torn_page : (page : List ShownRow) (o : Option Cursor) (n : ℕ) → AreShown page → IsTorn page (take n (flat_map row_line page ++ (closing o ++ 10 ∷ [])))
torn_page [] o n summary = elim (torn_line (closing o) [] n) [
  | inl e ↦ none (take n (closing o ++ 10 ∷ [])) (subst (λ t. HasRows t []) (sym e) (within_line (closing o) n (closing_feedless o)))
  | inr (m, e) ↦ none (take n (closing o ++ 10 ∷ [])) (subst (λ t. HasRows t []) (sym e) (other_on (closing o) (take m []) [] (closing_feedless o) (closing_no_row o)
      (within_line [] m (literal [] refl))))
]
  where
    none : (torn : List ℕ) → HasRows torn [] → IsTorn [] torn
    none torn rows = record { whole = []; left = []; parted = refl; rows = rows; short = λ _ row more e. absurd cc }
torn_page (row ∷ page) o n summary =
    let line = row_text row in
    let more : List ℕ = flat_map row_line page ++ (closing o ++ 10 ∷ []) in
    let e0 : flat_map row_line (row ∷ page) ++ (closing o ++ 10 ∷ []) ≡ line ++ 10 ∷ more =
    append_assoc (row_line row) (flat_map row_line page) (closing o ++ 10 ∷ []) ∙ append_assoc line (10 ∷ []) more in
    let ok = summary row (at_head row page) in
    subst (λ t. IsTorn (row ∷ page) (take n t)) (sym e0) (elim (torn_line line more n) [
      | inl e ↦ subst (IsTorn (row ∷ page)) (sym e) (within row page n)
      | inr (m, e) ↦ subst (IsTorn (row ∷ page)) (sym e) (past row page (take m more) ok (torn_page page o m (λ x is. summary x (in_rest row x page is))))
    ])
  where
    within : (row : ShownRow) (page : List ShownRow) (n : ℕ) → IsTorn (row ∷ page) (take n (row_text row))
    within row page n = record {
      whole = [];
      left = row ∷ page;
      parted = refl;
      rows = within_line (row_text row) n (row_feedless row);
      short = λ _ first others e.
          let same : row ≡ first = cc in
          subst (λ (x : ShownRow). length (take n (row_text row)) < length (row_line x)) same (omega (arith, length-take n (row_text row), length-append (row_text row) (10 ∷ [])));
    }

    past : (row : ShownRow) (page : List ShownRow) (rest : List ℕ) → IsSchedule row.schedule → IsTorn page rest → IsTorn (row ∷ page) (row_text row ++ 10 ∷ rest)
    past row page rest ok t = record {
      whole = row ∷ t.whole;
      left = t.left;
      parted = ap (λ z. row ∷ z) t.parted;
      rows = row_on (row_text row) rest row.schedule (map row_text t.whole) (row_feedless row) (row_line_is row ok) t.rows;
      short = λ e. absurd cc;
    }

-- ---- and is continued

last_whole : (whole : List ShownRow) (prefix : List (List ℕ)) (line : List ℕ) → map row_text whole ≡ prefix ++ line ∷ []
    → (w : List ShownRow) × (row : ShownRow) × (whole ≡ w ++ row ∷ []) × (row_text row ≡ line)
last_whole [] [] line e = absurd cc
last_whole [] (x ∷ prefix) line e = absurd cc
last_whole (row ∷ []) [] line e = ([], row, refl, cc)
last_whole (row ∷ other ∷ rows) [] line e = absurd cc
last_whole (row ∷ rows) (x ∷ prefix) line e =
    let q = last_whole rows prefix line cc in
    (row ∷ q.0, q.1, ap (λ z. row ∷ z) q.2, q.3)

rest_after : (state : State) (w : List ShownRow) (row : ShownRow) (later : List ShownRow) → IsRest state (w ++ row ∷ later) → IsRest (moved_to state row.schedule) later
rest_after state [] row later r = rest_tail schedules schedules_are_lawful state row later r
rest_after state (x ∷ w) row later r = rest_after (moved_to state x.schedule) w row later (rest_tail schedules schedules_are_lawful state x (w ++ row ∷ later) r)

module _ (state : State) (rows page others : List ShownRow) (joined : rows ≡ page ++ others) (summary : AreShown rows) (rest : IsRest state rows) where
  goes_on : (torn : List ℕ) (found : List (List ℕ)) (last : Option (List ℕ)) → HasRows torn found → IsOfLast found last → IsTorn page torn → Continues state rows page torn last
  goes_on torn found None has ends t =
      let none : map row_text t.whole ≡ [] = same_rows torn (map row_text t.whole) found t.rows has ∙ ends in
      (subst (HasRows torn) ends has, t.short (nothing t.whole none))
    where
      nothing : (whole : List ShownRow) → map row_text whole ≡ [] → whole ≡ []
      nothing [] e = refl
      nothing (x ∷ xs) e = absurd cc
  goes_on torn found (Some l) has (before, line, is, row_is) t =
      let q = last_whole t.whole before line (same_rows torn (map row_text t.whole) found t.rows has ∙ is) in
      let row = q.1 in
      let prefix : List ShownRow = q.0 ++ row ∷ [] in
      let rows_are : rows ≡ (prefix ++ t.left) ++ others = joined ∙ ap (λ z. z ++ others) (t.parted ∙ ap (λ z. z ++ t.left) q.2) in
      let in_page = Contains-append_left prefix t.left row (Contains-append_right q.0 (row ∷ []) row (at_head row [])) in
      let in_rows : Contains rows row = subst (λ z. Contains z row) (sym rows_are) (Contains-append_left (prefix ++ t.left) others row in_page) in
      let same : row.schedule ≡ l = same_row line row.schedule l (subst (IsRowLine row.schedule) q.3 (row_line_is row (summary row in_rows))) row_is in
      let later : List ShownRow = t.left ++ others in
      let whole_is : t.whole ++ later ≡ rows = sym (joined ∙ ap (λ z. z ++ others) t.parted ∙ append_assoc t.whole t.left others) in
      let parted : rows ≡ q.0 ++ row ∷ later = sym whole_is ∙ ap (λ z. z ++ later) q.2 ∙ append_assoc q.0 (row ∷ []) later in
      record {
        whole = t.whole;
        later = later;
        lines = t.rows;
        rest = subst (λ m. IsRest (moved_to state m) later) same (rest_after state q.0 row later (subst (IsRest state) parted rest));
        joined = whole_is;
      }

  pub continues : (torn : List ℕ) (n : ℕ) (o : Option Cursor) (last : Option (List ℕ)) → torn ≡ take n (flat_map row_line page ++ last_line o) → IsLastRow torn last
      → Continues state rows page torn last
  continues torn n o last is exact =
      let shown_page : AreShown page = λ row c. summary row (subst (λ z. Contains z row) (sym joined) (Contains-append_left page others row c)) in
      let text : torn ≡ take n (flat_map row_line page ++ (closing o ++ 10 ∷ [])) = is ∙ ap (λ z. take n (flat_map row_line page ++ z)) (closing_line o) in
      goes_on torn exact.0 last exact.1 exact.2 (subst (IsTorn page) (sym text) (torn_page page o n shown_page))
