-- The rows of a survey, counted one after another, and whether each ends in a boot.
use Rattle.std.proofs.Common.{List, None, Option, Some, [], ap, arith, cond, false, length, refl, subst, suc, sym, true, ℕ, ◌++◌, ◌+◌, ◌-◌, ◌<◌, ◌∙◌, ◌∷◌, ◌≡◌, ◌≤◌}
use Rattle.std.proofs.{lemmas.List.{length-append}, lemmas.List.Sums.{count_by-le-length, fold_push, sum_by-cons}}
use Rattle.std.specs.List.{AllByRecursion}
use Rattle.mc_boot.specs.{Outcome.{Report}, declared.outcome.BootResult.{BootResult}}
use Rattle.mc_explore.proofs.{JudgedRows.{none_right, rights_more}, PageRows.{AreSoFar, cursor_is, none_so_far, one_more, page_full, page_short, page_with}}
use Rattle.mc_explore.proofs.PageText.{last_on}
use Rattle.mc_explore.specs.{Pages.{FindsBefore, IsLawful}, Rows.{schedules, subject}}
use Rattle.mc_explore.specs.Rows as rows_of_schedules
use Rattle.mc_explore.specs.Subject.{State, Subject, rows_of}
use Rattle.mc_explore.specs.Survey.{IsWithin, Surveys, Tally, ending_with, is_boot, no_tally, one_row_more, tally_by_now, tally_of}
use Rattle.mc_explore.specs.{Right.{SurveysRows, no_rights, one_judged_more, rights_by}, declared.expectation.Expectation.{Expectation}}
use Rattle.mc_explore.specs.{declared.rights.RightsOf.{RightsOf}, declared.tally.TallyOf.{TallyOf}, facts.Whole.{whole_taken}}
use Rattle.mc_tree.specs.Tree.{After, last_key}
use Rattle.mc_boot.specs.declared.outcome.BootResult.TheVariants as results

-- The tally of some rows, and of one row more.

module _ {R : Type 0} (ends : R → Report) where
  tally_more : {U : Type 0} (rows : List R) (row : R) → one_row_more (ends row) (tally_by_now ends {U = U} rows) ≡ tally_by_now ends (rows ++ row ∷ [])
  tally_more rows row = grind (arith, length-append, fold_push)

  pub within : {U : Type 0} (rows : List R) → IsWithin (tally_by_now ends {U = U} rows)
  within rows = grind (arith, count_by-le-length)

-- The rows of a survey, as they are counted one after another.

module _ {C K R U : Type 0} (x : Subject C K R U) (laws : IsLawful (rows_of x)) (e : Expectation) (until : Option K) (old : State C K) (limit : ℕ) where
  -- These rows were taken and counted, and after the last of them one has come.
  pub record AreCounted (now : State C K) (tally : TallyOf U) (rights : RightsOf K) : Type 0 where
    pub some : List R
    pub so_far : AreSoFar (rows_of x) laws until old limit now (limit - tally.rows) some
    pub last_is : 0 < length some → now.position ≡ After (last_key x.key x.no_key some)
    pub tally_is : tally ≡ tally_by_now x.ends some
    pub rights_are : rights ≡ rights_by x.ends x.key e some
    pub at_most : tally.rows ≤ limit

  pub count_begin : AreCounted old no_tally no_rights
  count_begin =
      let room : limit ≡ limit - 0 = omega arith in
      record {
        some = [];
        so_far = subst (λ r. AreSoFar (rows_of x) laws until old limit old r []) room (none_so_far (rows_of x) laws until old limit);
        last_is = λ some. absurd (omega (arith, some));
        tally_is = refl;
        rights_are = none_right x.ends x.key e;
        at_most = omega arith;
      }

module _ {C K R U : Type 0} {x : Subject C K R U} {laws : IsLawful (rows_of x)} {e : Expectation} {until : Option K} {old : State C K} {limit : ℕ} {now : State C K} {tally : TallyOf U}
    {rights : RightsOf K} (p : AreCounted x laws e until old limit now tally rights) where
  -- No result was counted more often than there are rows.
  pub counted_within : IsWithin tally
  counted_within = rw p.tally_is (within x.ends p.some)

  -- One row more.
  pub count_on : (new : State C K) (row : R) (tally' : TallyOf U) (rights' : RightsOf K) (room : limit - tally.rows ≡ suc (limit - tally'.rows)) → FindsBefore (rows_of x) until now (Some row) new
      → tally' ≡ one_row_more (x.ends row) tally → rights' ≡ one_judged_more e (x.key row) (x.ends row) rights → tally'.rows ≤ limit → AreCounted x laws e until old limit new tally' rights'
  count_on new row tally' rights' room f more better at_most = record {
    some = p.some ++ row ∷ [];
    so_far = one_more (rows_of x) laws until old limit now (limit - tally.rows) p.some p.so_far (limit - tally'.rows) room new row f;
    last_is = λ _. ap (λ (s : State C K). s.position) f.2 ∙ ap (λ m. After m) (sym (last_on x.key x.no_key p.some row));
    tally_is = more ∙ ap (one_row_more (x.ends row)) p.tally_is ∙ tally_more x.ends p.some row;
    rights_are = better ∙ ap (one_judged_more e (x.key row) (x.ends row)) p.rights_are ∙ rights_more x.ends x.key e p.some row;
    at_most = at_most;
  }

  -- Where no further row is shown.
  pub counted_short : (new : State C K) (k : ℕ) → limit - tally.rows ≡ suc k → FindsBefore (rows_of x) until now None new → SurveysRows x e until old new limit tally rights
  counted_short new k room f =
      (page_with (rows_of x) old p.some false, page_short (rows_of x) laws until old limit now (limit - tally.rows) p.some p.so_far k room new f, p.tally_is, p.rights_are)

  -- Where the page is full.
  pub last_counted : 1 ≤ limit → limit - tally.rows ≡ 0 → now.position ≡ After (last_key x.key x.no_key p.some)
  last_counted some full = p.last_is (omega (arith, some, full, p.at_most, ap (λ (t : TallyOf U). t.rows) p.tally_is))

  pub counted_full : (cursor : U) → limit - tally.rows ≡ 0 → cursor ≡ x.cursor now.start now.choice now.bound (last_key x.key x.no_key p.some)
      → SurveysRows x e until old now limit
      (record { rows = tally.rows; boot = tally.boot; none = tally.none; panic = tally.panic; fault = tally.fault; most_ops = tally.most_ops; next = Some cursor }) rights
  counted_full cursor full is =
      let so_far = tally_by_now x.ends {U = U} p.some in
      let next = cursor_is (rows_of x) laws until old limit now (limit - tally.rows) p.some p.so_far cursor is in (
        page_with (rows_of x) old p.some true,
        page_full (rows_of x) laws until old limit now (limit - tally.rows) p.some p.so_far full,
        ap (λ (t : TallyOf U). record { rows = t.rows; boot = t.boot; none = t.none; panic = t.panic; fault = t.fault; most_ops = t.most_ops; next = Some cursor }) p.tally_is
            ∙ ap (λ n. record { rows = so_far.rows; boot = so_far.boot; none = so_far.none; panic = so_far.panic; fault = so_far.fault; most_ops = so_far.most_ops; next = n }) next,
        p.rights_are,
      )

-- A survey of all rows to come.
pub surveyed_whole : (e : Expectation) (old new : rows_of_schedules.State) (limit : ℕ) (tally : Tally) (rights : RightsOf (List ℕ)) → SurveysRows subject e None old new limit tally rights
    → Surveys old new limit tally
surveyed_whole e old new limit tally rights (page, taken, is, _) =
    let w = (whole_taken schedules old new limit page taken).0 in
    record { rows = w.rows; rest = w.rest; tally_is = is ∙ ap tally_of w.page_is; left = w.left; past = w.past }

-- Whether each of some rows ends in a boot, by their tally.

module _ {R : Type 0} (ends : R → Report) where
  abbrev Boots : R → Type 0
  Boots row = (ends row).result ≡ results.Boot

  abbrev pub AllBoots : List R → Type 0
  AllBoots rows = AllByRecursion Boots rows

  first : (row : R) (rows : List R) (r : BootResult) → (ends row).result ≡ r → ending_with ends is_boot (row ∷ rows) ≡ cond (is_boot r) 1 0 + ending_with ends is_boot rows
  first row rows r is = sum_by-cons (λ (r : R). cond (is_boot (ends r).result) 1 0) row rows ∙ ap (λ r. cond (is_boot r) 1 0 + ending_with ends is_boot rows) is

  more : (row : R) (rows : List R) (r : BootResult) → (ends row).result ≡ r → (ending_with ends is_boot rows ≡ length rows → AllBoots rows)
      → ending_with ends is_boot (row ∷ rows) ≡ suc (length rows) → AllBoots (row ∷ rows)
  more row rows results.Boot is rest e = (is, rest (omega (arith, e, first row rows results.Boot is)))
  more row rows results.None is rest e = absurd (omega (arith, e, first row rows results.None is, (within ends {U = ℕ} rows).boot))
  more row rows results.Panic is rest e = absurd (omega (arith, e, first row rows results.Panic is, (within ends {U = ℕ} rows).boot))
  more row rows results.Fault is rest e = absurd (omega (arith, e, first row rows results.Fault is, (within ends {U = ℕ} rows).boot))

  pub counted : (rows : List R) → ending_with ends is_boot rows ≡ length rows → AllBoots rows
  counted [] e = tt
  counted (row ∷ rows) e = more row rows (ends row).result refl (counted rows) e

  pub all_counted : (rows : List R) → AllBoots rows → ending_with ends is_boot rows ≡ length rows
  all_counted [] all = refl
  all_counted (row ∷ rows) all = omega (arith, first row rows results.Boot all.0, all_counted rows all.1)
