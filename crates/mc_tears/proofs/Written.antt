-- What is written of a case, and how it ends.
use Rattle.std.proofs.{Common.{ap, append-nil, subst, sym, ◌∙◌}, KnownBytes.{Appends-trans}}
use Rattle.std.specs.{Io.KnownBytes.{Appends}, List.{list_all, range_with_len}}
use Rattle.std.specs.Prelude.{Bool, Err, List, Ok, OnErr, OnOk, Option, Result, Some, [], false, flat_map, length, refl, slice_get, sum_by, true, ℕ, ◌&&◌, ◌++◌, ◌+◌, ◌<◌, ◌≡◌}
use Rattle.mc_boot.specs.{Outcome.{ops_of}, Plan.{PowerOn, again}}
use Rattle.mc_explore.specs.Boots.{at_cut}
use Rattle.mc_flash.specs.{Flash.{Content}, Geometry.{Geometry}, Usage.{Seen}, declared.op.Op.{Op}}
use Rattle.mc_output.specs.{Text.{AppendsPrefix}, facts.Prefixes.{IsOut, out_begun, out_more, out_prefix, out_stops}}
use Rattle.mc_tear.specs.{Cases.{cases_of, is_case, put_in, torn, torn_bytes}, Readings.{reading_of}, declared.reading.Reading.{Reading}, declared.torn.Erasing.{Erasing}}
use Rattle.mc_tears.proofs.Listed.{cases_first, cases_from, right_next, text_next, up_to, up_to_first, up_to_next}
use Rattle.mc_tears.specs.Ends.{Ending, end_of, ends_right, shown_end}
use Rattle.mc_tears.specs.Tears.{all_right, case_end, case_text, counts_text, lines_text, number_count, number_right, number_text, op_count, numbers, op_right, op_text, tears_text, told_text}
use Rattle.mc_tears.specs.{declared.cases.Asked.{Asked}, declared.cases.Between.{Between}, declared.error.TearError.{TearError}}
use Rattle.mc_tears.specs.inner.Standing.{StandsBefore, WritesText, case_at, reading_right, reading_text_at}

-- Nothing is a beginning of every text.
pub none_out : (out : Option (List ℕ)) (text : List ℕ) → AppendsPrefix out out text
none_out out text = out_stops out out text text (out_begun out text)

-- Tests one after another.
pub and_then : (a b c : Bool) → ((a && b) && c) ≡ (a && (b && c))
and_then true b c = refl
and_then false b c = refl

pub and_true : (a : Bool) → (a && true) ≡ a
and_true true = refl
and_true false = refl

-- The cases of an operation, one reading after another.
module _ (a : Asked) (x : PowerOn) (n : ℕ) (op : Op) where
  abbrev pub left : ℕ → List Reading
  left i = cases_from a.erasing x.geometry op (at_cut x n) i

  abbrev pub right_of : Reading → Bool
  right_of r = ends_right a.expectation (case_end a.erasing x n op r)

  pub text_step : (i : ℕ) → i < 192 → flat_map (case_text a x n op) (left i) ≡ reading_text_at a x n op (reading_of i) ++ flat_map (case_text a x n op) (left (i + 1))
  unfolding reading_text_at case_at
  text_step i early = text_next a.erasing x.geometry op (at_cut x n) (case_text a x n op) i early

  pub right_step : (i : ℕ) → i < 192 → list_all right_of (left i) ≡ (reading_right a x n op (reading_of i) && list_all right_of (left (i + 1)))
  unfolding reading_right case_at
  right_step i early = right_next a.erasing x.geometry op (at_cut x n) right_of i early

  pub text_first : flat_map (case_text a x n op) (left 0) ≡ op_text a x n (Some op)
  unfolding op_text
  text_first = ap (flat_map (case_text a x n op)) (cases_first a.erasing x.geometry op (at_cut x n))

  pub right_first : list_all right_of (left 0) ≡ op_right a x n (Some op)
  unfolding op_right
  right_first = ap (list_all right_of) (cases_first a.erasing x.geometry op (at_cut x n))

-- The operation of that number.
module _ (x : PowerOn) (n : ℕ) (op : Op) (is : slice_get (ops_of x) n ≡ Some op) where
  pub count_there : (e : Erasing) → number_count e x n ≡ length (cases_of e x.geometry op (at_cut x n))
  unfolding number_count op_count
  count_there e = ap (op_count e x n) is

  pub text_there : (a : Asked) → number_text a x n ≡ op_text a x n (Some op)
  unfolding number_text
  text_there a = ap (op_text a x n) is

  pub right_there : (a : Asked) → number_right a x n ≡ op_right a x n (Some op)
  unfolding number_right
  right_there a = ap (op_right a x n) is

-- The lines of all operations, one after another.
module _ (a : Asked) (x : PowerOn) where
  abbrev count : ℕ
  count = length (ops_of x)

  pub lines_begun : (out : Option (List ℕ)) → IsOut out out (lines_text a x) (flat_map (number_text a x) (up_to count 0))
  unfolding lines_text
  lines_begun out = rw (up_to_first count) (out_begun out (flat_map (number_text a x) (range_with_len 0 count)))

  pub lines_right : list_all (number_right a x) (up_to count 0) ≡ all_right a x
  unfolding all_right
  lines_right = ap (list_all (number_right a x)) (up_to_first count)

  -- How many there are comes first.
  abbrev pub head : List ℕ
  head = counts_text count (sum_by (number_count a.erasing x) (numbers x))

  module _ (before : Option (List ℕ)) where
    pub head_begun : (new : Option (List ℕ)) → AppendsPrefix before new head → AppendsPrefix before new (tears_text a x)
    unfolding tears_text
    head_begun new p = out_prefix before before new (head ++ lines_text a x) head (lines_text a x) (out_begun before (head ++ lines_text a x)) p

    module _ (mid new : Option (List ℕ)) (p : Appends before mid head) where
      pub then_whole : (r : Result Bool TearError) → WritesText r mid new (lines_text a x) → OnOk r (Appends before new (tears_text a x))
      unfolding tears_text
      then_whole (Ok _) q = Appends-trans before mid new head (lines_text a x) p q
      then_whole (Err _) q = tt

      pub then_begun : (r : Result Bool TearError) → WritesText r mid new (lines_text a x) → OnErr r (AppendsPrefix before new (tears_text a x))
      unfolding tears_text
      then_begun (Ok _) q = tt
      then_begun (Err _) q =
          let o = out_more before before mid (head ++ lines_text a x) head (lines_text a x) (out_begun before (head ++ lines_text a x)) p in
          out_prefix before mid new (head ++ lines_text a x) (lines_text a x) [] (rw (append-nil (lines_text a x)) o) q

  module _ (n : ℕ) where
    pub lines_next : (before mid : Option (List ℕ)) → n < count → IsOut before mid (lines_text a x) (flat_map (number_text a x) (up_to count n))
        → IsOut before mid (lines_text a x) (number_text a x n ++ flat_map (number_text a x) (up_to count (n + 1)))
    lines_next before mid early out = subst (IsOut before mid (lines_text a x)) (ap (flat_map (number_text a x)) (up_to_next count n early)) out

    pub lines_step : (before here : Bool) → n < count → here ≡ number_right a x n
        → ((before && here) && list_all (number_right a x) (up_to count (n + 1))) ≡ (before && list_all (number_right a x) (up_to count n))
    lines_step before here early right =
        let rest = list_all (number_right a x) (up_to count (n + 1)) in
        and_then before here rest
        ∙ ap (λ (z : Bool). before && (z && rest)) right
        ∙ ap (λ (z : Bool). before && z) (sym (ap (list_all (number_right a x)) (up_to_next count n early)))

module _ (x : PowerOn) (b : Between) (f : Seen) (s : StandsBefore x b f) where
  -- Whether a reading is a case there.
  pub case_is : (a : Asked) (r : Reading) → is_case a.erasing f.geometry b.op f.content r ≡ case_at a x b.number b.op r
  unfolding case_at
  case_is a r = ap (λ g. is_case a.erasing g b.op f.content r) s.layout ∙ ap (λ t. is_case a.erasing x.geometry b.op t r) s.content

  -- How it ends, from the bytes that it makes.
  pub ends_so : (e : Erasing) (r : Reading) (h : Seen) (bytes : List ℕ) → h.geometry ≡ f.geometry → h.content ≡ f.content → bytes ≡ torn_bytes e f.geometry b.op f.content r
      → end_of (again x (put_in h.geometry b.op h.content bytes)) ≡ case_end e x b.number b.op r
  unfolding case_end
  ends_so e r h bytes layout content is =
      let made : bytes ≡ torn_bytes e x.geometry b.op (at_cut x b.number) r =
      is ∙ ap (λ g. torn_bytes e g b.op f.content r) s.layout ∙ ap (λ t. torn_bytes e x.geometry b.op t r) s.content in
      let put : put_in h.geometry b.op h.content bytes ≡ torn e x.geometry b.op (at_cut x b.number) r =
      ap (λ (g : Geometry). put_in g b.op h.content bytes) (layout ∙ s.layout) ∙ ap (λ (t : Content). put_in x.geometry b.op t bytes) (content ∙ s.content)
      ∙ ap (put_in x.geometry b.op (at_cut x b.number)) made in
      ap (λ (t : Content). end_of (again x t)) put

  -- And what is written of it.
  pub told_is : (a : Asked) (r : Reading) (end : Ending) → case_at a x b.number b.op r ≡ true → end ≡ case_end a.erasing x b.number b.op r
      → told_text a.all b.number (shown_end b.before) (shown_end b.after) r end ≡ reading_text_at a x b.number b.op r
  unfolding reading_text_at case_text
  told_is a r end is ends = rw is (
      ap (λ (z : Ending). told_text a.all b.number z (shown_end b.after) r end) s.before
      ∙ ap (λ (z : Ending). told_text a.all b.number (end_of (again x (at_cut x b.number))) z r end) s.after
      ∙ ap (told_text a.all b.number (end_of (again x (at_cut x b.number))) (end_of (again x (at_cut x (b.number + 1)))) r) ends)

  -- Of what is no case nothing is written, and it is right.
  pub no_text : (a : Asked) (r : Reading) → case_at a x b.number b.op r ≡ false → reading_text_at a x b.number b.op r ≡ []
  unfolding reading_text_at
  no_text a r is = rw is refl

  pub no_right : (a : Asked) (r : Reading) → case_at a x b.number b.op r ≡ false → reading_right a x b.number b.op r ≡ true
  unfolding reading_right
  no_right a r is = rw is refl

  pub right_is : (a : Asked) (r : Reading) (end : Ending) → case_at a x b.number b.op r ≡ true → end ≡ case_end a.erasing x b.number b.op r
      → ends_right a.expectation end ≡ reading_right a x b.number b.op r
  unfolding reading_right
  right_is a r end is ends = rw is (ap (ends_right a.expectation) ends)
