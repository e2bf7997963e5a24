-- The lines of torn cases of the boots of a schedule.
use Rattle.std.proofs.{Common.{ap, append_assoc, arith, subst, sym, ◌∙◌}, lemmas.List.FromFn.{get_or-map-range_with_len, length-map-range_with_len}, lemmas.List.{map-append}}
use Rattle.std.proofs.lemmas.Option.{same_Some, slice_get-get_or}
use Rattle.std.specs.{List.{range_with_len}, Prelude.{Err, List, None, Ok, OnOk, Option, Result, Some, [], codes, false, length, map, refl, slice_get, ℕ, ◌++◌, ◌<◌, ◌∷◌, ◌≡◌}}
use Rattle.mc_boot.specs.{Outcome.{after, ops_of}, Plan.{PowerOn, again}}
use Rattle.mc_explore.specs.{Boots.{at_cut}, Schedules.{CanOccur}, declared.expectation.Expectation.{Expectation}, facts.Occurring.{allowed_after, occurs_allowed}}
use Rattle.mc_flash.specs.Flash.{Content}
use Rattle.mc_tear.specs.declared.torn.Erasing.{Erasing}
use Rattle.mc_tears.specs.{Tears.{number_text, numbers}, declared.cases.Asked.{Asked}}
use Rattle.mc_trace.specs.{Frames.{torn_row}, inner.Torn.{AddsTorn, AreTorn, AreTornAlong, first_boot, later_boots, text_or}}

-- A cut that can occur leaves that.
pub cut_leaves : (x : PowerOn) (cut : ℕ) (s : Content) → CanOccur x (cut ∷ []) → after x (cut ∷ []) ≡ Some s → s ≡ at_cut x cut
cut_leaves x cut s some is = same_Some s (at_cut x cut) (sym is ∙ allowed_after x (cut ∷ []) (occurs_allowed x (cut ∷ []) some))

module _ (torn : Option Erasing) (e : Expectation) (x : PowerOn) (boots : List (List (List ℕ))) where
  -- The first are those of the first boot, and the others those of the boots after it.
  pub torn_first : (cuts : List ℕ) → AreTornAlong torn e x cuts boots → AreTorn torn e x (first_boot boots)
  torn_first [] are = are
  torn_first (cut ∷ cuts) are = are.0

  pub torn_later : (cuts : List ℕ) (cut : ℕ) (rest : List ℕ) (y : PowerOn) (later : List (List (List ℕ))) → cuts ≡ cut ∷ rest → y ≡ again x (at_cut x cut) → later ≡ later_boots boots
      → AreTornAlong torn e x cuts boots → AreTornAlong torn e y rest later
  torn_later cuts cut rest y later is next others are = rw (next, others) (subst (λ (l : List ℕ). AreTornAlong torn e x l boots) is are).1

-- None are asked for.
pub none_torn : (e : Expectation) (x : PowerOn) (cuts : List ℕ) → AreTornAlong None e x cuts []
none_torn e x [] = λ n early. refl
none_torn e x (cut ∷ cuts) = (λ n early. refl, none_torn e (again x (at_cut x cut)) cuts)

-- The row of some lines.
pub row_is : (text : List ℕ) → 0 < length text → torn_row text ≡ codes "<pre class=\"t\">" ++ (text ++ codes "</pre>\n")
row_is [] some = absurd (omega (arith, some))
row_is (c ∷ text) some = refl

-- The lines of one boot more.
module _ (asked : Asked) (told : asked.all ≡ false) (x : PowerOn) where
  torn_here : (lines : List (List ℕ)) → lines ≡ map (number_text asked x) (numbers x) → AreTorn (Some asked.erasing) asked.expectation x lines
  torn_here lines are n early =
      let text = number_text asked x in
      let count = length (ops_of x) in
      let here : slice_get (map text (range_with_len 0 count)) n ≡ Some (text n) =
      slice_get-get_or (map text (range_with_len 0 count)) n [] (omega (arith, early, length-map-range_with_len text 0 count))
      ∙ ap (λ (t : List ℕ). Some t) (get_or-map-range_with_len text 0 count n n [] early (omega arith)) in
      ap (λ l. text_or (slice_get l n)) are ∙ ap text_or here
      ∙ subst (λ b. text n ≡ number_text (record { erasing = asked.erasing; all = b; expectation = asked.expectation }) x n) told refl

  module _ {A : Type 0} (f : A → List (List ℕ)) (old new : List A) (lines : A) (pushed : new ≡ old ++ lines ∷ []) (are : f lines ≡ map (number_text asked x) (numbers x)) where
    pushed_is : map f new ≡ map f old ++ f lines ∷ []
    pushed_is = ap (map f) pushed ∙ map-append f old (lines ∷ [])

    -- The boot is the last, or others follow.
    pub added_last : (cuts : List ℕ) → cuts ≡ [] → AddsTorn (Some asked.erasing) asked.expectation x cuts (map f old) (map f new)
    added_last cuts none = rw none (f lines ∷ [], pushed_is, torn_here (f lines) are)

    pub added_more : {B E : Type 0} (r : Result B E) (cuts : List ℕ) (cut : ℕ) (rest : List ℕ) (y : PowerOn) (all : List (List (List ℕ))) → cuts ≡ cut ∷ rest → y ≡ again x (at_cut x cut)
        → OnOk r (AddsTorn (Some asked.erasing) asked.expectation y rest (map f new) all) → OnOk r (AddsTorn (Some asked.erasing) asked.expectation x cuts (map f old) all)
    added_more (Err _) cuts cut rest y all is next others = tt
    added_more (Ok _) cuts cut rest y all is next (more, all_is, along) =
        rw is (f lines ∷ more, all_is ∙ ap (λ l. l ++ more) pushed_is ∙ append_assoc (map f old) (f lines ∷ []) more, (torn_here (f lines) are, rw next at along))
