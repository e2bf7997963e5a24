-- Each flash that a torn operation of a boot may leave ends as a case of it, or as after a cut.
use Rattle.std.proofs.{Common.{add-one, ap, inl, inr, sym, ◌∙◌}, Math.Seq.{take-suc}, lemmas.Option.{get_or_from_slice_get, same_Some, slice_get_within}}
use Rattle.std.specs.Prelude.{Bool, List, Some, [], option_and_then, option_map, refl, slice_get, take, ℕ, ◌++◌, ◌+◌, ◌∷◌, ◌≡◌}
use Rattle.mc_boot.proofs.Joins.{applied_beyond}
use Rattle.mc_boot.specs.{Life.{is_at_rest}, Outcome.{applied, at, ops_of}, Plan.{PowerOn, again}, facts.Run.{left_defined, outcome_defined}}
use Rattle.mc_explore.specs.{Boots.{at_cut}, facts.Occurring.{at_is, lands_at}}
use Rattle.mc_flash.specs.{Flash.{Content, apply}, declared.op.Op.{Op}, declared.op.Slot.TheVariants.{Primary}}
use Rattle.mc_tear.proofs.EndsProof.{each_ends}
use Rattle.mc_tear.specs.{Laws.{EndAlike, IsListed, rests}}
use Rattle.mc_tears.proofs.Ending.{left_is, report_is}
use Rattle.mc_tears.specs.{Ends.{end_of, left_of}, Tears.{EachTornEnds, IsListedEnd, case_end}}
use Rattle.mc_trailer.specs.Trailer.{trailer_of}

rests_is : (x : PowerOn) → rests x ≡ Some (is_at_rest (trailer_of x.geometry (left_of x) Primary))
rests_is x =
    let left = left_defined x in
    let told : Content → Bool = λ z. is_at_rest (trailer_of x.geometry z Primary) in
    ap (option_map told) left.1 ∙ ap (λ z. Some (told z)) (sym (left_is x left.0 left.1))

-- Boots that end alike have one end.
pub end_same : (x y : PowerOn) → EndAlike x y → end_of x ≡ end_of y
unfolding end_of
end_same x y alike =
    let o = outcome_defined x in
    let reports = sym (report_is x o.0 o.1) ∙ report_is y o.0 (sym alike.outcome ∙ o.1) in
    let rest = same_Some _ _ (sym (rests_is x) ∙ alike.rest ∙ rests_is y) in
    rw (reports, rest) refl

-- What a whole operation makes stands behind it.
pub next_is : (x : PowerOn) (n : ℕ) (op : Op) (u : Content) → slice_get (ops_of x) n ≡ Some op → apply x.geometry op (at_cut x n) ≡ Some u → u ≡ at_cut x (n + 1)
unfolding at
next_is x n op u next made = lands_at x u (n + 1)
    (ap (λ (ops : List Op). applied x.geometry ops x.content) more
    ∙ applied_beyond x.geometry (take n (ops_of x)) (op ∷ []) x.content (at_cut x n) (at_is x n)
    ∙ ap (option_and_then (λ t. applied x.geometry [] t)) made)
  where
    more : take (n + 1) (ops_of x) ≡ take n (ops_of x) ++ op ∷ []
    more = rw (add-one, take-suc (ops_of x) n op (slice_get_within (ops_of x) n op next), get_or_from_slice_get (ops_of x) n op op next) refl

pub each_torn_ends : EachTornEnds
unfolding case_end
each_torn_ends e x n op v z ok sized next torn left apart apart_z =
    let found = each_ends e x n op (at_cut x n) v z ok sized next (at_is x n) torn left apart apart_z in
    by found.0 found.1 (end_same (again x v) (again x found.0) found.2)
  where
    by : (u : Content) → IsListed e x.geometry op (at_cut x n) u → end_of (again x v) ≡ end_of (again x u) → IsListedEnd e x n op (end_of (again x v))
    by u (inl same) ends = inl (ends ∙ ap (λ s. end_of (again x s)) same)
    by u (inr (inl made)) ends = inr (inl (ends ∙ ap (λ s. end_of (again x s)) (next_is x n op u next made)))
    by u (inr (inr (r, case, is))) ends = inr (inr (r, case, ends ∙ ap (λ s. end_of (again x s)) is))
