use Rattle.std.specs.{Io.KnownBytes.{Appends}, Prelude.{Bool, Err, List, Ok, Option, codes, ◌++◌, ℕ}}
use Rattle.std.proofs.{Common.{◌≡◌, ap, inl, inr, refl, subst, sym, ◌∙◌}, KnownBytes.{Appends-trans}, lemmas.Result.{err_from_is_err_and}}
use Rattle.mc_actions.specs.Layouts.{yes_or_no}
use Rattle.mc_command.specs.{Inspections.{AnswersLocate, IsNearestOf, are_whole, swap_text}, declared.inspect.Found.{Found}, declared.inspect.LocateAsked.{LocateAsked}}
use Rattle.mc_command.proofs.inspect.locate_in.Goals as goal
use Rattle.mc_options.proofs.Begun.{first_begun, then_begun}
use Rattle.mc_options.specs.{Arguments.{kind_text}, Requests.{End, IsUnwritten}, declared.refusal.Refusal.{Refusal}}
use Rattle.mc_output.specs.Text.{AppendsPrefix}
use Rattle.mc_vectors.specs.Locating.{located_text}

abbrev text_of : Found → Bool → List ℕ
text_of found whole =
    (codes "swap " ++ (kind_text found.kind ++ codes "\n")) ++ (located_text found.located ++ (codes "all " ++ (yes_or_no whole ++ codes "\n")))

module _ (l : LocateAsked) (found : Found) (whole : Bool) (is : IsNearestOf l (found, whole)) (before after : Option (List ℕ)) (end : End) where
  same : swap_text is.0 ≡ text_of found whole
  same = ap (λ (f : Found). text_of f (are_whole is.0)) is.1 ∙ ap (λ (w : Bool). text_of found w) is.2

  broken : (e : Refusal) → end ≡ Err e → IsUnwritten e → AppendsPrefix before after (text_of found whole) → AnswersLocate l before after end
  broken e ends breaks prefix = inr (inr (e, ends, breaks, is.0, subst (λ (t : List ℕ). AppendsPrefix before after t) (sym same) prefix))

  printed : end ≡ Ok tt → Appends before after (text_of found whole) → AnswersLocate l before after end
  printed ends all = inl (is.0, ends, subst (λ (t : List ℕ). Appends before after t) (sym same) all)

pub returns-in_err-found : goal.returns-in_err-found
returns-in_err-found g c =
    let p = err_from_is_err_and c.from_residual.result c.from_residual.ensures.1 in inr (inl (p.0, p.1, inl (rw p.2 c.in_err-found.ensures.refused), refl))

pub returns-in_err-write_text : goal.returns-in_err-write_text
returns-in_err-write_text g c =
    let p = err_from_is_err_and c.from_residual-in_err-write_text.result c.from_residual-in_err-write_text.ensures.1 in
    let head = rw (c.as_bytes.ensures.value, c.in-Ok.ensures.ok, c.kind_name-kind.ensures) at c.in_err-write_text.ensures.prefix in
    broken _ _ _ c.in_ok-found.ensures.nearest _ _ _ p.0 p.1 p.2 (first_begun _ _ _ _ head)

pub returns-in_err-write_located : goal.returns-in_err-write_located
returns-in_err-write_located g c =
    let p = err_from_is_err_and c.from_residual-in_err-write_located.result c.from_residual-in_err-write_located.ensures.1 in
    let head = rw (c.as_bytes.ensures.value, c.in-Ok.ensures.ok, c.kind_name-kind.ensures) at c.in_ok-write_text.ensures.whole in
    broken _ _ _ c.in_ok-found.ensures.nearest _ _ _ p.0 p.1 p.2 (then_begun _ _ _ _ _ head (first_begun _ _ _ _ c.in_err-write_located.ensures.prefix))

pub returns-in_err-write_text-2 : goal.returns-in_err-write_text-2
returns-in_err-write_text-2 g c =
    let p = err_from_is_err_and c.from_residual-in_err-write_text-2.result c.from_residual-in_err-write_text-2.ensures.1 in
    let head = rw (c.as_bytes.ensures.value, c.in-Ok.ensures.ok, c.kind_name-kind.ensures) at c.in_ok-write_text.ensures.whole in
    let last = rw (c.as_bytes-2.ensures.value, c.in-Ok-format.ensures.ok, c.yes_or_no-all.ensures) at c.in_err-write_text-2.ensures.prefix in
    broken _ _ _ c.in_ok-found.ensures.nearest _ _ _ p.0 p.1 p.2 (then_begun _ _ _ _ _ head (then_begun _ _ _ _ _ c.in_ok-write_located.ensures.whole last))

pub returns : goal.returns
returns g c =
    let head = rw (c.as_bytes.ensures.value, c.in-Ok.ensures.ok, c.kind_name-kind.ensures) at c.in_ok-write_text.ensures.whole in
    let last = rw (c.as_bytes-2.ensures.value, c.in-Ok-format.ensures.ok, c.yes_or_no-all.ensures) at c.in_ok-write_text-2.ensures.whole in
    printed _ _ _ c.in_ok-found.ensures.nearest _ _ _ refl (Appends-trans _ _ _ _ _ head (Appends-trans _ _ _ _ _ c.in_ok-write_located.ensures.whole last))
