-- What a judge's answer says of what is wanted of `verify`.
use Rattle.std.proofs.{Common.{◌≡◌, ℕ, ◌<◌, ◌≤◌, ◌^◌, List, length, Option, None, Some, Result, Ok, Err, refl, sym, ap, ◌∙◌, subst}, KnownBytes.{Keeps-refl}}
use Rattle.std.specs.{Prelude.{IfSome, IfErr, OnOk}, Io.KnownBytes.{Appends}}
use Rattle.mc_image.specs.{Image.{Image, image_in}, Valid.{image_fault}}
use Rattle.mc_image.specs.Verdict.{judged_of, judged_or_fault, verdict}
use Rattle.mc_image.specs.{declared.error.ImageError.{ImageError}, declared.judge.Judged.{Judged}}
use Rattle.mc_imgtool.specs.{Engines.{Answers, Refuses, Judges}, Lines.{good_line, good_text, line_or_fault, verified}, declared.error.ToolError.{ToolError}}
use Rattle.mc_imgtool.specs.declared.error.ToolError.TheVariants.{Image as image_error, NotZeros, SlotTooSmall, NeedsSlotSize, InputTooLong, Read, Write, Memory}
use Rattle.mc_output.specs.Text.{AppendsPrefix}
use Rattle.mc_imgtool.proofs.Wanted.{verified_short, verified_wanted}

good_is : (v : Image) → good_line v ≡ good_text (judged_of v)
unfolding good_line good_text
good_is v = refl

by_line : (v : Image) (o : Option ImageError) (j : Judged) → judged_or_fault v o ≡ Ok j → line_or_fault v o ≡ Ok (good_text j)
by_line v None j e = ap (λ l. Ok l) (good_is v) ∙ ap (λ k. Ok (good_text k)) (let q : judged_of v ≡ j = cc in q)
by_line v (Some x) j e = absurd (cc)

by_fault : (v : Image) (o : Option ImageError) (e : ImageError) → judged_or_fault v o ≡ Err e → line_or_fault v o ≡ Err (image_error e)
by_fault v None e h = absurd (cc)
by_fault v (Some x) e h = ap (λ y. Err (image_error y)) (let q : x ≡ e = cc in q)

pub verified_ok : (xs : List ℕ) (j : Judged) → length xs ≤ 2 ^ 24 → verdict xs ≡ Ok j → verified xs ≡ Ok (good_text j)
unfolding verdict
verified_ok xs j le h = verified_short xs le ∙ by_line (image_in xs) (image_fault xs) j h

pub verified_err : (xs : List ℕ) (e : ImageError) → length xs ≤ 2 ^ 24 → verdict xs ≡ Err e → verified xs ≡ Err (image_error e)
unfolding verdict
verified_err xs e le h = verified_short xs le ∙ by_fault (image_in xs) (image_fault xs) e h

known_bad : (known : Option (List ℕ)) (e : ImageError) → IfSome known (λ xs. (length xs ≤ 2 ^ 24) × (verdict xs ≡ Err e)) → IfSome known (λ xs. verified xs ≡ Err (image_error e))
known_bad None e h = tt
known_bad (Some xs) e h = verified_err xs e h.0 h.1

known_long : (known : Option (List ℕ)) → IfSome known (λ xs. 2 ^ 24 < length xs) → IfSome known (λ xs. verified xs ≡ Err InputTooLong)
known_long None h = tt
known_long (Some xs) h = verified_wanted.long xs h

-- a refusal of the judge
pub refused_judging : (known w : Option (List ℕ)) (e : ToolError) → Judges known (2 ^ 24) (Err e) → Refuses verified known w w e
refused_judging known w InputTooLong h = (known_long known h, Keeps-refl w)
refused_judging known w Read h = Keeps-refl w
refused_judging known w Memory h = absurd h
refused_judging known w (image_error e) h = (known_bad known e h, Keeps-refl w)
refused_judging known w NotZeros h = absurd h
refused_judging known w SlotTooSmall h = absurd h
refused_judging known w NeedsSlotSize h = absurd h
refused_judging known w Write h = absurd h

known_good : (known : Option (List ℕ)) (j : Judged) (P : List ℕ → Type 0) → IfSome known (λ xs. (length xs ≤ 2 ^ 24) × (verdict xs ≡ Ok j))
    → P (good_text j) → IfSome known (λ xs. (text : List ℕ) × (verified xs ≡ Ok text) × P text)
known_good None j P h p = tt
known_good (Some xs) j P h p = (good_text j, verified_ok xs j h.0 h.1, p)

at_write : (known old new : Option (List ℕ)) (e : ToolError) → e ≡ Write → IfSome known (λ xs. (text : List ℕ) × (verified xs ≡ Ok text) × AppendsPrefix old new text)
    → Refuses verified known old new e
at_write known old new e h prefix = let P : ToolError → Type 0 = λ x. Refuses verified known old new x in subst P (sym h) prefix

-- what is written for a valid image
pub answered_good : {A : Type 0} (known old new : Option (List ℕ)) (j : Judged) (r : Result A ToolError) → Judges known (2 ^ 24) (Ok j)
    → OnOk r (Appends old new (good_text j)) → IfErr r (λ e. (e ≡ Write) × AppendsPrefix old new (good_text j)) → Answers verified known old new r
answered_good known old new j (Ok x) h whole prefix = known_good known j (Appends old new) h whole
answered_good known old new j (Err e) h whole prefix = at_write known old new e prefix.0 (known_good known j (AppendsPrefix old new) h prefix.1)
