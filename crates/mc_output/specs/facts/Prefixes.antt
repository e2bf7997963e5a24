-- A text that comes out piece by piece.
use Rattle.std.specs.{Prelude.{◌≡◌, ℕ, List, [], ◌++◌, length, take, drop, Option, refl}, Io.KnownBytes.{Appends}}
use Rattle.std.proofs.{Common.{sym, ap, subst, ◌∙◌, append_assoc, append-nil, take-append-drop}, KnownBytes.{Appends-nil, Appends-trans}, lemmas.List.{take_at}}
use Rattle.mc_output.specs.Text.{AppendsPrefix}

-- Of that text this is still to come.
pub record IsOut (before now : Option (List ℕ)) (text rest : List ℕ) : Type 0 where
  pub done : List ℕ
  pub out : Appends before now done
  pub whole : done ++ rest ≡ text

-- What is out is a beginning.
pub is_prefix : (before now : Option (List ℕ)) (done rest text : List ℕ) → Appends before now done → done ++ rest ≡ text → AppendsPrefix before now text
is_prefix before now done rest text out whole =
    (length done, subst (Appends before now) (sym (take_at done rest (length done) refl) ∙ ap (take (length done)) whole) out)

pub out_begun : (before : Option (List ℕ)) (text : List ℕ) → IsOut before before text text
out_begun before text = record { done = []; out = Appends-nil before; whole = refl }

module _ (before mid now : Option (List ℕ)) (text piece rest : List ℕ) (o : IsOut before mid text (piece ++ rest)) where
  text_is : (o.done ++ piece) ++ rest ≡ text
  text_is = append_assoc o.done piece rest ∙ o.whole

  -- The next piece comes out.
  pub out_more : Appends mid now piece → IsOut before now text rest
  out_more p = record { done = o.done ++ piece; out = Appends-trans before mid now o.done piece o.out p; whole = text_is }

  -- A beginning of it comes out.
  pub out_prefix : AppendsPrefix mid now piece → AppendsPrefix before now text
  out_prefix (n, p) =
      let split : (o.done ++ take n piece) ++ (drop n piece ++ rest) ≡ (o.done ++ piece) ++ rest =
      append_assoc o.done (take n piece) (drop n piece ++ rest)
      ∙ ap (λ z. o.done ++ z) (sym (append_assoc (take n piece) (drop n piece) rest) ∙ ap (λ z. z ++ rest) (take-append-drop n piece))
      ∙ sym (append_assoc o.done piece rest) in
      is_prefix before now (o.done ++ take n piece) (drop n piece ++ rest) text (Appends-trans before mid now o.done (take n piece) o.out p) (split ∙ text_is)

-- All of it is out.
pub out_all : (before now : Option (List ℕ)) (text : List ℕ) → IsOut before now text [] → Appends before now text
out_all before now text o = subst (Appends before now) (sym (append-nil o.done) ∙ o.whole) o.out

-- Where it stops there, a beginning of the text is out.
pub out_stops : (before now : Option (List ℕ)) (text rest : List ℕ) → IsOut before now text rest → AppendsPrefix before now text
out_stops before now text rest o = is_prefix before now o.done rest text o.out o.whole
