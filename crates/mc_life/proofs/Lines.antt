-- The line of an event comes out in three pieces.
use Rattle.std.specs.Prelude.{◌≡◌, ℕ, suc, ◌+◌, ◌<◌, ◌≤◌, List, [], ◌∷◌, ◌++◌, length, drop, bytes_eq, true, false, if◌then◌else◌, Option, Some, None}
use Rattle.std.specs.Io.KnownBytes.{Appends}
use Rattle.std.proofs.Common.{arith, sym, ap, subst, append-nil, get_or, drop-cons, drop_of_length-le, ◌∙◌}
use Rattle.mc_life.specs.Script.{Named, file_of}
use Rattle.mc_output.specs.{Text.{AppendsPrefix}, facts.Prefixes.{IsOut, out_all, out_begun, out_prefix, out_more}}

module _ (a w b : List ℕ) (before mid : Option (List ℕ)) where
  pub first_begun : AppendsPrefix before mid a → AppendsPrefix before mid (a ++ (w ++ b))
  first_begun p = out_prefix before before mid (a ++ (w ++ b)) a (w ++ b) (out_begun before (a ++ (w ++ b))) p

  module _ (first : Appends before mid a) (last : Option (List ℕ)) where
    after_first : IsOut before mid (a ++ (w ++ b)) (w ++ b)
    after_first = out_more before before mid (a ++ (w ++ b)) a (w ++ b) (out_begun before (a ++ (w ++ b))) first

    pub words_begun : AppendsPrefix mid last w → AppendsPrefix before last (a ++ (w ++ b))
    words_begun p = out_prefix before mid last (a ++ (w ++ b)) w b after_first p

    module _ (words : Appends mid last w) (now : Option (List ℕ)) where
      after_words : IsOut before last (a ++ (w ++ b)) (b ++ [])
      after_words = subst (IsOut before last (a ++ (w ++ b))) (sym (append-nil b)) (out_more before mid last (a ++ (w ++ b)) w b after_first words)

      pub end_begun : AppendsPrefix last now b → AppendsPrefix before now (a ++ (w ++ b))
      end_begun p = out_prefix before last now (a ++ (w ++ b)) b [] after_words p

      pub all_out : Appends last now b → Appends before now (a ++ (w ++ b))
      all_out p = out_all before now (a ++ (w ++ b)) (out_more before last now (a ++ (w ++ b)) b [] after_words p)

-- Two lines come out.
module _ (a b : List ℕ) (before : Option (List ℕ)) where
  pub first_of_two : (now : Option (List ℕ)) → AppendsPrefix before now a → AppendsPrefix before now (a ++ b)
  first_of_two now p = out_prefix before before now (a ++ b) a b (out_begun before (a ++ b)) p

  pub last_of_two : (mid now : Option (List ℕ)) → Appends before mid a → AppendsPrefix mid now b → AppendsPrefix before now (a ++ b)
  last_of_two mid now out p =
      let o : IsOut before mid (a ++ b) (b ++ []) =
      subst (IsOut before mid (a ++ b)) (sym (append-nil b)) (out_more before before mid (a ++ b) a b (out_begun before (a ++ b)) out) in
      out_prefix before mid now (a ++ b) b [] o p

-- ---- files

module _ (files : List Named) (name : List ℕ) (i : ℕ) (so_far : file_of (drop i files) name ≡ file_of files name) (inside : i < length files) (f : Named) (item : f ≡ get_or files i f) where
  next_is : drop i files ≡ f ∷ drop (suc i) files
  next_is = drop-cons files i f inside ∙ ap (λ (x : Named). x ∷ drop (suc i) files) (sym item)

  pub found : bytes_eq f.name name ≡ true → Some f.bytes ≡ file_of files name
  found same = sym (ap (λ b. if b then Some f.bytes else file_of (drop (suc i) files) name) same) ∙ sym (ap (λ z. file_of z name) next_is) ∙ so_far

  pub not_here : bytes_eq f.name name ≡ false → file_of (drop (i + 1) files) name ≡ file_of files name
  not_here other =
      ap (λ n. file_of (drop n files) name) plus ∙ sym (ap (λ b. if b then Some f.bytes else file_of (drop (suc i) files) name) other) ∙ sym (ap (λ z. file_of z name) next_is) ∙ so_far
    where
      plus : i + 1 ≡ suc i
      plus = omega arith

pub none_found : (files : List Named) (name : List ℕ) (i : ℕ) → length files ≤ i → file_of (drop i files) name ≡ file_of files name → None ≡ file_of files name
none_found files name i end so_far = sym (ap (λ z. file_of z name) (drop_of_length-le files end)) ∙ so_far
