-- How the text of a list is taken apart at its separators, item by item.
use Rattle.std.specs.Prelude.{◌≡◌, ℕ, ◌<◌, List, [], ◌∷◌, ◌++◌, length, flat_map, codes, refl}
use Rattle.std.proofs.Common.{arith, sym, ap, subst, ◌∙◌, append_assoc, append-nil}
use Rattle.mc_output.specs.{Text.{joined, IsAdded}, facts.Parting.{Lacks, one_part, no_part}}

module _ {A : Type 0} (separator : ℕ) (spell : A → List ℕ) where
  -- The items so far, each with a separator after it.
  abbrev pub beyond : List A → List ℕ
  beyond [] = []
  beyond (x ∷ xs) = spell x ++ (separator ∷ beyond xs)

  abbrev points : List A → List ℕ
  points xs = flat_map (λ y. (separator ∷ []) ++ spell y) xs

  abbrev pub text_of : List A → List ℕ
  text_of xs = joined (separator ∷ []) spell xs

  -- One item more, and a separator.
  beyond_push : (l : List A) (x : A) (rest : List ℕ) → beyond (l ++ x ∷ []) ++ rest ≡ beyond l ++ (spell x ++ (separator ∷ rest))
  beyond_push [] x rest = append_assoc (spell x) (separator ∷ []) rest
  beyond_push (y ∷ l) x rest =
      append_assoc (spell y) (separator ∷ beyond (l ++ x ∷ [])) rest
      ∙ ap (λ (z : List ℕ). spell y ++ (separator ∷ z)) (beyond_push l x rest)
      ∙ sym (append_assoc (spell y) (separator ∷ beyond l) (spell x ++ (separator ∷ rest)))

  points_push : (l : List A) (y x : A) → spell y ++ points (l ++ x ∷ []) ≡ beyond (y ∷ l) ++ spell x
  points_push [] y x = ap (λ (z : List ℕ). spell y ++ z) (append-nil (separator ∷ spell x)) ∙ sym (append_assoc (spell y) (separator ∷ []) (spell x))
  points_push (z ∷ l) y x = ap (λ (t : List ℕ). spell y ++ (separator ∷ t)) (points_push l z x) ∙ sym (append_assoc (spell y) (separator ∷ beyond (z ∷ l)) (spell x))

  -- The last item ends the text.
  whole_text : (l : List A) (x : A) → beyond l ++ spell x ≡ text_of (l ++ x ∷ [])
  whole_text [] x = sym (append-nil (spell x))
  whole_text (y ∷ l) x = sym (points_push l y x)

  -- Of the items m those of l were read, and the text of the others is left.
  pub record IsLeft (l m : List A) (rest : List ℕ) : Type 0 where
    pub others : List A
    pub some : 0 < length others
    pub split : m ≡ l ++ others
    pub text : rest ≡ text_of others

  pub text_next : {Fits : List A → A → Type 0} (l new : List A) (text rest first after : List ℕ) → text ≡ beyond l ++ rest → rest ≡ first ++ (separator ∷ after)
      → IsAdded spell Fits l first new → text ≡ beyond new ++ after
  text_next {Fits} l new text rest first after is parts added =
      is ∙ ap (λ (z : List ℕ). beyond l ++ z) (parts ∙ ap (λ (z : List ℕ). z ++ (separator ∷ after)) added.text_is)
      ∙ sym (ap (λ (z : List A). beyond z ++ after) added.new_is ∙ beyond_push l added.item after)

  pub text_last : {Fits : List A → A → Type 0} (l new : List A) (text rest : List ℕ) → text ≡ beyond l ++ rest → IsAdded spell Fits l rest new → text ≡ text_of new
  text_last {Fits} l new text rest is added =
      is ∙ ap (λ (z : List ℕ). beyond l ++ z) added.text_is ∙ whole_text l added.item ∙ ap text_of (sym added.new_is)

module _ {A : Type 0} (separator : ℕ) (spell : A → List ℕ) (Fits : List A → A → Type 0) (IsValid : List A → Type 0) where
  -- What the text of an item is, and which items go with those before them.
  pub record IsSpelling : Type 0 where
    pub lacks : (l : List A) (x : A) → Fits l x → Lacks separator (spell x)
    pub no_dash : (l : List A) (x : A) (rest : List ℕ) → Fits l x → codes "-" ≡ spell x ++ rest → ⊥
    pub same : (l : List A) (x y : A) → Fits l x → Fits l y → spell x ≡ spell y → x ≡ y
    pub fits : (l : List A) (x : A) (n : List A) → IsValid (l ++ x ∷ n) → Fits l x
    pub grows : (l : List A) (x : A) → IsValid l → Fits l x → IsValid (l ++ x ∷ [])

module _ {A : Type 0} {separator : ℕ} {spell : A → List ℕ} {Fits : List A → A → Type 0} {IsValid : List A → Type 0} (s : IsSpelling separator spell Fits IsValid) where
  -- A dash says the list of no item, and no other.
  pub dash : (l : List A) (text : List ℕ) → IsValid l → text ≡ codes "-" → text ≡ text_of separator spell l → l ≡ []
  dash [] text ok is given = refl
  dash (x ∷ xs) text ok is given = absurd (s.no_dash [] x (flat_map (λ y. (separator ∷ []) ++ spell y) xs) (s.fits [] x xs ok) (sym is ∙ given))

  pub added_valid : (old new : List A) (text : List ℕ) → IsValid old → IsAdded spell Fits old text new → IsValid new
  added_valid old new text ok added = subst IsValid (sym added.new_is) (s.grows old added.item ok added.fits)

  fits_here : (l m n : List A) (x : A) → IsValid m → m ≡ l ++ x ∷ n → Fits l x
  fits_here l m n x ok is = s.fits l x n (subst IsValid is ok)

  -- The next item, of a text that has a separator.
  record IsNextItem (l m : List A) (first after : List ℕ) : Type 0 where
    item : A
    fits : Fits l item
    first_is : first ≡ spell item
    left : IsLeft separator spell (l ++ item ∷ []) m after

  next_item : (l m : List A) (rest first after : List ℕ) → IsValid m → IsLeft separator spell l m rest → rest ≡ first ++ (separator ∷ after) → Lacks separator first → IsNextItem l m first after
  next_item l m rest first after ok left parts lacks = by left.others left.some left.split (sym left.text ∙ parts)
    where
      by : (others : List A) → 0 < length others → m ≡ l ++ others → text_of separator spell others ≡ first ++ (separator ∷ after) → IsNextItem l m first after
      by [] some is e = absurd (omega (arith, some))
      by (x ∷ []) some is e = absurd (no_part separator (spell x) first after (s.lacks l x (fits_here l m [] x ok is)) (sym (append-nil (spell x)) ∙ e))
      by (x ∷ y ∷ ys) some is e =
          let fits = fits_here l m (y ∷ ys) x ok is in
          let parted = one_part separator (spell x) first (text_of separator spell (y ∷ ys)) after (s.lacks l x fits) lacks e in
          record {
            item = x;
            fits = fits;
            first_is = sym parted.0;
            left = record { others = y ∷ ys; some = omega arith; split = is ∙ sym (append_assoc l (x ∷ []) (y ∷ ys)); text = sym parted.1 };
          }

  -- The last item, of a text that has none.
  record IsLastItem (l m : List A) (rest : List ℕ) : Type 0 where
    item : A
    fits : Fits l item
    rest_is : rest ≡ spell item
    split : m ≡ l ++ item ∷ []

  last_item : (l m : List A) (rest : List ℕ) → IsValid m → IsLeft separator spell l m rest → Lacks separator rest → IsLastItem l m rest
  last_item l m rest ok left lacks = by left.others left.some left.split left.text
    where
      by : (others : List A) → 0 < length others → m ≡ l ++ others → rest ≡ text_of separator spell others → IsLastItem l m rest
      by [] some is e = absurd (omega (arith, some))
      by (x ∷ []) some is e = record { item = x; fits = fits_here l m [] x ok is; rest_is = e ∙ append-nil (spell x); split = is }
      by (x ∷ y ∷ ys) some is e = absurd (no_part separator rest (spell x) (text_of separator spell (y ∷ ys)) lacks e)

  -- No list is read where the next item, or the last, was refused.
  pub not_next : (l m : List A) (rest first after : List ℕ) → IsValid m → IsLeft separator spell l m rest → rest ≡ first ++ (separator ∷ after) → Lacks separator first
      → ((x : A) → Fits l x → first ≡ spell x → ⊥) → ⊥
  not_next l m rest first after ok left parts lacks refused =
      let next = next_item l m rest first after ok left parts lacks in
      refused next.item next.fits next.first_is

  pub not_last : (l m : List A) (rest : List ℕ) → IsValid m → IsLeft separator spell l m rest → Lacks separator rest → ((x : A) → Fits l x → rest ≡ spell x → ⊥) → ⊥
  not_last l m rest ok left lacks refused =
      let last = last_item l m rest ok left lacks in
      refused last.item last.fits last.rest_is

  -- After the next item the others are left, and the text goes on after it.
  pub left_next : (l m new : List A) (rest first after : List ℕ) → IsValid m → IsLeft separator spell l m rest → rest ≡ first ++ (separator ∷ after) → Lacks separator first
      → IsAdded spell Fits l first new → IsLeft separator spell new m after
  left_next l m new rest first after ok left parts lacks added =
      let next = next_item l m rest first after ok left parts lacks in
      let same : added.item ≡ next.item = s.same l added.item next.item added.fits next.fits (sym added.text_is ∙ next.first_is) in
      let P : List A → Type 0 = λ x. IsLeft separator spell x m after in
      subst P (sym (added.new_is ∙ ap (λ x. l ++ x ∷ []) same)) next.left

  pub all_read : (l m new : List A) (rest : List ℕ) → IsValid m → IsLeft separator spell l m rest → Lacks separator rest → IsAdded spell Fits l rest new → new ≡ m
  all_read l m new rest ok left lacks added =
      let last = last_item l m rest ok left lacks in
      let same : added.item ≡ last.item = s.same l added.item last.item added.fits last.fits (sym added.text_is ∙ last.rest_is) in
      added.new_is ∙ ap (λ x. l ++ x ∷ []) same ∙ sym last.split
