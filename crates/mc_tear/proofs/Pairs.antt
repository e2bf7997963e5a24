-- Lists of operations that two flashes go through together, with what holds of each operation where it is done in both.
use Rattle.std.proofs.{Common.{ap, arith, inl, inr, subst, sym, ◌∙◌}}
use Rattle.std.specs.List.{AllByRecursion, range_with_len}
use Rattle.std.specs.Prelude.{List, None, Some, [], length, map, option_and_then, refl, slice_get, suc, take, zero, ℕ, ◌++◌, ◌+◌, ◌<◌, ◌∷◌, ◌≡◌, ◌⊎◌}
use Rattle.mc_boot.proofs.Keeps.{Keeps}
use Rattle.mc_boot.specs.Outcome.{applied, first_then, happening}
use Rattle.mc_flash.specs.{Flash.{Content, apply}, Geometry.{Geometry}, declared.op.Op.{Op}}
use Rattle.mc_tear.proofs.{Alike.{Does, RunAlike}, NearTorn.{GoesOn}}

-- An operation is refused in both, where they end so; or it is done in both.
abbrev pub BothDo : Geometry → (Content → Content → Type 0) → (Content → Content → Type 0) → Op → Content → Content → Type 0
BothDo g Q R op s t =
    ((apply g op s ≡ None) × (apply g op t ≡ None) × Q s t)
    ⊎ ((u : Content) × (w : Content) × (apply g op s ≡ Some u) × (apply g op t ≡ Some w) × R u w)

-- T holds of what stands before each operation, of it and of those that follow; and Q at the end, also where an operation is refused.
abbrev pub Pairs : Geometry → (Content → Content → Op → List Op → Type 0) → (Content → Content → Type 0) → (Content → Content → Type 0) → List Op → Content → Content → Type 0
Pairs g T Q R [] s t = R s t
Pairs g T Q R (op ∷ ops) s t = T s t op ops × BothDo g Q (Pairs g T Q R ops) op s t

module _ (g : Geometry) (T : Content → Content → Op → List Op → Type 0) (Q : Content → Content → Type 0) where
  pub both_do : (R : Content → Content → Type 0) (op : Op) (s t : Content) → Q s t → Does g R op s t → BothDo g Q R op s t
  both_do R op s t ends (inl none) = inl (none.0, none.1, ends)
  both_do R op s t ends (inr some) = inr some

  -- One that is never refused in the first.
  pub all_do : (R : Content → Content → Type 0) (op : Op) (s t whole : Content) → apply g op s ≡ Some whole → Does g R op s t → BothDo g Q R op s t
  all_do R op s t whole makes (inl none) = absurd (let no_ : None ≡ Some whole = sym none.0 ∙ makes in cc)
  all_do R op s t whole makes (inr some) = inr some

  pub do_more : (R S : Content → Content → Type 0) (op : Op) (s t : Content) → ((u w : Content) → R u w → S u w) → BothDo g Q R op s t → BothDo g Q S op s t
  do_more R S op s t more (inl none) = inl none
  do_more R S op s t more (inr (u, w, at_u, at_w, so)) = inr (u, w, at_u, at_w, more u w so)

  -- Further operations change nothing of what holds of one.
  abbrev pub IsOpen : Type 0
  IsOpen = (s t : Content) (op : Op) (ops more : List Op) → T s t op ops → T s t op (ops ++ more)

  pub pairs_append : IsOpen → (R Z : Content → Content → Type 0) (xs ys : List Op) (s t : Content) → Pairs g T Q R xs s t → ((u w : Content) → R u w → Pairs g T Q Z ys u w)
      → Pairs g T Q Z (xs ++ ys) s t
  pairs_append open_ R Z [] ys s t first more = more s t first
  pairs_append open_ R Z (x ∷ xs) ys s t first more =
      (open_ s t x xs ys first.0, do_more (Pairs g T Q R xs) (Pairs g T Q Z (xs ++ ys)) x s t (λ u w so. pairs_append open_ R Z xs ys u w so more) first.1)

  -- What each operation keeps, whatever follows.
  abbrev pub Step : (Content → Content → Type 0) → Op → Type 0
  Step I op = (s t : Content) → I s t → ((ops : List Op) → T s t op ops) × BothDo g Q I op s t

  pub pairs_kept : (I : Content → Content → Type 0) (ops : List Op) → AllByRecursion (Step I) ops → (s t : Content) → I s t → Pairs g T Q I ops s t
  pairs_kept I [] all s t so = so
  pairs_kept I (op ∷ ops) all s t so =
      let one = all.0 s t so in
      (one.0 ops, do_more I (Pairs g T Q I ops) op s t (λ u w is. pairs_kept I ops all.1 u w is) one.1)

  -- The same where none is refused in the first, and where it matters that one more is done.
  abbrev pub StepOn : (Content → Content → Type 0) → Op → Type 0
  StepOn I op = (s t : Content) → I s t → ((ops : List Op) (whole : Content) → apply g op s ≡ Some whole → GoesOn g ops whole → T s t op ops) × Does g I op s t

  pub pairs_through : (P E : Content → Type 0) (I Z : Content → Content → Type 0) (xs ys : List Op) → AllByRecursion (StepOn I) xs → (s t : Content) → Keeps g P xs s E → I s t
      → ((u w : Content) → E u → I u w → GoesOn g ys u × Pairs g T Q Z ys u w) → Pairs g T Q Z (xs ++ ys) s t
  pairs_through P E I Z [] ys all s t keeps so more = (more s t keeps so).1
  pairs_through P E I Z (op ∷ xs) ys all s t keeps so more = by (λ w is. pairs_through P E I Z xs ys all.1 keeps.1.0 w keeps.1.2 is more) (all.0 s t so)
    where
      done : (u w : Content) → apply g op s ≡ Some u → I u w → (u ≡ keeps.1.0) × I keeps.1.0 w
      done u w at_u is =
          let both : Some u ≡ Some keeps.1.0 = sym at_u ∙ keeps.1.1 in
          let same : u ≡ keeps.1.0 = cc in
          (same, subst (λ x. I x w) same is)

      next : (rest : List Op) → Keeps g P rest keeps.1.0 E → (w : Content) → I keeps.1.0 w → GoesOn g (rest ++ ys) keeps.1.0
      next [] end w is = (more keeps.1.0 w end is).0
      next (x ∷ rest) k w is = (x, rest ++ ys, refl, k.1.0, k.1.1)

      by : ((w : Content) → I keeps.1.0 w → Pairs g T Q Z (xs ++ ys) keeps.1.0 w)
          → ((ops : List Op) (whole : Content) → apply g op s ≡ Some whole → GoesOn g ops whole → T s t op ops) × Does g I op s t
          → T s t op (xs ++ ys) × BothDo g Q (Pairs g T Q Z (xs ++ ys)) op s t
      by rest (tears, inl none) = absurd (let no_ : None ≡ Some keeps.1.0 = sym none.0 ∙ keeps.1.1 in cc)
      by rest (tears, inr (u, w, at_u, at_w, is)) =
          let there = done u w at_u is in (
            tears (xs ++ ys) keeps.1.0 keeps.1.1 (next xs keeps.1.2 w there.1),
            inr (u, w, at_u, at_w, subst (λ x. Pairs g T Q Z (xs ++ ys) x w) (sym there.0) (rest w there.1)),
          )

  -- A section of like operations, by what holds before the i-th, where so many are left.
  abbrev pub StepAt : (ℕ → ℕ → Content → Content → Type 0) → (ℕ → Op) → List Op → Type 0
  StepAt K f ys =
      (i m : ℕ) (s t : Content) → K i (suc m) s t
      → T s t (f i) (map f (range_with_len (i + 1) m) ++ ys) × BothDo g Q (K (i + 1) m) (f i) s t

  pub pairs_range : (K : ℕ → ℕ → Content → Content → Type 0) (f : ℕ → Op) (ys : List Op) (Z : Content → Content → Type 0) → StepAt K f ys
      → ((i : ℕ) (u w : Content) → K i 0 u w → Pairs g T Q Z ys u w) → (i m : ℕ) (s t : Content) → K i m s t → Pairs g T Q Z (map f (range_with_len i m) ++ ys) s t
  pairs_range K f ys Z step more i zero s t so = more i s t so
  pairs_range K f ys Z step more i (suc m) s t so =
      let one = step i m s t so in
      (one.0, do_more (K (i + 1) m) (Pairs g T Q Z (map f (range_with_len (i + 1) m) ++ ys)) (f i) s t (λ u w is. pairs_range K f ys Z step more (i + 1) m u w is) one.1)

  -- What is known of the end in another way.
  pub pairs_made : (P E : Content → Type 0) (R : Content → Content → Type 0) (ops : List Op) (s t : Content) → Pairs g T Q R ops s t → Keeps g P ops s E
      → Pairs g T Q (λ u w. R u w × E u) ops s t
  pairs_made P E R [] s t first keeps = (first, keeps)
  pairs_made P E R (op ∷ ops) s t first keeps = (first.0, by (λ w so. pairs_made P E R ops keeps.1.0 w so keeps.1.2) first.1)
    where
      by : ((w : Content) → Pairs g T Q R ops keeps.1.0 w → Pairs g T Q (λ u w. R u w × E u) ops keeps.1.0 w) → BothDo g Q (Pairs g T Q R ops) op s t
          → BothDo g Q (Pairs g T Q (λ u w. R u w × E u) ops) op s t
      by rest (inl none) = inl none
      by rest (inr (u, w, at_u, at_w, so)) =
          let both : Some u ≡ Some keeps.1.0 = sym at_u ∙ keeps.1.1 in
          let same : u ≡ keeps.1.0 = cc in
          inr (u, w, at_u, at_w, subst (λ x. Pairs g T Q (λ u w. R u w × E u) ops x w) (sym same) (rest w (subst (λ x. Pairs g T Q R ops x w) same so)))

  -- ---- what happens of a list

  run_on : (op : Op) (ops : List Op) (s t u w : Content) → apply g op s ≡ Some u → apply g op t ≡ Some w → RunAlike g Q ops u w → RunAlike g Q (op ∷ ops) s t
  run_on op ops s t u w at_u at_w rest =
      let of_s : happening g (op ∷ ops) s ≡ op ∷ happening g ops u = ap (first_then op (λ x. happening g ops x)) at_u in
      let of_t : happening g (op ∷ ops) t ≡ op ∷ happening g ops w = ap (first_then op (λ x. happening g ops x)) at_w in
      record {
        happens = of_s ∙ ap (λ (xs : List Op). op ∷ xs) rest.happens ∙ sym of_t;
        end_u = rest.end_u;
        end_v = rest.end_v;
        left_u = ap (λ (xs : List Op). applied g xs s) of_s ∙ ap (option_and_then (λ y. applied g (happening g ops u) y)) at_u ∙ rest.left_u;
        left_v = ap (λ (xs : List Op). applied g xs t) of_t ∙ ap (option_and_then (λ y. applied g (happening g ops w) y)) at_w ∙ rest.left_v;
        ends = rest.ends;
      }

  -- The same happens in both.
  pub run_of : (ops : List Op) (s t : Content) → Pairs g T Q Q ops s t → RunAlike g Q ops s t
  run_of [] s t so = record { happens = refl; end_u = s; end_v = t; left_u = refl; left_v = refl; ends = so }
  run_of (op ∷ ops) s t so = by so.1 (λ u w more. run_of ops u w more)
    where
      by : BothDo g Q (Pairs g T Q Q ops) op s t → ((u w : Content) → Pairs g T Q Q ops u w → RunAlike g Q ops u w) → RunAlike g Q (op ∷ ops) s t
      by (inl (none_s, none_t, ends)) rest = record {
        happens = ap (first_then op (λ x. happening g ops x)) none_s ∙ sym (ap (first_then op (λ x. happening g ops x)) none_t);
        end_u = s;
        end_v = t;
        left_u = ap (λ (xs : List Op). applied g xs s) (ap (first_then op (λ x. happening g ops x)) none_s);
        left_v = ap (λ (xs : List Op). applied g xs t) (ap (first_then op (λ x. happening g ops x)) none_t);
        ends = ends;
      }
      by (inr (u, w, at_u, at_w, more)) rest = run_on op ops s t u w at_u at_w (rest u w more)

  -- What holds of the operation that happens n-th in the second, and of what stands before it in both.
  pub record Reached (n : ℕ) (op : Op) (s t u w : Content) (ops more : List Op) : Type 0 where
    pub next_s : slice_get (happening g ops s) n ≡ Some op
    pub at_s : applied g (take n (happening g ops s)) s ≡ Some u
    pub holds : T u w op more
    -- where one of those that follow is done in the first, it happens there
    pub then_ : (made : Content) → apply g op u ≡ Some made → GoesOn g more made → n + 1 < length (happening g ops s)

  pub reached : (R : Content → Content → Type 0) (ops : List Op) (s t : Content) → Pairs g T Q R ops s t → (n : ℕ) (op : Op) (w : Content)
      → slice_get (happening g ops t) n ≡ Some op → applied g (take n (happening g ops t)) t ≡ Some w → (u : Content) × (more : List Op) × Reached n op s t u w ops more
  reached R [] s t so n op w next at_t = absurd cc
  reached R (x ∷ ops) s t so n op w next at_t = by (λ y z rest m here there. reached R ops y z rest m op w here there) so.1 n next at_t
    where
      happens_both : (y : Content) (z : Content) → apply g x z ≡ Some y → happening g (x ∷ ops) z ≡ x ∷ happening g ops y
      happens_both y z is = ap (first_then x (λ a. happening g ops a)) is

      by : ((y z : Content) → Pairs g T Q R ops y z → (m : ℕ) → slice_get (happening g ops z) m ≡ Some op → applied g (take m (happening g ops z)) z ≡ Some w
          → (u : Content) × (more : List Op) × Reached m op y z u w ops more)
          → BothDo g Q (Pairs g T Q R ops) x s t → (n : ℕ) → slice_get (happening g (x ∷ ops) t) n ≡ Some op → applied g (take n (happening g (x ∷ ops) t)) t ≡ Some w
          → (u : Content) × (more : List Op) × Reached n op s t u w (x ∷ ops) more
      by later (inl (none_s, none_t, ends)) n next at_t =
          absurd (let none : happening g (x ∷ ops) t ≡ [] = ap (first_then x (λ a. happening g ops a)) none_t in let no_ : None ≡ Some op = ap (λ (xs : List Op). slice_get xs n) (sym none)
          ∙ next in cc)
      by later (inr (y, z, at_y, at_z, rest)) zero next at_t =
          let of_t = happens_both z t at_z in
          let of_s = happens_both y s at_y in
          let here : Some x ≡ Some op = ap (λ (xs : List Op). slice_get xs 0) (sym of_t) ∙ next in
          let same : x ≡ op = cc in
          let begun : Some t ≡ Some w = ap (λ (xs : List Op). applied g (take 0 xs) t) (sym of_t) ∙ at_t in
          let start : t ≡ w = cc in (
            s,
            ops,
            record {
              next_s = ap (λ (xs : List Op). slice_get xs 0) of_s ∙ here;
              at_s = ap (λ (xs : List Op). applied g (take 0 xs) s) of_s;
              holds = subst (λ o. T s w o ops) same (subst (λ c. T s c x ops) start so.0);
              then_ = λ made is goes.
                  let one : Some made ≡ Some y = sym is ∙ ap (λ o. apply g o s) (sym same) ∙ at_y in
                  let there : made ≡ y = cc in
                  let second : happening g ops y ≡ goes.0 ∷ happening g goes.1 goes.3 =
                  ap (λ (xs : List Op). happening g xs y) goes.2 ∙ ap (first_then goes.0 (λ a. happening g goes.1 a)) (ap (apply g goes.0) (sym there) ∙ goes.4) in
                  let long : length (happening g (x ∷ ops) s) ≡ suc (suc (length (happening g goes.1 goes.3))) = ap (λ (xs : List Op). length xs) of_s
                  ∙ ap (λ (xs : List Op). suc (length xs)) second in
                  omega (arith, long);
            },
          )
      by later (inr (y, z, at_y, at_z, rest)) (suc m) next at_t =
          let of_t = happens_both z t at_z in
          let of_s = happens_both y s at_y in
          let found = later y z rest m (ap (λ (xs : List Op). slice_get xs (suc m)) (sym of_t) ∙ next)
          (ap (option_and_then (λ a. applied g (take m (happening g ops z)) a)) (sym at_z) ∙ ap (λ (xs : List Op). applied g (take (suc m) xs) t) (sym of_t) ∙ at_t) in
          let it = found.2 in (
            found.0,
            found.1,
            record {
              next_s = ap (λ (xs : List Op). slice_get xs (suc m)) of_s ∙ it.next_s;
              at_s = ap (λ (xs : List Op). applied g (take (suc m) xs) s) of_s ∙ ap (option_and_then (λ a. applied g (take m (happening g ops y)) a)) at_y ∙ it.at_s;
              holds = it.holds;
              then_ = λ made is goes. let short = it.then_ made is goes in let long : length (happening g (x ∷ ops) s) ≡ suc (length (happening g ops y)) = ap
                  (λ (xs : List Op). length xs) of_s in omega (arith, short, long);
            },
          )

-- The same where less is said of the end.
pub pairs_ends : (g : Geometry) (T : Content → Content → Op → List Op → Type 0) (Q R S Z : Content → Content → Type 0) → ((s t : Content) → Q s t → S s t) → ((s t : Content) → R s t → Z s t)
    → (ops : List Op) (s t : Content) → Pairs g T Q R ops s t → Pairs g T S Z ops s t
pairs_ends g T Q R S Z one two [] s t is = two s t is
pairs_ends g T Q R S Z one two (op ∷ ops) s t is = (is.0, by (λ u w more. pairs_ends g T Q R S Z one two ops u w more) is.1)
  where
    by : ((u w : Content) → Pairs g T Q R ops u w → Pairs g T S Z ops u w) → BothDo g Q (Pairs g T Q R ops) op s t → BothDo g S (Pairs g T S Z ops) op s t
    by rest (inl none) = inl (none.0, none.1, one s t none.2)
    by rest (inr (u, w, at_u, at_w, more)) = inr (u, w, at_u, at_w, rest u w more)
