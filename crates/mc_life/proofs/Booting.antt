-- A boot that goes on step by step, and how far it has come at a cut.
use Rattle.std.specs.Prelude.{◌≡◌, ℕ, zero, suc, ◌+◌, ◌<◌, ◌≤◌, ◌⊎◌, nat_lt, Bool, true, false, if◌then◌else◌, List, [], ◌∷◌, ◌++◌, length, take, drop, slice_get, Option, Some, None, is_some, option_and_then, IfSome, IsSomeAnd, Ok, Err, refl}
use Rattle.std.proofs.{Common.{arith, sym, ap, subst, append-nil, append_assoc, drop-cons, get_or, ◌∙◌}, lemmas.Bool.Decides.{nat_tests}}
use Rattle.std.proofs.lemmas.List.{length-append, take_all, take_at}
use Rattle.mc_boot.specs.{Boot.{Progress, Steps, StepsAlong, begun, HasCome}, Outcome.{Report, outcome_of, after, at, cut_at, first_then, happening, ops_of}}
use Rattle.mc_boot.specs.{Plan.{plan, PowerOn, again, power_on, powered}, facts.Run.{come_at, come_count, come_prefix, come_ops}}
use Rattle.mc_flash.specs.{Flash.{apply, in_slot, is_blank, Content, bytes_of, put, size_of}, Geometry.{Geometry}, Usage.{Seen}}
use Rattle.mc_trailer.specs.declared.tables.Rules.{Rules}
use Rattle.mc_flash.specs.declared.flash.FlashError.TheVariants as errors
use Rattle.mc_flash.specs.{declared.op.Op.{Op}, declared.op.Op.TheVariants.{Copy}, declared.op.Slot.{Slot}}
use Rattle.std.specs.List.{between}
use Rattle.std.proofs.lemmas.List.Edits.{length-between}
use Rattle.mc_life.specs.Device.{Cuts, FailsAt, cut_ops, from, Counts, worn}
use Rattle.mc_life.proofs.Worn.{worn_both}

pub take_next : {A : Type 0} (xs rest : List A) (x : A) (k : ℕ) → drop k xs ≡ x ∷ rest → take (k + 1) xs ≡ take k xs ++ x ∷ []
take_next {A} xs rest x k is = ap (λ n. take n xs) plus ∙ go xs k is
  where
    plus : k + 1 ≡ suc k
    plus = omega arith

    go : (xs : List A) (k : ℕ) → drop k xs ≡ x ∷ rest → take (suc k) xs ≡ take k xs ++ x ∷ []
    go [] zero is = absurd cc
    go [] (suc k) is = absurd cc
    go (y ∷ xs) zero is = let same : y ≡ x = cc in ap (λ (z : A). z ∷ []) same
    go (y ∷ xs) (suc k) is = ap (λ (z : List A). y ∷ z) (go xs k is)

not_faulted : (faulted : Bool) (op : Op) (rest ops : List Op) → op ∷ rest ≡ (if faulted then [] else ops) → ops ≡ op ∷ rest
not_faulted it op rest ops is = grind arith

first_is : (ops : List Op) (op : Op) → slice_get ops 0 ≡ Some op → (rest : List Op) × (ops ≡ op ∷ rest)
first_is [] op is = absurd cc
first_is (x ∷ ops) op is = let same : x ≡ op = cc in (ops, ap (λ (y : Op). y ∷ ops) same)

module _ (x : PowerOn) (p : Progress) (t : Content) (come : HasCome x p t) where
  abbrev list : List Op
  list = (plan x).list

  module _ (op : Op) (first : slice_get p.to_come 0 ≡ Some op) where
    pub comes_next : (rest : List Op) × (drop p.count list ≡ op ∷ rest)
    comes_next = grind (arith, first_is)

    -- The operation happened.
    module _ (q : Progress) (old new : Seen) (steps : Steps p old (Ok tt) q new) where
      pub count_next : q.count ≡ p.count + 1
      count_next = go p.to_come first steps
        where
          go : (ops : List Op) → slice_get ops 0 ≡ Some op → StepsAlong ops p old (Ok tt) q new → q.count ≡ p.count + 1
          go [] none steps = absurd cc
          go (y ∷ ops) is steps = ap (λ (z : Progress). z.count) steps.0

      pub worn_next : (w v : Counts) → v ≡ worn w (op ∷ []) → (all : Counts) → w ≡ worn all (take p.count list) → v ≡ worn all (take q.count list)
      worn_next w v noted all so_far = grind (arith, worn_both, take_next)

    -- It was refused.
    pub count_refused : (q : Progress) (old new : Seen) → Steps p old (Err errors.NotErased) q new → q.count ≡ p.count
    count_refused q old new steps = go p.to_come first steps
      where
        go : (ops : List Op) → slice_get ops 0 ≡ Some op → StepsAlong ops p old (Err errors.NotErased) q new → q.count ≡ p.count
        go [] none steps = absurd cc
        go (y ∷ ops) is steps = ap (λ (z : Progress). z.count) steps.0

  -- ---- the operations that happened

  pub prefix_is : take p.count (ops_of x) ≡ take p.count list
  prefix_is = ap (take p.count) (come_prefix x p t come) ∙ take_at (take p.count list) (happening x.geometry (drop p.count list) t) p.count (come_count x p t come)

  pub all_are : p.to_come ≡ [] → take p.count list ≡ ops_of x
  all_are end = let long = come_ops x p t come end in sym prefix_is ∙ take_all p.count (ops_of x) (omega (arith, long))

  -- ---- a cut

  module _ (count : ℕ) where
    cut_late : length (ops_of x) ≤ count → cut_at x count ≡ None
    cut_late le = let no : nat_lt count (length (ops_of x)) ≡ false = grind (arith, nat_tests) in ap (λ b. if b then at x count else None) no

    cut_there : count < length (ops_of x) → p.count ≡ count → cut_at x count ≡ Some t
    cut_there lt is = grind (arith, come_at)

    -- It came to its end.
    pub too_late : p.to_come ≡ [] → p.count ≤ count → cut_at x count ≡ None
    too_late end le = cut_late (omega (arith, come_ops x p t come end, le))

    -- There is a next operation, which is done, or refused.
    module _ (op : Op) (first : slice_get p.to_come 0 ≡ Some op) (here : p.count ≡ count) where
      beyond : Option Content → List Op
      beyond o = first_then op (λ u. happening x.geometry (comes_next op first).0 u) o

      ops_are : (o : Option Content) → apply x.geometry op t ≡ o → length (ops_of x) ≡ count + length (beyond o)
      unfolding beyond
      ops_are o is =
          let next = comes_next op first in
          let all : ops_of x ≡ take p.count list ++ beyond o =
          come_prefix x p t come ∙ ap (λ os. take p.count list ++ happening x.geometry os t) next.1 ∙ ap (λ z. take p.count list ++ beyond z) is in
          let both = ap (λ (os : List Op). length os) all ∙ length-append (take p.count list) (beyond o) in
          omega (arith, both, come_count x p t come, here)

      more : (u : Content) → length (ops_of x) ≡ count + length (beyond (Some u)) → count < length (ops_of x)
      unfolding beyond
      more u is = omega (arith, is)

      no_more : length (ops_of x) ≡ count + length (beyond None) → length (ops_of x) ≤ count
      unfolding beyond
      no_more is = omega (arith, is)

      pub decided : (b : Bool) → b ≡ is_some (apply x.geometry op t) → Cuts x count b t
      decided b is = go b (apply x.geometry op t) refl is
        where
          go : (b : Bool) (o : Option Content) → apply x.geometry op t ≡ o → b ≡ is_some o → Cuts x count b t
          go true (Some u) o is = cut_there (more u (ops_are (Some u) o)) here
          go false None o is = cut_late (no_more (ops_are None o))
          go true None o is = absurd cc
          go false (Some u) o is = absurd cc

-- ---- on its way

-- It stays on its way, whatever geometry its flash names.
pub come_on : (x : PowerOn) (p q : Progress) (t u : Content) (g : Geometry) → g ≡ x.geometry → ((r : Rules) (s : Content) → HasCome (power_on r g s) p t → HasCome (power_on r g s) q u)
    → HasCome x p t → HasCome x q u
come_on x p q t u g same goes come = grind arith

pub begins_below : (until : Option ℕ) (p : Progress) (x : PowerOn) → p ≡ begun x.rules (plan x) → IfSome until (λ n. p.count ≤ n)
begins_below it p x is = grind arith

pub begins_worn : (w : Counts) (p : Progress) (x : PowerOn) → p ≡ begun x.rules (plan x) → w ≡ worn w [] → w ≡ worn w (take p.count (plan x).list)
begins_worn w p x is idle = let none : p.count ≡ 0 = ap (λ (z : Progress). z.count) is in idle ∙ ap (λ n. worn w (take n (plan x).list)) (sym none)

pub below_next : (until : Option ℕ) (n m : ℕ) → IfSome until (λ k. n < k) → m ≡ n + 1 → IfSome until (λ k. m ≤ k)
below_next it n m lt is = grind arith

pub below_same : (until : Option ℕ) (n m : ℕ) → IfSome until (λ k. n ≤ k) → m ≡ n → IfSome until (λ k. m ≤ k)
below_same it n m le is = grind arith

-- A boot that no number stops has come to its end.
pub ended_all : (ops : List Op) (n : ℕ) → (ops ≡ []) ⊎ IsSomeAnd None (λ k. n ≡ k) → ops ≡ []
ended_all ops n it = grind arith

-- One that a number stops stands there, or it has come to its end before.
pub ended : (ops : List Op) (n count : ℕ) → n < count → (ops ≡ []) ⊎ (n ≡ count) → ops ≡ []
ended ops n count lt it = grind arith

pub outcome_on : (x : PowerOn) (p : Progress) (t : Content) (o : Report) (g : Geometry) → g ≡ x.geometry
    → ((r : Rules) (s : Content) → HasCome (power_on r g s) p t → p.to_come ≡ [] → outcome_of (power_on r g s) ≡ Some o) → HasCome x p t → p.to_come ≡ [] → outcome_of x ≡ Some o
outcome_on x p t o g same happened come end = grind arith

pub copy_defined : (g : Geometry) (s : Content) (from to : Slot) (at offset len : ℕ) → at + len ≤ size_of g from → length (bytes_of s from) ≡ size_of g from
    → is_blank (between offset (offset + len) (bytes_of s to)) ≡ is_some (apply g (Copy from at to offset len) s)
unfolding apply
copy_defined g s from to at offset len inside long =
    let n : length (between at (at + len) (bytes_of s from)) ≡ len = omega (arith, length-between (bytes_of s from) at (at + len) (omega (arith, inside, long))) in
    go (is_blank (between offset (offset + length (between at (at + len) (bytes_of s from))) (bytes_of s to))) (ap (λ k. is_blank (between offset (offset + k) (bytes_of s to))) (sym n))
  where
    go : (b : Bool) → is_blank (between offset (offset + len) (bytes_of s to)) ≡ b
        → is_blank (between offset (offset + len) (bytes_of s to)) ≡ is_some (in_slot s to (if b then Some (put (bytes_of s to) offset (between at (at + len) (bytes_of s from))) else None))
    go true is = is
    go false is = is

-- ---- cuts, one after another

after_first : (x : PowerOn) (cuts : List ℕ) (c : ℕ) (u t : Content) → ((z : Content) → after (again x z) cuts ≡ Some u → after (again x z) (cuts ++ c ∷ []) ≡ Some t)
    → (o : Option Content) → option_and_then (λ z. after (again x z) cuts) o ≡ Some u → option_and_then (λ z. after (again x z) (cuts ++ c ∷ [])) o ≡ Some t
after_first x cuts c u t beyond it is = grind arith

ops_first : (x : PowerOn) (cuts : List ℕ) (c : ℕ) (prefix last : List Op) (u : Content) → ((z : Content) → after (again x z) cuts ≡ Some u
    → cut_ops (again x z) (cuts ++ c ∷ []) ≡ cut_ops (again x z) cuts ++ last)
    → (o : Option Content) → option_and_then (λ z. after (again x z) cuts) o ≡ Some u → prefix ++ from x (λ y. cut_ops y (cuts ++ c ∷ [])) o ≡ (prefix ++ from x (λ y. cut_ops y cuts) o) ++ last
ops_first x cuts c prefix last u beyond it is = grind (arith, beyond, append_assoc)

-- One cut more.
pub after_more : (x : PowerOn) (cuts : List ℕ) (c : ℕ) (u t : Content) → after x cuts ≡ Some u → cut_at (again x u) c ≡ Some t → after x (cuts ++ c ∷ []) ≡ Some t
after_more x [] c u t so_far cut = grind arith
after_more x (d ∷ cuts) c u t so_far cut = after_first x cuts c u t (λ z is. after_more (again x z) cuts c u t is cut) (cut_at x d) so_far

pub ops_more : (x : PowerOn) (cuts : List ℕ) (c : ℕ) (u t : Content) → after x cuts ≡ Some u → cut_at (again x u) c ≡ Some t
    → cut_ops x (cuts ++ c ∷ []) ≡ cut_ops x cuts ++ take c (ops_of (again x u))
ops_more x [] c u t so_far cut =
    let same : x.content ≡ u = cc in
    let beyond : from {A = Op} x (λ y. cut_ops y []) (cut_at x c) ≡ [] = none_beyond x (cut_at x c) in
    ap (λ (z : List Op). take c (ops_of x) ++ z) beyond ∙ append-nil (take c (ops_of x)) ∙ ap (λ (s : Content). take c (ops_of (again x s))) same
  where
    none_beyond : (x : PowerOn) (o : Option Content) → from {A = Op} x (λ y. cut_ops y []) o ≡ []
    none_beyond x None = refl
    none_beyond x (Some z) = refl
ops_more x (d ∷ cuts) c u t so_far cut =
    ops_first x cuts c (take d (ops_of x)) (take c (ops_of (again x u))) u (λ z is. ops_more (again x z) cuts c u t is cut) (cut_at x d) so_far

got : (xs : List ℕ) (i : ℕ) → i < length xs → slice_get xs i ≡ Some (get_or xs i 0)
got [] i lt = absurd (omega (arith, lt))
got (x ∷ xs) zero lt = refl
got (x ∷ xs) (suc i) lt = got xs i (omega (arith, lt))

-- How far a list of cuts has come.
pub record AreCut (x : PowerOn) (cuts : List ℕ) (done : ℕ) (w v : Counts) (f : Seen) : Type 0 where
  pub after_is : after x (take done cuts) ≡ Some f.content
  pub layout : f.geometry ≡ x.geometry
  pub wear : v ≡ worn w (cut_ops x (take done cuts))

module _ (x : PowerOn) (cuts : List ℕ) (done : ℕ) (w v : Counts) (f : Seen) (are : AreCut x cuts done w v f) (inside : done < length cuts) where
  abbrev here : ℕ
  here = get_or cuts done 0

  next_left : suc done ≡ done + 1 → drop done cuts ≡ here ∷ drop (done + 1) cuts
  next_left one = drop-cons cuts done 0 inside ∙ ap (λ (n : ℕ). here ∷ drop n cuts) one

  next_is : take (done + 1) cuts ≡ take done cuts ++ here ∷ []
  next_is = take_next cuts (drop (done + 1) cuts) here done (next_left (omega arith))

  at_same : (count : ℕ) → count ≡ here → (o : Option Content) → cut_at (powered x.rules f) count ≡ o → cut_at (again x f.content) here ≡ o
  at_same count is o cut = ap (cut_at (again x f.content)) (sym is) ∙ ap (λ (g : Geometry). cut_at (power_on x.rules g f.content) count) (sym are.layout) ∙ cut

  pub cut_more : (count : ℕ) → count ≡ here → (h : Seen) (u : Counts) → cut_at (powered x.rules f) count ≡ Some h.content → h.geometry ≡ f.geometry
      → u ≡ worn v (take count (ops_of (powered x.rules f))) → AreCut x cuts (done + 1) w u h
  cut_more count is h u cut layout wear = record {
    after_is = ap (after x) next_is ∙ after_more x (take done cuts) here f.content h.content are.after_is (at_same count is (Some h.content) cut);
    layout = layout ∙ are.layout;
    wear =
        wear ∙ ap (λ (z : Counts). worn z (take count (ops_of (powered x.rules f)))) are.wear ∙ worn_both w (cut_ops x (take done cuts)) (take count (ops_of (powered x.rules f)))
        ∙ ap (λ n. worn w (cut_ops x (take done cuts) ++ take n (ops_of (powered x.rules f)))) is
        ∙ ap (λ (g : Geometry). worn w (cut_ops x (take done cuts) ++ take here (ops_of (power_on x.rules g f.content)))) are.layout
        ∙ ap (worn w) (sym (ops_more x (take done cuts) here f.content h.content are.after_is (at_same count is (Some h.content) cut)))
        ∙ ap (λ (l : List ℕ). worn w (cut_ops x l)) (sym next_is);
  }

  pub cut_fails : (count number : ℕ) → count ≡ here → number ≡ done → cut_at (powered x.rules f) count ≡ None → FailsAt x cuts number
  cut_fails count number is at cut = subst (FailsAt x cuts) (sym at) (record {
    left = f.content;
    before = are.after_is;
    cut = here;
    there = got cuts done inside;
    fails = at_same count is None cut;
  })
