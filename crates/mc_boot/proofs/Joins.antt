-- Two boots that end alike.
use Rattle.std.proofs.{Common.{ap, arith, length-append, sym, ◌∙◌}, Math.Seq.{take-add, take-length}, lemmas.Bool.Decides.{nat_tests}}
use Rattle.std.proofs.lemmas.List.{length-drop, length-take, length-take-le}
use Rattle.std.specs.List.{AllByRecursion}
use Rattle.std.specs.Prelude.{Bool, List, None, Option, Some, [], drop, false, length, map, nat_lt, option_and_then, option_map, refl, suc, take, true, ℕ, ◌++◌, ◌+◌, ◌-◌, ◌<◌, ◌==◌, ◌∷◌, ◌≡◌, ◌≤◌}
use Rattle.mc_boot.proofs.Meets.{Fit, blank, erase_in, fit_longer, fit_there, op_blanked, op_longer}
use Rattle.mc_boot.specs.Outcome.{Report, applied, at, first_then, happening, is_faulted, is_panic, left_by, ops_of, outcome_of, report}
use Rattle.mc_boot.specs.{Plan.{Plan, PowerOn, again, new_plan, plan, plan_with}, declared.image.Images.{Images}, facts.Run.{happening_prefix, left_defined}, inner.Meets.{AreThere, Sector, WritesIn, erase_of}}
use Rattle.mc_flash.specs.{Flash.{Content, IsSized, apply, bytes_of}, Geometry.{Geometry}, declared.flash.Grain.{Grain}, declared.op.Op.{Op}}
use Rattle.mc_flash.specs.declared.op.Slot.{Slot}
use Rattle.mc_trailer.specs.{declared.tables.Rules.{Rules}, declared.tables.SwapType.{SwapType}}

-- What a test shows where it holds.
pub are_equal : (m n : ℕ) → (m == n) ≡ true → m ≡ n
are_equal m n is = grind (arith, nat_tests)

-- The outcome of a boot after a cut, where it follows from that of the boot that was cut.

-- A boot of s was cut after c operations and left u. The list of the next boot is the first one's without its first j, it
-- begins with erases of some sectors, and what the first boot made of it wrote in these alone.
pub record Joins (x : PowerOn) (u : Content) (c j : ℕ) (es : List Sector) : Type 0 where
  pub sized : IsSized x.geometry x.content
  pub cut : at x c ≡ Some u
  pub early : c < length (ops_of x)
  pub passed : j ≤ c
  pub rest : (plan (again x u)).list ≡ drop j (plan x).list
  pub there : AreThere x.geometry es
  pub erases : take (length es) (plan (again x u)).list ≡ map erase_of es
  pub inside : AllByRecursion (WritesIn x.geometry es) (take (c - j) (plan (again x u)).list)

-- The report of a boot of that type that makes j operations fewer.
abbrev pub less : SwapType → ℕ → Report → Report
less kind j o = record {
  result = o.result;
  kind = kind;
  ops = o.ops - j;
  primary = o.primary;
  secondary = o.secondary;
  next = o.next;
}

-- The next boot ends as the one that was cut would have, with j operations fewer.
pub record IsJoined (x : PowerOn) (u : Content) (j : ℕ) : Type 0 where
  pub count : length (ops_of (again x u)) + j ≡ length (ops_of x)
  pub faulted : is_faulted (again x u) ≡ is_faulted x
  pub left : left_by (again x u) ≡ left_by x
  pub outcome : outcome_of (again x u) ≡ option_map (less (plan (again x u)).kind j) (outcome_of x)

-- ---- lists of operations, some of which may be refused

first_prefix : (g : Geometry) (op : Op) (ops : List Op) (c : ℕ) → ((t : Content) → c ≤ length (happening g ops t) → take c (happening g ops t) ≡ take c ops)
    → (o : Option Content) → suc c ≤ length (first_then op (λ t. happening g ops t) o) → take (suc c) (first_then op (λ t. happening g ops t) o) ≡ op ∷ take c ops
first_prefix g op ops c beyond it below = grind arith

-- What happens of a list is a prefix of it.
happens_prefix : (g : Geometry) (ops : List Op) (c : ℕ) (s : Content) → c ≤ length (happening g ops s) → take c (happening g ops s) ≡ take c ops
happens_prefix g (op ∷ ops) (suc c) s below = first_prefix g op ops c (λ t b. happens_prefix g ops c t b) (apply g op s) below
happens_prefix g [] (suc c) s below = refl
happens_prefix g ops c s below = refl

pub happens_few : (g : Geometry) (ops : List Op) (s : Content) → length (happening g ops s) ≤ length ops
happens_few g ops s =
    let all = happens_prefix g ops (length (happening g ops s)) s (omega arith) in
    omega (arith, length-take (length (happening g ops s)) ops, ap (λ (xs : List Op). length xs) (sym (take-length (happening g ops s)) ∙ all))

-- A list that can be applied, in two parts.
split_on : (g : Geometry) (xs ys : List Op) (t : Content) → ((x : Content) → applied g (xs ++ ys) x ≡ Some t → (v : Content) × (applied g xs x ≡ Some v) × (applied g ys v ≡ Some t))
    → (o : Option Content) → option_and_then (λ x. applied g (xs ++ ys) x) o ≡ Some t → (v : Content) × (option_and_then (λ x. applied g xs x) o ≡ Some v) × (applied g ys v ≡ Some t)
split_on g xs ys t beyond it is = grind arith

applied_parts : (g : Geometry) (xs ys : List Op) (s t : Content) → applied g (xs ++ ys) s ≡ Some t → (v : Content) × (applied g xs s ≡ Some v) × (applied g ys v ≡ Some t)
applied_parts g [] ys s t is = (s, refl, is)
applied_parts g (x ∷ xs) ys s t is = split_on g xs ys t (λ y e. applied_parts g xs ys y t e) (apply g x s) is

join_on : (g : Geometry) (xs ys : List Op) (v : Content) → ((x : Content) → applied g xs x ≡ Some v → applied g (xs ++ ys) x ≡ applied g ys v)
    → (o : Option Content) → option_and_then (λ x. applied g xs x) o ≡ Some v → option_and_then (λ x. applied g (xs ++ ys) x) o ≡ applied g ys v
join_on g xs ys v beyond it is = grind arith

pub applied_beyond : (g : Geometry) (xs ys : List Op) (s v : Content) → applied g xs s ≡ Some v → applied g (xs ++ ys) s ≡ applied g ys v
applied_beyond g [] ys s v is = let same : s ≡ v = cc in ap (applied g ys) same
applied_beyond g (x ∷ xs) ys s v is = join_on g xs ys v (λ y e. applied_beyond g xs ys y v e) (apply g x s) is

-- Erases are never refused, and give the content blanked.
pub erases_applied : (g : Geometry) (es : List Sector) (s : Content) → applied g (map erase_of es) s ≡ Some (blank g es s)
unfolding apply
erases_applied g [] s = refl
erases_applied g (e ∷ es) s = erases_applied g es (erase_in g s e)

longer_on : (g : Geometry) (ops : List Op) (s t : Content) → ((x : Content) → applied g ops x ≡ Some t → (o : Slot) → length (bytes_of x o) ≤ length (bytes_of t o))
    → (a : Option Content) → ((x : Content) → a ≡ Some x → (o : Slot) → length (bytes_of s o) ≤ length (bytes_of x o)) → option_and_then (λ x. applied g ops x) a ≡ Some t
    → (o : Slot) → length (bytes_of s o) ≤ length (bytes_of t o)
longer_on g ops s t beyond None first is = absurd cc
longer_on g ops s t beyond (Some x) first is = λ o. omega (arith, first x refl o, beyond x is o)

pub applied_longer : (g : Geometry) (ops : List Op) (s t : Content) → applied g ops s ≡ Some t → (o : Slot) → length (bytes_of s o) ≤ length (bytes_of t o)
applied_longer g [] s t is = let same : s ≡ t = cc in λ o. omega (arith, ap (λ (x : Content). length (bytes_of x o)) same)
applied_longer g (op ∷ ops) s t is = longer_on g ops s t (λ x e. applied_longer g ops x t e) (apply g op s) (λ x e. op_longer g op s x e) is

blanked_on : (g : Geometry) (es : List Sector) (ops : List Op) (s t : Content) → ((x : Content) → Fit g es x → applied g ops x ≡ Some t → blank g es t ≡ blank g es x)
    → (a : Option Content) → ((x : Content) → a ≡ Some x → (blank g es x ≡ blank g es s) × Fit g es x) → option_and_then (λ x. applied g ops x) a ≡ Some t → blank g es t ≡ blank g es s
blanked_on g es ops s t beyond it first is = grind arith

-- Operations that write in these sectors alone do not change what blanking gives.
pub applied_blanked : (g : Geometry) (es : List Sector) (ops : List Op) (s t : Content) → AllByRecursion (WritesIn g es) ops → Fit g es s → applied g ops s ≡ Some t → blank g es t ≡ blank g es s
applied_blanked g es [] s t writes fits is = let same : s ≡ t = cc in ap (blank g es) (sym same)
applied_blanked g es (op ∷ ops) s t writes fits is =
    blanked_on g es ops s t (λ x f e. applied_blanked g es ops x t writes.1 f e) (apply g op s) (λ x e. op_blanked g es op s x writes.0 fits e) is

-- From two contents that are alike when blanked, the same happens of a list that begins with the erases, and leaves the same.
pub record SameRun (g : Geometry) (ops : List Op) (v u : Content) : Type 0 where
  pub happens : happening g ops v ≡ happening g ops u
  pub leaves : applied g (happening g ops v) v ≡ applied g (happening g ops u) u

pub same_run : (g : Geometry) (es : List Sector) (ops : List Op) (v u : Content) → take (length es) ops ≡ map erase_of es → blank g es u ≡ blank g es v → SameRun g ops v u
same_run g es ops v u first same = record {
  happens = from v ∙ ap (λ (x : Content). take (length es) ops ++ happening g (drop (length es) ops) x) (sym same) ∙ sym (from u);
  leaves = run v ∙ ap (λ (x : Content). applied g (happening g (drop (length es) ops) x) x) (sym same) ∙ sym (run u);
}
  where
    prefix : (x : Content) → applied g (take (length es) ops) x ≡ Some (blank g es x)
    prefix x = ap (λ (xs : List Op). applied g xs x) first ∙ erases_applied g es x

    from : (x : Content) → happening g ops x ≡ take (length es) ops ++ happening g (drop (length es) ops) (blank g es x)
    from x = happening_prefix g ops (length es) x (blank g es x) (prefix x)

    run : (x : Content) → applied g (happening g ops x) x ≡ applied g (happening g (drop (length es) ops) (blank g es x)) (blank g es x)
    run x =
        ap (λ (xs : List Op). applied g xs x) (from x)
        ∙ applied_beyond g (take (length es) ops) (happening g (drop (length es) ops) (blank g es x)) x (blank g es x) (prefix x)

-- ---- a boot with operations is no panic

abbrev IsNoPanic : Plan → Type 0
IsNoPanic p = 0 < length p.list → is_panic p.kind ≡ false

new_plan_not_panic : (c : Grain) (g : Geometry) (images : Images) (kind : SwapType) → IsNoPanic (new_plan c g images kind)
new_plan_not_panic c g images kind = grind arith

pub plan_not_panic : (x : PowerOn) → 0 < length (plan x).list → is_panic (plan x).kind ≡ false
unfolding plan plan_with
plan_not_panic x = grind (arith, new_plan_not_panic)

-- ---- the lemma

-- What the first boot had left when the list of the next one begins: alike with what the next one begins with, once sectors are
-- blanked, so that the same happens of that list.
pub record Met (x : PowerOn) (u : Content) (j : ℕ) (es : List Sector) : Type 0 where
  pub from : Content
  pub start : applied x.geometry (take j (plan x).list) x.content ≡ Some from
  pub fits : Fit x.geometry es from
  pub alike : blank x.geometry es u ≡ blank x.geometry es from
  pub run : SameRun x.geometry (plan (again x u)).list from u

pub meets : (x : PowerOn) (u : Content) (c j : ℕ) (es : List Sector) → Joins x u c j es → Met x u j es
unfolding at ops_of
meets x u c j es joins =
    let g = x.geometry in
    let s = x.content in
    let cut : applied g (take c (happening g (plan x).list s)) s ≡ Some u = joins.cut in
    let passed = joins.passed in
    let prefix : take c (happening g (plan x).list s) ≡ take j (plan x).list ++ take (c - j) (plan (again x u)).list =
    happens_prefix g (plan x).list c s (omega arith)
    ∙ ap (λ (n : ℕ). take n (plan x).list) (omega (arith, passed))
    ∙ take-add j (c - j) (plan x).list
    ∙ ap (λ (xs : List Op). take j (plan x).list ++ take (c - j) xs) (sym joins.rest) in
    let parts = applied_parts g (take j (plan x).list) (take (c - j) (plan (again x u)).list) s u (ap (λ (xs : List Op). applied g xs s) (sym prefix) ∙ cut) in
    let fits : Fit g es parts.0 = fit_longer g es s parts.0 (applied_longer g (take j (plan x).list) s parts.0 parts.1) (fit_there g es s joins.sized joins.there) in
    let alike = applied_blanked g es (take (c - j) (plan (again x u)).list) parts.0 u joins.inside fits parts.2 in
    record {
      from = parts.0;
      start = parts.1;
      fits = fits;
      alike = alike;
      run = same_run g es (plan (again x u)).list parts.0 u joins.erases alike;
    }

pub happens_few_of : (x : PowerOn) → length (ops_of x) ≤ length (plan x).list
unfolding ops_of
happens_few_of x = happens_few x.geometry (plan x).list x.content

-- What happens of the boot that was cut: what it had made when the list of the next one begins, and what happens of that.
pub happens_all : (x : PowerOn) (u : Content) (c j : ℕ) (es : List Sector) → Joins x u c j es
    → ops_of x ≡ take j (plan x).list ++ ops_of (again x u)
unfolding ops_of
happens_all x u c j es joins =
    let met = meets x u c j es joins in
    happening_prefix x.geometry (plan x).list j x.content met.from met.start
    ∙ ap (λ (xs : List Op). take j (plan x).list ++ happening x.geometry xs met.from) (sym joins.rest)
    ∙ ap (λ (xs : List Op). take j (plan x).list ++ xs) met.run.happens

left_is : (x : PowerOn) → left_by x ≡ applied x.geometry (happening x.geometry (plan x).list x.content) x.content
unfolding left_by at ops_of
left_is x = ap (λ (xs : List Op). applied x.geometry xs x.content) (take-length (happening x.geometry (plan x).list x.content))

same_fault : (n m a b j : ℕ) → n + j ≡ m → a + j ≡ b → nat_lt n a ≡ nat_lt m b
same_fault n m a b j p q = grind (arith, nat_tests)

module _ (r : Rules) (g : Geometry) (k l : SwapType) (n m j : ℕ) (one : is_panic k ≡ false) (two : is_panic l ≡ false) (count : n + j ≡ m) where
  less_report : (faulted : Bool) (z : Content) → report r g k n faulted z ≡ less k j (report r g l m faulted z)
  unfolding report
  less_report faulted z = grind arith

  reported_less : (f h : Bool) (a b : Option Content) (z : Content) → f ≡ h → a ≡ b → b ≡ Some z
      → option_map (λ x. report r g k n f x) a ≡ option_map (less k j) (option_map (λ x. report r g l m h x) b)
  reported_less f h a b z faults same left = grind (arith, less_report)

-- After a cut that joins, the next boot ends as the one that was cut would have.
pub joined : (x : PowerOn) (u : Content) (c j : ℕ) (es : List Sector) → Joins x u c j es → IsJoined x u j
unfolding ops_of is_faulted outcome_of
joined x u c j es joins = record { count = count; faulted = faulted; left = left; outcome = outcome }
  where
    met : Met x u j es
    met = meets x u c j es joins

    at_most : length (happening x.geometry (plan x).list x.content) ≤ length (plan x).list
    at_most = happens_few x.geometry (plan x).list x.content

    begins : length (take j (plan x).list) ≡ j
    begins = length-take-le j (plan x).list (let a = joins.early in let b = joins.passed in omega (arith, a, b, at_most))

    all : happening x.geometry (plan x).list x.content ≡ take j (plan x).list ++ happening x.geometry (plan (again x u)).list u
    all = happens_all x u c j es joins

    count : length (happening x.geometry (plan (again x u)).list u) + j ≡ length (happening x.geometry (plan x).list x.content)
    count = omega (arith, begins, ap (λ (xs : List Op). length xs) all, length-append (take j (plan x).list) (happening x.geometry (plan (again x u)).list u))

    lists : length (plan (again x u)).list + j ≡ length (plan x).list
    lists = let a = joins.early in let b = joins.passed in omega (arith, a, b, at_most, ap (λ (xs : List Op). length xs) joins.rest, length-drop j (plan x).list)

    faulted : nat_lt (length (happening x.geometry (plan (again x u)).list u)) (length (plan (again x u)).list) ≡ nat_lt (length (happening x.geometry (plan x).list x.content)) (length (plan x).list)
    faulted = grind (arith, same_fault, count, lists)

    left : left_by (again x u) ≡ left_by x
    left =
        left_is (again x u)
        ∙ sym met.run.leaves
        ∙ ap (λ (xs : List Op). applied x.geometry xs met.from) met.run.happens
        ∙ sym (applied_beyond x.geometry (take j (plan x).list) (happening x.geometry (plan (again x u)).list u) x.content met.from met.start)
        ∙ ap (λ (xs : List Op). applied x.geometry xs x.content) (sym all)
        ∙ sym (left_is x)

    not_panic_s : is_panic (plan x).kind ≡ false
    not_panic_s = plan_not_panic x (let a = joins.early in omega (arith, a, at_most))

    not_panic_u : is_panic (plan (again x u)).kind ≡ false
    not_panic_u = plan_not_panic (again x u) (let a = joins.early in let b = joins.passed in omega (arith, a, b, at_most, lists))

    outcome : outcome_of (again x u) ≡ option_map (less (plan (again x u)).kind j) (outcome_of x)
    outcome =
        let z = left_defined x in
        reported_less x.rules x.geometry (plan (again x u)).kind (plan x).kind _ _ j not_panic_u not_panic_s count _ _ (left_by (again x u)) (left_by x) z.0 faulted left z.1
