-- What follows from where a boot is on its way. Proved here, so that the crates above can cite it.
use Rattle.std.specs.Prelude.{◌≡◌, ℕ, zero, suc, ◌+◌, ◌<◌, ◌≤◌, nat_lt, Bool, false, if◌then◌else◌, List, [], ◌∷◌, ◌++◌, length, take, drop, Option, Some, None, option_and_then, option_map, Result, refl}
use Rattle.std.proofs.{Common.{arith, ap, sym, ◌∙◌}, lemmas.Bool.Decides.{nat_tests}}
use Rattle.std.proofs.lemmas.List.{length-take-le, length-drop, take_at, append-nil}
use Rattle.mc_flash.specs.{Geometry.{Geometry}, Flash.{Content, apply}, declared.op.Op.{Op}, declared.flash.FlashError.{FlashError}}
use Rattle.mc_trailer.specs.declared.tables.Rules.{Rules}
use Rattle.mc_boot.specs.{Plan.{plan, PowerOn, power_on}, Outcome.{applied, first_then, happening, ops_of, at, is_faulted, left_by, Report, report, outcome_of}}
use Rattle.mc_boot.specs.Boot.{Progress, begun, stepped, Steps, HasCome}
use Rattle.mc_flash.specs.{Usage.{Seen}, facts.Done.{did, undefined}}

first_happens : (g : Geometry) (op : Op) (ops left : List Op) (s t : Content) (k : ℕ) → ((x : Content) → applied g (take k ops) x ≡ Some t → happening g ops x ≡ take k ops ++ left)
    → (o : Option Content) → option_and_then (λ u. applied g (take k ops) u) o ≡ Some t → first_then op (λ u. happening g ops u) o ≡ op ∷ (take k ops ++ left)
first_happens g op ops left s t k beyond it e = grind arith

-- What can be applied happens, and then what can be applied after it.
pub happening_prefix : (g : Geometry) (ops : List Op) (k : ℕ) (s t : Content) → applied g (take k ops) s ≡ Some t → happening g ops s ≡ take k ops ++ happening g (drop k ops) t
happening_prefix g [] zero s t is = refl
happening_prefix g [] (suc k) s t is = refl
happening_prefix g (op ∷ ops) zero s t is = let same : s ≡ t = cc in ap (happening g (op ∷ ops)) same
happening_prefix g (op ∷ ops) (suc k) s t is =
    first_happens g op ops (happening g (drop k ops) t) s t k (λ x e. happening_prefix g ops k x t e) (apply g op s) is

first_applied : (g : Geometry) (ops more : List Op) (t u : Content) → ((x : Content) → applied g ops x ≡ Some t → applied g more x ≡ Some u)
    → (o : Option Content) → option_and_then (λ x. applied g ops x) o ≡ Some t → option_and_then (λ x. applied g more x) o ≡ Some u
first_applied g ops more t u beyond it e = grind arith

-- One more operation is applied.
pub applied_next : (g : Geometry) (ops rest : List Op) (op : Op) (k : ℕ) (s t u : Content) → applied g (take k ops) s ≡ Some t → drop k ops ≡ op ∷ rest → apply g op t ≡ Some u
    → applied g (take (suc k) ops) s ≡ Some u
applied_next g [] rest op zero s t u is next given = absurd cc
applied_next g [] rest op (suc k) s t u is next given = absurd cc
applied_next g (first ∷ ops) rest op zero s t u is next given = grind arith
applied_next g (first ∷ ops) rest op (suc k) s t u is next given =
    first_applied g (take k ops) (take (suc k) ops) t u (λ x e. applied_next g ops rest op k x t u e next given) (apply g first s) is

-- What is left after one more.
pub drop_next : {A : Type 0} (xs rest : List A) (x : A) (k : ℕ) → drop k xs ≡ x ∷ rest → drop (suc k) xs ≡ rest
drop_next [] rest x zero is = absurd cc
drop_next [] rest x (suc k) is = absurd cc
drop_next (y ∷ xs) rest x zero is = cc
drop_next (y ∷ xs) rest x (suc k) is = drop_next xs rest x k is

more_left : {A : Type 0} (xs rest : List A) (x : A) (k : ℕ) → drop k xs ≡ x ∷ rest → k < length xs
more_left {A = A} xs rest x k is = omega (arith, length-drop k xs, ap (λ (ys : List A). length ys) is)

none_left : {A : Type 0} (xs : List A) (k : ℕ) → drop k xs ≡ [] → length xs ≤ k
none_left {A = A} xs k is = omega (arith, length-drop k xs, ap (λ (ys : List A). length ys) is)

-- At power-on.
pub come_begun : (x : PowerOn) → HasCome x (begun x.rules (plan x)) x.content
come_begun x = grind arith

next_of : (faulted : Bool) (rest ops : List Op) (op : Op) → op ∷ rest ≡ (if faulted then [] else ops) → (faulted ≡ false) × (ops ≡ op ∷ rest)
next_of it rest ops op e = grind arith

plus_one : (n : ℕ) → n + 1 ≡ suc n
plus_one n = omega arith

left_is : (faulted : Bool) (rest ops : List Op) → faulted ≡ false → rest ≡ ops → rest ≡ (if faulted then [] else ops)
left_is it rest ops other is = grind arith

none_first : (g : Geometry) (op : Op) (rest : List Op) (t : Content) → apply g op t ≡ None → happening g (op ∷ rest) t ≡ []
none_first g op rest t none = ap (λ (o : Option Content). first_then op (λ u. happening g rest u) o) none

-- A step keeps a boot on its way, and the layout as it is.
pub come_steps : (r : Rules) (s : Content) (p q : Progress) (old new : Seen) (result : Result (Unit {0}) FlashError) → HasCome (power_on r old.geometry s) p old.content
    → Steps p old result q new → HasCome (power_on r old.geometry s) q new.content
come_steps r s p q old new result come steps = grind (arith, next_of, more_left, plus_one, applied_next, left_is, drop_next, none_first, did, undefined)

-- After what happened nothing more can happen, at the end.
ends : (x : PowerOn) (p : Progress) (t : Content) → HasCome x p t → p.to_come ≡ []
    → (happening x.geometry (drop p.count (plan x).list) t ≡ []) × (nat_lt p.count (length (plan x).list) ≡ p.faulted)
ends x p t come end = grind (arith, nat_tests, none_left)

-- A boot that makes its next operation is on its way.
pub come_next : (x : PowerOn) (p : Progress) (t u : Content) (op : Op) (rest : List Op) → HasCome x p t → p.to_come ≡ op ∷ rest → apply x.geometry op t ≡ Some u
    → HasCome x (stepped p rest) u
come_next x p t u op rest come first given = grind (arith, next_of, more_left, plus_one, applied_next, left_is, drop_next)

-- What happens of the plan begins with what happened so far, and at the end that is all of it.
pub come_prefix : (x : PowerOn) (p : Progress) (t : Content) → HasCome x p t
    → ops_of x ≡ take p.count (plan x).list ++ happening x.geometry (drop p.count (plan x).list) t
unfolding ops_of
come_prefix x p t come = happening_prefix x.geometry (plan x).list p.count x.content t come.happened

pub come_count : (x : PowerOn) (p : Progress) (t : Content) → HasCome x p t → length (take p.count (plan x).list) ≡ p.count
come_count x p t come = length-take-le p.count (plan x).list come.within

-- The flash is what the first operations of the uncut boot leave.
pub come_at : (x : PowerOn) (p : Progress) (t : Content) → HasCome x p t → at x p.count ≡ Some t
unfolding at
come_at x p t come =
    ap (λ (ops : List Op). applied x.geometry (take p.count ops) x.content) (come_prefix x p t come)
    ∙ ap (λ (ops : List Op). applied x.geometry ops x.content) (take_at (take p.count (plan x).list) (happening x.geometry (drop p.count (plan x).list) t) p.count (come_count x p t come))
    ∙ come.happened

pub come_ops : (x : PowerOn) (p : Progress) (t : Content) → HasCome x p t → p.to_come ≡ [] → length (ops_of x) ≡ p.count
come_ops x p t come end =
    ap (λ (ops : List Op). length ops) (come_prefix x p t come ∙ ap (λ (ops : List Op). take p.count (plan x).list ++ ops) (ends x p t come end).0 ∙ append-nil
    (take p.count (plan x).list))
    ∙ come_count x p t come

pub come_faulted : (x : PowerOn) (p : Progress) (t : Content) → HasCome x p t → p.to_come ≡ [] → is_faulted x ≡ p.faulted
unfolding is_faulted
come_faulted x p t come end = ap (λ n. nat_lt n (length (plan x).list)) (come_ops x p t come end) ∙ (ends x p t come end).1

pub come_left : (x : PowerOn) (p : Progress) (t : Content) → HasCome x p t → p.to_come ≡ [] → left_by x ≡ Some t
unfolding left_by
come_left x p t come end = ap (at x) (come_ops x p t come end) ∙ come_at x p t come

-- What is reported at the end is the outcome of the uncut boot.
pub come_outcome : (x : PowerOn) (p : Progress) (t : Content) → HasCome x p t → p.to_come ≡ [] → outcome_of x ≡ Some (report p.rules x.geometry p.kind p.count p.faulted t)
unfolding outcome_of
come_outcome from p t come end = grind (arith, come_left, come_ops, come_faulted)

-- Where it makes one more, that can be applied.
pub next_happens : (x : PowerOn) (p : Progress) (t : Content) (op : Op) (rest : List Op) → HasCome x p t → p.to_come ≡ op ∷ rest → p.count < length (ops_of x)
    → (u : Content) × (apply x.geometry op t ≡ Some u)
next_happens x p t op rest come first early = by (apply x.geometry op t) refl
  where
    by : (o : Option Content) → apply x.geometry op t ≡ o → (u : Content) × (apply x.geometry op t ≡ Some u)
    by (Some u) is = (u, is)
    by None is =
        let left = next_of p.faulted rest (drop p.count (plan x).list) op (sym first ∙ come.rest) in
        let none : happening x.geometry (drop p.count (plan x).list) t ≡ [] = ap (λ (l : List Op). happening x.geometry l t) left.1 ∙ none_first x.geometry op rest t is in
        let all = ap (λ (l : List Op). length l) (come_prefix x p t come ∙ ap (λ (l : List Op). take p.count (plan x).list ++ l) none ∙ append-nil (take p.count (plan x).list)) in
        absurd (omega (arith, early, all, come_count x p t come))

-- ---- what a boot leaves is always defined

happens_on : (g : Geometry) (op : Op) (ops : List Op) (s : Content) → ((t : Content) → (z : Content) × (applied g (happening g ops t) t ≡ Some z))
    → (o : Option Content) → apply g op s ≡ o → (z : Content) × (applied g (first_then op (λ t. happening g ops t) o) s ≡ Some z)
happens_on g op ops s beyond None is = (s, refl)
happens_on g op ops s beyond (Some t) is = let on = beyond t in (on.0, rw is on.1)

-- What happens of a list can be applied.
pub happens_applied : (g : Geometry) (ops : List Op) (s : Content) → (z : Content) × (applied g (happening g ops s) s ≡ Some z)
happens_applied g [] s = (s, refl)
happens_applied g (op ∷ ops) s = happens_on g op ops s (λ t. happens_applied g ops t) (apply g op s) refl

prefix_on : (g : Geometry) (ops : List Op) (c : ℕ) (z : Content) → ((x : Content) → applied g ops x ≡ Some z → (t : Content) × (applied g (take c ops) x ≡ Some t))
    → (o : Option Content) → option_and_then (λ x. applied g ops x) o ≡ Some z → (t : Content) × (option_and_then (λ x. applied g (take c ops) x) o ≡ Some t)
prefix_on g ops c z beyond it is = grind arith

-- And so can a prefix of what can be applied.
pub prefix_applied : (g : Geometry) (ops : List Op) (c : ℕ) (s z : Content) → applied g ops s ≡ Some z → (t : Content) × (applied g (take c ops) s ≡ Some t)
prefix_applied g [] zero s z is = (s, refl)
prefix_applied g [] (suc c) s z is = (s, refl)
prefix_applied g (op ∷ ops) zero s z is = (s, refl)
prefix_applied g (op ∷ ops) (suc c) s z is = prefix_on g ops c z (λ x e. prefix_applied g ops c x z e) (apply g op s) is

pub at_defined : (x : PowerOn) (c : ℕ) → (t : Content) × (at x c ≡ Some t)
unfolding at ops_of
at_defined x c = let whole = happens_applied x.geometry (plan x).list x.content in prefix_applied x.geometry (happening x.geometry (plan x).list x.content) c x.content whole.0 whole.1

pub left_defined : (x : PowerOn) → (z : Content) × (left_by x ≡ Some z)
unfolding left_by
left_defined x = at_defined x (length (ops_of x))

pub outcome_defined : (x : PowerOn) → (o : Report) × (outcome_of x ≡ Some o)
unfolding outcome_of
outcome_defined x =
    let left = left_defined x in (
      report x.rules x.geometry (plan x).kind (length (ops_of x)) (is_faulted x) left.0,
      ap (option_map (λ z. report x.rules x.geometry (plan x).kind (length (ops_of x)) (is_faulted x) z)) left.1,
    )
