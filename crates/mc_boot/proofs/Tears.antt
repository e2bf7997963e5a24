-- Lists of operations that can all be applied, with what holds wherever power is lost, before one or within it; and boot after boot.
use Rattle.std.proofs.{Common.{ap, arith, inl, inr, subst, sym, ◌∙◌}, lemmas.Nat.Bits.{same_from_bits}}
use Rattle.std.specs.{Int.{bit_at}, List.{AllByRecursion}}
use Rattle.std.specs.Prelude.{Bool, List, None, Option, Some, [], false, length, nat_lt, option_and_then, refl, slice_get, suc, take, true, zero, ℕ, ◌++◌, ◌<◌, ◌∷◌, ◌≡◌, ◌≢◌, ◌⊎◌}
use Rattle.mc_boot.proofs.{InPieces.{apply_pieces, plan_in_pieces}, Keeps.{Ends, Keeps, boots_so, ends, keeps_boot}}
use Rattle.mc_boot.specs.{Life.{EndsWell}, Outcome.{after, applied, at, cut_at, ops_of}, Plan.{Plan, PowerOn, again, plan, power_on}}
use Rattle.mc_boot.specs.Torn.{BitsLaw, CutsLaw, IsKept, IsTorn, Loses, Tearing, Tears, gently}
use Rattle.mc_flash.specs.{Flash.{Content, IsSized, apply, byte}, Geometry.{Geometry, in_pieces}, declared.flash.Grain.{Grain}, declared.op.Op.{Op}, declared.op.Slot.{Slot}}
use Rattle.mc_flash.specs.declared.op.Slot.TheVariants.{Primary, Secondary}
use Rattle.mc_image.specs.Valid.{is_valid}
use Rattle.mc_trailer.specs.declared.tables.Rules.{Rules}
use borrow.Author.Tests.{ltb-true}
use Rattle.mc_trailer.specs.declared.tables.SwapType.TheVariants as kinds

-- ---- how power is lost

-- Before an operation alone, by a power cut; or within one as well, which is then torn so.
pub data Way : Type 0 where
  cutting : Way
  tearing : Tearing → Way

-- What is left of an operation within which power is lost.
abbrev pub IsLeft : Way → Geometry → Op → Content → Content → Type 0
IsLeft cutting g op s v = ⊥
IsLeft (tearing f) g op s v = IsTorn f g op s v

-- how an operation is torn, if one is
abbrev pub how : Way → Tearing
how cutting = gently
how (tearing f) = f

pub left_torn : (way : Way) (g : Geometry) (op : Op) (s v : Content) → IsLeft way g op s v → IsTorn (how way) g op s v
left_torn cutting g op s v none = absurd none
left_torn (tearing f) g op s v torn = torn

pub not_cut : (way : Way) (g : Geometry) (op : Op) (s v : Content) → IsLeft way g op s v → way ≢ cutting
not_cut cutting g op s v none = absurd none
not_cut (tearing f) g op s v torn = λ same. cc

-- In the boot from x power is lost at its operation number c, and v is left.
pub record LosesBy (way : Way) (x : PowerOn) (c : ℕ) (v : Content) : Type 0 where
  pub op : Op
  pub before : Content
  pub next : slice_get (ops_of x) c ≡ Some op
  pub reached : at x c ≡ Some before
  pub leaves : (v ≡ before) ⊎ IsLeft way x.geometry op before v

-- Boot after boot loses power so, each from what the one before it left; u is what the last leaves.
abbrev pub Losing : Way → PowerOn → List ℕ → Content → Type 0
Losing way x [] u = u ≡ x.content
Losing way x (c ∷ cuts) u = (v : Content) × LosesBy way x c v × Losing way (again x v) cuts u

pub losing_more : (way : Way) (x : PowerOn) (cuts : List ℕ) (c : ℕ) (u v : Content) → Losing way x cuts u → LosesBy way (again x u) c v → Losing way x (cuts ++ c ∷ []) v
losing_more way x [] c u v come loses = (v, (rw come at loses), refl)
losing_more way x (d ∷ cuts) c u v come loses = (come.0, come.1, losing_more way (again x come.0) cuts c u v come.2 loses)

pub loses_torn : (f : Tearing) (x : PowerOn) (c : ℕ) (v : Content) → Loses f x c v → LosesBy (tearing f) x c v
loses_torn f x c v is = record { op = is.op; before = is.before; next = is.next; reached = is.reached; leaves = is.leaves }

pub losing_torn : (f : Tearing) (x : PowerOn) (cuts : List ℕ) (u : Content) → Tears f x cuts u → Losing (tearing f) x cuts u
losing_torn f x [] u is = is
losing_torn f x (c ∷ cuts) u is = (is.0, loses_torn f x c is.0 is.1, losing_torn f (again x is.0) cuts u is.2)

-- ---- lists of operations

-- P holds before the operation, and of all that is left of it.
abbrev pub Bears : Way → Geometry → (Content → Type 0) → Op → Content → Type 0
Bears way g P op s = P s × ((v : Content) → IsLeft way g op s v → P v)

-- From s each operation can be applied, P bears each, and at the end Q holds.
abbrev pub Stands : Way → Geometry → (Content → Type 0) → List Op → Content → (Content → Type 0) → Type 0
Stands way g P [] s Q = Q s
Stands way g P (op ∷ ops) s Q = Bears way g P op s × ((t : Content) × (apply g op s ≡ Some t) × Stands way g P ops t Q)

pub stands_append : (way : Way) → (g : Geometry) (P Q R : Content → Type 0) (xs ys : List Op) (s : Content)
    → Stands way g P xs s Q → ((t : Content) → Q t → Stands way g P ys t R) → Stands way g P (xs ++ ys) s R
stands_append way g P Q R [] ys s first then_ = then_ s first
stands_append way g P Q R (x ∷ xs) ys s first then_ = (first.0, (first.1.0, first.1.1, stands_append way g P Q R xs ys first.1.0 first.1.2 then_))

-- the same, said weaker
pub stands_more : (way : Way) → (g : Geometry) (P P' Q Q' : Content → Type 0) (ops : List Op) (s : Content)
    → ((t : Content) → P t → P' t) → ((t : Content) → Q t → Q' t) → Stands way g P ops s Q → Stands way g P' ops s Q'
stands_more way g P P' Q Q' [] s more end k = end s k
stands_more way g P P' Q Q' (op ∷ ops) s more end k = ((more s k.0.0, λ v torn. more v (k.0.1 v torn)), (k.1.0, k.1.1, stands_more way g P P' Q Q' ops k.1.0 more end k.1.2))

-- without tears
pub stands_keeps : (way : Way) → (g : Geometry) (P Q : Content → Type 0) (ops : List Op) (s : Content) → Stands way g P ops s Q → Keeps g P ops s Q
stands_keeps way g P Q [] s k = k
stands_keeps way g P Q (op ∷ ops) s k = (k.0.0, (k.1.0, k.1.1, stands_keeps way g P Q ops k.1.0 k.1.2))

-- where power is lost
pub same_some : {A : Type 0} (x y : A) → Some x ≡ Some y → x ≡ y
same_some x y e = cc

pub stands_at : (way : Way) → (g : Geometry) (P Q : Content → Type 0) (ops : List Op) (s : Content) (c : ℕ) (op : Op) (t : Content) → slice_get ops c ≡ Some op → applied g (take c ops) s ≡ Some t
    → Stands way g P ops s Q → Bears way g P op t
stands_at way g P Q [] s c op t next reached k = absurd cc
stands_at way g P Q (x ∷ ops) s zero op t next reached k =
    let one : x ≡ op = same_some x op next in
    let two : s ≡ t = same_some s t reached in
    rw (← one, ← two) k.0
stands_at way g P Q (x ∷ ops) s (suc c) op t next reached k =
    stands_at way g P Q ops k.1.0 c op t next (ap (option_and_then (λ t. applied g (take c ops) t)) (sym k.1.1) ∙ reached) k.1.2

-- of a boot's plan
pub stands_boot : (way : Way) → (r : Rules) (g : Geometry) (P Q : Content → Type 0) (s : Content) (c : ℕ) (v : Content)
    → LosesBy way (power_on r g s) c v → Stands way g P (plan (power_on r g s)).list s Q → P v
unfolding at
stands_boot way r g P Q s c v loses k =
    let whole = keeps_boot r g P Q s (stands_keeps way g P Q (plan (power_on r g s)).list s k) in
    let bears = stands_at way g P Q (plan (power_on r g s)).list s c loses.op loses.before
    (ap (λ (l : List Op). slice_get l c) (sym whole) ∙ loses.next)
    (ap (λ (l : List Op). applied g (take c l) s) (sym whole) ∙ loses.reached) k in
    by bears loses.leaves
  where
    by : Bears way g P loses.op loses.before → (v ≡ loses.before) ⊎ IsLeft way g loses.op loses.before v → P v
    by bears (inl same) = rw same bears.0
    by bears (inr torn) = bears.1 v torn

pub stands_ends : (way : Way) (r : Rules) (g : Geometry) (P Q : Content → Type 0) (u : Content) → Stands way g P (plan (power_on r g u)).list u Q → (z : Content) × Ends r g Q u z
stands_ends way r g P Q u stands = ends r g P Q u (stands_keeps way g P Q (plan (power_on r g u)).list u stands)

-- Where each boot stands so, P holds after every list of losses.
pub withstands : (way : Way) → (r : Rules) (g : Geometry) (P : Content → Type 0) (Q : Content → Content → Type 0)
    → ((s : Content) → P s → Stands way g P (plan (power_on r g s)).list s (Q s)) → (cuts : List ℕ) (s u : Content)
    → P s → Losing way (power_on r g s) cuts u → P u
withstands way r g P Q boot [] s u p is = rw is p
withstands way r g P Q boot (c ∷ cuts) s u p is = withstands way r g P Q boot cuts is.0 u (stands_boot way r g P (Q s) s c is.0 is.1 (boot s p)) is.2

-- ---- sections that change only some bytes

-- An operation spares these bytes, wherever it can be applied.
abbrev pub Spares : Tearing → Geometry → (Content → Slot → ℕ → Type 0) → Op → Type 0
Spares f g K op = (s t : Content) → IsSized g s → apply g op s ≡ Some t → IsSized g t × ((o : Slot) (i : ℕ) → K s o i → (byte t o i ≡ byte s o i) × IsKept f g op s t o i)

-- What holds of a flash rests on these bytes alone.
abbrev pub RestsOn : Geometry → (Content → Slot → ℕ → Type 0) → (Content → Type 0) → Type 0
RestsOn g K I = (s v : Content) → I s → IsSized g v → ((o : Slot) (i : ℕ) → K s o i → byte v o i ≡ byte s o i) → I v

pub torn_sized : (f : Tearing) → (g : Geometry) (op : Op) (s v : Content) → IsSized g s → IsTorn f g op s v → IsSized g v
torn_sized f g op s v sized torn = record { primary = torn.sizes Primary ∙ sized.primary; secondary = torn.sizes Secondary ∙ sized.secondary }

-- So it is borne by each of them, whole and torn; and where none is torn, what the list keeps is borne as well.
pub spared : (way : Way) → (g : Geometry) (K : Content → Slot → ℕ → Type 0) (I P Q : Content → Type 0) (ops : List Op) (s : Content) → RestsOn g K I → ((t : Content) → I t → IsSized g t)
    → AllByRecursion (Spares (how way) g K) ops → Keeps g P ops s Q → I s → Stands way g (λ t. I t × (way ≡ cutting → P t)) ops s (λ t. I t × Q t)
spared way g K I P Q [] s rests sized all keeps is = (is, keeps)
spared way g K I P Q (op ∷ ops) s rests sized all keeps is =
    let does = all.0 s keeps.1.0 (sized s is) keeps.1.1 in (
      (
        (is, λ _. keeps.0),
        λ v left.
            let torn = left_torn way g op s v left in (
              rests s v is (torn_sized (how way) g op s v (sized s is) torn) (λ o i kept. torn.kept o i ((all.0 s torn.whole (sized s is) torn.makes).1 o i kept).1),
              λ cut. absurd (not_cut way g op s v left cut),
            ),
      ),
      (keeps.1.0, keeps.1.1, spared way g K I P Q ops keeps.1.0 rests sized all.1 keeps.1.2 (rests s keeps.1.0 is does.0 (λ o i kept. (does.1 o i kept).0))),
    )

-- ---- both grains by one proof

kept_pieces : (f : Tearing) (c : Grain) (g : Geometry) (op : Op) (s t : Content) (o : Slot) (i : ℕ) → IsKept f (in_pieces c g) op s t o i → IsKept f g op s t o i
kept_pieces it c g op s t o i kept = grind arith

torn_pieces : (f : Tearing) → (c : Grain) (g : Geometry) (op : Op) (s v : Content) → IsTorn f g op s v → IsTorn f (in_pieces c g) op s v
torn_pieces f c g op s v torn = record {
  whole = torn.whole;
  makes = apply_pieces c g op s ∙ torn.makes;
  kept = λ o i kept. torn.kept o i (kept_pieces f c g op s torn.whole o i kept);
  sizes = torn.sizes;
  unfinished = torn.unfinished;
}

left_pieces : (way : Way) (c : Grain) (g : Geometry) (op : Op) (s v : Content) → IsLeft way g op s v → IsLeft way (in_pieces c g) op s v
left_pieces cutting c g op s v none = none
left_pieces (tearing f) c g op s v torn = torn_pieces f c g op s v torn

pub stands_pieces : (way : Way) → (c : Grain) (g : Geometry) (P Q : Content → Type 0) (ops : List Op) (s : Content) → Stands way (in_pieces c g) P ops s Q → Stands way g P ops s Q
stands_pieces way c g P Q [] s k = k
stands_pieces way c g P Q (op ∷ ops) s k =
    ((k.0.0, λ v torn. k.0.1 v (left_pieces way c g op s v torn)), (k.1.0, sym (apply_pieces c g op s) ∙ k.1.1, stands_pieces way c g P Q ops k.1.0 k.1.2))

-- The boot from x bears P at each operation, and ends in Q.
pub record Strides (way : Way) (x : PowerOn) (P Q : Content → Type 0) : Type 0 where
  pub stands : Stands way x.geometry P (plan x).list x.content Q
  pub not_panic : (plan x).kind ≢ kinds.Panic

pub strides_by : (way : Way) → (x : PowerOn) (P Q : Content → Type 0) (p : Plan) → plan x ≡ p → p.kind ≢ kinds.Panic → Stands way x.geometry P p.list x.content Q → Strides way x P Q
strides_by way x P Q p is not_panic stands = record {
  stands = let E : Plan → Type 0 = λ q. Stands way x.geometry P q.list x.content Q in subst E (sym is) stands;
  not_panic = λ panic. not_panic (ap (λ (q : Plan). q.kind) (sym is) ∙ panic);
}

-- After every list of losses the boot from u ends well, and in Q u.
pub cycle : (way : Way) → (r : Rules) (g : Geometry) (P : Content → Type 0) (Q : Content → Content → Type 0) → ((t : Content) → P t → Strides way (power_on r (in_pieces r.grain g) t) P (Q t))
    → ((t z : Content) → Q t z → is_valid z.primary ≡ true) → (cuts : List ℕ) (s u : Content) → P s → Losing way (power_on r g s) cuts u → (z : Content) × EndsWell (power_on r g u) z × Q u z
cycle way r g P Q boots valid cuts s u begin is =
    let at_u = withstands way r g P Q stands_on cuts s u begin is in
    let end = stands_ends way r g P (Q u) u (stands_on u at_u) in
    let not_panic : (plan (power_on r g u)).kind ≢ kinds.Panic = λ panic. (boots u at_u).not_panic (ap (λ (q : Plan). q.kind) (plan_in_pieces r g u) ∙ panic) in (
      end.0,
      record {
        end = end.1.end;
        whole = end.1.whole;
        not_panic = not_panic;
        result = boots_so (power_on r g u) end.0 end.1.end end.1.whole not_panic (valid u end.0 end.1.so);
        valid = valid u end.0 end.1.so;
      },
      end.1.so,
    )
  where
    stands_on : (t : Content) → P t → Stands way g P (plan (power_on r g t)).list t (Q t)
    stands_on t at =
        stands_pieces way r.grain g P (Q t) (plan (power_on r g t)).list t
        (let E : Plan → Type 0 = λ q. Stands way (in_pieces r.grain g) P q.list t (Q t) in subst E (plan_in_pieces r g t) (boots t at).stands)

-- ---- bits

-- A byte that the whole operation would not change has no bit to fail.
pub bits_law : BitsLaw
bits_law g op s v torn = record {
  whole = torn.whole;
  makes = torn.makes;
  kept = λ o i same. same_from_bits (byte v o i) (byte s o i) (λ k. by o i k same (torn.each o i k));
  sizes = torn.sizes;
  unfinished = torn.unfinished;
}
  where
    by : (o : Slot) (i k : ℕ) → byte torn.whole o i ≡ byte s o i → (bit_at (byte v o i) k ≡ bit_at (byte s o i) k) ⊎ (bit_at (byte v o i) k ≡ bit_at (byte torn.whole o i) k)
        → bit_at (byte v o i) k ≡ bit_at (byte s o i) k
    by o i k same (inl old) = old
    by o i k same (inr new) = new ∙ ap (λ n. bit_at n k) same

-- ---- cuts

some_at : (ops : List Op) (k : ℕ) → k < length ops → (op : Op) × (slice_get ops k ≡ Some op)
some_at [] k h = absurd (omega (arith, h))
some_at (op ∷ ops) zero h = (op, refl)
some_at (op ∷ ops) (suc k) h = some_at ops k (omega (arith, h))

cut_at_one : (x : PowerOn) (c : ℕ) (t : Content) → cut_at x c ≡ Some t → (op : Op) × (slice_get (ops_of x) c ≡ Some op) × (at x c ≡ Some t)
cut_at_one x c t is = go (nat_lt c (length (ops_of x))) refl
  where
    go : (b : Bool) → nat_lt c (length (ops_of x)) ≡ b → (op : Op) × (slice_get (ops_of x) c ≡ Some op) × (at x c ≡ Some t)
    go true can = let one = some_at (ops_of x) c (ltb-true c (length (ops_of x)) can) in (one.0, one.1, rw can at is)
    go false not = let e : None ≡ Some t = rw not at is in absurd cc

pub cut_loses : (way : Way) → (x : PowerOn) (c : ℕ) (t : Content) → cut_at x c ≡ Some t → LosesBy way x c t
cut_loses way x c t is = let one = cut_at_one x c t is in record { op = one.0; before = t; next = one.1; reached = one.2; leaves = inl refl }

-- what holds of a list of cuts, by what holds of one and of the rest
by_cuts : (T : PowerOn → List ℕ → Content → Type 0) → ((x : PowerOn) → T x [] x.content)
    → ((x : PowerOn) (c : ℕ) (t : Content) (cuts : List ℕ) (u : Content) → cut_at x c ≡ Some t → T (again x t) cuts u → T x (c ∷ cuts) u)
    → (x : PowerOn) (cuts : List ℕ) (u : Content) → after x cuts ≡ Some u → T x cuts u
by_cuts T none more x [] u is = let same : x.content ≡ u = cc in rw (← same) (none x)
by_cuts T none more x (c ∷ cuts) u is = go (λ t e. by_cuts T none more (again x t) cuts u e) (cut_at x c) refl is
  where
    go : ((t : Content) → after (again x t) cuts ≡ Some u → T (again x t) cuts u) → (o : Option Content) → cut_at x c ≡ o → option_and_then (λ t. after (again x t) cuts) o ≡ Some u → T x (c ∷ cuts) u
    go later None e come = absurd cc
    go later (Some t) e come = more x c t cuts u e (later t come)

pub cuts_losing : (way : Way) (x : PowerOn) (cuts : List ℕ) (u : Content) → after x cuts ≡ Some u → Losing way x cuts u
cuts_losing way = by_cuts (Losing way) (λ x. refl) (λ x c t cuts u e later. (t, cut_loses way x c t e, later))

pub cuts_law : CutsLaw
cuts_law f = by_cuts (Tears f) (λ x. refl) (λ x c t cuts u e later.
    let one = cut_at_one x c t e in (t, record { op = one.0; before = t; next = one.1; reached = one.2; leaves = inl refl }, later))
