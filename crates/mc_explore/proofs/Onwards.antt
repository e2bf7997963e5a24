-- From one cut of a boot to the next, and the summary of the flash there.
use Rattle.std.specs.Prelude.{◌≡◌, ℕ, ◌+◌, ◌<◌, ◌≤◌, List, [], ◌∷◌, length, None, Option, Some, Result, Ok, Err, IfSome, refl, suc, zero}
use Rattle.std.proofs.Common.{arith, sym, ap, subst, ◌∙◌}
use Rattle.mc_flash.specs.{Flash.{Content}, Geometry.{Geometry}, Usage.{Seen, Keeps, Spends, LeaveRoom, plus}, declared.op.Op.{Op}}
use Rattle.mc_flash.specs.declared.flash.FlashError.{FlashError}
use Rattle.mc_flash.specs.declared.flash.FlashError.TheVariants as errors
use Rattle.mc_trailer.specs.declared.tables.Rules.{Rules}
use Rattle.mc_boot.specs.{Joins.{IsCut}, Boot.{GoesOn, IsCold, Progress, IsBootOf, Steps, all_of, begun, progress, left_of, HasCome}}
use Rattle.mc_boot.specs.{Outcome.{Report, at, outcome_of, shown, left_by, ops_of}, SharedTail.{IsSharedTail}, Twins.{HasTwin}, declared.shared_tail.SharedTail.{SharedTail}}
use Rattle.mc_boot.specs.{Plan.{Plan, plan, PowerOn, again, power_on, powered}, facts.Run.{come_begun, come_left, come_ops}}
use Rattle.mc_boot.specs.{facts.Steps.{refused_here, step_counts, step_spends, stepped_here}, declared.boot.Boot.{Boot}, declared.outcome.Outcome.{Outcome}}
use Rattle.mc_walk.specs.TreeModel.{AreTwinsOn, IsAt, IsChildOf, IsTwin, HasNext, ReachesNext}
use Rattle.mc_tree.specs.inner.Weights.{AreTwins}
use Rattle.mc_explore.specs.{inner.OneRound.{CanPass, GoesOnIn, IsOf, IsSummary, Passes, round_model}, Schedules.{EndsWith}}
use Rattle.mc_explore.specs.Boots.{at_cut, boots}
use Rattle.mc_explore.specs.{declared.one_round.Summary.{Summary}, facts.Occurring.{at_is, at_zero, come_lands, lands_at}}

-- Where a boot has come there, it has come on to here.
abbrev pub ComesOn : Seen → Progress → Seen → Progress → Type 0
ComesOn f p new q = (x : Rules) (s : Content) → HasCome (power_on x f.geometry s) p f.content → HasCome (power_on x f.geometry s) q new.content

-- What is asked of a boot that was run to its end.
pub ends_with : (f new : Seen) (p q : Progress) (outcome : Outcome) → Keeps f new → ComesOn f p new q → q.to_come ≡ []
    → ((x : Rules) (s : Content) → HasCome (power_on x new.geometry s) q new.content → q.to_come ≡ [] → outcome_of (power_on x new.geometry s) ≡ Some (shown outcome)) → EndsWith f p outcome
ends_with f new p q outcome keeps come end summary = grind arith

-- Something is to come of a boot that has not made all its operations.
some_to_come : (x : PowerOn) (p : Progress) (t : Content) → HasCome x p t → p.count < length (ops_of x) → 0 < length p.to_come
some_to_come x p t come early = at p.to_come refl
  where
    at : (ops : List Op) → p.to_come ≡ ops → 0 < length p.to_come
    at [] is = absurd (omega (arith, early, come_ops x p t come is))
    at (op ∷ rest) is = omega (arith, ap (λ (ops : List Op). length ops) is)

module _ (start : PowerOn) where
  -- What the next boot begins with is of the same start.
  pub of_next : (x : PowerOn) (t : Content) → IsOf start x → IsOf start (again x t)
  of_next x t of = ap (λ (y : PowerOn). again y t) of

  -- ---- the next cut

  module _ (x : PowerOn) (i : ℕ) (b b' : Boot) (old new : Seen) (at : IsAt (round_model start) x i b old) (early : i < length (ops_of x)) where
    layout_here : old.geometry ≡ x.geometry
    layout_here = at.layout_is ∙ sym (ap (λ (y : PowerOn). y.geometry) at.on_is.0)

    come_here : HasCome (power_on x.rules old.geometry x.content) (progress b) old.content
    come_here =
        let P : Geometry → Content → Type 0 = λ y t. HasCome (power_on x.rules y x.content) (progress b) t in
        subst (λ y. P y old.content) (sym layout_here) (subst (P x.geometry) (sym at.content_is) at.on_is.1.come)

    early_here : (progress b).count < length (ops_of (power_on x.rules old.geometry x.content))
    early_here = omega (arith, early, at.on_is.1.count_is, ap (λ (y : Geometry). length (ops_of (power_on x.rules y x.content))) layout_here)

    -- The operation is not refused.
    pub not_refused : (result : Result (Unit {0}) FlashError) → Steps (progress b) old result (progress b') new → ComesOn old (progress b) new (progress b')
        → result ≡ Err errors.NotErased → ⊥
    not_refused result steps come refused =
        let h = refused_here (progress b) (progress b') old new result refused steps in
        omega (arith, early_here, h.1, come_ops (power_on x.rules old.geometry x.content) (progress b') new.content (come x.rules x.content come_here) h.0)

    -- The boot has made so many more.
    pub went_by : (k : ℕ) → b'.done ≡ i + k → ComesOn old (progress b) new (progress b') → all_of b' ≡ all_of b → IsBootOf new.geometry b' → Keeps old new
        → IsAt (round_model start) x (i + k) b' new
    went_by k count come whole layout keeps =
        let P : Geometry → Type 0 = λ y. HasCome (power_on x.rules y x.content) (progress b') new.content in
        let come' : HasCome x (progress b') new.content = subst P layout_here (come x.rules x.content come_here) in
        let there : new.content ≡ at_cut x (i + k) = come_lands x (progress b') new.content come' ∙ ap (at_cut x) count in
        record {
          on_is = (
            at.on_is.0,
            record {
              layout_is = subst (λ (y : Geometry). IsBootOf y b') (keeps.geometry ∙ layout_here) layout;
              list_is = whole ∙ at.on_is.1.list_is;
              come = subst (HasCome x (progress b')) there come';
              count_is = count;
            },
          );
          content_is = there;
          layout_is = keeps.geometry ∙ at.layout_is;
        }

    -- It happens, and the boot has made one more.
    pub went_on : (v : Unit {0}) → Steps (progress b) old (Ok v) (progress b') new → ComesOn old (progress b) new (progress b') → all_of b' ≡ all_of b → IsBootOf new.geometry b'
        → Keeps old new → IsAt (round_model start) x (i + 1) b' new
    went_on v steps come whole layout keeps =
        let some = some_to_come x (progress b) (at_cut x i) at.on_is.1.come (omega (arith, early, at.on_is.1.count_is)) in
        went_by 1 (stepped_here (progress b) (progress b') old new (Ok v) v refl some steps ∙ ap (λ n. n + 1) at.on_is.1.count_is) come whole layout keeps

  -- What a step leaves on the way to the next cut.
  pub passes : (b b' : Boot) (old new : Seen) (result : Result (Unit {0}) FlashError) → CanPass start b old
      → Steps (progress b) old result (progress b') new → ComesOn old (progress b) new (progress b')
      → all_of b' ≡ all_of b → IsBootOf new.geometry b' → Keeps old new → Passes start b old result b' new
  passes b b' old new (Err e) has steps come whole layout keeps = tt
  passes b b' old new (Ok v) has steps come whole layout keeps =
      let counts = step_counts (progress b) (progress b') old new (Ok v) steps in
      let P : Geometry → Type 0 = λ y. LeaveRoom new.usage.counts (left_of y (progress b')) (plus old.usage.counts (left_of y (progress b))) in
      (λ x i at early. went_on x i b b' old new at early v steps come whole layout keeps, subst P has.2.layout_is counts)

  -- And what it spends.
  pub pass_spends : (b b' : Boot) (old new : Seen) (result : Result (Unit {0}) FlashError) → CanPass start b old → Steps (progress b) old result (progress b') new
      → ComesOn old (progress b) new (progress b') → Spends 1 old result new
  pass_spends b b' old new it has steps come = grind (arith, step_spends, not_refused)

  -- A child has one more before it.
  pub can_pass : (b : Boot) (seen : Seen) → HasNext (round_model start) b seen → CanPass start b seen
  can_pass b seen has = (has.0, has.1, has.2, omega (arith, has.3), has.4)

  pub goes_on : {E : Type 0} (b b' : Boot) (old new : Seen) (result : Result (Unit {0}) E) → Passes start b old result b' new → ReachesNext (round_model start) b old result b' new
  goes_on b b' old new (Ok v) p = (λ x i at more. p.0 x i at (omega (arith, more)), p.1)
  goes_on b b' old new (Err e) p = tt

  -- ---- the summary of a flash

  -- A boot that was cut, where its outcome was found before it.
  pub cut_here : (x : PowerOn) (i : ℕ) (b : Boot) (f : Seen) (summary : Summary) → IsAt (round_model start) x i b f → i < length (ops_of x) → IsSummary x summary
      → IsCut x (at_cut x i) b (shown summary.outcome)
  cut_here x i b f summary at early t = grind arith

  -- A child whose boot goes on with that of its parent.
  joined_here : (x : PowerOn) (i : ℕ) (b : Boot) (child parent : Summary) (f : Seen) (tail : SharedTail) → IsAt (round_model start) x i b f → i < length (ops_of x) → IsSummary x parent
      → IsSummary (again x (at_cut x i)) child
      → ((y : Rules) (v : Content) (whole : Report) → IsCut (power_on y f.geometry v) f.content b whole → progress child.boot ≡ begun y (plan (powered y f))
      → IsSharedTail (power_on y f.geometry v) f.content tail)
      → IsSharedTail x (at_cut x i) tail
  joined_here x i b child parent f tail at early summary child_summary joins =
      let P : Geometry → Content → Type 0 =
      λ y u. (whole : Report) → IsCut (power_on x.rules y x.content) u b whole → progress child.boot ≡ begun x.rules (plan (power_on x.rules y u))
      → IsSharedTail (power_on x.rules y x.content) u tail in
      let here : P x.geometry f.content = subst (λ y. P y f.content) (layout_here x i b b f f at early) (joins x.rules x.content) in
      subst (P x.geometry) at.content_is here (shown parent.outcome) (cut_here x i b f parent at early summary) child_summary.boot_is

  pub goes_on_here : (b : Boot) (child parent : Summary) (f : Seen) (found : Option SharedTail)
      → ((y : Rules) (v : Content) (whole : Report) → IsCut (power_on y f.geometry v) f.content b whole → progress child.boot ≡ begun y (plan (powered y f))
      → IfSome found (IsSharedTail (power_on y f.geometry v) f.content))
      → IfSome found (λ tail. (x : PowerOn) (i : ℕ) → IsChildOf (round_model start) x i b parent child f → GoesOnIn x i tail)
  goes_on_here b child parent f None joins = tt
  goes_on_here b child parent f (Some tail) joins = λ x i here. joined_here x i b child parent f tail here.at_is here.some here.parent_is.1 here.child_is.1 joins

  -- After a cut so many operations later the same boot begins.
  pub twin_at : (x : PowerOn) (i j : ℕ) (b : Boot) (child : Summary) → (round_model start).IsOn x i b → (round_model start).IsSummary (boots.child x i) child → HasTwin x (at_cut x i) (b.done + j)
      → (round_model start).IsSummary (boots.child x (i + j)) child × AreTwins boots (boots.child x (i + j)) (boots.child x i)
  twin_at x i j b child on is has =
      let u : PowerOn = boots.child x i in
      let t : PowerOn = again x has.twin in
      let there : has.twin ≡ at_cut x (i + j) = lands_at x has.twin (i + j) (ap (λ n. at x (n + j)) (sym on.1.count_is) ∙ has.twin_is) in
      let P : Content → Type 0 = λ s. (round_model start).IsSummary (again x s) child × AreTwins boots (again x s) u in
      let both : P has.twin = (
        (
          of_next x has.twin on.0,
          record {
            boot_is = is.1.boot_is ∙ ap (begun x.rules) has.alike.plan_is;
            list_is = is.1.list_is ∙ ap (λ (p : Plan). p.list) has.alike.plan_is;
            layout_is = is.1.layout_is;
            at_most = rw (← has.alike.plan_is) is.1.at_most;
            sized = has.sized;
            outcome_is = sym has.alike.outcome_is ∙ is.1.outcome_is;
          },
        ),
        record {
          width = ap (λ (l : List Op). length l) (sym has.alike.ops_are);
          one = ap (again t) (sym (at_zero t));
          other = ap (again u) (sym (at_zero u));
          later = λ n. ap (again x) (lands_at u (at_cut t (suc n)) (suc n) (has.alike.later n ∙ at_is t (suc n)));
        },
      ) in
      subst P there both

  pub twin_here : (x : PowerOn) (i : ℕ) (b : Boot) (child : Summary) → (round_model start).IsOn x i b → (round_model start).IsSummary (boots.child x i) child → HasTwin x (at_cut x i) (b.done + 1)
      → IsTwin (round_model start) x i child
  twin_here x i b child on is has = let twin = twin_at x i 1 b child on is has in record { summary_is = twin.0; twins = twin.1 }

  -- A boot that went on over twins of a child.
  pub passes_twins : (x : PowerOn) (i count : ℕ) (b b' : Boot) (child : Summary) (old new : Seen) → IsAt (round_model start) x i b old → i < length (ops_of x) → GoesOn b old b' new
      → b'.done ≡ b.done + count → (round_model start).IsSummary (boots.child x i) child → ((j : ℕ) → 0 < j → j ≤ count → HasTwin x (at_cut x i) (b.done + j))
      → IsAt (round_model start) x (i + count) b' new × AreTwinsOn (round_model start) x i count child
  passes_twins x i count b b' child old new at early goes done is twins = (
    went_by x i b b' old new at early count (done ∙ ap (λ n. n + count) at.on_is.1.count_is) goes.come goes.whole goes.layout goes.keeps,
    record {
      summaries = λ j le. there j (λ some. twins j some le);
      twins = λ j some le. (twin_at x i j b child at.on_is is (twins j some le)).1;
    },
  )
    where
      there : (j : ℕ) → (0 < j → HasTwin x (at_cut x i) (b.done + j)) → (round_model start).IsSummary (boots.child x (i + j)) child
      there zero twin = let same : i ≡ i + 0 = omega arith in subst (λ n. (round_model start).IsSummary (boots.child x n) child) same is
      there (suc j) twin = (twin_at x i (suc j) b child at.on_is is (twin (omega arith))).0

  -- What runs a boot, and a boot that was cut.
  module _ (f : Seen) (b : Boot) (layout : f.geometry ≡ start.geometry) (begins : IsCold start.rules f b) where
    comes : HasCome (powered start.rules f) (progress b) f.content
    comes = let P : Progress → Type 0 = λ p. HasCome (powered start.rules f) p f.content in subst P (sym begins.boot) (come_begun (powered start.rules f))

    pub summary_run : (outcome : Outcome) → EndsWith f (progress b) outcome → IsSummary (again start f.content) (record { boot = b; outcome = outcome })
    summary_run outcome ends = grind arith

    -- And that it was run.
    pub summary_of : (x : PowerOn) (i : ℕ) (at : Boot) (outcome : Outcome) → IsAt (round_model start) x i at f → outcome_of (again x (at_cut x i)) ≡ Some (shown outcome)
        → IsSummary (again x (at_cut x i)) (record { boot = b; outcome = outcome })
    summary_of x i at outcome here is = grind arith

    pub left_run : (q : Progress) (new : Seen) → ComesOn f (progress b) new q → q.to_come ≡ [] → left_by (again start f.content) ≡ Some new.content
    left_run q new come end =
        ap (λ (y : Geometry). left_by (power_on start.rules y f.content)) (sym layout) ∙ come_left (powered start.rules f) q new.content (come start.rules f.content comes) end

    -- What holds of each boot that was cut so holds of this one.
    pub cut_so : (P : PowerOn → Content → Type 0) (x : PowerOn) (i : ℕ) (at : Boot) (parent : Summary) → IsAt (round_model start) x i at f → i < length (ops_of x) → IsSummary x parent
        → ((y : PowerOn) (u : Content) → IsCut y u at (shown parent.outcome) → IsBootOf y.geometry b → progress b ≡ begun y.rules (plan (again y u)) → P y u)
        → P x (at_cut x i)
    cut_so P x i at parent here early summary holds = grind arith

-- Before the first operation.
pub summary_still : (x : PowerOn) (i : ℕ) (summary : Summary) → i ≡ 0 → IsSummary x summary → IsSummary (again x (at_cut x i)) summary
summary_still x i summary none t = grind (arith, at_zero)

pub left_still : (x : PowerOn) (i : ℕ) → i ≡ 0 → left_by (again x (at_cut x i)) ≡ left_by x
left_still x i none = ap (λ n. left_by (again x (at_cut x n))) none ∙ ap (λ s. left_by (again x s)) (sym (at_zero x))
