-- Boots of one plan, from two flashes that keep alike.
use Rattle.std.proofs.{Common.{ap, inl, inr, sym, ◌∙◌}, Math.Seq.{take-length}}
use Rattle.std.specs.{List.{AllByRecursion}, Option.{is_some}}
use Rattle.std.specs.Prelude.{Bool, List, None, Option, Some, [], length, nat_lt, option_and_then, option_map, refl, ℕ, ◌∷◌, ◌≡◌, ◌⊎◌}
use Rattle.mc_boot.proofs.{Images.{valid_id}, Joins.{SameRun}}
use Rattle.mc_boot.specs.Outcome.{applied, at, first_then, happening, is_faulted, left_by, ops_of, outcome_of, report}
use Rattle.mc_boot.specs.{Life.{is_at_rest}, Plan.{Plan, PowerOn, plan, power_on}, facts.Run.{happens_applied}}
use Rattle.mc_flash.specs.{Flash.{Content, apply}, Geometry.{Geometry}, declared.op.Op.{Op}, declared.op.Slot.TheVariants.{Primary}}
use Rattle.mc_image.specs.Valid.{Identity, id_of, is_valid}
use Rattle.mc_trailer.specs.{Trailer.{trailer_of}, declared.tables.Rules.{Rules}, declared.tables.SwapType.{SwapType}}
use Rattle.mc_tear.specs.Laws.{EndAlike}

-- ---- runs

-- The same happens of a list from both, and what it leaves is alike.
pub record RunAlike (g : Geometry) (R : Content → Content → Type 0) (ops : List Op) (u v : Content) : Type 0 where
  pub happens : happening g ops u ≡ happening g ops v
  pub end_u : Content
  pub end_v : Content
  pub left_u : applied g (happening g ops u) u ≡ Some end_u
  pub left_v : applied g (happening g ops v) v ≡ Some end_v
  pub ends : R end_u end_v

-- An operation is refused by both, or is done in both and leaves them alike.
abbrev pub Does : Geometry → (Content → Content → Type 0) → Op → Content → Content → Type 0
Does g R op u v =
    ((apply g op u ≡ None) × (apply g op v ≡ None))
    ⊎ ((t : Content) × (w : Content) × (apply g op u ≡ Some t) × (apply g op v ≡ Some w) × R t w)

abbrev pub KeepsAlike : Geometry → (Content → Content → Type 0) → Op → Type 0
KeepsAlike g R op = (u v : Content) → R u v → Does g R op u v

one_more : (g : Geometry) (R : Content → Content → Type 0) (op : Op) (ops : List Op) (u v : Content)
    → ((t w : Content) → R t w → RunAlike g R ops t w) → R u v → Does g R op u v → RunAlike g R (op ∷ ops) u v
one_more g R op ops u v beyond alike (inl none) = record {
  happens = ap (first_then op (λ t. happening g ops t)) none.0 ∙ sym (ap (first_then op (λ t. happening g ops t)) none.1);
  end_u = u;
  end_v = v;
  left_u = ap (λ (xs : List Op). applied g xs u) (ap (first_then op (λ t. happening g ops t)) none.0);
  left_v = ap (λ (xs : List Op). applied g xs v) (ap (first_then op (λ t. happening g ops t)) none.1);
  ends = alike;
}
one_more g R op ops u v beyond alike (inr (t, w, at_t, at_w, so)) =
    let rest = beyond t w so in
    let of_u : happening g (op ∷ ops) u ≡ op ∷ happening g ops t = ap (first_then op (λ t. happening g ops t)) at_t in
    let of_v : happening g (op ∷ ops) v ≡ op ∷ happening g ops w = ap (first_then op (λ t. happening g ops t)) at_w in
    record {
      happens = of_u ∙ ap (λ (xs : List Op). op ∷ xs) rest.happens ∙ sym of_v;
      end_u = rest.end_u;
      end_v = rest.end_v;
      left_u = ap (λ (xs : List Op). applied g xs u) of_u ∙ ap (option_and_then (λ y. applied g (happening g ops t) y)) at_t ∙ rest.left_u;
      left_v = ap (λ (xs : List Op). applied g xs v) of_v ∙ ap (option_and_then (λ y. applied g (happening g ops w) y)) at_w ∙ rest.left_v;
      ends = rest.ends;
    }

pub run_alike : (g : Geometry) (R : Content → Content → Type 0) (ops : List Op) → AllByRecursion (KeepsAlike g R) ops
    → (u v : Content) → R u v → RunAlike g R ops u v
run_alike g R [] all u v alike = record { happens = refl; end_u = u; end_v = v; left_u = refl; left_v = refl; ends = alike }
run_alike g R (op ∷ ops) all u v alike = one_more g R op ops u v (λ t w so. run_alike g R ops all.1 t w so) alike (all.0 u v alike)

-- Where the same is left.
pub run_same : (g : Geometry) (R : Content → Content → Type 0) (ops : List Op) (u v : Content) → ((z : Content) → R z z) → SameRun g ops u v → RunAlike g R ops u v
run_same g R ops u v self same =
    let end = happens_applied g ops u in record {
      happens = same.happens;
      end_u = end.0;
      end_v = end.0;
      left_u = end.1;
      left_v = sym same.leaves ∙ end.1;
      ends = self end.0;
    }

-- ---- outcomes

-- Two flashes of which the next boot has one plan, which hold the same images, and whose primaries' trailers are read alike.
pub record Pair (r : Rules) (g : Geometry) (u v : Content) : Type 0 where
  pub plan_is : plan (power_on r g u) ≡ plan (power_on r g v)
  pub primary : id_of u.primary ≡ id_of v.primary
  pub secondary : id_of u.secondary ≡ id_of v.secondary
  pub trailer : trailer_of g u Primary ≡ trailer_of g v Primary

pub valid_by_id : (b c : List ℕ) → id_of b ≡ id_of c → is_valid b ≡ is_valid c
valid_by_id b c is = sym (valid_id b) ∙ ap (λ (o : Option Identity). is_some o) is ∙ valid_id c

reports : (r : Rules) (g : Geometry) (kind : SwapType) (n : ℕ) (faulted : Bool) (u v : Content) → Pair r g u v
    → report r g kind n faulted u ≡ report r g kind n faulted v
unfolding report
reports r g kind n faulted u v pair =
    rw (valid_by_id u.primary v.primary pair.primary, pair.primary, pair.secondary, ap (λ (p : Plan). p.kind) pair.plan_is) refl

left_is : (x : PowerOn) → left_by x ≡ applied x.geometry (happening x.geometry (plan x).list x.content) x.content
unfolding left_by at ops_of
left_is x = ap (λ (xs : List Op). applied x.geometry xs x.content) (take-length (happening x.geometry (plan x).list x.content))

module _ (r : Rules) (g : Geometry) (u v : Content) (R : Content → Content → Type 0) (plans : plan (power_on r g u) ≡ plan (power_on r g v))
    (run : RunAlike g R (plan (power_on r g u)).list u v) where
  abbrev list_v : List Op
  list_v = (plan (power_on r g v)).list

  of_v : happening g (plan (power_on r g u)).list v ≡ happening g list_v v
  of_v = ap (λ (p : Plan). happening g p.list v) plans

  ops_same : ops_of (power_on r g u) ≡ ops_of (power_on r g v)
  unfolding ops_of
  ops_same = run.happens ∙ of_v

  faults_same : is_faulted (power_on r g u) ≡ is_faulted (power_on r g v)
  unfolding is_faulted
  faults_same =
      ap (λ (xs : List Op). nat_lt (length xs) (length (plan (power_on r g u)).list)) ops_same
      ∙ ap (λ (p : Plan). nat_lt (length (ops_of (power_on r g v))) (length p.list)) plans

  pub left_u : left_by (power_on r g u) ≡ Some run.end_u
  left_u = left_is (power_on r g u) ∙ run.left_u

  left_v : left_by (power_on r g v) ≡ Some run.end_v
  left_v = left_is (power_on r g v) ∙ ap (λ (xs : List Op). applied g xs v) (sym of_v) ∙ run.left_v

  module _ (pair : Pair r g run.end_u run.end_v) where
    outcomes : outcome_of (power_on r g u) ≡ outcome_of (power_on r g v)
    unfolding outcome_of
    outcomes =
        ap (option_map (λ z. report r g (plan (power_on r g u)).kind (length (ops_of (power_on r g u))) (is_faulted (power_on r g u)) z)) left_u
        ∙ ap (λ (p : Plan). Some (report r g p.kind (length (ops_of (power_on r g u))) (is_faulted (power_on r g u)) run.end_u)) plans
        ∙ ap (λ (xs : List Op). Some (report r g (plan (power_on r g v)).kind (length xs) (is_faulted (power_on r g u)) run.end_u)) ops_same
        ∙ ap (λ (b : Bool). Some (report r g (plan (power_on r g v)).kind (length (ops_of (power_on r g v))) b run.end_u)) faults_same
        ∙ ap (λ o. Some o) (reports r g (plan (power_on r g v)).kind (length (ops_of (power_on r g v))) (is_faulted (power_on r g v)) run.end_u run.end_v pair)
        ∙ sym (ap (option_map (λ z. report r g (plan (power_on r g v)).kind (length (ops_of (power_on r g v))) (is_faulted (power_on r g v)) z)) left_v)

    pub end_alike : EndAlike (power_on r g u) (power_on r g v)
    end_alike = record {
      outcome = outcomes;
      rest = ap (option_map (λ z. is_at_rest (trailer_of g z Primary))) left_u
          ∙ ap (λ t. Some (is_at_rest t)) pair.trailer
          ∙ sym (ap (option_map (λ z. is_at_rest (trailer_of g z Primary))) left_v);
    }
