-- A flash at rest: its plan is idle, or one of three swaps of valid images that fit; the type of the next boot in the words of the automaton.
use Rattle.std.proofs.{Common.{ap, arith, inl, inr, sym, ◌∙◌}, Math.Nat.{mul-le-mul_right}, lemmas.Bool.{cases_lt}, lemmas.Bool.Decides.{nat_tests}}
use Rattle.std.proofs.lemmas.Grind.{div_ceil_times}
use Rattle.std.specs.Int.{div_ceil}
use Rattle.std.specs.Prelude.{Bool, Option, [], false, if◌then◌else◌, nat_lt, not, refl, true, ℕ, ◌&&◌, ◌*◌, ◌+◌, ◌<◌, ◌||◌, ◌≡◌, ◌≢◌, ◌≤◌, ◌⊎◌}
use Rattle.mc_boot.proofs.{Images.{HasImage}, Phases.{larger_size, new_swap_is, starting}, Plans.{plan_new, plan_resumed}, Starts.{count_of}}
use Rattle.mc_boot.specs.Life.{asked_of, can_swap, done_or_fails, is_at_rest, is_on_trial, is_swap}
use Rattle.mc_boot.specs.Plan.{Plan, PowerOn, image_size, images_of, new_plan, new_swap, nothing, plan, power_on, resumed_plan}
use Rattle.mc_boot.specs.declared.image.Images.{Images}
use Rattle.mc_flash.specs.{Flash.{Content, IsSized}, Geometry.{Geometry, IsLayout, fits, greatest_sectors}, declared.flash.Grain.{Grain}}
use Rattle.mc_flash.specs.{declared.op.Slot.TheVariants.{Primary, Secondary}, facts.Layouts.{fits_few}}
use Rattle.mc_image.specs.Valid.{is_valid}
use Rattle.mc_trailer.specs.{Tables.{asks_another, is_good, is_resumed, is_set, is_unset, table_of}, Trailer.{highest_entry, trailer_of}}
use Rattle.mc_trailer.specs.{declared.tables.Rules.{Rules}, declared.tables.SwapType.{SwapType}}
use Rattle.mc_trailer.specs.{declared.trailer.Flag.{Flag}, declared.trailer.Trailer.{Trailer}, facts.Tables.{types_are_rows}}
use Rattle.mc_trailer.specs.declared.tables.SwapType.TheVariants as kinds

-- A device at rest: no swap is under way, and the secondary may hold anything. What its next boot is to do.

-- The primary begins with a valid image, in front of the trailer; and where the secondary begins with a valid one, that is one of bytes.
pub record AtRest (g : Geometry) (s : Content) : Type 0 where
  pub sized : IsSized g s
  pub primary : HasImage s.primary
  pub at_most : image_size s.primary ≤ greatest_sectors g * g.sector
  pub secondary : is_valid s.secondary ≡ true → HasImage s.secondary
  pub rest : is_at_rest (trailer_of g s Primary) ≡ true

-- No operation is planned.
pub record Idles (x : PowerOn) : Type 0 where
  pub kind : SwapType
  pub either : (kind ≡ kinds.None) ⊎ (kind ≡ kinds.Fail)
  pub planned : plan x ≡ nothing kind

-- A swap is planned: the table asks for it, and the secondary's image is valid and fits.
pub record Wants (x : PowerOn) (kind : SwapType) : Type 0 where
  pub table : table_of x.rules.profile x.geometry x.content ≡ kind
  pub valid : is_valid x.content.secondary ≡ true
  pub at_most : count_of x.geometry x.content ≤ greatest_sectors x.geometry
  pub planned : plan x ≡ starting x.rules.grain x.geometry kind (larger_size x.content) (count_of x.geometry x.content)

abbrev pub RestsOrWants : PowerOn → Type 0
RestsOrWants x = Idles x ⊎ (Wants x kinds.Test ⊎ (Wants x kinds.Perm ⊎ Wants x kinds.Revert))

-- a boot that would go on finds no type
pub no_swap : (a b c d : Bool) → not (a && b && c) ≡ true → (a && b && d) ≡ true → c ≡ false
no_swap a b c d rest on = grind (arith, rest, on)

pub resumed_none : (c : Grain) (g : Geometry) (p : Trailer) (highest : Option ℕ) → is_swap p.swap_info ≡ false → resumed_plan c g p highest ≡ nothing kinds.None
resumed_none c g p highest none = grind arith

images_valid : (s : Content) → (images_of s).valid ≡ is_valid s.secondary
unfolding images_of
images_valid s = refl

images_larger : (s : Content) → (images_of s).size ≡ larger_size s
unfolding images_of
images_larger s = refl

-- a swap that the table asks for
fails : (c : Grain) (g : Geometry) (images : Images) (kind : SwapType) → (not images.valid || nat_lt (greatest_sectors g) (div_ceil images.size g.sector)) ≡ true
    → new_swap c g images kind ≡ nothing kinds.Fail
fails c g images kind is = rw is refl

or_parts : (a b : Bool) → (not a || b) ≡ false → (a ≡ true) × (b ≡ false)
or_parts a b is = grind (arith, is)

is_at_most : (m n : ℕ) → nat_lt n m ≡ false → m ≤ n
is_at_most m n is = grind (arith, nat_tests)

asked_or_fails : (x : PowerOn) (kind : SwapType) → table_of x.rules.profile x.geometry x.content ≡ kind
    → plan x ≡ new_swap x.rules.grain x.geometry (images_of x.content) kind → Idles x ⊎ Wants x kind
asked_or_fails x kind table is = go (not (images_of x.content).valid || nat_lt (greatest_sectors x.geometry) (div_ceil (images_of x.content).size x.geometry.sector)) refl
  where
    go : (b : Bool) → (not (images_of x.content).valid || nat_lt (greatest_sectors x.geometry) (div_ceil (images_of x.content).size x.geometry.sector)) ≡ b → Idles x ⊎ Wants x kind
    go true no_ = inl (record { kind = kinds.Fail; either = inr refl; planned = is ∙ fails x.rules.grain x.geometry (images_of x.content) kind no_ })
    go false may =
        let parts = or_parts (images_of x.content).valid (nat_lt (greatest_sectors x.geometry) (div_ceil (images_of x.content).size x.geometry.sector)) may in
        let count : div_ceil (images_of x.content).size x.geometry.sector ≡ count_of x.geometry x.content = ap (λ n. div_ceil n x.geometry.sector) (images_larger x.content) in
        let at_most = is_at_most (div_ceil (images_of x.content).size x.geometry.sector) (greatest_sectors x.geometry) parts.1 in
        let less : count_of x.geometry x.content ≤ greatest_sectors x.geometry = omega (arith, at_most, count) in
        inr (record {
          table = table;
          valid = sym (images_valid x.content) ∙ parts.0;
          at_most = less;
          planned = is ∙ new_swap_is x.rules.grain x.geometry (images_of x.content) kind (larger_size x.content) (count_of x.geometry x.content) parts.0 (images_larger x.content) refl less;
        })

pub rests_or_wants : (x : PowerOn) → is_at_rest (trailer_of x.geometry x.content Primary) ≡ true → RestsOrWants x
rests_or_wants x rest = go (is_resumed x.rules.profile x.geometry x.content) refl
  where
    planned : {kind : SwapType} → is_resumed x.rules.profile x.geometry x.content ≡ false → table_of x.rules.profile x.geometry x.content ≡ kind
        → plan x ≡ new_plan x.rules.grain x.geometry (images_of x.content) kind
    planned not_on at = plan_new x not_on ∙ ap (new_plan x.rules.grain x.geometry (images_of x.content)) at

    by : (kind : SwapType) → is_resumed x.rules.profile x.geometry x.content ≡ false → table_of x.rules.profile x.geometry x.content ≡ kind → RestsOrWants x
    by kinds.None not_on at = inl (record { kind = kinds.None; either = inl refl; planned = planned not_on at })
    by kinds.Test not_on at = elim (asked_or_fails x kinds.Test at (planned not_on at)) [ inl idle ↦ inl idle | inr wants ↦ inr (inl wants) ]
    by kinds.Perm not_on at = elim (asked_or_fails x kinds.Perm at (planned not_on at)) [ inl idle ↦ inl idle | inr wants ↦ inr (inr (inl wants)) ]
    by kinds.Revert not_on at = elim (asked_or_fails x kinds.Revert at (planned not_on at)) [ inl idle ↦ inl idle | inr wants ↦ inr (inr (inr wants)) ]
    by kinds.Fail not_on at = absurd ((types_are_rows x.rules.profile (trailer_of x.geometry x.content Primary) (trailer_of x.geometry x.content Secondary) kinds.Fail).0 at)
    by kinds.Panic not_on at = absurd ((types_are_rows x.rules.profile (trailer_of x.geometry x.content Primary) (trailer_of x.geometry x.content Secondary) kinds.Panic).0 at)

    go : (b : Bool) → is_resumed x.rules.profile x.geometry x.content ≡ b → RestsOrWants x
    go true on =
        let q = trailer_of x.geometry x.content Secondary in
        inl (record {
          kind = kinds.None;
          either = inl refl;
          planned = grind (arith, plan_resumed, resumed_none, no_swap, rest);
        })
    go false not_on = by (table_of x.rules.profile x.geometry x.content) not_on refl

-- a type other than none and fail is that of a swap
pub swap_sectors : (x : PowerOn) (kind : SwapType) → is_at_rest (trailer_of x.geometry x.content Primary) ≡ true → (plan x).kind ≡ kind → kind ≢ kinds.None → kind ≢ kinds.Fail
    → ((plan x).sectors ≡ count_of x.geometry x.content) × ((plan x).sectors ≤ greatest_sectors x.geometry)
swap_sectors x kind rest is some made = go (rests_or_wants x rest)
  where
    by : (k : SwapType) → Wants x k → ((plan x).sectors ≡ count_of x.geometry x.content) × ((plan x).sectors ≤ greatest_sectors x.geometry)
    by k wants = let same = ap (λ (p : Plan). p.sectors) wants.planned in let at_most = wants.at_most in (same, omega (arith, same, at_most))

    go : RestsOrWants x → ((plan x).sectors ≡ count_of x.geometry x.content) × ((plan x).sectors ≤ greatest_sectors x.geometry)
    go (inl idle) =
        let same : kind ≡ idle.kind = sym is ∙ ap (λ (p : Plan). p.kind) idle.planned in
        absurd (elim idle.either [ inl e ↦ some (same ∙ e) | inr e ↦ made (same ∙ e) ])
    go (inr (inl wants)) = by kinds.Test wants
    go (inr (inr (inl wants))) = by kinds.Perm wants
    go (inr (inr (inr wants))) = by kinds.Revert wants

pub none_idle : (x : PowerOn) → is_at_rest (trailer_of x.geometry x.content Primary) ≡ true → (plan x).kind ≡ kinds.None → (plan x).list ≡ []
none_idle x rest none = go (rests_or_wants x rest)
  where
    go : RestsOrWants x → (plan x).list ≡ []
    go (inl idle) = ap (λ (p : Plan). p.list) idle.planned
    go (inr (inl wants)) = let e : kinds.None ≡ kinds.Test = sym none ∙ ap (λ (p : Plan). p.kind) wants.planned in absurd cc
    go (inr (inr (inl wants))) = let e : kinds.None ≡ kinds.Perm = sym none ∙ ap (λ (p : Plan). p.kind) wants.planned in absurd cc
    go (inr (inr (inr wants))) = let e : kinds.None ≡ kinds.Revert = sym none ∙ ap (λ (p : Plan). p.kind) wants.planned in absurd cc

-- What a device at rest will do, by what its trailers ask for and what its secondary begins with.

-- ---- what is asked for

rows : (gq uq sq gp rv up cp : Bool) → (gq ≡ true → rv ≡ false)
    → (if gq && uq then kinds.Test else if gq && sq then kinds.Perm else if gp && rv && up && cp then kinds.Revert else kinds.None)
    ≡ (if gq then (if uq then kinds.Test else if sq then kinds.Perm else kinds.None) else if (gp && up && cp) && rv then kinds.Revert else kinds.None)
rows gq uq sq gp rv up cp apart = grind (arith, apart)

-- ---- whether it can be done

pub few_small : (g : Geometry) (x : ℕ) → IsLayout g → div_ceil x g.sector ≤ greatest_sectors g → x ≤ greatest_sectors g * g.sector
few_small g x ok at_most =
    let rows : x ≤ div_ceil x g.sector * g.sector = (div_ceil_times x g.sector (omega arith)).0 in
    grind (arith, mul-le-mul_right, at_most, rows)

small_few : (g : Geometry) (x : ℕ) → IsLayout g → x ≤ greatest_sectors g * g.sector → div_ceil x g.sector ≤ greatest_sectors g
small_few g x ok small = elim (cases_lt (greatest_sectors g) (div_ceil x g.sector)) [
  | inr at_most ↦ at_most
  | inl more ↦ absurd (
      let rows = (div_ceil_times x g.sector (omega arith)).1 in
      let most : (greatest_sectors g + 1) * g.sector ≤ div_ceil x g.sector * g.sector = mul-le-mul_right g.sector (omega (arith, more)) in
      omega (arith, rows, most, small)
      )
]

not_below : (m n : ℕ) → m ≤ n → nat_lt n m ≡ false
not_below m n h = grind (arith, nat_tests)

below : (m n : ℕ) → n < m → nat_lt n m ≡ true
below m n h = grind (arith, nat_tests)

pub both_true : (v f : Bool) → v ≡ true → f ≡ true → (v && f) ≡ true
both_true v f e h = rw e (rw h refl)

-- the test of a plan is that the swap can be made
module _ (g : Geometry) (ok : IsLayout g) (s : Content) (rest : AtRest g s) where
  counts : (f : Bool) → fits g (image_size s.secondary) ≡ f → nat_lt (greatest_sectors g) (div_ceil (larger_size s) g.sector) ≡ not f
  counts true fit =
      let at_most = few_small g (image_size s.secondary) ok (fits_few g (image_size s.secondary) ok fit) in
      grind (arith, rest, at_most, not_below, larger_size, small_few)
  counts false none = elim (cases_lt (greatest_sectors g) (div_ceil (larger_size s) g.sector)) [
    | inl more ↦ below (div_ceil (larger_size s) g.sector) (greatest_sectors g) more
    | inr at_most ↦ absurd (
        let small = few_small g (larger_size s) ok at_most in
        let fit : fits g (image_size s.secondary) ≡ true = grind (arith, small_few g (image_size s.secondary) ok (omega (arith, small))) in
        cc
        )
  ]

  pub fails_unless : (not (images_of s).valid || nat_lt (greatest_sectors g) (div_ceil (images_of s).size g.sector)) ≡ not (can_swap g s.secondary)
  unfolding images_of
  fails_unless = go (is_valid s.secondary) (fits g (image_size s.secondary)) refl refl
    where
      go : (v f : Bool) → is_valid s.secondary ≡ v → fits g (image_size s.secondary) ≡ f
          → (not (is_valid s.secondary) || nat_lt (greatest_sectors g) (div_ceil (larger_size s) g.sector)) ≡ not (is_valid s.secondary && fits g (image_size s.secondary))
      go false f no_ fit = rw no_ refl
      go true f is fit = rw (is, fit) (counts f fit)

-- ---- the next boot

not_set : (f : Flag) → is_unset f ≡ true → is_set f ≡ false
not_set f is = grind arith

module _ (r : Rules) (g : Geometry) (ok : IsLayout g) (s : Content) (rest : AtRest g s) where
  pub next_is : (plan (power_on r g s)).kind ≡ done_or_fails (asked_of r.profile (is_on_trial (trailer_of g s Primary)) (trailer_of g s Secondary)) (can_swap g s.secondary)
  next_is = go (is_resumed r.profile g s) refl
    where
      table : table_of r.profile g s ≡ asked_of r.profile (is_on_trial (trailer_of g s Primary)) (trailer_of g s Secondary)
      table = grind arith

      by : (kind : SwapType) → table_of r.profile g s ≡ kind → (new_plan r.grain g (images_of s) kind).kind ≡ done_or_fails kind (can_swap g s.secondary)
      by kinds.None at = refl
      by kinds.Test at = rw (fails_unless g ok s rest) (grind arith)
      by kinds.Perm at = rw (fails_unless g ok s rest) (grind arith)
      by kinds.Revert at = rw (fails_unless g ok s rest) (grind arith)
      by kinds.Fail at = absurd ((types_are_rows r.profile (trailer_of g s Primary) (trailer_of g s Secondary) kinds.Fail).0 at)
      by kinds.Panic at = absurd ((types_are_rows r.profile (trailer_of g s Primary) (trailer_of g s Secondary) kinds.Panic).0 at)

      go : (b : Bool) → is_resumed r.profile g s ≡ b
          → (plan (power_on r g s)).kind ≡ done_or_fails (asked_of r.profile (is_on_trial (trailer_of g s Primary)) (trailer_of g s Secondary)) (can_swap g s.secondary)
      go true on =
          let p = trailer_of g s Primary in
          let q = trailer_of g s Secondary in
          let parts : (is_unset p.copy_done ≡ true) × (asks_another r.profile p q ≡ false) = grind (arith, on) in
          let none : asked_of r.profile (is_on_trial p) q ≡ kinds.None = grind (arith, parts.1, not_set p.copy_done parts.0) in
          let planned = plan_resumed (power_on r g s) on
          ∙ resumed_none r.grain g p (highest_entry g s) (no_swap (is_good p.magic) (is_unset p.copy_done) (is_swap p.swap_info) (not (asks_another r.profile p q)) rest.rest on) in
          ap (λ (x : Plan). x.kind) planned ∙ ap (λ k. done_or_fails k (can_swap g s.secondary)) (sym none)
      go false not_on =
          ap (λ (x : Plan). x.kind) (plan_new (power_on r g s) not_on) ∙ by (table_of r.profile g s) refl ∙ ap (λ k. done_or_fails k (can_swap g s.secondary)) table
