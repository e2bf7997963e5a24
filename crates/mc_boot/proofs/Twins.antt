-- An operation that copies into the sector which the next boot erases first, or erases one that is erased: the same boot begins before it
-- and after it.
use Rattle.std.proofs.{Common.{ap, arith, inl, inr, subst, sym, ◌∙◌}, Math.Nat.{mul-le-mul_right}, lemmas.Bool.{cases_Bool}}
use Rattle.std.specs.Int.{div_ceil}
use Rattle.std.specs.Prelude.{Bool, List, None, Some, [], false, if◌then◌else◌, length, nat_lt, not, option_map, refl, slice_get, suc, take, true, zero, ℕ, ◌*◌, ◌++◌, ◌+◌, ◌-◌, ◌<◌, ◌∷◌, ◌≡◌, ◌≤◌, ◌||◌}
use Rattle.mc_boot.proofs.{CourseJoins.{sectors_pieces}, Courses.{get_prefix, some_trailer}, Erased.{blank_noop, erased_here}, Meets.{Fit, SameOutside, blank_same, erase_in, op_outside}, Sections.{get_erase}}
use Rattle.mc_boot.specs.{Boot.{HasCome, Progress, leapt, stepped}, Copies.{AreCopies, whole_copy}, Outcome.{applied, at, happening, is_faulted, left_by, ops_of, outcome_of, report}}
use Rattle.mc_boot.specs.Plan.{Plan, PowerOn, again, images_of, is_revert, new_plan, new_swap, plan, plan_with, trailer_erase, trailer_erases}
use Rattle.mc_boot.specs.{Twins.{BeginAlike, ErasesFirst, HasTwin}, declared.image.Images.{Images}, declared.transfer.Copies.{Copies}, facts.Leaps.{come_part, part_is}, facts.Run.{come_at, come_next, next_happens}, inner.Idle.{changes_nothing}, inner.Meets.{Sector, WritesIn, erase_of}}
use Rattle.mc_flash.specs.{Flash.{CanTry, Content, IsSized, apply, byte, bytes_of, sectors_of, size_of}, Geometry.{Geometry, IsLayout, greatest_sectors, in_pieces, trailer_bytes, trailer_sectors}}
use Rattle.mc_flash.specs.{declared.flash.Grain.{Grain}, declared.op.Op.{Op}, declared.op.Op.TheVariants.{Copy, Erase}, declared.op.Slot.{Slot}}
use Rattle.mc_flash.specs.{declared.op.Slot.TheVariants.{Primary, Secondary}, facts.Changes.{sized_is}, facts.Layouts.{data_before_trailer, data_end, data_sectors, sector_inside, trailer_leaves_one}}
use Rattle.mc_trailer.specs.{Tables.{is_resumed, table_of}, Trailer.{greatest, is_written, trailer_of}}
use Rattle.mc_trailer.specs.{declared.tables.Rules.{Rules}, declared.tables.SwapType.{SwapType}}
use Rattle.mc_trailer.specs.{facts.Entries.{entries_same, same_entry}, facts.Fields.{field_same, same_trailer}}
use Rattle.mc_flash.specs.declared.flash.Grain.TheVariants as grains
use Rattle.mc_trailer.specs.declared.tables.SwapType.TheVariants as kinds

-- A boot whose first operation erases a sector that holds no trailer goes on with a swap.

one_erase : (slot o : Slot) (i j : ℕ) → Some (Erase o j) ≡ Some (Erase slot i) → (o ≡ slot) × (j ≡ i)
one_erase slot o i j is = (cc, cc)

trailer_first : (g l : Geometry) (slot o : Slot) (i : ℕ) (rest : List Op) → IsLayout g → trailer_sectors l ≡ trailer_sectors g → sectors_of l o ≡ sectors_of g o
    → slice_get (trailer_erases l o ++ rest) 0 ≡ Some (Erase slot i) → data_sectors g slot ≤ i
trailer_first g l slot o i rest ok count same is =
    let first = get_prefix (trailer_erases l o) rest 0 (trailer_erase l o 0) (get_erase l o 0 (omega (arith, some_trailer g ok, count))) in
    let e = one_erase slot o i (sectors_of l o - 1 - 0) (sym first ∙ is) in
    let leaves = trailer_leaves_one g o ok in
    subst (λ x. data_sectors g x ≤ i) e.0 (omega (arith, e.1, same, leaves, some_trailer g ok))

count_pieces : (c : Grain) (g : Geometry) → trailer_sectors (in_pieces c g) ≡ trailer_sectors g
count_pieces grains.Call g = refl
count_pieces grains.Unit g = refl

-- Either list of a swap from its start.
list_first : (c : Grain) (g : Geometry) (slot : Slot) (i : ℕ) (b : Bool) (one two : List Op) → IsLayout g
    → slice_get (if b then trailer_erases (in_pieces c g) Secondary ++ one else trailer_erases (in_pieces c g) Primary ++ two) 0 ≡ Some (Erase slot i) → data_sectors g slot ≤ i
list_first c g slot i true one two ok is = trailer_first g (in_pieces c g) slot Secondary i one ok (count_pieces c g) (sectors_pieces c g Secondary) is
list_first c g slot i false one two ok is = trailer_first g (in_pieces c g) slot Primary i two ok (count_pieces c g) (sectors_pieces c g Primary) is

swap_first : (c : Grain) (g : Geometry) (images : Images) (kind : SwapType) (slot : Slot) (i : ℕ) → IsLayout g → slice_get (new_swap c g images kind).list 0 ≡ Some (Erase slot i)
    → data_sectors g slot ≤ i
swap_first c g images kind slot i ok is = elim (cases_Bool (not images.valid || nat_lt (greatest_sectors g) (div_ceil images.size g.sector))) [
  | inl fails ↦ let none : None ≡ Some (Erase slot i) = rw fails at is in absurd cc
  | inr goes ↦ list_first c g slot i (is_revert kind) _ _ ok (rw goes at is)
]

new_first : (c : Grain) (g : Geometry) (images : Images) (kind : SwapType) (slot : Slot) (i : ℕ) → IsLayout g → slice_get (new_plan c g images kind).list 0 ≡ Some (Erase slot i)
    → data_sectors g slot ≤ i
new_first c g images kinds.None slot i ok is = absurd cc
new_first c g images kinds.Test slot i ok is = swap_first c g images kinds.Test slot i ok is
new_first c g images kinds.Perm slot i ok is = swap_first c g images kinds.Perm slot i ok is
new_first c g images kinds.Revert slot i ok is = swap_first c g images kinds.Revert slot i ok is
new_first c g images kinds.Fail slot i ok is = absurd cc
new_first c g images kinds.Panic slot i ok is = absurd cc

pub goes_on : (x : PowerOn) (u : Content) (slot : Slot) (i : ℕ) → IsLayout x.geometry → slice_get (plan (again x u)).list 0 ≡ Some (Erase slot i) → i < data_sectors x.geometry slot
    → is_resumed x.rules.profile x.geometry u ≡ true
unfolding plan plan_with
goes_on x u slot i ok first below = elim (cases_Bool (is_resumed x.rules.profile x.geometry u)) [
  | inl is ↦ is
  | inr no_ ↦ absurd (omega (arith, below, new_first x.rules.grain x.geometry (images_of u) (table_of x.rules.profile x.geometry u) slot i ok (rw no_ at first)))
]

-- Contents that differ in a sector that holds no trailer.
module _ (g : Geometry) (e : Sector) (u t : Content) (ok : IsLayout g) (sized : IsSized g u) (below : e.index < data_sectors g e.slot) (same : SameOutside g (e ∷ []) u t) where
  pub sized_too : IsSized g t
  sized_too = record { primary = same.sizes Primary ∙ sized.primary; secondary = same.sizes Secondary ∙ sized.secondary }

  beyond : (o : Slot) (i : ℕ) → size_of g o ≤ i + trailer_bytes g → byte t o i ≡ byte u o i
  beyond o i late = same.bytes o i (λ index. elim [
    | inl is ↦
        let before : (e.index + 1) * g.sector ≤ data_end g e.slot = mul-le-mul_right g.sector (omega (arith, below)) in
        let end = data_before_trailer g e.slot ok in
        inr (rw is.1 (omega (arith, before, end, rw is.0 at late)))
    | inr none ↦ absurd none
  ])

  trailer_same : (o : Slot) → trailer_of g t o ≡ trailer_of g u o
  trailer_same o = same_trailer g u t o ok sized sized_too (λ f. field_same g u t o f ok (λ i late. beyond o i (omega (arith, late))))

  written_same : (n : ℕ) → n ≤ 3 * g.max_sectors → greatest (is_written g t) n ≡ greatest (is_written g u) n
  written_same zero le = refl
  written_same (suc n) le =
      let here : is_written g t n ≡ is_written g u n =
      same_entry g u t n ok sized sized_too (omega (arith, le)) (entries_same g u t ok (λ i late early. beyond Primary i late) n (omega (arith, le))) in
      rw here (rw (written_same n (omega (arith, le))) refl)

  -- The plan of a swap that goes on is the same.
  pub same_plan : (r : Rules) → is_resumed r.profile g u ≡ true → plan (record { rules = r; geometry = g; content = t }) ≡ plan (record { rules = r; geometry = g; content = u })
  unfolding plan plan_with
  same_plan r resumed =
      let one = trailer_same Primary in
      let two = trailer_same Secondary in
      let highest = written_same (3 * g.max_sectors) (omega arith) in
      let too : is_resumed r.profile g t ≡ true = rw (one, two) resumed in
      rw (too, resumed, one, highest) refl

-- What a list does that begins with erasing a sector is the same where contents are once that is erased.
module _ (g : Geometry) (e : Sector) (u t : Content) (same : erase_in g t e ≡ erase_in g u e) where
  first_same : (rest : List Op) → happening g (erase_of e ∷ rest) t ≡ happening g (erase_of e ∷ rest) u
  unfolding apply
  first_same rest = ap (λ s. erase_of e ∷ happening g rest s) same

  later_same : (i : ℕ) (rest : List Op) → applied g (take (suc i) (erase_of e ∷ rest)) t ≡ applied g (take (suc i) (erase_of e ∷ rest)) u
  unfolding apply
  later_same i rest = ap (applied g (take i rest)) same

begins_with : (ops : List Op) (op : Op) → slice_get ops 0 ≡ Some op → (rest : List Op) × (ops ≡ op ∷ rest)
begins_with [] op is = absurd cc
begins_with (x ∷ ops) op is = (ops, cc)

-- The boots from both begin alike.
module _ (x : PowerOn) (u t : Content) (e : Sector) (same : erase_in x.geometry t e ≡ erase_in x.geometry u e) (plans : plan (again x u) ≡ plan (again x t))
    (first : slice_get (plan (again x u)).list 0 ≡ Some (erase_of e)) where
  rest_is : (rest : List Op) × ((plan (again x u)).list ≡ erase_of e ∷ rest)
  rest_is = begins_with (plan (again x u)).list (erase_of e) first

  abbrev more : List Op
  more = happening x.geometry rest_is.0 (erase_in x.geometry u e)

  ops_are : ops_of (again x u) ≡ erase_of e ∷ more
  unfolding ops_of apply
  ops_are = ap (λ (l : List Op). happening x.geometry l u) rest_is.1

  ops_same : ops_of (again x u) ≡ ops_of (again x t)
  unfolding ops_of
  ops_same =
      ap (λ (l : List Op). happening x.geometry l u) rest_is.1
      ∙ sym (first_same x.geometry e u t same rest_is.0)
      ∙ sym (ap (λ (l : List Op). happening x.geometry l t) (ap (λ (p : Plan). p.list) (sym plans) ∙ rest_is.1))

  later : (i : ℕ) → at (again x u) (suc i) ≡ at (again x t) (suc i)
  unfolding at
  later i =
      ap (λ (l : List Op). applied x.geometry (take (suc i) l) u) ops_are
      ∙ sym (later_same x.geometry e u t same i more)
      ∙ ap (λ (l : List Op). applied x.geometry (take (suc i) l) t) (sym ops_are ∙ ops_same)

  left : left_by (again x u) ≡ left_by (again x t)
  unfolding left_by
  left =
      let some = ap (λ (l : List Op). length l) ops_are in
      ap (at (again x u)) some ∙ later (length more) ∙ ap (at (again x t)) (sym some ∙ ap (λ (l : List Op). length l) ops_same)

  faulted : is_faulted (again x u) ≡ is_faulted (again x t)
  unfolding is_faulted
  faulted = ap (λ (l : List Op). nat_lt (length l) (length (plan (again x u)).list)) ops_same ∙ ap (λ (p : Plan). nat_lt (length (ops_of (again x t))) (length p.list)) plans

  outcome : outcome_of (again x u) ≡ outcome_of (again x t)
  unfolding outcome_of
  outcome =
      ap (λ (p : Plan). option_map (report x.rules x.geometry p.kind (length (ops_of (again x u))) (is_faulted (again x u))) (left_by (again x u))) plans
      ∙ ap (λ (l : List Op). option_map (report x.rules x.geometry (plan (again x t)).kind (length l) (is_faulted (again x u))) (left_by (again x u))) ops_same
      ∙ ap (λ b. option_map (report x.rules x.geometry (plan (again x t)).kind (length (ops_of (again x t))) b) (left_by (again x u))) faulted
      ∙ ap (option_map (report x.rules x.geometry (plan (again x t)).kind (length (ops_of (again x t))) (is_faulted (again x t)))) left

  pub begin_alike : BeginAlike (again x u) (again x t)
  begin_alike = record { plan_is = plans; ops_are = ops_same; later = later; outcome_is = outcome }

-- A content that a copy leaves which the next boot erases first.
module _ (x : PowerOn) (u t : Content) (ok : IsLayout x.geometry) (sized : IsSized x.geometry u) where
  pub copied_twin : (done : ℕ) (from to : Slot) (source offset len : ℕ) → at x done ≡ Some t → apply x.geometry (Copy from source to offset len) u ≡ Some t
      → ErasesFirst x.geometry (plan (again x u)).list to offset len → HasTwin x u done
  copied_twin done from to source offset len there made erases =
      let g = x.geometry in
      let e : Sector = record { slot = to; index = erases.sector } in
      let op : Op = Copy from source to offset len in
      let writes : WritesIn g (e ∷ []) op = record { index = erases.sector; listed = inl (refl, refl); from = erases.from; to = erases.to } in
      let inside = sector_inside g to erases.sector (omega (arith, erases.below)) in
      let fits : Fit g (e ∷ []) u = (omega (arith, inside, sized_is g u to sized), tt) in
      let differ = op_outside g (e ∷ []) op u t writes fits made in
      let resumed = goes_on x u to erases.sector ok erases.first erases.below in
      record {
        twin = t;
        twin_is = there;
        sized = sized_too g e u t ok sized erases.below differ;
        alike = begin_alike x u t e (blank_same g (e ∷ []) u t fits differ) (sym (same_plan g e u t ok sized erases.below differ x.rules resumed)) erases.first;
      }

-- Operations after which the same boot begins.
module _ (x : PowerOn) (p : Progress) (u : Content) (ok : IsLayout x.geometry) (sized : IsSized x.geometry u) (come : HasCome x p u) where
  pub copies_twin : (c : Copies) (t : Content) → CanTry x.geometry (whole_copy c c.count) → AreCopies p.to_come 0 c.count c → apply x.geometry (whole_copy c c.count) u ≡ Some t
      → ErasesFirst x.geometry (plan (again x u)).list c.to c.offset (c.count * c.len) → (j : ℕ) → 0 < j → j ≤ c.count → HasTwin x u (p.count + j)
  copies_twin c t can are is erases j some le =
      let part = part_is x c p u t sized can are is come j le in
      let there = come_at x (leapt j p) part.0 (come_part x c p u t sized can are is come j part.0 some le part.1) in
      let less : j * c.len ≤ c.count * c.len = mul-le-mul_right c.len le in
      copied_twin x u part.0 ok sized (p.count + j) c.from c.to c.at c.offset (j * c.len) there part.1
      (record { sector = erases.sector; first = erases.first; below = erases.below; from = erases.from; to = omega (arith, erases.to, less) })

  pub copy_twin : p.count < length (ops_of x) → (from to : Slot) (source offset len : ℕ) → slice_get p.to_come 0 ≡ Some (Copy from source to offset len)
      → ErasesFirst x.geometry (plan (again x u)).list to offset len → HasTwin x u (p.count + 1)
  copy_twin early from to source offset len next erases =
      let op : Op = Copy from source to offset len in
      let rest = begins_with p.to_come op next in
      let made = next_happens x p u op rest.0 come rest.1 early in
      copied_twin x u made.0 ok sized (p.count + 1) from to source offset len (come_at x (stepped p rest.0) made.0 (come_next x p u made.0 op rest.0 come rest.1 made.1)) made.1 erases

  pub erase_twin : (slot : Slot) (sector : ℕ) → slice_get p.to_come 0 ≡ Some (Erase slot sector) → sector < sectors_of x.geometry slot
      → changes_nothing x.geometry u (Erase slot sector) ≡ true → HasTwin x u (p.count + 1)
  unfolding apply
  erase_twin slot sector next below idle =
      let g = x.geometry in
      let e : Sector = record { slot = slot; index = sector } in
      let rest = begins_with p.to_come (Erase slot sector) next in
      let inside = sector_inside g slot sector below in
      let ends : sector * g.sector + g.sector ≤ length (bytes_of u slot) = omega (arith, inside, sized_is g u slot sized) in
      let same : apply g (Erase slot sector) u ≡ Some u = ap (λ (s : Content). Some s) (blank_noop g (e ∷ []) u (ends, tt) (erased_here g u e ends idle, tt)) in
      record {
        twin = u;
        twin_is = come_at x (stepped p rest.0) u (come_next x p u u (Erase slot sector) rest.0 come rest.1 same);
        sized = sized;
        alike = record { plan_is = refl; ops_are = refl; later = λ i. refl; outcome_is = refl };
      }
