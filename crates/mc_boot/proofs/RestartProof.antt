-- The restart theorem, its second round, and the plan of a test all of whose operations happen.
use Rattle.std.proofs.{Common.{ap, arith, inl, inr, subst, sym, ◌∙◌}, Math.Nat.{mul-le-mul_right}, lemmas.Bool.Decides.{nat_tests}, lemmas.Grind.{div_ceil_times}}
use Rattle.std.specs.{Int.{div_ceil}, Prelude.{Bool, List, Some, [], false, if◌then◌else◌, length, max, refl, take, true, ℕ, ◌*◌, ◌≡◌, ◌≢◌, ◌≤◌, ◌⊎◌}}
use Rattle.mc_boot.proofs.{AtRest.{AtRest, both_true, next_is, none_idle, swap_sectors}, DeliveredStarts.{starts_law, test_delivered}}
use Rattle.mc_boot.proofs.{FromRest.{at_rest_uncut, rest_law, settled_stays, unmarked_stays}, Images.{ImageLaws, SameImage, image_prefix, same_prefixes, same_then}, InPieces.{asked_pieces}}
use Rattle.mc_boot.proofs.{Joins.{happens_few}, Keeps.{Ends, boots_so, place_beyond_data}, LifeProof.{Written, confirmed_written, predicts, rests_delivered}}
use Rattle.mc_boot.proofs.Phases.{asked, flag_is, larger_size, plan_asked, plan_none, sees_images, starting}
use Rattle.mc_boot.proofs.Starts.{Holding, count_of, perm_asked, perm_holds, placed_holds, placed_unasked, primary_image, secondary_image, swap_held, test_asked, test_holds}
use Rattle.mc_boot.proofs.Tears.{Stands, cuts_losing, cutting, stands_ends, withstands}
use Rattle.mc_boot.specs.{Life.{DeviceState, EndsWell, Forgets, IsDelivered, Leaves, LeavesBytes, asked_of, can_swap, done_or_fails, is_on_trial}, Outcome.{after, is_faulted, left_by, ops_of}}
use Rattle.mc_boot.specs.Plan.{Plan, PowerOn, again, image_size, new_list, nothing, plain, plan, power_on}
use Rattle.mc_boot.specs.Restart.{AreBack, AreExchanged, BeginsImage, EndsAgain, EndsIn, Holds, IsIdle, IsSettled, IsSwapped, IsTested, RestartLaw, RoundsLaw, StartsExist, confirmed, confirmed_if, forgets_reverts, image_bytes, may_confirm, named, other, perm_flash, placed, start_flash, test_flash}
use Rattle.mc_boot.specs.{Torn.{type_of}, WholeSwap.{MakesSwap}, declared.kind.Kind.{Kind}, facts.Run.{left_defined}}
use Rattle.mc_flash.specs.{Flash.{Content}, Geometry.{Geometry, IsLayout, fits, greatest_sectors, in_pieces}, declared.flash.Grain.{Grain}, declared.op.Op.{Op}}
use Rattle.mc_flash.specs.{declared.op.Slot.TheVariants.{Primary, Secondary}, facts.Changes.{same_content, sized_is}, facts.Layouts.{data_end, image_is_data}}
use Rattle.mc_image.specs.Valid.{is_valid}
use Rattle.mc_trailer.specs.{Tables.{is_good}, Trailer.{place, trailer_of}, declared.tables.Profile.{Profile}, declared.tables.Rules.{Rules}, declared.tables.SwapType.{SwapType}}
use Rattle.mc_trailer.specs.{declared.trailer.Trailer.{Trailer}, facts.Fields.{FieldsAre, reads_absent, reads_good}, facts.Places.{field_ends}}
use lib.Seq.{take-take}
use Rattle.mc_trailer.specs.declared.places.Field.TheVariants as field
use Rattle.mc_trailer.specs.declared.trailer.Flag.TheVariants as flags
use Rattle.mc_flash.specs.declared.flash.Grain.TheVariants as grains
use Rattle.mc_trailer.specs.declared.tables.SwapType.TheVariants as kinds
use Rattle.mc_trailer.specs.declared.trailer.Magic.TheVariants as magics
use Rattle.mc_trailer.specs.declared.tables.Profile.TheVariants as profiles
use Rattle.mc_boot.specs.declared.kind.Kind.TheVariants as starts

-- The restart law: what the life law says of the flashes that two images start from.

-- the same image, whole
pub held_whole : (a xs : List ℕ) → SameImage a xs → Holds a xs
held_whole a xs same = record { id = same.id; whole = same.prefix }

-- no swap
pub idle_at : (r : Rules) (g : Geometry) (a b : List ℕ) → ImageLaws → IsLayout g → BeginsImage g a → BeginsImage g b
    → plan (power_on r g (placed g (image_bytes a) (image_bytes b))) ≡ nothing kinds.None
idle_at r g a b laws ok at_a at_b =
    let sized = (placed_holds g a b laws ok at_a at_b).sized in
    plan_none (power_on r g (placed g (image_bytes a) (image_bytes b)))
    (reads_absent g (placed g (image_bytes a) (image_bytes b)) Primary ok sized (placed_unasked g a b Primary laws ok at_a at_b field.Magic))
    (reads_absent g (placed g (image_bytes a) (image_bytes b)) Secondary ok sized (placed_unasked g a b Secondary laws ok at_a at_b field.Magic))

-- A flash whose boot has no operation: no cut can occur, and it stays.
module _ (from : PowerOn) (idle : (plan from).list ≡ []) where
  rests : (s : Content) → s ≡ from.content → Stands cutting from.geometry (λ t. t ≡ from.content) (plan (again from s)).list s (λ t. t ≡ from.content)
  rests s same =
      let E : List Op → Type 0 = λ ops. Stands cutting from.geometry (λ t. t ≡ from.content) ops s (λ t. t ≡ from.content) in
      subst E (sym (ap (λ x. (plan (again from x)).list) same ∙ idle)) same

  end : (z : Content) × Ends from.rules from.geometry (λ t. t ≡ from.content) from.content z
  end = stands_ends cutting from.rules from.geometry (λ t. t ≡ from.content) (λ t. t ≡ from.content) from.content (rests from.content refl)

  pub uncut : (u : Content) (cuts : List ℕ) → after from cuts ≡ Some u → u ≡ from.content
  uncut u cuts is = withstands cutting from.rules from.geometry (λ t. t ≡ from.content) (λ s t. t ≡ from.content) rests cuts from.content u refl (cuts_losing cutting from cuts u is)

  pub idle_leaves : left_by from ≡ Some from.content
  idle_leaves = end.1.end ∙ ap (λ (t : Content). Some t) end.1.so

  -- What holds there is what its boot ends in.
  pub idle_ends : (kind : Kind) (a b : List ℕ) (s : Content) → (plan from).kind ≡ kinds.None → is_valid from.content.primary ≡ true → Holds (named kind a b) from.content.primary
      → Holds (other kind a b) from.content.secondary
      → IsSwapped (again from s) kind from.content from.content → EndsIn (again from s) kind a b from.content from.content
  idle_ends kind a b s none valid one two swapped =
      let end_ = end in
      grind (arith, idle_leaves, boots_so)

-- ---- flashes that two images start from

-- the image stands wherever so many bytes are the same
pub same_in_prefix : (g : Geometry) (b ys zs : List ℕ) (m : ℕ) → ImageLaws → BeginsImage g b → SameImage b ys → image_size ys ≤ m → take m zs ≡ take m ys → SameImage b zs
same_in_prefix g b ys zs m laws at_b same most is =
    let less : image_size b ≤ m = let size = same.size in omega (arith, size, most) in
    image_prefix b zs laws at_b.bytes at_b.valid (sym (take-take (image_size b) m zs less) ∙ ap (take (image_size b)) is ∙ take-take (image_size b) m ys less ∙ same.prefix)

-- At rest, with the images of a and b in the slots, and a boot of this type is next.
pub record Begins (r : Rules) (g : Geometry) (kind : SwapType) (a b : List ℕ) (s : Content) : Type 0 where
  pub rest : AtRest g s
  pub next : (plan (power_on r g s)).kind ≡ kind
  pub primary : SameImage a s.primary
  pub secondary : SameImage b s.secondary

module _ (laws : ImageLaws) (r : Rules) (g : Geometry) (a b : List ℕ) (ok : IsLayout g) (at_a : BeginsImage g a) (at_b : BeginsImage g b) where
  -- the images of a swap are in its sectors
  module _ (kind : SwapType) (s : Content) (some : kind ≢ kinds.None) (made : kind ≢ kinds.Fail) (begins : Begins r g kind a b s) where
    larger_inside : larger_size s ≤ (plan (power_on r g s)).sectors * g.sector
    larger_inside =
        let count = (swap_sectors (power_on r g s) kind begins.rest.rest begins.next some made).0 in
        let most : larger_size s ≤ count_of g s * g.sector = (div_ceil_times (larger_size s) g.sector (omega arith)).0 in
        let rows : (plan (power_on r g s)).sectors * g.sector ≡ count_of g s * g.sector = ap (λ n. n * g.sector) count in
        omega (arith, most, rows)

    pub first_in : (zs : List ℕ) → take ((plan (power_on r g s)).sectors * g.sector) zs ≡ take ((plan (power_on r g s)).sectors * g.sector) s.primary → SameImage a zs
    first_in zs = same_in_prefix g a s.primary zs ((plan (power_on r g s)).sectors * g.sector) laws at_a begins.primary (let inside = larger_inside in omega (arith, inside))

    pub second_in : (zs : List ℕ) → take ((plan (power_on r g s)).sectors * g.sector) zs ≡ take ((plan (power_on r g s)).sectors * g.sector) s.secondary → SameImage b zs
    second_in zs = same_in_prefix g b s.secondary zs ((plan (power_on r g s)).sectors * g.sector) laws at_b begins.secondary (let inside = larger_inside in omega (arith, inside))

  module _ (s u : Content) (cuts : List ℕ) (is : after (power_on r g s) cuts ≡ Some u) where
    -- no operation
    idle_law : Begins r g kinds.None a b s → (z : Content) × EndsIn (power_on r g s) starts.None a b u z
    idle_law begins =
        let none = none_idle (power_on r g s) begins.rest.rest begins.next in (
          s,
          rw (uncut (power_on r g s) none u cuts is)
              (idle_ends (power_on r g s) none starts.None a b s begins.next begins.primary.valid (held_whole a s.primary begins.primary) (held_whole b s.secondary begins.secondary) none),
        )

    -- a swap
    swap_law : (kind : Kind) (next : SwapType) → named kind a b ≡ b → other kind a b ≡ a → next ≢ kinds.None → next ≢ kinds.Fail
        → ((z : Content) → LeavesBytes r g next (plan (power_on r g s)).sectors s z → AreExchanged g (plan (power_on r g s)).sectors s z × IsSwapped (power_on r g s) kind u z)
        → (next ≡ kinds.Revert → forgets_reverts r.grain r.profile ≡ false) → Begins r g next a b s → (z : Content) × EndsIn (power_on r g s) kind a b u z
    swap_law kind next is_named is_other some made done keeps begins =
        let end = rest_law laws r g ok s begins.rest cutting u cuts (cuts_losing cutting (power_on r g s) cuts u is) in
        (end.0, by end.0 end.1.well end.1.makes)
      where
        by : (z : Content) → EndsWell (power_on r g u) z → Leaves r g s z ⊎ Forgets r g s u z → EndsIn (power_on r g s) kind a b u z
        by z well (inl l) =
            let bytes = done z (rw begins.next at l.bytes) in
            let upper = second_in next s some made begins z.primary bytes.0.primary in
            let lower = first_in next s some made begins z.secondary bytes.0.secondary in
            grind arith
        by z well (inr f) = let e : true ≡ false = sym f.rules ∙ keeps (sym begins.next ∙ f.next) in absurd cc

    pub revert_law : (forgets_reverts r.grain r.profile ≡ false) → Begins r g kinds.Revert a b s → (z : Content) × EndsIn (power_on r g s) starts.Revert a b u z
    revert_law keeps = swap_law starts.Revert kinds.Revert refl refl (λ e. cc) (λ e. cc) (λ z bytes. (bytes.0, bytes)) (λ _. keeps)

  -- ---- the starts

  -- what the secondary asks for
  asked_next : (profile : Profile) (trial can e : Bool) (q : Trailer) → q.magic ≡ magics.Good → q.image_ok ≡ (if e then flags.Unset else flags.Set) → can ≡ true
      → done_or_fails (asked_of profile trial q) can ≡ (if e then kinds.Test else kinds.Perm)
  asked_next profile trial can it q good flag is = grind arith

  pub begins_asked : (e : Bool) (s : Content) → IsDelivered g s → Holding g a b s → FieldsAre g s Secondary (asked e) → Begins r g (if e then kinds.Test else kinds.Perm) a b s
  begins_asked e s delivered h are =
      let two = secondary_image g a b s laws ok at_b h in
      let rest = rests_delivered g s ok delivered in
      record {
        rest = rest;
        next = next_is r g ok s rest
            ∙ asked_next r.profile (is_on_trial (trailer_of g s Primary)) (can_swap g s.secondary) e (trailer_of g s Secondary)
            (reads_good g s Secondary ok h.sized (are field.Magic)) (flag_is g s e are)
            (both_true (is_valid s.secondary) (fits g (image_size s.secondary)) two.valid (ap (fits g) two.size ∙ at_b.fitting));
        primary = primary_image g a b s laws ok at_a h;
        secondary = two;
      }

  pub begins_placed : (s : Content) → IsDelivered g s → placed g (image_bytes a) (image_bytes b) ≡ s → Begins r g kinds.None a b s
  begins_placed s delivered start =
      let h = placed_holds g a b laws ok at_a at_b in
      rw (← start) (record {
        rest = rests_delivered g (placed g (image_bytes a) (image_bytes b)) ok (rw (← start) at delivered);
        next = ap (λ (p : Plan). p.kind) (idle_at r g a b laws ok at_a at_b);
        primary = primary_image g a b (placed g (image_bytes a) (image_bytes b)) laws ok at_a h;
        secondary = secondary_image g a b (placed g (image_bytes a) (image_bytes b)) laws ok at_b h;
      })

-- What the first profile takes back, each does.
reverts_too : (profile : Profile) (trial can : Bool) (q : Trailer) → done_or_fails (asked_of profiles.One trial q) can ≡ kinds.Revert
    → done_or_fails (asked_of profile trial q) can ≡ kinds.Revert
reverts_too profile trial can q is = grind arith

module _ (laws : ImageLaws) (r : Rules) (g : Geometry) (a b : List ℕ) (ok : IsLayout g) (at_a : BeginsImage g a) (at_b : BeginsImage g b) where
  -- What a test of the exchanged images leaves, by whatever rules, waits to be taken back.
  pub begins_revert : (s x : Content) → AtRest g x → Begins r g kinds.Test b a s → AreExchanged g (plan (power_on r g s)).sectors s x → IsTested (power_on r g x) → (p : Rules)
      → ((plan (power_on r g x)).kind ≡ kinds.Revert → (plan (power_on p g x)).kind ≡ kinds.Revert) → Begins p g kinds.Revert a b x
  begins_revert s x rest begins are tested p too = record {
    rest = rest;
    next = too tested.next;
    primary = second_in laws r g b a ok at_b at_a kinds.Test s (λ e. cc) (λ e. cc) begins x.primary are.primary;
    secondary = first_in laws r g b a ok at_b at_a kinds.Test s (λ e. cc) (λ e. cc) begins x.secondary are.secondary;
  }

  by_any : (x : Content) → AtRest g x → (plan (power_on plain g x)).kind ≡ kinds.Revert → (plan (power_on r g x)).kind ≡ kinds.Revert
  by_any x rest is = grind (arith, next_is, reverts_too)

-- the starts of a test and of an upgrade
module _ (laws : ImageLaws) (r : Rules) (g : Geometry) (a b : List ℕ) (s : Content) (ok : IsLayout g) (at_a : BeginsImage g a) (at_b : BeginsImage g b) (is : IsDelivered g s) where
  pub test_begins : test_flash g (image_bytes a) (image_bytes b) ≡ s → Begins r g kinds.Test a b s
  test_begins start =
      let from : Holding g a b s × FieldsAre g s Secondary (asked true) = rw (← start) (test_holds g a b laws ok at_a at_b, test_asked g a b laws ok at_b) in
      begins_asked laws r g a b ok at_a at_b true s is from.0 from.1

  pub perm_begins : perm_flash g (image_bytes a) (image_bytes b) ≡ s → Begins r g kinds.Perm a b s
  perm_begins start =
      let from : Holding g a b s × FieldsAre g s Secondary (asked false) = rw (← start) (perm_holds g a b laws ok at_a at_b, perm_asked g a b laws ok at_b) in
      begins_asked laws r g a b ok at_a at_b false s is from.0 from.1

-- the start of a revert, which a test by the plain rules leaves
pub revert_begins : ImageLaws → (r : Rules) (g : Geometry) (a b : List ℕ) (s : Content) → IsLayout g → BeginsImage g a → BeginsImage g b
    → left_by (power_on plain g (test_flash g (image_bytes b) (image_bytes a))) ≡ Some s → Begins r g kinds.Revert a b s
revert_begins laws r g a b s ok at_a at_b left =
    let from : Content = test_flash g (image_bytes b) (image_bytes a) in
    let begins = test_begins laws plain g b a from ok at_b at_a (test_delivered laws g b a ok at_b at_a) refl in
    let end = rest_law laws plain g ok from begins.rest cutting from [] refl in
    rw (← same_content end.0 s (sym end.1.well.end ∙ left)) (by from begins end.0 (at_rest_uncut plain g end.0 end.1.rests) end.1.makes)
  where
    by : (from : Content) → Begins plain g kinds.Test b a from → (z : Content) → AtRest g z → Leaves plain g from z ⊎ Forgets plain g from from z → Begins r g kinds.Revert a b z
    by from begins z rest (inl l) =
        let bytes = rw begins.next at l.bytes in
        begins_revert laws plain g a b ok at_a at_b from z rest begins bytes.0 bytes.1 r (by_any laws r g a b ok at_a at_b z rest)
    by from begins z rest (inr f) = let e : kinds.Test ≡ kinds.Revert = sym begins.next ∙ f.next in absurd cc

-- each start
pub begins_as : ImageLaws → (r : Rules) (g : Geometry) (kind : Kind) (a b : List ℕ) (s : Content) → IsLayout g → BeginsImage g a → BeginsImage g b → start_flash g kind a b ≡ Some s
    → Begins r g (type_of kind) a b s
unfolding start_flash
begins_as laws r g starts.None a b s ok at_a at_b start =
    begins_placed laws r g a b ok at_a at_b s (starts_law laws g starts.None a b s ok at_a at_b (λ e. cc) start) (same_content (placed g (image_bytes a) (image_bytes b)) s start)
begins_as laws r g starts.Test a b s ok at_a at_b start =
    test_begins laws r g a b s ok at_a at_b (starts_law laws g starts.Test a b s ok at_a at_b (λ e. cc) start) (same_content (test_flash g (image_bytes a) (image_bytes b)) s start)
begins_as laws r g starts.Perm a b s ok at_a at_b start =
    perm_begins laws r g a b s ok at_a at_b (starts_law laws g starts.Perm a b s ok at_a at_b (λ e. cc) start) (same_content (perm_flash g (image_bytes a) (image_bytes b)) s start)
begins_as laws r g starts.Revert a b s ok at_a at_b start = revert_begins laws r g a b s ok at_a at_b start

pub restart_law : ImageLaws → (r : Rules) → RestartLaw r
restart_law laws r g starts.None a b s u cuts ok at_a at_b keeps start is = idle_law laws r g a b ok at_a at_b s u cuts is (begins_as laws r g starts.None a b s ok at_a at_b start)
restart_law laws r g starts.Test a b s u cuts ok at_a at_b keeps start is =
    swap_law laws r g a b ok at_a at_b s u cuts is starts.Test kinds.Test refl refl (λ e. cc) (λ e. cc) (λ z bytes. (bytes.0, (bytes.0, bytes.1))) (λ e. cc)
    (begins_as laws r g starts.Test a b s ok at_a at_b start)
restart_law laws r g starts.Perm a b s u cuts ok at_a at_b keeps start is =
    swap_law laws r g a b ok at_a at_b s u cuts is starts.Perm kinds.Perm refl refl (λ e. cc) (λ e. cc) (λ z bytes. (bytes.0, bytes)) (λ e. cc)
    (begins_as laws r g starts.Perm a b s ok at_a at_b start)
restart_law laws r g starts.Revert a b s u cuts ok at_a at_b keeps start is =
    revert_law laws r g a b ok at_a at_b s u cuts is (keeps refl) (begins_as laws r g starts.Revert a b s ok at_a at_b start)

pub starts_exist : StartsExist
unfolding start_flash
starts_exist g starts.None a b ok at_a at_b = (placed g (image_bytes a) (image_bytes b), refl)
starts_exist g starts.Test a b ok at_a at_b = (test_flash g (image_bytes a) (image_bytes b), refl)
starts_exist g starts.Perm a b ok at_a at_b = (perm_flash g (image_bytes a) (image_bytes b), refl)
starts_exist g starts.Revert a b ok at_a at_b = left_defined (power_on plain g (test_flash g (image_bytes b) (image_bytes a)))

-- The second round.

-- exchanged twice
twice : (g : Geometry) (n : ℕ) (s x z : Content) → AreExchanged g n s x → AreExchanged g n x z → AreBack g n s z
twice g n s x z one two = record { primary = two.primary ∙ one.secondary; secondary = two.secondary ∙ one.primary }

-- Where the first round leaves nothing to do, nothing is confirmed and the second round has no operation.
module _ (r : Rules) (g : Geometry) (kind : Kind) (confirms : Bool) (a b : List ℕ) (s x u : Content) (second : List ℕ) where
  abbrev IsStill : Content → Type 0
  IsStill z = EndsIn (power_on r g s) kind a b u z × IsIdle (power_on r g x) u × (confirmed_if confirms g x ≡ x)

  module _ (idle : (plan (power_on r g x)).list ≡ []) (none : (plan (power_on r g x)).kind ≡ kinds.None) (stays : confirmed g x ≡ x)
      (occurs : after (power_on r g (confirmed_if confirms g x)) second ≡ Some u) where
    still_round : is_valid x.primary ≡ true → Holds (named kind a b) x.primary → Holds (other kind a b) x.secondary → IsSwapped (power_on r g s) kind x x → (z : Content) × IsStill z
    still_round valid one two swapped =
        let same : confirmed_if confirms g x ≡ x = grind arith in
        let there = uncut (power_on r g x) idle u second (ap (λ m. after (power_on r g m) second) (sym same) ∙ occurs) in
        (x, (rw there (idle_ends (power_on r g x) idle kind a b s none valid one two swapped), record { idle = idle; uncut = there }, same))

-- A swap that stays.
module _ (r : Rules) (g : Geometry) (kind : Kind) (confirms : Bool) (a b : List ℕ) (s : Content) (second : List ℕ) where
  stays_round : (t x u y : Content) → IsLayout g → EndsIn (power_on r g s) kind a b t y → IsSettled (power_on r g y) → IsSwapped (power_on r g s) kind y y → left_by (power_on r g t) ≡ Some x
      → after (power_on r g (confirmed_if confirms g x)) second ≡ Some u → (z : Content) × IsStill r g kind confirms a b s x u second z
  stays_round t x u y ok e settled swapped left occurs =
      let stays = settled_stays (power_on r g y) ok settled in
      let same : y ≡ x = same_content y x (sym e.end ∙ left) in
      rw (← same) (still_round r g kind confirms a b s y u second settled.idle settled.next stays (rw (← same) at occurs) e.boots e.primary e.secondary swapped)

module _ (laws : ImageLaws) (r : Rules) (g : Geometry) (a b : List ℕ) (ok : IsLayout g) (at_a : BeginsImage g a) (at_b : BeginsImage g b) where
  -- No swap: it stays as it was placed.
  none_round : (confirms : Bool) (s t x u : Content) (first second : List ℕ) → Begins r g kinds.None a b s → confirmed g s ≡ s → after (power_on r g s) first ≡ Some t
      → left_by (power_on r g t) ≡ Some x
      → after (power_on r g (confirmed_if confirms g x)) second ≡ Some u → (z : Content) × EndsAgain (power_on r g s) starts.None confirms a b x u z
  none_round confirms s t x u first second begins stays is left occurs =
      let idle = none_idle (power_on r g s) begins.rest.rest begins.next in
      let there : t ≡ s = uncut (power_on r g s) idle t first is in
      let same : x ≡ s = same_content x s (sym left ∙ ap (λ s. left_by (power_on r g s)) there ∙ idle_leaves (power_on r g s) idle) in
      rw same
      (still_round r g starts.None confirms a b s s u second idle begins.next stays (rw same at occurs) begins.primary.valid (held_whole a s.primary begins.primary)
      (held_whole b s.secondary begins.secondary) idle)

  -- What a test leaves.
  record Tested (s x : Content) : Type 0 where
    rest : AtRest g x
    exchange : AreExchanged g (plan (power_on r g s)).sectors s x
    tested : IsTested (power_on r g x)
    may : may_confirm g x ≡ true

  module _ (s t x : Content) (first : List ℕ) (begins : Begins r g kinds.Test a b s) (is : after (power_on r g s) first ≡ Some t) (left : left_by (power_on r g t) ≡ Some x) where
    round : Tested s x
    round =
        let end = rest_law laws r g ok s begins.rest cutting t first (cuts_losing cutting (power_on r g s) first t is) in
        rw (← same_content end.0 x (sym end.1.well.end ∙ left)) (by end.0 (at_rest_uncut r g end.0 end.1.rests) end.1.makes)
      where
        by : (y : Content) → AtRest g y → Leaves r g s y ⊎ Forgets r g s t y → Tested s y
        by y rest (inl l) =
            let bytes = rw begins.next at l.bytes in
            record { rest = rest; exchange = bytes.0; tested = bytes.1; may = bytes.2 }
        by y rest (inr f) = let e : kinds.Test ≡ kinds.Revert = sym begins.next ∙ f.next in absurd cc

    again_begins : Begins r g kinds.Revert b a x
    again_begins = begins_revert laws r g b a ok at_b at_a s x round.rest begins round.exchange round.tested r (λ e. e)

    sectors : ((plan (power_on r g s)).sectors ≡ count_of g s) × ((plan (power_on r g s)).sectors ≤ greatest_sectors g)
    sectors = swap_sectors (power_on r g s) kinds.Test begins.rest.rest begins.next (λ e. cc) (λ e. cc)

    -- left alone it is taken back
    left_round : (u : Content) (second : List ℕ) → forgets_reverts r.grain r.profile ≡ false → after (power_on r g x) second ≡ Some u → (z : Content)
        × EndsAgain (power_on r g s) starts.Test false a b x u z
    left_round u second keeps occurs =
        let end = revert_law laws r g b a ok at_b at_a x u second occurs keeps again_begins in
        let there = begins.secondary.size in
        let now_ = again_begins.primary.size in
        let below = again_begins.secondary.size in
        let larger : larger_size x ≡ larger_size s = omega (arith, there, now_, below) in
        let same : (plan (power_on r g x)).sectors ≡ (plan (power_on r g s)).sectors =
        (swap_sectors (power_on r g x) kinds.Revert round.rest.rest round.tested.next (λ e. cc) (λ e. cc)).0 ∙ ap (λ n. div_ceil n g.sector) larger ∙ sym sectors.0 in
        (end.0, (end.1, twice g (plan (power_on r g s)).sectors s x end.0 round.exchange (rw same at end.1.swapped.0)))

    -- confirmed it stays
    written_there : Written laws g ok x round.rest (confirmed g x)
    written_there = confirmed_written laws g ok x round.rest round.may

    settled : IsSettled (power_on r g (confirmed g x))
    settled =
        let predicts_next = predicts laws r g ok x round.rest in
        let asked_not : is_good (trailer_of g x Secondary).magic ≡ false = grind (arith, sym predicts_next.next ∙ round.tested.next) in
        let next : (plan (power_on r g (confirmed g x))).kind ≡ kinds.None =
        ap (λ (d : DeviceState). d.next) (predicts_next.confirms round.may) ∙ ap (λ (c : Bool). if c then (plan (power_on r g x)).kind else kinds.None) asked_not in
        record { image_ok = written_there.image_ok; copy_done = written_there.copy_done; next = next; idle = none_idle (power_on r g (confirmed g x)) written_there.rested.rest next }

    crossing : AreExchanged g (plan (power_on r g s)).sectors s (confirmed g x)
    crossing =
        let beyond : data_end g Primary ≤ place g Primary field.ImageOk = place_beyond_data g Primary field.ImageOk ok in
        let rows : greatest_sectors g * g.sector ≤ data_end g Primary = mul-le-mul_right g.sector (image_is_data g Primary (greatest_sectors g) (omega arith)) in
        let at_most : (plan (power_on r g s)).sectors * g.sector ≤ greatest_sectors g * g.sector = mul-le-mul_right g.sector sectors.1 in
        let ends = field_ends g Primary field.ImageOk ok in
        let old = sized_is g x Primary round.rest.sized in
        let new = sized_is g (confirmed g x) Primary written_there.rested.sized in
        record {
          primary = same_prefixes x.primary (confirmed g x).primary ((plan (power_on r g s)).sectors * g.sector) (omega (arith, beyond, rows, at_most, ends, old))
              (omega (arith, beyond, rows, at_most, ends, new))
              (λ i h. written_there.before i (omega (arith, h, beyond, rows, at_most))) ∙ round.exchange.primary;
          secondary = ap (take ((plan (power_on r g s)).sectors * g.sector)) written_there.secondary ∙ round.exchange.secondary;
        }

    confirmed_round : (u : Content) (second : List ℕ) → after (power_on r g (confirmed g x)) second ≡ Some u → (z : Content) × EndsAgain (power_on r g s) starts.Test true a b x u z
    confirmed_round u second occurs =
        let there = uncut (power_on r g (confirmed g x)) settled.idle u second occurs in
        let upper = same_then b x.primary (confirmed g x).primary again_begins.primary written_there.primary in
        let lower : Holds a (confirmed g x).secondary = rw written_there.secondary (held_whole a x.secondary again_begins.secondary) in (
          confirmed g x,
          (
            rw there (idle_ends (power_on r g (confirmed g x)) settled.idle starts.Perm a b s settled.next upper.valid
                (held_whole b (confirmed g x).primary upper) lower (crossing, settled)),
            record { idle = settled.idle; uncut = there },
          ),
        )

  absent_stays : confirmed g (placed g (image_bytes a) (image_bytes b)) ≡ placed g (image_bytes a) (image_bytes b)
  absent_stays = unmarked_stays g (placed g (image_bytes a) (image_bytes b))
      (reads_absent g (placed g (image_bytes a) (image_bytes b)) Primary ok (placed_holds g a b laws ok at_a at_b).sized (placed_unasked g a b Primary laws ok at_a at_b field.Magic))

pub rounds_law : ImageLaws → (r : Rules) → RoundsLaw r
unfolding start_flash
rounds_law laws r g starts.None confirms a b s t x u first second ok at_a at_b keeps start is left occurs =
    let stays = let E : Content → Type 0 = λ s. confirmed g s ≡ s in subst E (same_content (placed g (image_bytes a) (image_bytes b)) s start) (absent_stays laws r g a b ok at_a at_b) in
    none_round laws r g a b ok at_a at_b confirms s t x u first second (begins_as laws r g starts.None a b s ok at_a at_b start) stays is left occurs
rounds_law laws r g starts.Test false a b s t x u first second ok at_a at_b keeps start is left occurs =
    left_round laws r g a b ok at_a at_b s t x first (begins_as laws r g starts.Test a b s ok at_a at_b start) is left u second (keeps refl) occurs
rounds_law laws r g starts.Test true a b s t x u first second ok at_a at_b keeps start is left occurs =
    confirmed_round laws r g a b ok at_a at_b s t x first (begins_as laws r g starts.Test a b s ok at_a at_b start) is left u second occurs
rounds_law laws r g starts.Perm confirms a b s t x u first second ok at_a at_b keeps start is left occurs =
    let e = restart_law laws r g starts.Perm a b s t first ok at_a at_b (λ same. absurd cc) start is in
    stays_round r g starts.Perm confirms a b s second t x u e.0 ok e.1 e.1.swapped.1 e.1.swapped left occurs
rounds_law laws r g starts.Revert confirms a b s t x u first second ok at_a at_b keeps start is left occurs =
    let e = restart_law laws r g starts.Revert a b s t first ok at_a at_b (λ same. keeps refl) start is in
    stays_round r g starts.Revert confirms a b s second t x u e.0 ok e.1 e.1.swapped.1 e.1.swapped left occurs

-- The boot that swaps the largest images for a test: its plan, all of whose operations happen.

-- and all of it where none is refused
length-ops_of : (x : PowerOn) → is_faulted x ≡ false → length (ops_of x) ≡ length (plan x).list
unfolding is_faulted ops_of
length-ops_of x whole = let at_most = happens_few x.geometry (plan x).list x.content in grind (arith, nat_tests)

-- A start for a test of the images that a and b begin with.
module _ (laws : ImageLaws) (r : Rules) (g : Geometry) (a b : List ℕ) (s : Content) (ok : IsLayout g) where
  module _ (at_a : BeginsImage g a) (at_b : BeginsImage g b) (start : test_flash g (image_bytes a) (image_bytes b) ≡ s) where
    holds : Holding g a b s × FieldsAre g s Secondary (asked true)
    holds = subst (λ (t : Content). Holding g a b t × FieldsAre g t Secondary (asked true)) start (test_holds g a b laws ok at_a at_b, test_asked g a b laws ok at_b)

    larger_is : larger_size s ≡ max (image_size a) (image_size b)
    larger_is =
        ap (λ n. max n (image_size s.secondary)) (primary_image g a b s laws ok at_a holds.0).size
        ∙ ap (λ n. max (image_size a) n) (secondary_image g a b s laws ok at_b holds.0).size

    test_plan : plan (power_on r g s) ≡ starting r.grain g kinds.Test (larger_size s) (count_of g s)
    test_plan =
        let valid = (secondary_image g a b s laws ok at_b holds.0).valid in
        plan_asked (power_on r g s) (larger_size s) (count_of g s) true s (swap_held g a b s laws ok at_a at_b holds.0)
        (sees_images s (larger_size s) valid refl)
        (asked_pieces grains.Call g s (count_of g s) true holds.0.sized holds.1)

-- So many operations has a new swap for a test of the most sectors, whatever the size that it writes.
pub makes_swap : ImageLaws → (c : Grain) (g : Geometry) (n : ℕ) → IsLayout g
    → ((size : ℕ) → length (new_list c (in_pieces c g) kinds.Test size (greatest_sectors g)) ≡ n) → MakesSwap c g n
unfolding start_flash
makes_swap laws c g n ok long r a b s of most start =
    let start_is = same_content (test_flash g (image_bytes a) (image_bytes b)) s start in
    let end = restart_law laws r g starts.Test a b s s [] ok most.first most.second (λ e. absurd (cc)) start refl in
    let count : count_of g s ≡ greatest_sectors g = ap (λ m. div_ceil m g.sector) (larger_is laws r g a b s ok most.first most.second start_is) ∙ most.most in
    length-ops_of (power_on r g s) end.1.whole
    ∙ ap (λ (p : Plan). length p.list) (test_plan laws r g a b s ok most.first most.second start_is)
    ∙ ap (λ m. length (new_list r.grain (in_pieces r.grain g) kinds.Test (larger_size s) m)) count
    ∙ ap (λ (e : Grain). length (new_list e (in_pieces e g) kinds.Test (larger_size s) (greatest_sectors g))) of
    ∙ long (larger_size s)
