-- A loss of power while the primary's trailer is made: the next boot begins the same swap anew.
use Rattle.std.proofs.{Common.{ap, arith, inl, inr, subst, sym, ◌∙◌}}
use Rattle.std.specs.{Int.{div_ceil}}
use Rattle.std.specs.Prelude.{false, Some, length, map, refl, take, true, ℕ, ◌<◌, ◌≡◌, ◌≤◌, ⊤}
use Rattle.mc_boot.proofs.{CourseJoins.{trailer_of_slot}, Meets.{which_slot}, Phases.{new_is, new_swap_is, starting}}
use Rattle.mc_boot.specs.Plan.{Plan, images_of, new_swap, plan, power_on}
use Rattle.mc_boot.specs.{Torn.{IsTorn}, declared.image.Images.{Images}, inner.Meets.{erase_of}}
use Rattle.mc_flash.specs.{Flash.{Content, IsSized, apply}, Geometry.{Geometry, IsLayout, greatest_sectors}, declared.op.Op.{Op}}
use Rattle.mc_flash.specs.{declared.op.Slot.{Slot}, declared.op.Slot.TheVariants.{Primary, Secondary}}
use Rattle.mc_flash.specs.facts.{Changes.{Changed, changed_sized}, Layouts.{data_end}}
use Rattle.mc_tear.proofs.{Boots.{erased_ends, trailer_blank, trailer_first}, Lists.{InTrailer, trailer_can, trailer_place}, OneOp.{Ends, torn_sized}}
use Rattle.mc_tear.proofs.{Read.{torn_out}, Same.{SameAt}, Second.{IsData, same_images}, Whole.{whole_is, written}}
use Rattle.mc_tear.specs.Laws.{AsksApart, EndAlike, IsListed}
use Rattle.mc_tear.specs.Cases.{slot_of, tearing_of, written_from}
use Rattle.mc_tear.specs.{declared.torn.Erasing.{Erasing}}
use Rattle.mc_trailer.specs.{Tables.{is_resumed}, Trailer.{trailer_of}, declared.tables.Rules.{Rules}, declared.tables.SwapType.{SwapType}}
use Rattle.mc_trailer.specs.{declared.trailer.Flag.{Flag}, declared.trailer.Trailer.{Trailer}, facts.Fields.{same_trailer}, facts.Tables.{asks_clearly}}
use Rattle.mc_trailer.specs.declared.tables.SwapType.TheVariants as kinds
use Rattle.mc_trailer.specs.declared.trailer.Flag.TheVariants as flags
use Rattle.mc_trailer.specs.declared.trailer.Magic.TheVariants as magics

-- What an operation in a slot's trailer leaves as it is: the other slot, and the data.
pub trailer_keeps : (g : Geometry) (slot : Slot) (op : Op) (s t : Content) → IsLayout g → IsSized g s → InTrailer g slot op → apply g op s ≡ Some t
    → SameAt g (λ o i. o ≡ slot → i < data_end g slot) s t
trailer_keeps g slot op s t ok sized inside is = record {
  sized_u = sized;
  sized_v = changed_sized g s t (slot_of op) (written_from g op) (written g op s) ch sized;
  same = λ o i low. elim (which_slot o (slot_of op)) [
    | inr other ↦ ch.other o i other
    | inl here ↦ let below = low (here ∙ place.0) in rw here (ch.before i (omega (arith, below, place.1)))
  ];
}
  where
    ch : Changed s t (slot_of op) (written_from g op) (written g op s)
    ch = whole_is g ok s sized op t (trailer_can g slot op inside) is

    place : (slot_of op ≡ slot) × (data_end g slot ≤ written_from g op)
    place = trailer_place g slot op inside

pub data_kept : (g : Geometry) (slot : Slot) (s t : Content) → SameAt g (λ o i. o ≡ slot → i < data_end g slot) s t → SameAt g (IsData g) s t
data_kept g slot s t is = record { sized_u = is.sized_u; sized_v = is.sized_v; same = λ o i low. is.same o i (λ e. let D : Slot → Type 0 = λ x. i < data_end g x in subst D e low) }

pub same_both : (g : Geometry) (P : Slot → ℕ → Type 0) (s t u : Content) → SameAt g P s t → SameAt g P t u → SameAt g P s u
same_both g P s t u one two = record { sized_u = one.sized_u; sized_v = two.sized_v; same = λ o i p. two.same o i p ∙ one.same o i p }

pub same_back : (g : Geometry) (P : Slot → ℕ → Type 0) (s t : Content) → SameAt g P s t → SameAt g P t s
same_back g P s t one = record { sized_u = one.sized_v; sized_v = one.sized_u; same = λ o i p. sym (one.same o i p) }

-- What a torn operation in a slot's trailer leaves as it is.
pub torn_keeps : (e : Erasing) (g : Geometry) (slot : Slot) (op : Op) (s v : Content) → IsLayout g → IsSized g s → InTrailer g slot op → IsTorn (tearing_of e) g op s v
    → SameAt g (λ o i. o ≡ slot → i < data_end g slot) s v
torn_keeps e g slot op s v ok sized inside torn = record {
  sized_u = sized;
  sized_v = torn_sized e g op s v sized torn;
  same = λ o i low. torn_out e g op s v ok sized (trailer_can g slot op inside) torn o i (λ here. let below = low (here ∙ place.0) in inl (omega (arith, below, place.1)));
}
  where
    place : (slot_of op ≡ slot) × (data_end g slot ≤ written_from g op)
    place = trailer_place g slot op inside

-- The secondary asks for a swap, clearly, and the images of the slots are those of a flash from which it can be begun.
pub record Asks (g : Geometry) (start : Content) (flag : Flag) (s : Content) : Type 0 where
  pub data_ : SameAt g (IsData g) start s
  pub magic : (trailer_of g s Secondary).magic ≡ magics.Good
  pub image_ok : (trailer_of g s Secondary).image_ok ≡ flag

-- A swap can be begun there.
pub record CanBegin (g : Geometry) (start : Content) : Type 0 where
  pub valid : (images_of start).valid ≡ true
  pub few : div_ceil (images_of start).size g.sector ≤ greatest_sectors g

abbrev pub IsClear : Flag → Type 0
IsClear flags.Set = ⊤
IsClear flags.Unset = ⊤
IsClear flags.Bad = ⊥

abbrev pub asked_kind : Flag → SwapType
asked_kind flags.Set = kinds.Perm
asked_kind flags.Unset = kinds.Test
asked_kind flags.Bad = kinds.None

module _ (r : Rules) (g : Geometry) (start : Content) (begin : CanBegin g start) where
  -- The plan of what asks so, where the images are those of the start.
  pub plan_of : (flag : Flag) → IsClear flag → (s : Content) → (trailer_of g s Secondary).magic ≡ magics.Good → (trailer_of g s Secondary).image_ok ≡ flag → images_of s ≡ images_of start
      → plan (power_on r g s) ≡ starting r.grain g (asked_kind flag) (images_of start).size (div_ceil (images_of start).size g.sector)
  plan_of flags.Unset clear s magic flag images =
      let another = asks_clearly r.profile (trailer_of g s Primary) (trailer_of g s Secondary) magic (λ bad. let no_ : flags.Unset ≡ flags.Bad = sym flag ∙ bad in absurd cc) in
      new_is (power_on r g s) kinds.Test (starting r.grain g kinds.Test (images_of start).size (div_ceil (images_of start).size g.sector)) (rw another (grind arith)) (rw magic (rw flag (grind arith)))
      (ap (λ (x : Images). new_swap r.grain g x kinds.Test) images
      ∙ new_swap_is r.grain g (images_of start) kinds.Test (images_of start).size (div_ceil (images_of start).size g.sector) begin.valid refl refl begin.few)
  plan_of flags.Set clear s magic flag images =
      let another = asks_clearly r.profile (trailer_of g s Primary) (trailer_of g s Secondary) magic (λ bad. let no_ : flags.Set ≡ flags.Bad = sym flag ∙ bad in absurd cc) in
      new_is (power_on r g s) kinds.Perm (starting r.grain g kinds.Perm (images_of start).size (div_ceil (images_of start).size g.sector)) (rw another (grind arith)) (rw magic (rw flag (grind arith)))
      (ap (λ (x : Images). new_swap r.grain g x kinds.Perm) images
      ∙ new_swap_is r.grain g (images_of start) kinds.Perm (images_of start).size (div_ceil (images_of start).size g.sector) begin.valid refl refl begin.few)
  plan_of flags.Bad clear s magic flag images = absurd clear

  -- It begins with the erases of the primary's trailer.
  erases_first : (flag : Flag) → IsClear flag → (s : Content) → plan (power_on r g s) ≡ starting r.grain g (asked_kind flag) (images_of start).size (div_ceil (images_of start).size g.sector)
      → take (length (trailer_of_slot g Primary)) (plan (power_on r g s)).list ≡ map erase_of (trailer_of_slot g Primary)
  erases_first flags.Unset clear s is = ap (λ (p : Plan). take (length (trailer_of_slot g Primary)) p.list) is ∙ trailer_first r.grain g Primary _
  erases_first flags.Set clear s is = ap (λ (p : Plan). take (length (trailer_of_slot g Primary)) p.list) is ∙ trailer_first r.grain g Primary _
  erases_first flags.Bad clear s is = absurd clear

  module _ (e : Erasing) (ok : IsLayout g) (flag : Flag) (clear : IsClear flag) (s : Content) (asks : Asks g start flag s) where
    -- It does not go on with a swap.
    pub not_resumed : (v : Content) → (trailer_of g v Secondary).magic ≡ magics.Good → (trailer_of g v Secondary).image_ok ≡ flag → is_resumed r.profile g v ≡ true → ⊥
    not_resumed v magic image_ok resumed =
        let another = asks_clearly r.profile (trailer_of g v Primary) (trailer_of g v Secondary) magic (λ bad. absurd (clear_not flag clear (sym image_ok ∙ bad))) in
        let no_ : false ≡ true = sym (rw another (grind arith)) ∙ resumed in absurd cc
      where
        clear_not : (f : Flag) → IsClear f → f ≡ flags.Bad → ⊥
        clear_not flags.Set is e = absurd cc
        clear_not flags.Unset is e = absurd cc
        clear_not flags.Bad is e = is

    pub opening_op : (op : Op) → InTrailer g Primary op → Ends e r g s op
    opening_op op inside v z torn_v left asks_apart apart_z = by asks_apart
      where
        kept : SameAt g (λ o i. o ≡ Primary → i < data_end g Primary) s v
        kept = torn_keeps e g Primary op s v ok asks.data_.sized_v inside torn_v

        second : trailer_of g v Secondary ≡ trailer_of g s Secondary
        second = same_trailer g s v Secondary ok kept.sized_u kept.sized_v (λ f i within. kept.same Secondary _ (λ is. absurd cc))

        magic_v : (trailer_of g v Secondary).magic ≡ magics.Good
        magic_v = ap (λ (x : Trailer). x.magic) second ∙ asks.magic

        image_ok_v : (trailer_of g v Secondary).image_ok ≡ flag
        image_ok_v = ap (λ (x : Trailer). x.image_ok) second ∙ asks.image_ok

        data_v : SameAt g (IsData g) s v
        data_v = data_kept g Primary s v kept

        by : AsksApart r g v → (u : Content) × IsListed e g op s u × EndAlike (power_on r g v) (power_on r g u)
        by (inl resumed) = absurd (not_resumed v magic_v image_ok_v resumed)
        by (inr apart) =
            let images_s = same_images g v s (same_back g (IsData g) s v data_v) apart in
            let images_start = same_images g v start (same_back g (IsData g) start v (same_both g (IsData g) start s v asks.data_ data_v)) apart in
            let plans_s = plan_of flag clear s asks.magic asks.image_ok (images_s ∙ sym images_start) in
            let plans_v = plan_of flag clear v magic_v image_ok_v (sym images_start) in (
              s,
              inl refl,
              erased_ends r g v s (trailer_of_slot g Primary) (plans_v ∙ sym plans_s) (erases_first flag clear v plans_v)
                  (trailer_blank g Primary v s ok (same_back g (λ o i. o ≡ Primary → i < data_end g Primary) s v kept)),
            )

    pub asks_still : (op : Op) → InTrailer g Primary op → (t : Content) → apply g op s ≡ Some t → Asks g start flag t
    asks_still op inside t is =
        let kept = trailer_keeps g Primary op s t ok asks.data_.sized_v inside is in
        let second = same_trailer g s t Secondary ok kept.sized_u kept.sized_v (λ f i within. kept.same Secondary _ (λ e. absurd cc)) in
        record {
          data_ = same_both g (IsData g) start s t asks.data_ (data_kept g Primary s t kept);
          magic = ap (λ (x : Trailer). x.magic) second ∙ asks.magic;
          image_ok = ap (λ (x : Trailer). x.image_ok) second ∙ asks.image_ok;
        }
