-- From rest to rest: what a boot leaves of a flash at rest, however often power was lost before, and that the device rests again.
use Rattle.std.proofs.{Common.{ap, arith, inl, inr, subst, sym, ◌∙◌}, lemmas.List.Edits.{get_or-between}}
use Rattle.std.specs.Prelude.{Bool, List, Option, [], false, if◌then◌else◌, length, refl, replicate, slice_index, true, ℕ, ◌&&◌, ◌*◌, ◌+◌, ◌-◌, ◌<◌, ◌∷◌, ◌≡◌, ◌≢◌, ◌≤◌, ◌⊎◌}
use Rattle.mc_boot.proofs.{AtRest.{AtRest, Idles, RestsOrWants, Wants, few_small, rests_or_wants}, Images.{ImageLaws, SameImage, has_same}}
use Rattle.mc_boot.proofs.{InPieces.{exchanged_pieces, fields_pieces, fields_whole, pieces_again, plan_in_pieces, sized_whole, swap_pieces, trailer_pieces}, Moving.{Data, data_begin}}
use Rattle.mc_boot.proofs.{Phases.{Ended, Swap, asked, asked_from, larger_size, swap_of, tested, tested_from}, Starts.{count_of, swap_between}}
use Rattle.mc_boot.proofs.SwapEnds.{Crossed, crossed, exchanges, prefix_at_start, prefix_lists, settled_end, settled_on, tested_end, uncrossed}
use Rattle.mc_boot.proofs.{Tears.{Losing, Strides, Way, cutting, cycle, how, strides_by, tearing}, TornPhases.{Becomes, Torn, Trial, Unsure, Waits, asks, quiet_not_good, waits}}
use Rattle.mc_boot.proofs.TornProof.{Forgotten, Turned, idles, lost, made, torn_strides, unclear, unsure, waiting_strides}
use Rattle.mc_boot.specs.{Life.{DeviceState, EndsWell, Forgets, Leaves, LeavesBytes, booted_by, device_state, is_at_rest, is_on_trial}, Plan.{Plan, PowerOn, nothing, plan, power_on}}
use Rattle.mc_boot.specs.Restart.{AreBack, AreExchanged, IsSettled, IsTested, confirmed, may_confirm}
use Rattle.mc_boot.specs.Torn.{EndsMade, EndsTorn, IsDropped, IsForgotten, IsMade, IsPassedOver, IsUnclear, IsUnsure, Tearing, TurnsOut, gently, roughly}
use Rattle.mc_flash.specs.{Flash.{Content, byte, is_blank}, Geometry.{Geometry, IsLayout, in_pieces}, declared.flash.Grain.{Grain}, declared.op.Slot.{Slot}}
use Rattle.mc_flash.specs.{declared.op.Slot.TheVariants.{Primary, Secondary}, facts.Changes.{blank_range, sized_is}, facts.Layouts.{small_unit}}
use Rattle.mc_image.specs.Valid.{Identity, id_of, is_valid}
use Rattle.mc_trailer.specs.{Tables.{is_good, is_set, is_unset, reverts_at}, Trailer.{bytes_at, one_unit, place, trailer_of}, declared.tables.Rules.{Rules}, declared.tables.SwapType.{SwapType}}
use Rattle.mc_trailer.specs.{declared.trailer.Trailer.{Trailer}, facts.Fields.{FieldIs, FieldsAre, blank_byte, field_as, reads_copy_done, reads_good}, facts.Places.{field_ends}}
use Rattle.mc_trailer.specs.facts.Tables.{and_parts, asks_none, types_are_rows}
use Rattle.mc_flash.specs.declared.flash.Grain.TheVariants as grains
use Rattle.mc_trailer.specs.declared.tables.Profile.TheVariants as profiles
use Rattle.mc_trailer.specs.declared.places.Field.TheVariants as field
use Rattle.mc_trailer.specs.declared.trailer.Flag.TheVariants as flags
use Rattle.mc_trailer.specs.declared.tables.SwapType.TheVariants as kinds
use Rattle.mc_trailer.specs.declared.trailer.Magic.TheVariants as magics

-- What is left where the image of a finished swap confirms itself.

-- the chunk plays no part
pub may_pieces : (c : Grain) (g : Geometry) (s : Content) → may_confirm (in_pieces c g) s ≡ may_confirm g s
unfolding trailer_of
may_pieces it g s = grind arith

-- after a test it may
module _ (from : PowerOn) (size n : ℕ) (z : Content) (w : Swap from.geometry from.content size n) (e : Ended from.geometry from.content size n true z) where
  free : FieldIs from.geometry z Primary field.ImageOk (replicate 8 255)
  free = field_as from.geometry z Primary field.ImageOk _ (replicate 8 255) (ap (λ (c : Bool). if c then replicate 8 255 else one_unit from.geometry 1) (swap_of true e.0 e.1))
      (e.2.primary field.ImageOk)

  inside : place from.geometry Primary field.ImageOk + from.geometry.unit ≤ length z.primary
  inside = let unit = small_unit from.geometry w.ok in omega (arith, unit, field_ends from.geometry Primary field.ImageOk w.ok, sized_is from.geometry z Primary e.2.data_.sized)

  blank : is_blank (bytes_at z Primary (place from.geometry Primary field.ImageOk) from.geometry.unit) ≡ true
  blank = blank_range z.primary (place from.geometry Primary field.ImageOk) from.geometry.unit inside
      (λ i h. let unit = small_unit from.geometry w.ok in blank_byte from.geometry z Primary field.ImageOk i free (omega (arith, h, unit)))

  all_three : (p : Trailer) (free : Bool) → p.magic ≡ magics.Good → p.copy_done ≡ flags.Set → free ≡ true → (is_good p.magic && is_set p.copy_done && free) ≡ true
  all_three p free good set is = rw good (rw set (rw is refl))

  pub may : may_confirm from.geometry z ≡ true
  may =
      all_three (trailer_of from.geometry z Primary) (is_blank (bytes_at z Primary (place from.geometry Primary field.ImageOk) from.geometry.unit))
      (reads_good from.geometry z Primary w.ok e.2.data_.sized (e.2.primary field.Magic))
      (reads_copy_done from.geometry z Primary 1 (replicate (from.geometry.unit - 1) 255) (e.2.primary field.CopyDone))
      blank

-- a swap that stays has image-ok written, and is not confirmed again
marked : (xs : List ℕ) → slice_index xs 0 ≡ 1 → is_blank xs ≡ false
marked [] one = absurd (omega (arith, one))
marked (x ∷ xs) one = rw one refl

pub settled_stays : (x : PowerOn) → IsLayout x.geometry → IsSettled x → confirmed x.geometry x.content ≡ x.content
unfolding confirmed trailer_of
settled_stays x ok settled = grind (arith, marked, get_or-between)

-- no magic, and nothing to confirm
pub unmarked_stays : (g : Geometry) (z : Content) → (trailer_of g z Primary).magic ≡ magics.Unset → confirmed g z ≡ z
unfolding confirmed
unmarked_stays g z absent = grind arith

-- What power-on after power-on leaves of a device at rest, however often power is lost.

back_pieces : (c : Grain) (g : Geometry) (n : ℕ) (s z : Content) → AreBack (in_pieces c g) n s z → AreBack g n s z
back_pieces grains.Call g n s z are = are
back_pieces grains.Unit g n s z are = record { primary = are.primary; secondary = are.secondary }

abbrev Nothing : Content → Type 0
Nothing s = ⊥

-- At rest; or, where operations are torn and but for the third profile, a swap seems under way that no boot goes on with.
pub record Stuck (way : Way) (r : Rules) (g : Geometry) (s : Content) : Type 0 where
  pub torn : way ≢ cutting
  pub rules : r.profile ≢ profiles.Three
  pub busy : is_at_rest (trailer_of g s Primary) ≡ false
  pub idle : plan (power_on r g s) ≡ nothing kinds.None
  pub valid : is_valid s.primary ≡ true

abbrev pub Rests : Way → Rules → Geometry → Content → Type 0
Rests way r g s = AtRest g s ⊎ Stuck way r g s

pub at_rest_uncut : (r : Rules) (g : Geometry) (s : Content) → Rests cutting r g s → AtRest g s
at_rest_uncut r g s (inl rest) = rest
at_rest_uncut r g s (inr stuck) = absurd (stuck.torn refl)

-- What the boot from u makes of s, which the device rested on.
abbrev pub Makes : Way → Rules → Geometry → Content → Content → Content → Type 0
Makes cutting r g s u z = Leaves r g s z ⊎ Forgets r g s u z
Makes (tearing f) r g s u z = TurnsOut f r g (plan (power_on r g s)).kind (plan (power_on r g s)).sectors s u z

-- z names the images that a and b begin with.
abbrev pub AreNamed : List ℕ → List ℕ → Content → Type 0
AreNamed a b z = (id_of z.primary ≡ id_of a) × (id_of z.secondary ≡ id_of b)

-- It ends well, both images stand somewhere, and the device rests on what it leaves.
pub record EndsRested (way : Way) (r : Rules) (g : Geometry) (s u z : Content) : Type 0 where
  pub well : EndsWell (power_on r g u) z
  pub makes : Makes way r g s u z
  pub images : AreNamed s.secondary s.primary z ⊎ AreNamed s.primary s.secondary z
  pub rests : Rests way r g z

pub ends_torn : (f : Tearing) (r : Rules) (g : Geometry) (s u z : Content) → EndsRested (tearing f) r g s u z → EndsTorn f r g s u z
ends_torn f r g s u z is = record { well = is.well; turns = is.makes; rests = λ third. let rests_ = is.rests in grind arith }

-- ---- nothing to do

pub idle_law : (way : Way) (r : Rules) (g : Geometry) (s : Content) → is_valid s.primary ≡ true → Rests way r g s → Idles (power_on r g s) → (u : Content) (cuts : List ℕ)
    → Losing way (power_on r g s) cuts u → (z : Content) × EndsRested way r g s u z
idle_law way r g s ready rests i u cuts is =
    let end = cycle way r g (λ t. t ≡ s) (λ t z. z ≡ s) steps (λ t z same. rw same ready) cuts s u refl is in
    (end.0, record { well = end.1; makes = makes way end.0 end.2; images = rw end.2 (inr (refl, refl)); rests = rw end.2 rests })
  where
    not_panic : i.kind ≢ kinds.Panic
    not_panic panic = elim i.either [ inl e ↦ cc | inr e ↦ cc ]

    steps : (t : Content) → t ≡ s → Strides way (power_on r (in_pieces r.grain g) t) (λ t. t ≡ s) (λ t. t ≡ s)
    steps t same = rw same (strides_by way (power_on r (in_pieces r.grain g) s) (λ t. t ≡ s) (λ t. t ≡ s) (nothing i.kind) (plan_in_pieces r g s ∙ i.planned) not_panic refl)

    makes : (d : Way) (z : Content) → z ≡ s → Makes d r g s u z
    makes cutting z same = inl (grind arith)
    makes (tearing f) z same =
        let E : Plan → Type 0 = λ p. TurnsOut f r g p.kind p.sectors s u z in
        subst E (sym i.planned) (elim i.either [ inl none ↦ rw none same | inr fail ↦ rw fail same ])

-- ---- names

abbrev named : Option Identity → Bool → Option Identity → SwapType → DeviceState
named p trial q next = record { primary = p; trial = trial; secondary = q; next = next }

same_names : (p x : Option Identity) (a b : Bool) (q y : Option Identity) (next then_ : SwapType) → p ≡ x → a ≡ b → q ≡ y → next ≡ then_ → named p a q next ≡ named x b y then_
same_names p x a b q y next then_ e f h i = cc

-- ---- a swap

module _ (laws : ImageLaws) (r : Rules) (g : Geometry) (ok : IsLayout g) (s : Content) (rest : AtRest g s) where
  abbrev G : Geometry
  G = in_pieces r.grain g

  unclear_on : (z : Content) → IsUnclear G z → IsUnclear g z
  unclear_on z is = record {
    magic = ap (λ (p : Trailer). p.magic) (sym (trailer_pieces r.grain g z Secondary)) ∙ is.magic;
    image_ok = ap (λ (p : Trailer). p.image_ok) (sym (trailer_pieces r.grain g z Secondary)) ∙ is.image_ok;
  }

  module _ (kind : SwapType) (wants : Wants (power_on r g s) kind) where
    in_parts : Swap G s (larger_size s) (count_of g s)
    in_parts = swap_pieces r.grain g s (larger_size s) (count_of g s) (swap_between g s laws ok rest.sized rest.primary (rest.secondary wants.valid) wants.at_most)

    -- after all transfers
    module _ (z : Content) (data_ : Data G (count_of g s) s (3 * count_of g s) z) where
      held : Crossed s z
      held = crossed G s (larger_size s) (count_of g s) z in_parts data_

      is_made : IsMade g (count_of g s) s z
      is_made = record {
        swapped = exchanged_pieces r.grain g (count_of g s) s z (exchanges G s (larger_size s) (count_of g s) z in_parts data_);
        primary = held.primary.id;
        secondary = held.secondary.id;
      }

    -- before the first
    module _ (z : Content) (data_ : Data G (count_of g s) s 0 z) where
      stands : SameImage s.primary z.primary × SameImage s.secondary z.secondary
      stands = uncrossed G s (larger_size s) (count_of g s) z in_parts data_

      there : (o : Slot) (p : ℕ) → p < count_of g s * G.sector → byte z o p ≡ byte s o p
      there o = prefix_at_start G s (count_of g s) z o in_parts.ok in_parts.some in_parts.at_most data_

      is_dropped : (u : Content) → z ≡ u → plan (power_on r g z) ≡ nothing kinds.None → IsDropped r g (count_of g s) s u z
      is_dropped u stays planned = record {
        stays = stays;
        next = ap (λ (p : Plan). p.kind) planned;
        idle = ap (λ (p : Plan). p.list) planned;
        back = back_pieces r.grain g (count_of g s) s z (record {
          primary = prefix_lists G s (count_of g s) z Primary Primary in_parts.ok in_parts.at_most in_parts.sized data_.sized (there Primary);
          secondary = prefix_lists G s (count_of g s) z Secondary Secondary in_parts.ok in_parts.at_most in_parts.sized data_.sized (there Secondary);
        });
        primary = stands.0.id;
        secondary = stands.1.id;
      }

    -- and the device rests on it
    made_rests : (z : Content) → Data G (count_of g s) s (3 * count_of g s) z → EndsMade r g z → AtRest g z
    made_rests z data_ ends_ =
        let h = held z data_ in
        let first = h.primary.size in
        record {
          sized = sized_whole r.grain g z data_.sized;
          primary = has_same s.secondary z.primary (rest.secondary wants.valid) h.primary;
          at_most = let most = few_small g (larger_size s) ok wants.at_most in omega (arith, most, first);
          secondary = λ _. has_same s.primary z.secondary rest.primary h.secondary;
          rest = grind arith;
        }

    stays_rests : (z : Content) → Data G (count_of g s) s 0 z → is_at_rest (trailer_of g z Primary) ≡ true → AtRest g z
    stays_rests z data_ free =
        let size = (stands z data_).0.size in
        let at_most = rest.at_most in
        record {
          sized = sized_whole r.grain g z data_.sized;
          primary = has_same s.primary z.primary rest.primary (stands z data_).0;
          at_most = omega (arith, size, at_most);
          secondary = λ _. has_same s.secondary z.secondary (rest.secondary wants.valid) (stands z data_).1;
          rest = free;
        }

    trial_rests : (z : Content) → Trial G s (count_of g s) z → AtRest g z
    trial_rests z is =
        let done = ap (λ (p : Trailer). p.copy_done) (sym (trailer_pieces r.grain g z Primary)) ∙ reads_copy_done G z Primary 1 [] (is.primary field.CopyDone) in
        stays_rests z is.data_ (rw done (grind arith))

    tested_made : (z : Content) → Ended G s (larger_size s) (count_of g s) true z → IsTested (power_on r g z)
    tested_made z e = grind (arith, trailer_pieces, plan_in_pieces, (tested_end (power_on r G s) (larger_size s) (count_of g s) z in_parts e))

    settled_made : (z : Content) → Ended G s (larger_size s) (count_of g s) false z → IsSettled (power_on r g z)
    settled_made z e = settled_on r g z (settled_end (power_on r G s) (larger_size s) (count_of g s) z in_parts e)

    ended_made : (e : Bool) (z : Content) → Ended G s (larger_size s) (count_of g s) e z → EndsMade r g z
    ended_made true z is = inl (tested_made z is)
    ended_made false z is = inr (inl (settled_made z is))

    unsure_made : (z : Content) → Unsure G s (count_of g s) z → plan (power_on r g z) ≡ nothing kinds.None → IsUnsure (power_on r g z)
    unsure_made z is planned = record {
      copy_done = ap (λ (p : Trailer). p.copy_done) (sym (trailer_pieces r.grain g z Primary)) ∙ is.copy_done;
      next = ap (λ (p : Plan). p.kind) planned;
      idle = ap (λ (p : Plan). p.list) planned;
    }

    -- what a boot leaves
    module _ (way : Way) (Lost : Content → Type 0) (b : Bool) (lost_trial : (z : Content) → Lost z → Trial G s (count_of g s) z) where
      abbrev Turning : Content → Content → Type 0
      Turning = Turned way Lost r G s (larger_size s) (count_of g s) b

      planned_on : (t z : Content) → z ≡ t → plan (power_on r G t) ≡ nothing kinds.None → plan (power_on r g z) ≡ nothing kinds.None
      planned_on t z same planned = sym (plan_in_pieces r g z) ∙ rw same planned

      rests_on : (t z : Content) → Turning t z → Rests way r g z
      rests_on t z (made e later done) = inl (made_rests z done.2.data_ (ended_made e z done))
      rests_on t z (idles same planned (lost is)) = inl (trial_rests z (lost_trial z is))
      rests_on t z (idles same planned (unsure tears is)) = inl (made_rests z is.data_ (inr (inr (unsure_made z is (planned_on t z same planned)))))
      rests_on t z (idles same planned (unclear unsure_ rules why)) = go (is_at_rest (trailer_of g z Primary)) refl
        where
          go : (d : Bool) → is_at_rest (trailer_of g z Primary) ≡ d → Rests way r g z
          go false busy = inr (record { torn = λ cut. unsure_ (inr cut); rules = rules; busy = busy; idle = planned_on t z same planned; valid = (stands z why.data_).0.valid })
          go true free = inl (stays_rests z why.data_ free)

      valid : (t z : Content) → Turning t z → is_valid z.primary ≡ true
      valid t z turned = elim (rests_on t z turned) [ inl at ↦ at.primary.same.valid | inr stuck ↦ stuck.valid ]

      -- it is made, or dropped
      torn_end : (t z : Content) (D : Type 0) → (IsDropped r g (count_of g s) s t z → ((r.profile ≢ profiles.Three) × IsUnclear g z) ⊎ Lost z → D) → Turning t z
          → (IsMade g (count_of g s) s z × EndsMade r g z) ⊎ D
      torn_end t z D dropped (made e later done) = inl (is_made z done.2.data_, ended_made e z done)
      torn_end t z D dropped (idles same planned (lost is)) = inr (dropped (is_dropped z (lost_trial z is).data_ t same (planned_on t z same planned)) (inr is))
      torn_end t z D dropped (idles same planned (unsure tears is)) = inl (is_made z is.data_, inr (inr (unsure_made z is (planned_on t z same planned))))
      torn_end t z D dropped (idles same planned (unclear unsure_ rules why)) =
          inr (dropped (is_dropped z why.data_ t same (planned_on t z same planned)) (inl (rules, unclear_on z (record { magic = why.magic; image_ok = why.image_ok }))))

    -- where no operation is torn
    cut_end : (Lost : Content → Type 0) (b : Bool) (t z : Content) → Turned cutting Lost r G s (larger_size s) (count_of g s) b t z
        → Ended G s (larger_size s) (count_of g s) b z ⊎ (Lost z × (z ≡ t) × (plan (power_on r G t) ≡ nothing kinds.None))
    cut_end Lost b t z (made e later done) = let F : Bool → Type 0 = λ d. Ended G s (larger_size s) (count_of g s) d z in inl (subst F (later (inr refl)) done)
    cut_end Lost b t z (idles same planned (lost is)) = inr (is, same, planned)
    cut_end Lost b t z (idles same planned (unsure tears is)) = absurd (tears refl)
    cut_end Lost b t z (idles same planned (unclear unsure_ rules why)) = absurd (unsure_ (inr refl))

    -- by names
    leaves : (b : Bool) (z : Content) → Ended G s (larger_size s) (count_of g s) b z → (k : SwapType) (trial : Bool)
        → (AreExchanged g (count_of g s) s z → LeavesBytes r g kind (count_of g s) s z)
        → booted_by kind (device_state r g s) ≡ named (id_of s.secondary) trial (id_of s.primary) k
        → (plan (power_on r g z)).kind ≡ k → is_on_trial (trailer_of g z Primary) ≡ trial → Leaves r g s z
    leaves b z e k trial turns names next tried =
        let is = is_made z e.2.data_ in
        record {
          bytes = let E : Plan → Type 0 = λ p. LeavesBytes r g p.kind p.sectors s z in subst E (sym wants.planned) (turns is.swapped);
          names = same_names (id_of z.primary) (id_of s.secondary) (is_on_trial (trailer_of g z Primary)) trial (id_of z.secondary) (id_of s.primary)
              (plan (power_on r g z)).kind k is.primary tried is.secondary next
              ∙ sym names ∙ sym (ap (λ (p : Plan). booted_by p.kind (device_state r g s)) wants.planned);
        }

    stays_leaves : ((z : Content) → AreExchanged g (count_of g s) s z → IsSettled (power_on r g z) → LeavesBytes r g kind (count_of g s) s z)
        → booted_by kind (device_state r g s) ≡ named (id_of s.secondary) false (id_of s.primary) kinds.None
        → (z : Content) → Ended G s (larger_size s) (count_of g s) false z → Leaves r g s z
    stays_leaves turns names z e =
        let settled = settled_made z e in
        leaves false z e kinds.None false (λ m. turns z m settled) names settled.next (rw settled.image_ok (grind arith))

    turns : (f : Tearing) (u z : Content) → TurnsOut f r g kind (count_of g s) s u z → Makes (tearing f) r g s u z
    turns f u z is = let E : Plan → Type 0 = λ p. TurnsOut f r g p.kind p.sectors s u z in subst E (sym wants.planned) is

    -- every boot, by the phases
    swap_cycle : (way : Way) (R Lost : Content → Type 0) (b : Bool) → (b ≡ true → how way ≡ gently) → ((z : Content) → Lost z → Trial G s (count_of g s) z)
        → ((t : Content) → R t → Strides way (power_on r G t) (Torn way R r.profile G s (larger_size s) (count_of g s) b) (Turned way Lost r G s (larger_size s) (count_of g s) b t))
        → Torn way R r.profile G s (larger_size s) (count_of g s) b s → (u : Content) (cuts : List ℕ) → Losing way (power_on r g s) cuts u
        → ((z : Content) → Turned way Lost r G s (larger_size s) (count_of g s) b u z → Makes way r g s u z) → (z : Content) × EndsRested way r g s u z
    swap_cycle way R Lost b gentle lost_trial before begin u cuts is makes =
        let end = cycle way r g (Torn way R r.profile G s (larger_size s) (count_of g s) b) (Turned way Lost r G s (larger_size s) (count_of g s) b)
        (torn_strides way R Lost r G s (larger_size s) (count_of g s) b gentle (pieces_again r.grain g) in_parts before) (valid way Lost b lost_trial) cuts s u begin is in (
          end.0,
          record {
            well = end.1;
            makes = makes end.0 end.2;
            images = elim (torn_end way Lost b lost_trial u end.0 (IsDropped r g (count_of g s) s u end.0) (λ is why. is) end.2) [
              | inl is ↦ inl (is.0.primary, is.0.secondary)
              | inr is ↦ inr (is.primary, is.secondary)
            ];
            rests = rests_on way Lost b lost_trial u end.0 end.2;
          },
        )

    -- where it is asked for by the secondary
    asked_cycle : (way : Way) (b e : Bool) → (b ≡ true → how way ≡ gently) → Becomes way b e → FieldsAre g s Secondary (asked e) → (u : Content) (cuts : List ℕ) → Losing way (power_on r g s) cuts u
        → ((z : Content) → Turned way Nothing r G s (larger_size s) (count_of g s) b u z → Makes way r g s u z) → (z : Content) × EndsRested way r g s u z
    asked_cycle way b e gentle later are =
        swap_cycle way Nothing Nothing b gentle (λ z none. absurd none) (λ t none. absurd none)
        (asks e later (record { secondary = fields_pieces r.grain g s Secondary (asked e) are; data_ = data_begin G (count_of g s) s in_parts.sized }))

    -- where a swap that stays may be made, or none
    made_or_dropped : (way : Way) (u z : Content) → Turned way Nothing r G s (larger_size s) (count_of g s) false u z
        → (IsMade g (count_of g s) s z × EndsMade r g z) ⊎ IsPassedOver r g (count_of g s) s u z
    made_or_dropped way u z =
        torn_end way Nothing false (λ z none. absurd none) u z (IsPassedOver r g (count_of g s) s u z)
        (λ is why. elim why [ inl because ↦ record { rules = because.0; dropped = is; unclear = because.1 } | inr none ↦ absurd none ])

  -- a test
  test_law : (way : Way) → Wants (power_on r g s) kinds.Test → (u : Content) (cuts : List ℕ) → Losing way (power_on r g s) cuts u → (z : Content) × EndsRested way r g s u z
  test_law way wants u cuts is = go way is
    where
      are : FieldsAre g s Secondary (asked true)
      are =
          let p = trailer_of g s Primary in
          let q = trailer_of g s Secondary in
          let asks_ = and_parts (is_good q.magic) (is_unset q.image_ok) ((types_are_rows r.profile p q kinds.Test).0 wants.table) in
          asked_from g s true (grind arith) (grind arith)

      uncut : (z : Content) → Ended G s (larger_size s) (count_of g s) true z → Leaves r g s z
      uncut z e =
          let first = fields_whole r.grain g z Primary tested (grind arith) in
          let good = reads_good g z Primary ok (sized_whole r.grain g z e.2.data_.sized) (first field.Magic) in
          let end = tested_made kinds.Test wants z e in
          let free : may_confirm g z ≡ true = sym (may_pieces r.grain g z) ∙ may (power_on r G s) (larger_size s) (count_of g s) z (in_parts kinds.Test wants) e in
          leaves kinds.Test wants true z e kinds.Revert true (λ m. (m, end, free)) refl end.next (rw good (rw end.image_ok (rw end.copy_done refl)))

      gentle_end : (z : Content) → Turned (tearing gently) Nothing r G s (larger_size s) (count_of g s) true u z → TurnsOut gently r g kinds.Test (count_of g s) s u z
      gentle_end z (made e later done) =
          let F : Bool → Type 0 = λ d. Ended G s (larger_size s) (count_of g s) d z in
          (is_made kinds.Test wants z done.2.data_, inl (tested_made kinds.Test wants z (subst F (later (inl refl)) done)))
      gentle_end z (idles same planned (lost none)) = absurd none
      gentle_end z (idles same planned (unclear unsure_ rules why)) = absurd (unsure_ (inl refl))
      gentle_end z (idles same planned (unsure tears why)) =
          (is_made kinds.Test wants z why.data_, inr (unsure_made kinds.Test wants z why (planned_on kinds.Test wants (tearing gently) Nothing true (λ z none. absurd none) u z same planned)))

      go : (d : Way) → Losing d (power_on r g s) cuts u → (z : Content) × EndsRested d r g s u z
      go cutting is =
          asked_cycle kinds.Test wants cutting true true (λ _. refl) (λ _. refl) are u cuts is
          (λ z turned. elim (cut_end kinds.Test wants Nothing true u z turned) [ inl e ↦ inl (uncut z e) | inr none ↦ absurd none.0 ])
      go (tearing gently) is =
          asked_cycle kinds.Test wants (tearing gently) true true (λ _. refl) (λ _. refl) are u cuts is (λ z turned. turns kinds.Test wants gently u z (gentle_end z turned))
      go (tearing roughly) is =
          asked_cycle kinds.Test wants (tearing roughly) false true (λ same. absurd cc) (λ sure. absurd (elim sure [ inl test ↦ cc | inr cut ↦ cc ])) are u cuts is
          (λ z turned. turns kinds.Test wants roughly u z (made_or_dropped kinds.Test wants (tearing roughly) u z turned))

  -- an upgrade that stays
  perm_law : (way : Way) → Wants (power_on r g s) kinds.Perm → (u : Content) (cuts : List ℕ) → Losing way (power_on r g s) cuts u → (z : Content) × EndsRested way r g s u z
  perm_law way wants u cuts is = asked_cycle kinds.Perm wants way false false (λ same. absurd cc) (λ _. refl) are u cuts is (go way)
    where
      are : FieldsAre g s Secondary (asked false)
      are =
          let p = trailer_of g s Primary in
          let q = trailer_of g s Secondary in
          let asks_ = and_parts (is_good q.magic) (is_set q.image_ok) ((types_are_rows r.profile p q kinds.Perm).0 wants.table) in
          asked_from g s false (grind arith) (grind arith)

      go : (d : Way) (z : Content) → Turned d Nothing r G s (larger_size s) (count_of g s) false u z → Makes d r g s u z
      go cutting z turned = elim (cut_end kinds.Perm wants Nothing false u z turned) [
        | inl e ↦ inl (stays_leaves kinds.Perm wants (λ z m n. (m, n)) refl z e)
        | inr none ↦ absurd none.0
      ]
      go (tearing f) z turned = turns kinds.Perm wants f u z (made_or_dropped kinds.Perm wants (tearing f) u z turned)

  -- a revert
  revert_law : (way : Way) → Wants (power_on r g s) kinds.Revert → (u : Content) (cuts : List ℕ) → Losing way (power_on r g s) cuts u → (z : Content) × EndsRested way r g s u z
  revert_law way wants u cuts is =
      swap_cycle kinds.Revert wants way (Waits way r.grain r.profile G s (count_of g s)) (Forgotten way r G s (count_of g s)) false (λ same. absurd cc) (λ z l. l.trial)
      (waiting_strides way r G s (larger_size s) (count_of g s) (pieces_again r.grain g) (in_parts kinds.Revert wants))
      (waits begin) u cuts is (go way)
    where
      p : Trailer
      p = trailer_of g s Primary

      asks_ : ((is_good p.magic) ≡ true) × ((reverts_at r.profile (trailer_of g s Secondary).magic) ≡ true) × ((is_unset p.image_ok) ≡ true) × ((is_set p.copy_done) ≡ true)
      asks_ = let table = wants.table in grind arith

      good : (trailer_of g s Primary).magic ≡ magics.Good
      good = grind (arith, asks_)

      unset : (trailer_of g s Primary).image_ok ≡ flags.Unset
      unset = grind (arith, asks_)

      set : (trailer_of g s Primary).copy_done ≡ flags.Set
      set = grind (arith, asks_)

      reverts : reverts_at r.profile (trailer_of G s Secondary).magic ≡ true
      reverts = ap (λ (p : Trailer). reverts_at r.profile p.magic) (trailer_pieces r.grain g s Secondary) ∙ asks_.1

      begin : Waits way r.grain r.profile G s (count_of g s) s
      begin = record {
        trial = record { primary = fields_pieces r.grain g s Primary tested (tested_from g s good unset set); data_ = data_begin G (count_of g s) s (in_parts kinds.Revert wants).sized };
        other = asks_none r.profile (trailer_of G s Primary) (trailer_of G s Secondary)
            (let parts = in_parts kinds.Revert wants in quiet_not_good r.grain r.profile G s parts.ok parts.sized (inr reverts));
        quiet = λ _. inr reverts;
      }

      why_is : (z : Content) → IsForgotten r G z ⊎ ((r.profile ≡ profiles.Three) × IsUnclear G z) → IsUnclear g z ⊎ IsForgotten r g z
      why_is z (inl is) = inr (record { profile = is.profile; magic = ap (λ (p : Trailer). p.magic) (sym (trailer_pieces r.grain g z Secondary)) ∙ is.magic })
      why_is z (inr is) = inl (unclear_on z is.1)

      forgets : (z : Content) → Forgotten cutting r G s (count_of g s) z → z ≡ u → plan (power_on r G u) ≡ nothing kinds.None → Forgets r g s u z
      forgets z is same idle =
          let planned : plan (power_on r g u) ≡ nothing kinds.None = sym (plan_in_pieces r g u) ∙ idle in
          let tried : is_on_trial (trailer_of g s Primary) ≡ true = rw good (rw unset (rw set refl)) in
          let there = ap is_on_trial (sym (trailer_pieces r.grain g z Primary)) ∙ is.tried in
          let dropped = is_dropped kinds.Revert wants z is.trial.data_ u same (ap (λ t. plan (power_on r g t)) same ∙ planned) in
          record {
            rules = is.rules refl;
            next = ap (λ (p : Plan). p.kind) wants.planned;
            idle = ap (λ (p : Plan). p.list) planned;
            stays = same;
            names = same_names (id_of z.primary) (id_of s.primary) (is_on_trial (trailer_of g z Primary)) (is_on_trial (trailer_of g s Primary)) (id_of z.secondary) (id_of s.secondary)
                (plan (power_on r g z)).kind kinds.None dropped.primary (there ∙ sym tried) dropped.secondary dropped.next;
          }

      go : (d : Way) (z : Content) → Turned d (Forgotten d r G s (count_of g s)) r G s (larger_size s) (count_of g s) false u z → Makes d r g s u z
      go cutting z turned = elim (cut_end kinds.Revert wants (Forgotten cutting r G s (count_of g s)) false u z turned) [
        | inl e ↦ inl (stays_leaves kinds.Revert wants (λ z m n. (m, n)) refl z e)
        | inr is ↦ inr (forgets z is.0 is.1 is.2)
      ]
      go (tearing f) z turned =
          turns kinds.Revert wants f u z (torn_end kinds.Revert wants (tearing f) (Forgotten (tearing f) r G s (count_of g s)) false (λ z l. l.trial) u z
          (IsDropped r g (count_of g s) s u z × (IsUnclear g z ⊎ IsForgotten r g z)) (λ is why. (is, elim why [ inl because ↦ inl because.1 | inr l ↦ why_is z l.why ])) turned)

  -- whatever the flash asks for
  pub rest_law : (way : Way) (u : Content) (cuts : List ℕ) → Losing way (power_on r g s) cuts u → (z : Content) × EndsRested way r g s u z
  rest_law way u cuts is = go (rests_or_wants (power_on r g s) rest.rest)
    where
      go : RestsOrWants (power_on r g s) → (z : Content) × EndsRested way r g s u z
      go (inl i) = idle_law way r g s rest.primary.same.valid (inl rest) i u cuts is
      go (inr (inl wants)) = test_law way wants u cuts is
      go (inr (inr (inl wants))) = perm_law way wants u cuts is
      go (inr (inr (inr wants))) = revert_law way wants u cuts is
