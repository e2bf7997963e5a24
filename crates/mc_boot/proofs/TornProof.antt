-- Whole boots from each phase: what they bear where power is lost, and what they leave.
use Rattle.std.proofs.{Common.{ap, arith, inl, inr, subst, ◌∙◌}, lemmas.List.{append_assoc}}
use Rattle.std.specs.Prelude.{Bool, List, [], false, refl, suc, true, zero, ℕ, ◌*◌, ◌++◌, ◌<◌, ◌==◌, ◌≡◌, ◌≢◌, ◌≤◌, ◌⊎◌}
use Rattle.mc_boot.proofs.Phases.{Asked, Ended, IsSwapOf, Swap, Under, flag_is, kind_asked, magic_unset_reverts, new_is, opened, plan_asked, plan_runs, plan_tested, running, starting}
use Rattle.mc_boot.proofs.{SwapEnds.{sees_start}, SwapsKeep.{Made}, Tears.{Stands, Strides, Way, cutting, how, stands_append, stands_more, strides_by}}
use Rattle.mc_boot.proofs.TornPhases.{AsksFor, Becomes, IsQuiet, IsSure, Opened, Running, Torn, Trial, Unclear, Unsure, Waits, asks, clears, drops, ends, flag_asked, plan_unclear, plan_unsure, runs, sort_opened, sort_trial, under_alone, waits}
use Rattle.mc_boot.proofs.{TornSwaps.{clearing_stands, made_opened, opening_stands, preparing_stands}, TornTransfers.{rest_stands}, Transfers.{other_number}}
use Rattle.mc_boot.specs.{Life.{is_on_trial}, Plan.{from_transfer, new_list, nothing, opening_writes, plan, power_on, preparation_writes, resumed_list, swap_list, trailer_erases}}
use Rattle.mc_boot.specs.{Restart.{forgets_reverts}, Torn.{IsForgotten, IsUnclear, gently}}
use Rattle.mc_flash.specs.{Flash.{Content}, Geometry.{Geometry, in_pieces}, declared.flash.Grain.{Grain}, declared.op.Op.{Op}, declared.op.Slot.TheVariants.{Primary, Secondary}}
use Rattle.mc_trailer.specs.{Tables.{asks_another, reverts_at}, Trailer.{trailer_of}, declared.tables.Profile.{Profile}, declared.tables.Rules.{Rules}, declared.tables.SwapType.{SwapType}}
use Rattle.mc_trailer.specs.{facts.Fields.{reads_absent, reads_copy_done, reads_good, reads_image_ok}, facts.Tables.{asks_neither, types_are_rows}}
use Rattle.mc_trailer.specs.declared.places.Field.TheVariants as field
use Rattle.mc_trailer.specs.declared.trailer.Flag.TheVariants as flags
use Rattle.mc_trailer.specs.declared.tables.SwapType.TheVariants as kinds
use Rattle.mc_trailer.specs.declared.trailer.Magic.TheVariants as magics
use Rattle.mc_trailer.specs.declared.tables.Profile.TheVariants as profiles

-- ---- whole boots

module _ (way : Way) (g : Geometry) (start : Content) (size n : ℕ) (w : Swap g start size n) (R : Content → Type 0) (p : Profile)
    (b e : Bool) (gentle : b ≡ true → how way ≡ gently) (later : Becomes way b e) where
  abbrev P : Content → Type 0
  P = Torn way R p g start size n b

  module _ (kind : SwapType) (of : IsSwapOf e kind) where
    from_opened : (s : Content) → Opened g start size n b kind s → (way ≡ cutting → AsksFor g b s) → Stands way g P (resumed_list g n 0 true false) s (Ended g start size n e)
    from_opened s is exact =
        stands_append way g P (Running g start size n b kind 0) (Ended g start size n e) (trailer_erases g Secondary) (from_transfer g n 0 false) s
        (stands_more way g (λ t. Opened g start size n b kind t × (way ≡ cutting → AsksFor g b t)) P (Running g start size n b kind 0) (Running g start size n b kind 0) (trailer_erases g Secondary) s
        (λ t k. sort_opened way R p g start size n b e kind t later of k.0 k.1) (λ t k. k) (clearing_stands way g start size n w b gentle kind s is exact))
        (λ t k. rest_stands way g start size n w R p b e kind later of 0 t (omega arith) k)

    pub from_asked : (c : Grain) (s : Content) → Asked g start n e s → Stands way g P (swap_list c g kind size n) s (Ended g start size n e)
    from_asked c s is =
        let E : List Op → Type 0 = λ l. Stands way g P l s (Ended g start size n e) in
        let M : Content → Type 0 = λ t. Asked g start n e t × Made g Primary (opened g kind size) t in
        subst E (append_assoc (trailer_erases g Primary) (opening_writes c g kind size) (resumed_list g n 0 true false))
        (stands_append way g P M (Ended g start size n e) (trailer_erases g Primary ++ opening_writes c g kind size) (resumed_list g n 0 true false) s
        (stands_more way g (Asked g start n e) P M M (trailer_erases g Primary ++ opening_writes c g kind size) s
        (λ t k. asks e later k) (λ t k. k) (opening_stands way g start size n w c e kind s is))
        (λ t k. from_opened t (made_opened way g start size n w b e kind t later k.0 k.1) (λ cut _. flag_is g t e k.0.secondary ∙ ap flag_asked (later (inr cut)))))

    from_running : (k : ℕ) (s : Content) → 0 < k → k ≤ 3 * n → Under g start size n kind k s → Stands way g P (running g kind n k (k == 0)).list s (Ended g start size n e)
    from_running zero s some most is = absurd (omega (arith, some))
    from_running (suc j) s some most is =
        rw (other_number (suc j) 0 (λ e. omega (arith, e)))
        (rest_stands way g start size n w R p b e kind later of (suc j) s most (record { under = is; image_ok = λ zero_ _. absurd (omega (arith, zero_)) }))

from_waiting : (way : Way) (p : Profile) (g : Geometry) (start : Content) (size n : ℕ) (w : Swap g start size n) (c : Grain) (s : Content) → Trial g start n s → (way ≡ cutting → IsQuiet c p g s)
    → Stands way g (Torn way (Waits way c p g start n) p g start size n false) (new_list c g kinds.Revert size n) s (Ended g start size n false)
from_waiting way p g start size n w c s is quiet =
    let T : Content → Type 0 = Torn way (Waits way c p g start n) p g start size n false in
    let E : List Op → Type 0 = λ l. Stands way g T l s (Ended g start size n false) in
    subst E (append_assoc (trailer_erases g Secondary) (preparation_writes c g size) (swap_list c g kinds.Revert size n))
    (stands_append way g T (Asked g start n false) (Ended g start size n false) (trailer_erases g Secondary ++ preparation_writes c g size) (swap_list c g kinds.Revert size n) s
    (stands_more way g (λ t. Trial g start n t × (way ≡ cutting → IsQuiet c p g t)) T (Asked g start n false) (Asked g start n false) (trailer_erases g Secondary ++ preparation_writes c g size) s
    (λ t k. sort_trial way c p g start size n t w.ok k.0 k.1) (λ t k. k) (preparing_stands way g start size n w c p s is quiet))
    (λ t k. from_asked way g start size n w (Waits way c p g start n) p false false (λ same. absurd cc) (λ _. refl) kinds.Revert refl c t k))

-- ---- boots from each phase, where the chunk of the layout is what is copied at once

-- Why a boot finds nothing to do.
pub data Idle (way : Way) (Lost : Content → Type 0) (p : Profile) (g : Geometry) (start : Content) (n : ℕ) (b : Bool) (z : Content) : Type 0 where
  lost : Lost z → Idle way Lost p g start n b z
  unclear : (IsSure way b → ⊥) → p ≢ profiles.Three → Unclear g start n z → Idle way Lost p g start n b z
  unsure : way ≢ cutting → Unsure g start n z → Idle way Lost p g start n b z

-- What the boot from t leaves.
pub data Turned (way : Way) (Lost : Content → Type 0) (r : Rules) (g : Geometry) (start : Content) (size n : ℕ) (b : Bool) (t z : Content) : Type 0 where
  made : (e : Bool) → Becomes way b e → Ended g start size n e z → Turned way Lost r g start size n b t z
  idles : z ≡ t → plan (power_on r g t) ≡ nothing kinds.None → Idle way Lost r.profile g start n b z → Turned way Lost r g start size n b t z

module _ (way : Way) (R Lost : Content → Type 0) (r : Rules) (g : Geometry) (start : Content) (size n : ℕ) (b : Bool)
    (gentle : b ≡ true → how way ≡ gently) (whole : in_pieces r.grain g ≡ g) (w : Swap g start size n) where
  abbrev Bearing : Content → Type 0
  Bearing = Torn way R r.profile g start size n b

  abbrev Turning : Content → Content → Type 0
  Turning = Turned way Lost r g start size n b

  idle_strides : (t : Content) → plan (power_on r g t) ≡ nothing kinds.None → Idle way Lost r.profile g start n b t → Strides way (power_on r g t) Bearing (Turning t)
  idle_strides t is why = strides_by way (power_on r g t) Bearing (Turning t) (nothing kinds.None) is (λ e. cc) (idles refl is why)

  ended : (e : Bool) → Becomes way b e → (t : Content) (ops : List Op) → Stands way g Bearing ops t (Ended g start size n e) → Stands way g Bearing ops t (Turning t)
  ended e later t ops stands = stands_more way g Bearing Bearing (Ended g start size n e) (Turning t) ops t (λ u k. k) (λ u k. made e later k) stands

  asked_strides : (e : Bool) → Becomes way b e → (t : Content) → Asked g start n e t → Strides way (power_on r g t) Bearing (Turning t)
  asked_strides e later t is =
      strides_by way (power_on r g t) Bearing (Turning t) (starting r.grain g (kind_asked e) size n)
      (plan_asked (power_on r g start) size n e t w (sees_start g start size n t w is.data_) is) (not_panic e)
      (rw whole (ended e later t (new_list r.grain g (kind_asked e) size n) (by e later is)))
    where
      not_panic : (d : Bool) → kind_asked d ≢ kinds.Panic
      not_panic true same = cc
      not_panic false same = cc

      by : (d : Bool) → Becomes way b d → Asked g start n d t → Stands way g Bearing (new_list r.grain g (kind_asked d) size n) t (Ended g start size n d)
      by true later is = from_asked way g start size n w R r.profile b true gentle later kinds.Test refl r.grain t is
      by false later is = from_asked way g start size n w R r.profile b false gentle later kinds.Perm refl r.grain t is

  no_panic : (e : Bool) (kind : SwapType) → IsSwapOf e kind → kind ≢ kinds.Panic
  no_panic e kind of panic = rw panic at of

  pub torn_strides : ((t : Content) → R t → Strides way (power_on r g t) Bearing (Turning t)) → (t : Content) → Bearing t → Strides way (power_on r g t) Bearing (Turning t)
  torn_strides before t (waits is) = before t is
  torn_strides before t (asks e later is) = asked_strides e later t is
  torn_strides before t (clears e kind later of is other exact) =
      strides_by way (power_on r g t) Bearing (Turning t) (running (in_pieces r.grain g) kind n 0 true)
      (plan_runs (power_on r g start) size n e kind 0 t w of (omega arith) is.data_.sized is.primary is.entries other) (no_panic e kind of)
      (rw whole (ended e later t (resumed_list g n 0 true false) (from_opened way g start size n w R r.profile b e gentle later kind of t is exact)))
  torn_strides before t (runs e kind k later of some most is) =
      strides_by way (power_on r g t) Bearing (Turning t) (running (in_pieces r.grain g) kind n k (k == 0))
      (plan_runs (power_on r g start) size n e kind k t w of most is.data_.sized is.primary is.entries (under_alone r.profile g start size n kind k t w.ok is)) (no_panic e kind of)
      (rw whole (ended e later t (running g kind n k (k == 0)).list (from_running way g start size n w R r.profile b e gentle later kind of k t some most is)))
  torn_strides before t (drops unsure_ other why) = idle_strides t (plan_unclear (power_on r g start) t other why.magic why.image_ok) (unclear unsure_ other why)
  torn_strides before t (ends tears is) =
      idle_strides t (plan_unsure (power_on r g start) t is.copy_done (reads_absent g t Secondary w.ok is.data_.sized (is.secondary field.Magic))) (unsure tears is)

-- a revert that waits
pub record Forgotten (way : Way) (r : Rules) (g : Geometry) (start : Content) (n : ℕ) (z : Content) : Type 0 where
  pub why : IsForgotten r g z ⊎ ((r.profile ≡ profiles.Three) × IsUnclear g z)
  pub trial : Trial g start n z
  pub tried : is_on_trial (trailer_of g z Primary) ≡ true
  pub rules : way ≡ cutting → forgets_reverts r.grain r.profile ≡ true

module _ (way : Way) (r : Rules) (g : Geometry) (start : Content) (size n : ℕ) (whole : in_pieces r.grain g ≡ g) (w : Swap g start size n) where
  abbrev Waiting : Content → Type 0
  Waiting = Waits way r.grain r.profile g start n

  pub waiting_strides : (t : Content) → Waiting t → Strides way (power_on r g t) (Torn way Waiting r.profile g start size n false) (Turned way (Forgotten way r g start n) r g start size n false t)
  waiting_strides t is = go (reverts_at r.profile (trailer_of g t Secondary).magic) refl
    where
      good : (trailer_of g t Primary).magic ≡ magics.Good
      good = reads_good g t Primary w.ok is.trial.data_.sized (is.trial.primary field.Magic)

      unset : (trailer_of g t Primary).image_ok ≡ flags.Unset
      unset = reads_image_ok g t Primary 255 [] (is.trial.primary field.ImageOk)

      set : (trailer_of g t Primary).copy_done ≡ flags.Set
      set = reads_copy_done g t Primary 1 [] (is.trial.primary field.CopyDone)

      why : (p : Profile) → r.profile ≡ p → asks_another p (trailer_of g t Primary) (trailer_of g t Secondary) ≡ false → reverts_at p (trailer_of g t Secondary).magic ≡ false
          → IsForgotten r g t ⊎ ((r.profile ≡ profiles.Three) × IsUnclear g t)
      why profiles.One is other kept = inl (record { profile = is; magic = grind (arith, other, kept) })
      why profiles.Two is other kept = absurd (grind (arith, other, kept))
      why profiles.Three is other kept = inr (is, record { magic = grind (arith, other, kept); image_ok = grind (arith, other, kept) })

      rules : reverts_at r.profile (trailer_of g t Secondary).magic ≡ false → IsQuiet r.grain r.profile g t → (b : Bool) → forgets_reverts r.grain r.profile ≡ b → b ≡ true
      rules kept quiet b forgets = grind (arith, magic_unset_reverts)

      go : (d : Bool) → reverts_at r.profile (trailer_of g t Secondary).magic ≡ d
          → Strides way (power_on r g t) (Torn way Waiting r.profile g start size n false) (Turned way (Forgotten way r g start n) r g start size n false t)
      go true reverts =
          strides_by way (power_on r g t) _ _ (starting r.grain g kinds.Revert size n)
          (plan_tested (power_on r g t) size n good unset set reverts (sees_start g start size n t w is.trial.data_) w.count w.at_most) (λ e. cc)
          (rw whole (ended way Waiting (Forgotten way r g start n) r g start size n false (λ same. absurd cc) whole w false (λ _. refl) t (new_list r.grain g kinds.Revert size n)
          (from_waiting way r.profile g start size n w r.grain t is.trial is.quiet)))
      go false kept =
          let none = asks_neither r.profile (trailer_of g t Primary) (trailer_of g t Secondary) is.other in
          let table = (types_are_rows r.profile (trailer_of g t Primary) (trailer_of g t Secondary) kinds.None).1
          (none.0, none.1, grind (arith, kept)) in
          let planned : plan (power_on r g t) ≡ nothing kinds.None = new_is (power_on r g t) kinds.None (nothing kinds.None) (rw set (grind arith)) table refl in
          idle_strides way Waiting (Forgotten way r g start n) r g start size n false (λ same. absurd cc) whole w t planned
          (lost (record { why = why r.profile refl is.other kept; trial = is.trial; tried = rw good (rw unset (rw set refl)); rules = λ cut. rules kept (is.quiet cut) _ refl }))
