-- The law of torn operations from the starts of two images.
use Rattle.std.proofs.Common.{inl, inr}
use Rattle.std.specs.Prelude.{List, refl, ℕ, ◌≡◌, ◌≢◌, ◌⊎◌}
use Rattle.mc_boot.proofs.{AtRest.{AtRest}, FromRest.{ends_torn, rest_law}, Images.{ImageLaws}, RestartProof.{Begins, begins_as, first_in, held_whole, second_in}, Tears.{losing_torn, tearing}}
use Rattle.mc_boot.specs.{Plan.{plan, power_on}, Restart.{BeginsImage}, Torn.{EndsStart, EndsTorn, IsDropped, IsMade, StandIn, Tearing, Tears, TornStartsLaw, type_of}, declared.kind.Kind.{Kind}}
use Rattle.mc_flash.specs.{Flash.{Content}, Geometry.{Geometry, IsLayout}}
use Rattle.mc_trailer.specs.declared.tables.Rules.{Rules}
use Rattle.mc_trailer.specs.declared.tables.SwapType.TheVariants as kinds
use Rattle.mc_boot.specs.declared.kind.Kind.TheVariants as starts

module _ (laws : ImageLaws) (f : Tearing) (r : Rules) (g : Geometry) (a b : List ℕ) (ok : IsLayout g) (at_a : BeginsImage g a) (at_b : BeginsImage g b)
    (s u : Content) (cuts : List ℕ) (is : Tears f (power_on r g s) cuts u) where
  ended : AtRest g s → (z : Content) × EndsTorn f r g s u z
  ended rest = let end = rest_law laws r g ok s rest (tearing f) u cuts (losing_torn f (power_on r g s) cuts u is) in (end.0, ends_torn f r g s u end.0 end.1)

  module _ (kind : Kind) (begins : Begins r g (type_of kind) a b s) where
    there : (z : Content) → z ≡ s → StandIn a b z
    there z same = rw same (held_whole a s.primary begins.primary, held_whole b s.secondary begins.secondary)

    -- a swap
    swapped : type_of kind ≢ kinds.None → type_of kind ≢ kinds.Fail → (z : Content) → IsMade g (plan (power_on r g s)).sectors s z → StandIn b a z
    swapped some made z is = (
      held_whole b z.primary (second_in laws r g a b ok at_a at_b (type_of kind) s some made begins z.primary is.swapped.primary),
      held_whole a z.secondary (first_in laws r g a b ok at_a at_b (type_of kind) s some made begins z.secondary is.swapped.secondary),
    )

    kept : type_of kind ≢ kinds.None → type_of kind ≢ kinds.Fail → (z : Content) → (z ≡ s) ⊎ IsDropped r g (plan (power_on r g s)).sectors s u z → StandIn a b z
    kept some made z (inl same) = there z same
    kept some made z (inr is) = (
      held_whole a z.primary (first_in laws r g a b ok at_a at_b (type_of kind) s some made begins z.primary is.back.primary),
      held_whole b z.secondary (second_in laws r g a b ok at_a at_b (type_of kind) s some made begins z.secondary is.back.secondary),
    )

    swaps : type_of kind ≢ kinds.None → type_of kind ≢ kinds.Fail → (z : Content) × EndsStart f r g kind a b s u z
    swaps some made =
        let end = ended begins.rest in
        (end.0, record { type = begins.next; ends = end.1; made = λ _. swapped some made end.0; stays = kept some made end.0 })

  idles : Begins r g kinds.None a b s → (z : Content) × EndsStart f r g starts.None a b s u z
  idles begins =
      let end = ended begins.rest in
      let same : end.0 ≡ s = rw begins.next at end.1.turns in
      (end.0, record { type = begins.next; ends = end.1; made = λ some is. absurd (some refl); stays = λ _. there starts.None begins end.0 same })

pub torn_starts : ImageLaws → (f : Tearing) (r : Rules) → TornStartsLaw f r
torn_starts laws f r g starts.None a b s u cuts ok at_a at_b start is = idles laws f r g a b ok at_a at_b s u cuts is (begins_as laws r g starts.None a b s ok at_a at_b start)
torn_starts laws f r g starts.Test a b s u cuts ok at_a at_b start is =
    swaps laws f r g a b ok at_a at_b s u cuts is starts.Test (begins_as laws r g starts.Test a b s ok at_a at_b start) (λ e. cc) (λ e. cc)
torn_starts laws f r g starts.Perm a b s u cuts ok at_a at_b start is =
    swaps laws f r g a b ok at_a at_b s u cuts is starts.Perm (begins_as laws r g starts.Perm a b s ok at_a at_b start) (λ e. cc) (λ e. cc)
torn_starts laws f r g starts.Revert a b s u cuts ok at_a at_b start is =
    swaps laws f r g a b ok at_a at_b s u cuts is starts.Revert (begins_as laws r g starts.Revert a b s ok at_a at_b start) (λ e. cc) (λ e. cc)
