-- The first node that a tour visits.
use Rattle.std.proofs.Common.{◌≡◌, ◌⊎◌, ℕ, List, [], Bool, true, false, refl, sym, subst, arith}
use Rattle.mc_tree.specs.{Tree.{Position, AtStart, IsNext}, facts.Order.{next_after_last, none_after_last, none_before_root}}
use Rattle.mc_walk.specs.{TreeModel.{TreeModel}, Walks.{Toured, IsBeyondLast, StandsAt, StandsBeyond, Visits, Walked, Begins, Climbs, IsPath}}
use Rattle.mc_walk.specs.declared.tour.Phase.TheVariants.{Fresh, Going, Done}

module _ {N A T B : Type 0} (k : TreeModel N A T) (old : Toured B) (summary : T) (new : Walked B) (begins : Begins k old.walk summary new) where
  root_first : IsNext (IsPath k old.walk) AtStart []
  root_first = grind (arith, none_before_root)

  at_start : (position : Position (List ℕ)) → old.phase ≡ Fresh → StandsAt k old position → position ≡ AtStart
  at_start position fresh at = rw fresh at at

  visits_root : (position : Position (List ℕ)) → old.phase ≡ Fresh → StandsAt k old position → IsNext (IsPath k old.walk) position new.path
  visits_root position fresh at =
      subst (IsNext (IsPath k old.walk) position) (sym begins.path)
      (subst (λ p. IsNext (IsPath k old.walk) p []) (sym (at_start position fresh at)) root_first)

  pub visits_first : (position : Position (List ℕ)) → old.phase ≡ Fresh → StandsAt k old position → Visits k old position true (record { walk = new; phase = Going })
  visits_first position fresh at = (visits_root position fresh at, begins.same, refl, begins.stands)

-- A tour leaves a node after its last child.
module _ {N A T B : Type 0} (k : TreeModel N A T) (old : Toured B) (new : Walked B) (position : Position (List ℕ)) (going : old.phase ≡ Going) (at : StandsBeyond k old position) where
  beyond : IsBeyondLast k old.walk position
  beyond = rw going at at

  pub left_on : (went : Bool) → went ≡ true → Climbs k old.walk went new → Visits k old position true (record { walk = new; phase = Going })
  left_on false is c = absurd cc
  left_on true is c = (
    subst (λ p. IsNext (IsPath k old.walk) p new.path) (sym beyond.position_is)
        (next_after_last k.tree k.root old.walk.bound old.walk.path beyond.number beyond.deep new.path beyond.last c.0),
    c.1,
    refl,
    c.2,
  )

  pub left_over : (went : Bool) → went ≡ false → Climbs k old.walk went new → Visits k old position false (record { walk = new; phase = Done })
  left_over it is c = grind (arith, none_after_last)

-- Where it visited no node yet, or there is no further one, it stays.
pub stays_beyond : {N A T B : Type 0} (k : TreeModel N A T) (old : Toured B) (position : Position (List ℕ)) → (old.phase ≡ Fresh) ⊎ (old.phase ≡ Done) → StandsBeyond k old position
    → Visits k old position false old
stays_beyond k old position it at = grind arith
