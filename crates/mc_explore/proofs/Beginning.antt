-- A walk that was loaded for a start goes along the path of a key.
use Rattle.std.specs.Prelude.{◌≡◌, ◌≤◌, ℕ, Bool, List, Option, [], refl, true, false}
use Rattle.std.proofs.Common.{ap, arith, subst, sym, ◌∙◌}
use Rattle.mc_tree.specs.Tree.{After, Position}
use Rattle.mc_flash.specs.Usage.{Limits, Spent}
use Rattle.mc_walk.specs.Walks.{Begins, Walked}
use Rattle.mc_walk.specs.declared.tour.Phase.TheVariants as phases
use Rattle.mc_start.specs.Start.{start_digest}
use Rattle.mc_boot.specs.Plan.{PowerOn}
use Rattle.mc_explore.specs.{declared.boot_row.BootRow.{BootRow}, declared.boot_row.Cuts.{Cuts}, declared.rounds.BootTree.{BootTree}, declared.rounds.Both.{Both}, declared.rounds.Rounds.{Rounds}}
use Rattle.mc_explore.specs.inner.{BootRows.{cuts_along, cuts_of}, BootTree.{begins_of, model_of}}
use Rattle.mc_explore.specs.inner.Exploring.{Edge, FollowsKey, IsCheapFor, IsFamily, IsLoaded, IsOurs, IsSound, NoAllocationFailed, explored, key_along}
use Rattle.mc_explore.specs.Subject.{State, Subject, after_key}
use Rattle.mc_explore.proofs.Visiting.{ours_on, paths_are, paths_in}

pub started : (row : Option BootRow) (counted : Bool) (start : PowerOn) (rounds : Rounds) (bound : ℕ) (w : Walked BootTree) → IsLoaded model_of begins_of counted start bound w
    → w.flash_tree.rounds ≡ rounds
    → bound ≤ 16 → IsSound counted start rounds bound (record { walk = w; phase = phases.Fresh; last = []; row = row }) (cuts_of [])
started row counted start rounds bound w l rounds_are at_most works = (
  record { start_is = l.start_is; rounds_are = rounds_are; bound_is = l.bound_is; at_most = at_most; counted_is = l.counted_is },
  record { member = (omega arith, tt); cuts_are = refl },
)

module _ {C K R U : Type 0} (x : Subject C K R U) (edge : Edge C K R) (family : IsFamily x edge) (counted : Bool) (start : PowerOn) (chosen : C) (bound n : ℕ)
    (zero_walk one two : Walked BootTree) (summary : Both) (k : K)
    (l : IsLoaded model_of begins_of counted start bound zero_walk) (rounds : zero_walk.flash_tree.rounds ≡ edge.rounds_in chosen) (at_most : bound ≤ 16)
    (b : Begins (model_of zero_walk.flash_tree) zero_walk summary one) (spent : Spent n zero_walk.seen one.seen) where
  one_start : begins_of one.flash_tree ≡ start
  one_start = ap begins_of b.same.flash_tree ∙ l.start_is

  pub one_rounds : one.flash_tree.rounds ≡ edge.rounds_in chosen
  one_rounds = ap (λ (t : BootTree). t.rounds) b.same.flash_tree ∙ rounds

  one_ours : IsOurs counted start (edge.rounds_in chosen) bound one
  one_ours = record { start_is = one_start; rounds_are = one_rounds; bound_is = b.same.bound ∙ l.bound_is; at_most = at_most; counted_is = ap (λ (z : Limits). z.counted) spent.limits ∙ l.counted_is }

  module _ (went : Bool) (is : went ≡ true) (f : FollowsKey x edge chosen one k went two) (no_allocation_failed : NoAllocationFailed one.seen two.seen) where
    there : (w : Bool) → w ≡ true → FollowsKey x edge chosen one k w two → FollowsKey x edge chosen one k true two
    there true e y = y
    there false e y = absurd cc

    follows : FollowsKey x edge chosen one k true two
    follows = there went is f

    two_ours : IsOurs counted start (edge.rounds_in chosen) bound two
    two_ours = ours_on counted start (edge.rounds_in chosen) bound one one_ours two follows.2 no_allocation_failed.limits

    -- The cuts along the path to which it came.
    abbrev last : Cuts
    last = cuts_along two.flash_tree.rounds (begins_of two.flash_tree) two.path

    pub member : paths_in (edge.rounds_in chosen) start bound two.path
    member = subst (λ P. P two.path) (paths_are counted start (edge.rounds_in chosen) bound one one_ours) follows.0

    cuts_there : cuts_along (edge.rounds_in chosen) start two.path ≡ last
    cuts_there = sym (ap (λ r. cuts_along r (begins_of two.flash_tree) two.path) two_ours.rounds_are ∙ ap (λ s. cuts_along (edge.rounds_in chosen) s two.path) two_ours.start_is)

    pub key_there : key_along x edge start chosen two.path ≡ k
    key_there = ap (λ s. key_along x edge s chosen two.path) (sym one_start) ∙ follows.1

    pub listed : x.IsListed start chosen bound k
    listed = subst (x.IsListed start chosen bound) key_there ((family.keys start chosen).listed bound two.path member)

    pub beyond_it : (explored start chosen bound two (After (edge.key_in last))).state ≡ after_key start chosen bound k
    beyond_it =
        let key : edge.key_in last ≡ k = ap edge.key_in (sym cuts_there) ∙ key_there in
        let failed : two.seen.usage.failed ≡ false = no_allocation_failed.failed ∙ spent.failed ∙ l.no_allocation_failed in
        ap (λ z. (explored start chosen bound two (After z)).state) key
        ∙ ap (λ b. record { start = start; choice = chosen; bound = bound; position = After k; failed = b }) failed

    pub resumed : (row : Option BootRow) → IsSound counted start (edge.rounds_in chosen) bound (record { walk = two; phase = phases.Going; last = two.path; row = row }) last
    resumed row works = (two_ours, record { member = member; cuts_are = cuts_there })

    -- It has not taken more than its subject says.
    pub cheap : (went ≡ true → one.seen.usage.applied ≤ (model_of one.flash_tree).all.entries → IsCheapFor x one two.seen.usage.applied) → n ≤ (model_of zero_walk.flash_tree).all.entries
        → x.IsCheap start.rules start.geometry bound two.seen.usage.applied
    cheap says most =
        let few = subst (λ t. n ≤ (model_of t).all.entries) (sym b.same.flash_tree) most in
        let there = says is (omega (arith, spent.applied, l.idle, few)) in
        let P : PowerOn → ℕ → Type 0 = λ s m. x.IsCheap s.rules s.geometry m two.seen.usage.applied in
        subst (P start) one_ours.bound_is (subst (λ s. P s one.bound) one_start there)

-- The start of an explorer after a key is the one that its state has.
pub same_digest : {C K : Type 0} (start : PowerOn) (chosen : C) (bound : ℕ) (w : Walked BootTree) (position : Position K) (other : PowerOn) (c : C) (many : ℕ) (k : K) (d : List ℕ)
    → (explored start chosen bound w position).state ≡ after_key other c many k → d ≡ start_digest other → d ≡ start_digest start
same_digest {C} {K} start chosen bound w position other c many k d at is = is ∙ ap (λ (s : State C K). start_digest s.start) (sym at)
