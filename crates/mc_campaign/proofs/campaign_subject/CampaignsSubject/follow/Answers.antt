use Rattle.std.proofs.Common.{Bool, List, ap, false, sym, true, ℕ, ◌≡◌, ◌∙◌, subst}
use Rattle.mc_walk.specs.Walks.{IsPath, Walked}
use Rattle.mc_explore.specs.{declared.rounds.BootTree.{BootTree}, inner.BootTree.{confirms_of, model_is, root_of}, inner.Exploring.{FollowsKey}, Rounds.{tree_of}}
use Rattle.mc_explore.specs.declared.rounds.Rounds.TheVariants as kinds
use Rattle.mc_tree.specs.Tree.{IsMember}
use Rattle.mc_campaign.specs.{Rows.{campaigns}, facts.Keys.{key_is}, inner.InRounds.{edge}, inner.View.{FollowsCampaign, begun_of}}
use Rattle.mc_campaign.proofs.campaign_subject.CampaignsSubject.follow.Goals as goal

follows : (confirms : Bool) (old new : Walked BootTree) (k : List (ℕ × ℕ)) (went : Bool) → old.flash_tree.rounds ≡ kinds.Two confirms → FollowsCampaign confirms old k went new
    → FollowsKey campaigns edge confirms old k went new
follows confirms old new k true two f =
    let paths = ap (λ r. IsMember (tree_of (confirms_of r)) (root_of r (begun_of old)) old.bound) (sym two) in
    (rw (model_is old.flash_tree) (subst (λ P. P new.path) paths f.0.member), key_is (begun_of old) confirms new.path ∙ f.0.cuts_are, f.1, f.2)
follows confirms old new k false two f = f

pub returns-clause-follows : goal.returns-clause-follows
returns-clause-follows g c =
    follows c.args.confirms c.args.walk.now c.follow.new.walk c.args.key.now c.in_ok-went.went c.requires.rounds c.in_ok-went.ensures.follows
