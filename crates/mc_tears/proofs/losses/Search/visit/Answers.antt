use Rattle.std.specs.{BTreeSet.{Updates}, Cmp.Lexicographic.{slice_cmp}, Ordering.{nat_cmp}}
use Rattle.std.proofs.Common.{List, ap, refl, subst, sym, true, ℕ, ◌++◌, ◌+◌, ◌∷◌, ◌≡◌, ◌∙◌, []}
use Rattle.mc_boot.specs.Plan.{again}
use Rattle.mc_explore.specs.inner.OneRound.{begins}
use Rattle.mc_flash.specs.Geometry.{Geometry}
use Rattle.mc_tears.proofs.Losing.{from_layout, known_loss, new_loss}
use Rattle.mc_tears.specs.{Losses.{loss_number}, declared.losses.LostCase.{LostCase}, inner.Losing.{IsCaseHere, searched}}
use Rattle.mc_vectors.specs.{Cases.{flash_digest}, inner.Digests.{AreOfFlash}, inner.Searches.{AreKnown, IsExpanding}}
use Rattle.mc_vectors.proofs.Searches.{known_kept, known_put, was_known, was_new}
use Rattle.mc_tears.proofs.losses.Search.visit.Given.{Over}
use Rattle.mc_tears.proofs.losses.Search.visit.Goals as goal
use Rattle.mc_tears.proofs.losses.Search.visit.Goals.{In_ok-digest}

abbrev digest_of : LostCase → List ℕ
digest_of c = c.digest

-- The digest is that of the flash.
digest_is : (g : Over) (c : In_ok-digest g) → c.in_ok-digest.digest ≡ flash_digest (begins c.args.rounds.now).geometry (g.F.Flash.seen c.args.flash.now).content
digest_is g c = c.in_ok-digest.ensures.digest ∙ ap (λ (k : Geometry). flash_digest k (g.F.Flash.seen c.args.flash.now).content) c.requires.layout

pub returns-then-not-branch-clause-ready : goal.returns-then-not-branch-clause-ready
returns-then-not-branch-clause-ready g c = record {
  known = known_kept digest_of c.args.self.now.known c.insert.new.self c.args.self.now.cases.items (rw c.if-not-branch.true at c.in_ok-insert.ensures.unchanged) c.requires.ready.known;
  here = subst (λ (k : Geometry). AreOfFlash k.sector c.digest.new.self) c.requires.layout c.in_ok-digest.ensures.kept;
  lefts = c.requires.ready.lefts;
}

pub returns-then-not-branch-clause-visited : goal.returns-then-not-branch-clause-visited
returns-then-not-branch-clause-visited g c x bound index p from exp =
    let at = (goal.at.returns-then-not-branch-clause-visited g c).In_ok-digest in
    let e = c.args.self.now.erasing in
    let y = begins c.args.rounds.now in
    let cases : List LostCase = c.args.self.now.cases.items in
    let u = (g.F.Flash.seen c.args.flash.now).content in
    let v = was_known digest_of c.args.self.now.known cases c.in_ok-digest.digest c.requires.ready.known c.in_ok-insert.field-0 c.in_ok-insert.ensures.added c.if-not-branch.true in
    known_loss e x c.args.before.now y p from bound index cases c.args.loss exp u c.requires.lost v.0 v.1
    (v.2 ∙ digest_is g at ∙ ap (λ (k : Geometry). flash_digest k u) (from_layout e x c.args.before.now y p from))

pub returns-clause-ready : goal.returns-clause-ready
returns-clause-ready g c =
    let n : LostCase = c.in_ok-case.case in
    let old = c.args.self.now.known in
    let new = c.insert.new.self in
    let cases : List LostCase = c.args.self.now.cases.items in
    let here = c.in_ok-case.ensures.case in
    let put = subst (λ (d : List ℕ). Updates (slice_cmp nat_cmp) old new d true) (sym here.digest_is) c.in_ok-insert.ensures.updates in
    record {
      known = subst (AreKnown digest_of new) (sym c.in_ok-push.ensures.items) (known_put digest_of old new cases n put c.requires.ready.known);
      here = subst (λ (k : Geometry). AreOfFlash k.sector c.digest.new.self) c.requires.layout c.in_ok-digest.ensures.kept;
      lefts = c.in_ok-case.ensures.digests;
    }

pub returns-clause-visited : goal.returns-clause-visited
returns-clause-visited g c x bound index p from exp =
    let at = (goal.at.returns-clause-visited g c).In_ok-digest in
    let e = c.args.self.now.erasing in
    let y = begins c.args.rounds.now in
    let n : LostCase = c.in_ok-case.case in
    let cases : List LostCase = c.args.self.now.cases.items in
    let u = (g.F.Flash.seen c.args.flash.now).content in
    let here = c.in_ok-case.ensures.case in
    let case : IsCaseHere (again y u) (c.args.before.now ++ c.args.loss ∷ []) n.digest n = record {
      losses_is = here.losses_is ∙ c.in_ok-losses.ensures;
      digest_is = refl;
      outcome_is = here.outcome_is;
      left = here.left;
      left_is = here.left_is;
      left_digest_is = here.left_digest_is;
    } in
    let digest : n.digest ≡ flash_digest x.geometry u =
    here.digest_is ∙ digest_is g at ∙ ap (λ (k : Geometry). flash_digest k u) (from_layout e x c.args.before.now y p from) in
    subst (λ (l : List LostCase). IsExpanding (searched e x bound) l index (loss_number c.args.loss + 1) p) (sym c.in_ok-push.ensures.items)
    (new_loss e x c.args.before.now y p from bound index cases c.args.loss exp u c.requires.lost n case digest (λ d inside same.
    was_new digest_of c.args.self.now.known cases c.in_ok-digest.digest c.requires.ready.known c.in_ok-insert.field-0 c.in_ok-insert.ensures.added c.if-not-branch.false d inside
    (same ∙ here.digest_is)))
