use Rattle.std.specs.{Prelude.{List, true, ℕ, ◌+◌, ◌≡◌, ◌≢◌, Contains}, BTreeSet.{Updates}, Cmp.Lexicographic.{slice_cmp}, Ordering.{nat_cmp}}
use Rattle.std.proofs.Common.{ap, subst, sym, ◌∙◌}
use Rattle.mc_flash.specs.{Geometry.{Geometry}, Usage.{Seen}}
use Rattle.mc_start.specs.Start.{begun}
use Rattle.mc_vectors.specs.{Cases.{flash_digest}, declared.case.Case.{Case}, inner.Digests.{AreOfFlash}, inner.Searching.{AreKnown, IsExpanding}}
use Rattle.mc_vectors.proofs.{Known.{known_kept, known_put, was_known, was_new}, Visited.{fresh_here, geometry_is, known_here, stands_at}}
use Rattle.mc_vectors.proofs.search.Search.visit.Goals as goal

pub digest-requires : goal.digest-requires
digest-requires g c =
    subst (λ (k : Geometry). AreOfFlash k.sector c.args.self.now.cuts)
    (sym (ap (λ (s : Seen). s.geometry) c.flash.ensures
    ∙ geometry_is (begun c.args.start.now) c.args.walk.now.path c.args.walk.now c.requires.at c.summary-summary.result.now c.summary-summary.ensures)) c.requires.ready.cuts

pub returns-then-not-branch-clause-ready : goal.returns-then-not-branch-clause-ready
returns-then-not-branch-clause-ready g c =
    let old = c.args.self.now.known in
    let new = c.insert.new.self in
    record {
      known = known_kept old new c.args.self.now.cases.items (rw c.if-not-branch.true at c.in_ok-insert.ensures.unchanged) c.requires.ready.known;
      cuts = subst (λ (k : Geometry). AreOfFlash k.sector c.digest.new.self)
          (ap (λ (s : Seen). s.geometry) c.flash.ensures
          ∙ geometry_is (begun c.args.start.now) c.args.walk.now.path c.args.walk.now c.requires.at c.summary-summary.result.now c.summary-summary.ensures) c.in_ok-digest.ensures.kept;
      lefts = c.requires.ready.lefts;
    }

pub returns-then-not-branch-clause-visited : goal.returns-then-not-branch-clause-visited
returns-then-not-branch-clause-visited g c bound index number path e =
    let x = begun c.args.start.now in
    let w = c.args.walk.now in
    let cases : List Case = c.args.self.now.cases.items in
    let is = stands_at x w.path w c.requires.at c.summary-summary.result.now c.summary-summary.ensures in
    let digest : c.in_ok-digest.digest ≡ flash_digest x.geometry w.seen.content =
    c.in_ok-digest.ensures.digest ∙ ap (λ (s : Seen). flash_digest s.geometry s.content) c.flash.ensures
    ∙ ap (λ (k : Geometry). flash_digest k w.seen.content) (geometry_is x w.path w c.requires.at c.summary-summary.result.now c.summary-summary.ensures) in
    let v = was_known c.args.self.now.known cases c.in_ok-digest.digest c.requires.ready.known c.in_ok-insert.field-0 c.in_ok-insert.ensures.added c.if-not-branch.true in
    known_here x bound cases index number c.args.parent.now e w.path w.seen.content path is c.in_ok-digest.digest digest v.0 v.1 v.2

pub returns-clause-ready : goal.returns-clause-ready
returns-clause-ready g c =
    let n : Case = c.in_ok-case.case in
    let old = c.args.self.now.known in
    let new = c.insert.new.self in
    let cases : List Case = c.args.self.now.cases.items in
    let here = c.in_ok-case.ensures.case in
    let put = subst (λ (d : List ℕ). Updates (slice_cmp nat_cmp) old new d true) (sym here.digest_is) c.in_ok-insert.ensures.updates in
    record {
      known = subst (AreKnown new) (sym c.in_ok-push.ensures.items) (known_put old new cases n put c.requires.ready.known);
      cuts = subst (λ (k : Geometry). AreOfFlash k.sector c.digest.new.self)
          (ap (λ (s : Seen). s.geometry) c.flash.ensures
          ∙ geometry_is (begun c.args.start.now) c.args.walk.now.path c.args.walk.now c.requires.at c.summary-summary.result.now c.summary-summary.ensures) c.in_ok-digest.ensures.kept;
      lefts = c.in_ok-case.ensures.digests;
    }

pub returns-clause-visited : goal.returns-clause-visited
returns-clause-visited g c bound index number path e =
    let x = begun c.args.start.now in
    let w = c.args.walk.now in
    let p : Case = c.args.parent.now in
    let n : Case = c.in_ok-case.case in
    let cases : List Case = c.args.self.now.cases.items in
    let is = stands_at x w.path w c.requires.at c.summary-summary.result.now c.summary-summary.ensures in
    let digest : c.in_ok-digest.digest ≡ flash_digest x.geometry w.seen.content =
    c.in_ok-digest.ensures.digest ∙ ap (λ (s : Seen). flash_digest s.geometry s.content) c.flash.ensures
    ∙ ap (λ (k : Geometry). flash_digest k w.seen.content) (geometry_is x w.path w c.requires.at c.summary-summary.result.now c.summary-summary.ensures) in
    let here = c.in_ok-case.ensures.case in
    let both = here.is_case bound cases index number e path digest in
    let new : (d : Case) → Contains cases d → d.digest ≢ n.digest =
    λ d inside same. was_new c.args.self.now.known cases c.in_ok-digest.digest c.requires.ready.known c.in_ok-insert.field-0 c.in_ok-insert.ensures.added c.if-not-branch.false d inside
    (same ∙ here.digest_is) in
    subst (λ (l : List Case). IsExpanding x bound l index (number + 1) p) (sym c.in_ok-push.ensures.items)
    (fresh_here x bound cases index number p e w.path w.seen.content path is n both.0 here.schedule_is (here.digest_is ∙ digest) both.1 new)
