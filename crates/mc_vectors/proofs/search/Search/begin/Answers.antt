use Rattle.std.specs.{Prelude.{List, Some, [], refl, true, ℕ, ◌++◌, ◌∷◌, ◌≡◌}, BTreeSet.{Updates}, Cmp.Lexicographic.{slice_cmp}, Ordering.{nat_cmp}}
use Rattle.std.proofs.Common.{ap, subst, sym, ◌∙◌}
use Rattle.mc_boot.specs.Outcome.{after}
use Rattle.mc_flash.specs.Geometry.{Geometry}
use Rattle.mc_start.specs.Start.{begun}
use Rattle.mc_vectors.specs.{Cases.{flash_digest}, declared.case.Case.{Case}, inner.Digests.{AreOfFlash}, inner.Searching.{AreKnown, IsBelow, IsSearch}}
use Rattle.mc_vectors.proofs.{Extended.{first}, Known.{known_none, known_put}}
use Rattle.mc_vectors.proofs.search.Search.begin.Goals as goal

pub returns-clause-ready : goal.returns-clause-ready
returns-clause-ready g c =
    let n : Case = c.in_ok-case.case in
    let old = c.args.self.now.known in
    let new = c.insert.new.self in
    let items : c.push.new.self.items ≡ [] ++ n ∷ [] = c.in_ok-push.ensures.items ∙ ap (λ (l : List Case). l ++ n ∷ []) c.requires.none.0 in
    let put = subst (λ (d : List ℕ). Updates (slice_cmp nat_cmp) old new d true) (sym c.in_ok-case.ensures.case.digest_is) c.in_ok-insert.ensures.updates in
    record {
      known = subst (AreKnown new) (sym items) (known_put old new [] n put (known_none old c.requires.none.1));
      cuts = subst (λ (k : Geometry). AreOfFlash k.sector c.digest_of.new.self) c.layout.ensures.value c.in_ok-digest.ensures.kept;
      lefts = c.in_ok-case.ensures.digests;
    }

pub returns-clause-begun : goal.returns-clause-begun
returns-clause-begun g c bound =
    let x = begun c.args.start.now in
    let n : Case = c.in_ok-case.case in
    let own = c.in_ok-case.ensures.case in
    let digest : c.in_ok-digest.digest ≡ flash_digest x.geometry x.content =
    rw (sym c.layout.ensures.value, sym c.primary-primary.ensures.value, sym c.secondary-secondary.ensures.value) c.in_ok-digest.ensures.digest in
    let items : c.push.new.self.items ≡ n ∷ [] = c.in_ok-push.ensures.items ∙ ap (λ (l : List Case). l ++ n ∷ []) c.requires.none.0 in
    let both = first x bound n (own.is_case x.content (subst (λ (l : List ℕ). after x l ≡ Some x.content) (sym c.new-none.ensures) refl) digest) (own.schedule_is ∙ c.new-none.ensures) own.joins_is in
    subst (λ (l : List Case). IsSearch x bound l 0 × IsBelow l 0) (sym items) both
