use Rattle.std.specs.{BTreeSet.{Updates}, Cmp.Lexicographic.{slice_cmp}, Ordering.{nat_cmp}}
use Rattle.std.proofs.Common.{List, [], ap, arith, length, refl, subst, sym, true, ℕ, ◌++◌, ◌∷◌, ◌≡◌, ◌≤◌, ◌∙◌}
use Rattle.mc_boot.specs.Plan.{again}
use Rattle.mc_explore.specs.{Boots.{at_cut}, facts.Occurring.{at_zero}}
use Rattle.mc_flash.specs.{Flash.{Content}, Geometry.{Geometry}}
use Rattle.mc_start.specs.Start.{begun}
use Rattle.mc_tears.proofs.{Ending.{none_made}, Losing.{first_case}}
use Rattle.mc_tears.specs.{Losses.{numbers_of}, declared.losses.LostCase.{LostCase}, declared.loss.Loss.{Loss}, inner.Losing.{IsCaseHere, searched}}
use Rattle.mc_vectors.specs.{Cases.{flash_digest}, inner.Digests.{AreOfFlash}, inner.Searches.{AreKnown, IsBelow, IsSearch}}
use Rattle.mc_vectors.proofs.Searches.{first, known_none, known_put}
use Rattle.mc_tears.proofs.losses.Search.begin.Goals as goal

abbrev digest_of : LostCase → List ℕ
digest_of c = c.digest

pub returns : goal.returns
returns g c =
    let x = begun c.args.start.now in
    let e = c.args.self.now.erasing in
    let f = g.F.Flash.seen c.in_ok-loaded.loaded.flash in
    let l = c.in_ok-loaded.ensures in
    let n : LostCase = c.in_ok-case.case in
    let old = c.args.self.now.known in
    let new = c.insert.new.self in
    let layout = l.stands.at_is.layout_is in
    let content : f.content ≡ x.content = l.stands.at_is.content_is ∙ ap (at_cut x) (none_made x c.in_ok-loaded.loaded.whole.summary l.is_whole.summary) ∙ sym (at_zero x) in
    let digest : c.in_ok-digest.digest ≡ flash_digest x.geometry x.content = rw (layout, content) at c.in_ok-digest.ensures.digest in
    let made = c.in_ok-case.ensures.case in
    let here : IsCaseHere x [] c.in_ok-digest.digest n =
    subst (λ (s : Content). IsCaseHere (again x s) [] c.in_ok-digest.digest n) content
    (subst (λ (z : List Loss). IsCaseHere (again x f.content) z c.in_ok-digest.digest n) c.new-none.ensures.items made) in
    let none : n.losses.items ≡ [] = here.losses_is in
    let items : c.push.new.self.items ≡ [] ++ n ∷ [] = c.in_ok-push.ensures.items ∙ ap (λ (z : List LostCase). z ++ n ∷ []) c.requires.none.0 in
    let put = subst (λ (d : List ℕ). Updates (slice_cmp nat_cmp) old new d true) (sym here.digest_is) c.in_ok-insert.ensures.updates in
    record {
      begun = λ bound.
          let short : length n.losses.items ≤ bound = omega (arith, ap (λ (z : List Loss). length z) none) in
          let both = first (searched e x bound) n (first_case e x c.in_ok-digest.digest n here digest, short) (ap numbers_of none) in
          record {
            ready = record {
              known = subst (AreKnown digest_of new) (sym items) (known_put digest_of old new [] n put (known_none digest_of old c.requires.none.1));
              here = subst (λ (k : Geometry). AreOfFlash k.sector c.digest.new.self) layout c.in_ok-digest.ensures.kept;
              lefts = c.in_ok-case.ensures.digests;
            };
            erasing = refl;
            search = subst (λ (z : List LostCase). IsSearch (searched e x bound) z 0) (sym items) both.0;
            below = subst (λ (z : List LostCase). IsBelow (searched e x bound) z 0) (sym items) both.1;
          };
    }
