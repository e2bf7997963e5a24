use Rattle.std.proofs.Common.{length, sym, ap, subst, ◌∙◌}
use Rattle.mc_boot.specs.Plan.{PowerOn}
use Rattle.mc_explore.specs.{inner.OneRound.{begun_of}, inner.View.{IsLoaded}}
use Rattle.mc_explore.proofs.Walks.{cut_here, layout_here}
use Rattle.mc_explore.proofs.replays.flash_at_cut.Goals as goal

pub follow-requires-clause-loaded : goal.follow-requires-clause-loaded
follow-requires-clause-loaded g c =
    let l = c.in_ok-walk.ensures.loaded in
    subst (λ (x : PowerOn). IsLoaded g.F.Flash.counted x (length c.cuts-cuts.result.now) c.in_ok-walk.walk) (sym l.start_is) l

pub follow-requires-clause-at_most : goal.follow-requires-clause-at_most
follow-requires-clause-at_most g c = c.cuts-cuts.ensures.at_most

pub returns-clause-cut : goal.returns-clause-cut
returns-clause-cut g c =
    let e = c.in_ok-there.ensures in
    let there = cut_here g.F.Flash.counted (begun_of c.in_ok-walk.walk) _ _ c.in_ok-there.there c.in_ok-there.field-0-1 e.followed e.summary in
    rw c.into_flash.ensures (rw c.cuts-cuts.ensures.value at (rw c.in_ok-walk.ensures.loaded.start_is at there))

pub returns-clause-geometry : goal.returns-clause-geometry
returns-clause-geometry g c =
    let e = c.in_ok-there.ensures in
    let there = layout_here g.F.Flash.counted (begun_of c.in_ok-walk.walk) _ _ c.in_ok-there.there c.in_ok-there.field-0-1 e.followed e.summary in
    rw c.into_flash.ensures (there ∙ ap (λ (x : PowerOn). x.geometry) c.in_ok-walk.ensures.loaded.start_is)

pub returns-clause-exact : goal.returns-clause-exact
returns-clause-exact g c = λ counts.
    rw c.into_flash.ensures (c.in_ok-there.ensures.limits ∙ (rw c.cuts-cuts.ensures.value at c.in_ok-walk.ensures.exact) counts)
