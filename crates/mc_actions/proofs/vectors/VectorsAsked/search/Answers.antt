use Rattle.std.specs.Prelude.{false}
use Rattle.std.proofs.Common.{inl, refl, subst, ◌≡◌}
use Rattle.mc_actions.specs.{Vectors.{AreFound, RefusesSearch, bound_of, is_whole}, declared.vectors.Cuts.{Cuts}, declared.vectors.Table.{Table}, declared.vectors.VectorsAsked.{VectorsAsked}}
use Rattle.mc_actions.specs.declared.vectors.Cuts.TheVariants as cuts
use Rattle.mc_actions.proofs.vectors.VectorsAsked.search.Goals as goal
use Rattle.mc_options.specs.declared.refusal.Refusal.TheVariants as refusals

-- Those that 16 cuts leave may lead to more.
leads_on : (a : VectorsAsked) (t : Table) → a.cuts ≡ cuts.Any → AreFound a (bound_of a.cuts) t → is_whole t ≡ false → RefusesSearch a refusals.MoreCuts
leads_on a t any found whole = inl (refl, (any, t, subst (λ (c : Cuts). AreFound a (bound_of c) t) any found, whole))

pub returns-in-Any-clause-refused : goal.returns-in-Any-clause-refused
returns-in-Any-clause-refused c =
    let whole = rw c.is_whole.ensures at c.if-not-is_whole.true in
    leads_on c.args.self.now c.in-Ok.table c.in-Any.is c.in-Ok.ensures whole
