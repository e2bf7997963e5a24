use Rattle.std.proofs.Common.{rules, ◌≡◌, Result, Ok, Err, Some, IfSome, ◌<◌, slice_get, take, subst, inl, refl, sym, ap, ◌∙◌}
use Rattle.mc_flash.specs.declared.flash.FlashError.{FlashError}
use Rattle.mc_flash.specs.declared.flash.FlashError.TheVariants as errors
use Rattle.mc_boot.specs.{Boot.{Steps, progress, to_come}, Plan.{plan, powered}, facts.Steps.{none_first}}
use Rattle.mc_life.specs.Device.{worn}
use Rattle.mc_life.proofs.{Booting.{begins_below, begins_worn, below_next, below_same, come_on, count_next, count_refused, worn_next}, boots.run.Given.{Over}}
use Rattle.mc_life.proofs.boots.run.Goals.{In-Some}
use Rattle.mc_life.proofs.boots.run.Goals as goal

pub steps-init : goal.steps-init
steps-init g c =
    let x = powered c.args.rules (g.F.Flash.seen c.args.flash.now) in
    let e = c.cold_among-boot.ensures in
    record {
      come = e.come;
      below = begins_below c.args.until (progress c.cold_among-boot.result) x e.cold.boot;
      layout = refl;
      inside = e.cold.layout;
      wear = begins_worn _ (progress c.cold_among-boot.result) x e.cold.boot c.idles.ensures;
    }

pub returns-in_default-clause-end : goal.returns-in_default-clause-end
returns-in_default-clause-end g c = inl (none_first (to_come c.steps.boot) c.peek.result c.peek.ensures.first cc)

below : (g : Over) (c : In-Some g) → IfSome c.args.until (λ m. c.steps.boot.done < m)
below g c = search rules

pub steps-preserved-in-Ok : goal.steps-preserved-in-Ok
steps-preserved-in-Ok g c =
    let x = powered c.args.rules (g.F.Flash.seen c.args.flash.now) in
    let i = c.steps.invariant in
    let e = c.step.ensures in
    let old = g.F.Flash.seen c.steps.flash in
    let new = g.F.Flash.seen c.step.new.flash in
    let p = progress c.steps.boot in
    let q = progress c.step.new.self in
    let first : slice_get p.to_come 0 ≡ Some c.in-Some.op = sym c.peek.ensures.first ∙ c.in-Some.is in
    let steps : Steps p old (Ok tt) q new = subst (λ (r : Result (Unit {0}) FlashError). Steps p old r q new) c.in-Ok.is e.step in
    record {
      come = come_on x p q old.content new.content old.geometry i.layout e.come i.come;
      below = below_next c.args.until p.count q.count (below g (goal.at.steps-preserved-in-Ok g c).In-Some) (count_next x p old.content i.come c.in-Some.op first q old new steps);
      layout = e.keeps.geometry ∙ i.layout;
      inside = e.layout;
      wear = worn_next x p old.content i.come c.in-Some.op first q old new steps c.steps.wear c.note.new.self c.note.ensures c.args.wear.now i.wear;
    }

pub steps-preserved : goal.steps-preserved
steps-preserved g c =
    let x = powered c.args.rules (g.F.Flash.seen c.args.flash.now) in
    let i = c.steps.invariant in
    let e = c.step.ensures in
    let old = g.F.Flash.seen c.steps.flash in
    let new = g.F.Flash.seen c.step.new.flash in
    let p = progress c.steps.boot in
    let q = progress c.step.new.self in
    let first : slice_get p.to_come 0 ≡ Some c.in-Some.op = sym c.peek.ensures.first ∙ c.in-Some.is in
    let is : c.step.result ≡ Err errors.NotErased = c.in-Err-NotErased.is ∙ ap (λ e. Err e) c.in-Err-NotErased.field-0-is in
    let steps : Steps p old (Err errors.NotErased) q new = subst (λ (r : Result (Unit {0}) FlashError). Steps p old r q new) is e.step in
    let same = count_refused x p old.content i.come c.in-Some.op first q old new steps in
    record {
      come = come_on x p q old.content new.content old.geometry i.layout e.come i.come;
      below = below_same c.args.until p.count q.count i.below same;
      layout = e.keeps.geometry ∙ i.layout;
      inside = e.layout;
      wear = i.wear ∙ ap (λ n. worn c.args.wear.now (take n (plan x).list)) (sym same);
    }
