use Rattle.std.specs.Prelude.{None, Option, Some, false, is_some, refl, ◌≡◌}
use Rattle.mc_boot.specs.Boot.{progress, to_come, goes_further}
use Rattle.mc_boot.specs.facts.Steps.{comes_allows, counts_on_both, none_first, step_spends_both}
use Rattle.mc_boot.proofs.boot.Boot.finish.Goals as goal

pub steps-preserved : goal.steps-preserved
steps-preserved g c =
    let i = c.steps.invariant in
    let e = c.in_ok-stride.ensures in
    let old = g.F.Flash.seen c.args.flash.now in
    let now = g.F.Flash.seen c.steps.flash in
    let new = g.F.Flash.seen c.stride.new.flash in
    let p = progress c.steps.self in
    let q = progress c.stride.new.self in
    record {
      goes = goes_further c.args.self.now old c.steps.self now c.stride.new.self new i.goes e.goes;
      room = comes_allows p q now new e.goes.keeps.geometry e.counts e.ok i.room;
      counts = counts_on_both (progress c.args.self.now) p q old now new i.goes.keeps.geometry i.counts e.counts;
      spends = step_spends_both (progress c.args.self.now) p q old now new i.spends e.ok.spends;
    }

no_some : {A : Type 0} (o : Option A) → ((x : A) → o ≡ Some x → ⊥) → is_some o ≡ false
no_some None not = refl
no_some (Some x) not = absurd (not x refl)

pub returns-clause-end : goal.returns-clause-end
returns-clause-end g c = none_first (to_come c.steps.self) c.next_op.result c.next_op.ensures.first (no_some c.next_op.result c.in_default.not-Some)
