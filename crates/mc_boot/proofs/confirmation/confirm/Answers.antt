use Rattle.std.proofs.{Common.{refl, sym, ap, subst, ◌∙◌}, lemmas.Result.{err_from_is_err_and}}
use Rattle.std.specs.Prelude.{Ok, Err, true, false}
use Rattle.mc_flash.specs.{Geometry.{Geometry}, Usage.{Does}, declared.op.Op.{Op}, declared.op.Slot.TheVariants.{Primary}}
use Rattle.mc_boot.specs.{Restart.{Confirms}, facts.Confirm.{confirm_fails, confirms_content, confirms_counts, confirms_err, confirms_keeps, confirms_spends}}
use Rattle.mc_boot.specs.Plan.{image_ok_write}
use Rattle.mc_boot.proofs.{confirmation.confirm.Given.{Over}, confirmation.confirm.Goals.{In_ok-perform}}
use Rattle.mc_boot.proofs.confirmation.confirm.Goals as goal

-- nothing was written
kept : (g : Over) (c : goal.Then-not-may_confirm g) → Confirms (g.F.Flash.seen c.args.flash.now) (Ok false) (g.F.Flash.seen c.args.flash.now)
kept g c = (sym c.may_confirm.ensures.may ∙ c.if-not-may_confirm.true, refl)

pub returns-then-not-may_confirm-clause-content : goal.returns-then-not-may_confirm-clause-content
returns-then-not-may_confirm-clause-content g c =
    let old = g.F.Flash.seen c.args.flash.now in confirms_content old old c.may_confirm.ensures.valid (Ok false) (kept g c)

-- the write that was made
wrote : (g : Over) (c : In_ok-perform g) → Confirms (g.F.Flash.seen c.args.flash.now) (Ok true) (g.F.Flash.seen c.perform.new.flash)
wrote g c =
    let E : Op → Type 0 = λ op. Does op (g.F.Flash.seen c.args.flash.now) (Ok tt) (g.F.Flash.seen c.perform.new.flash) in (
      sym c.may_confirm.ensures.may ∙ c.if-not-may_confirm.false,
      subst E (c.image_ok_write-write.ensures.at ∙ ap (λ (x : Geometry). image_ok_write x Primary) c.layout.ensures) c.in_ok-perform.ensures,
    )

-- the write for which an allocation failed
pub returns-in_err-perform-clause-does : goal.returns-in_err-perform-clause-does
returns-in_err-perform-clause-does g c =
    let old = g.F.Flash.seen c.args.flash.now in
    let new = g.F.Flash.seen c.perform.new.flash in
    let E : Op → Type 0 = λ op. Does op old (Err c.in_err-perform.field-0.0) new in
    let p = err_from_is_err_and c.from_residual.result c.from_residual.ensures.1 in
    rw (p.1, p.2) (confirm_fails old new c.may_confirm.ensures.valid c.in_err-perform.field-0.0 (sym c.may_confirm.ensures.may ∙ c.if-not-may_confirm.false)
    (subst E (c.image_ok_write-write.ensures.at ∙ ap (λ (x : Geometry). image_ok_write x Primary) c.layout.ensures) c.in_err-perform.ensures))

pub returns-in_err-perform-clause-err : goal.returns-in_err-perform-clause-err
returns-in_err-perform-clause-err g c = confirms_err (g.F.Flash.seen c.args.flash.now) (g.F.Flash.seen c.perform.new.flash) c.from_residual.result (returns-in_err-perform-clause-does g c)

pub returns-in_err-perform-clause-spends : goal.returns-in_err-perform-clause-spends
returns-in_err-perform-clause-spends g c = confirms_spends (g.F.Flash.seen c.args.flash.now) (g.F.Flash.seen c.perform.new.flash) c.from_residual.result (returns-in_err-perform-clause-does g c)

pub returns-clause-content : goal.returns-clause-content
returns-clause-content g c = confirms_content (g.F.Flash.seen c.args.flash.now) (g.F.Flash.seen c.perform.new.flash) c.may_confirm.ensures.valid (Ok true) (wrote g c)

pub returns-clause-keeps : goal.returns-clause-keeps
returns-clause-keeps g c = confirms_keeps (g.F.Flash.seen c.args.flash.now) (g.F.Flash.seen c.perform.new.flash) (Ok true) (wrote g c)

pub returns-clause-spends : goal.returns-clause-spends
returns-clause-spends g c = confirms_spends (g.F.Flash.seen c.args.flash.now) (g.F.Flash.seen c.perform.new.flash) (Ok true) (wrote g c)

pub returns-clause-counts : goal.returns-clause-counts
returns-clause-counts g c = confirms_counts (g.F.Flash.seen c.args.flash.now) (g.F.Flash.seen c.perform.new.flash) (Ok true) (wrote g c)

pub returns-then-not-may_confirm-clause-does : goal.returns-then-not-may_confirm-clause-does
returns-then-not-may_confirm-clause-does g c = kept g c

pub returns-then-not-may_confirm-clause-keeps : goal.returns-then-not-may_confirm-clause-keeps
returns-then-not-may_confirm-clause-keeps g c = let old = g.F.Flash.seen c.args.flash.now in confirms_keeps old old (Ok false) (kept g c)

pub returns-then-not-may_confirm-clause-spends : goal.returns-then-not-may_confirm-clause-spends
returns-then-not-may_confirm-clause-spends g c = let old = g.F.Flash.seen c.args.flash.now in confirms_spends old old (Ok false) (kept g c)

pub returns-then-not-may_confirm-clause-counts : goal.returns-then-not-may_confirm-clause-counts
returns-then-not-may_confirm-clause-counts g c = let old = g.F.Flash.seen c.args.flash.now in confirms_counts old old (Ok false) (kept g c)

pub perform-requires : goal.perform-requires
perform-requires g c = rw c.layout.ensures at c.image_ok_write-write.ensures.inside

pub returns-in_err-perform-clause-content : goal.returns-in_err-perform-clause-content
returns-in_err-perform-clause-content g c =
    confirms_content (g.F.Flash.seen c.args.flash.now) (g.F.Flash.seen c.perform.new.flash) c.may_confirm.ensures.valid c.from_residual.result (returns-in_err-perform-clause-does g c)

pub returns-in_err-perform-clause-keeps : goal.returns-in_err-perform-clause-keeps
returns-in_err-perform-clause-keeps g c = confirms_keeps (g.F.Flash.seen c.args.flash.now) (g.F.Flash.seen c.perform.new.flash) c.from_residual.result (returns-in_err-perform-clause-does g c)

pub returns-in_err-perform-clause-counts : goal.returns-in_err-perform-clause-counts
returns-in_err-perform-clause-counts g c = confirms_counts (g.F.Flash.seen c.args.flash.now) (g.F.Flash.seen c.perform.new.flash) c.from_residual.result (returns-in_err-perform-clause-does g c)

pub returns-clause-does : goal.returns-clause-does
returns-clause-does g c = wrote g c
