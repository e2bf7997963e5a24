use Rattle.std.proofs.Common.{ap, subst, sym, ◌∙◌}
use Rattle.std.specs.Prelude.{IfSome, List, Option, length, ℕ}
use Rattle.mc_explore.specs.inner.OneRound.{begins}
use Rattle.mc_flash.specs.{Flash.{CanTry}, declared.op.Op.{Op}}
use Rattle.mc_tears.proofs.Standing.{applies_here, next_is, next_some}
use Rattle.mc_tears.proofs.tears.next_op.Goals as goal

pub unreachable-requires : goal.unreachable-requires
unreachable-requires g c =
    next_some (begins c.args.rounds.now) c.args.at.now (g.F.Flash.seen c.args.flash.now) c.requires.stands c.requires.early c.peek.result c.peek.ensures.first c.in_default.not-Some

pub returns-clause-next : goal.returns-clause-next
returns-clause-next g c =
    next_is (begins c.args.rounds.now) c.args.at.now (g.F.Flash.seen c.args.flash.now) c.requires.stands c.requires.early c.in-Some.op (sym c.peek.ensures.first ∙ c.in-Some.is)

pub returns-clause-applies : goal.returns-clause-applies
returns-clause-applies g c =
    let x = begins c.args.rounds.now in
    let stands = c.requires.stands in
    let can : IfSome c.peek.result (CanTry x.geometry) = c.peek.ensures.inside x.geometry stands.at_is.on_is.1.layout_is in
    let primary = c.read-primary.ensures in
    let secondary = c.read-secondary.ensures in
    applies_here x c.args.at.now (g.F.Flash.seen c.args.flash.now) stands c.requires.early c.in-Some.op (sym c.peek.ensures.first ∙ c.in-Some.is)
    (subst (λ (o : Option Op). IfSome o (CanTry x.geometry)) c.in-Some.is can)
    (record {
      primary = ap (λ (l : List ℕ). length l) (sym primary.value) ∙ primary.len;
      secondary = ap (λ (l : List ℕ). length l) (sym secondary.value) ∙ secondary.len;
    })
