use Rattle.std.proofs.Common.{List, ap, length, sym, ℕ, ◌∙◌}
use Rattle.mc_tear.proofs.Ranges.{torn_len}
use Rattle.mc_tear.specs.Cases.{written_len}
use Rattle.mc_tears.proofs.case_flash.put_case.Goals as goal

pub put_torn-requires-clause-len : goal.put_torn-requires-clause-len
put_torn-requires-clause-len g c =
    let f = g.F.Flash.seen c.args.flash.now in
    let e = c.in_ok-is_case.ensures in
    ap (λ (l : List ℕ). length l) (c.deref.ensures.value ∙ e.is.1 c.if-not-branch.false) ∙ torn_len c.args.erasing f.geometry c.args.op.now f.content c.args.reading.now
    ∙ ap (λ y. written_len y c.args.op.now) (sym e.stays.geometry)
