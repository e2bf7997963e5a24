use Rattle.std.proofs.{Common.{ap, arith, length, refl, List}, lemmas.Result.{err_from_is_err_and}}
use Rattle.mc_vectors.specs.{Locating.{head_text, located_text, sector_line}, declared.locating.SectorId.{SectorId}}
use Rattle.mc_vectors.proofs.Tabled.{first_begun, left, line_begun, line_out}
use Rattle.mc_vectors.proofs.locating.write_located.Goals as goal

pub returns-in_err-write_line-clause-prefix : goal.returns-in_err-write_line-clause-prefix
returns-in_err-write_line-clause-prefix g c =
    let at = c.args.located.now in
    let failed = err_from_is_err_and c.from_residual.result c.from_residual.ensures.1 in
    rw failed.1 (first_begun _ _ (head_text at.schedule (length at.differs.items)) (left sector_line at.differs.items 0) (rw c.head.ensures at c.in_err-write_line.ensures.prefix))

pub returns-in_err-write_line-2-clause-prefix : goal.returns-in_err-write_line-2-clause-prefix
returns-in_err-write_line-2-clause-prefix g c =
    let at = c.args.located.now in
    let failed = err_from_is_err_and c.from_residual-in_err-write_line-2.result c.from_residual-in_err-write_line-2.ensures.1 in
    rw failed.1 (line_begun sector_line (located_text at) _ _ at.differs.items c.loop-at.at-index c.loop-at.invariant.out _ _ _
    (omega (arith, ap (λ (l : List SectorId). length l) c.deref-at-items.ensures.value)) refl
    (rw (c.line.ensures, c.deref-at-items.ensures.value) at c.in_err-write_line-2.ensures.prefix))

pub loop-at-preserved : goal.loop-at-preserved
loop-at-preserved g c =
    let at = c.args.located.now in
    record {
      out = line_out sector_line (located_text at) _ _ at.differs.items c.loop-at.at-index c.loop-at.invariant.out _ _ _
          (omega (arith, ap (λ (l : List SectorId). length l) c.deref-at-items.ensures.value)) refl
          (rw (c.line.ensures, c.deref-at-items.ensures.value) at c.in_ok-write_line-2.ensures.whole);
    }
