use Rattle.std.proofs.{Common.{ap, sym, ◌∙◌}, lemmas.{Bool.{false≢true}, Result.{err_from_is_err_and}}}
use Rattle.mc_flash.specs.Geometry.{Geometry}
use Rattle.mc_start.specs.Start.{begun}
use Rattle.mc_trace.specs.Picture.{page_look}
use Rattle.mc_trace.proofs.Drawn.{begins, drawn, refused, refused_walk}
use Rattle.mc_trace.proofs.picture.write_picture.Goals as goal

pub returns-in_err-walk-clause-refused : goal.returns-in_err-walk-clause-refused
returns-in_err-walk-clause-refused g c =
    let p = err_from_is_err_and c.from_residual.result c.from_residual.ensures.1 in
    rw (p.1, p.2) (refused_walk (begun c.args.start.now) c.args.schedule.now _ _ c.in_err-walk.ensures.refused)

pub returns-clause-drawn : goal.returns-clause-drawn
returns-clause-drawn g c =
    let e = c.args.expectation.now in
    let look = c.page_look-look.ensures ∙ ap (λ (x : Geometry). page_look x e c.args.span c.args.torn) c.layout.ensures.value in
    drawn c.args.version.now e c.args.span c.args.torn c.args.start.now c.args.schedule.now c.page_look-look.result c.in_ok-verdict.verdict c.in_ok-verdict.ensures.verdict look _ _ c.write_page.result
    c.write_page.ensures.written

pub returns-clause-begun : goal.returns-clause-begun
returns-clause-begun g c =
    let e = c.args.expectation.now in
    let look = c.page_look-look.ensures ∙ ap (λ (x : Geometry). page_look x e c.args.span c.args.torn) c.layout.ensures.value in
    begins c.args.version.now e c.args.span c.args.torn c.args.start.now c.args.schedule.now c.page_look-look.result c.in_ok-verdict.verdict c.in_ok-verdict.ensures.verdict look _ _
    c.write_page.result c.write_page.ensures.written

pub returns-clause-refused : goal.returns-clause-refused
returns-clause-refused g c = refused (begun c.args.start.now) c.args.schedule.now _ _ c.write_page.result c.write_page.ensures.err

pub returns-clause-cause : goal.returns-clause-cause
returns-clause-cause g c = λ counts memory. absurd (false≢true (sym (c.write_page.ensures.cause memory) ∙ c.in_ok-walk.ensures.counted counts))

pub write_page-requires-clause-torn : goal.write_page-requires-clause-torn
write_page-requires-clause-torn g c = rw (c.page_look-look.ensures, c.as_slice.ensures.value) (rw c.cuts.ensures.value at c.in_ok-lines.ensures)
