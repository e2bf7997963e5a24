use Rattle.std.proofs.{Common.{sym, ◌∙◌}, lemmas.{Bool.{false≢true}, Result.{err_from_is_err_and}}}
use Rattle.mc_start.specs.Start.{begun}
use Rattle.mc_trace.proofs.Drawn.{refused, refused_walk}
use Rattle.mc_trace.proofs.frames.write_frames.Goals as goal

pub returns-in_err-walk-clause-refused : goal.returns-in_err-walk-clause-refused
returns-in_err-walk-clause-refused g c =
    let p = err_from_is_err_and c.from_residual.result c.from_residual.ensures.1 in
    rw (p.1, p.2) (refused_walk (begun c.args.start.now) c.args.schedule.now _ _ c.in_err-walk.ensures.refused)

pub returns-clause-refused : goal.returns-clause-refused
returns-clause-refused g c = refused (begun c.args.start.now) c.args.schedule.now _ _ c.write_all.result c.write_all.ensures.err

pub returns-clause-cause : goal.returns-clause-cause
returns-clause-cause g c = λ counts memory. absurd (false≢true (sym (c.write_all.ensures.cause memory) ∙ c.in_ok-walk.ensures.counted counts))
