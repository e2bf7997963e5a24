use Rattle.std.proofs.lemmas.Result.{err_from_is_err_and}
use Rattle.mc_imgtool.proofs.Judging.{refused_judging, answered_good}
use Rattle.mc_imgtool.proofs.verification.verify.Goals as goal

pub returns-in_err-judged-clause-answer : goal.returns-in_err-judged-clause-answer
returns-in_err-judged-clause-answer g c =
    let p = err_from_is_err_and c.from_residual.result c.from_residual.ensures.1 in
    rw (p.1, p.2) (refused_judging _ _ _ c.in_err-judged.ensures.judged)

pub returns-clause-answer : goal.returns-clause-answer
returns-clause-answer g c = answered_good _ _ _ c.in_ok-judged.judged c.write_good.result c.in_ok-judged.ensures.judged c.write_good.ensures.whole c.write_good.ensures.prefix
