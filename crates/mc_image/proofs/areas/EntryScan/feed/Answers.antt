use Rattle.std.proofs.Common.{rules, ◌++◌, arith, length, length-append, ap, sym, ◌∙◌}
use Rattle.mc_image.specs.inner.Reading.{Scans}
use Rattle.mc_image.proofs.Scans.{gone_on, gone_all}
use Rattle.mc_image.proofs.areas.EntryScan.feed.Goals as goal

pub step-requires-clause-fits : goal.step-requires-clause-fits
step-requires-clause-fits c =
    let s = c.loop-rest.invariant c.requires.0 c.requires.1 in
    (s.0, s.2, omega (arith, sym (length-append s.0 c.loop-rest.rest.now) ∙ ap length s.1 ∙ length-append c.requires.0 c.args.piece.now, c.requires.2))

pub loop-rest-preserved : goal.loop-rest-preserved
loop-rest-preserved c = λ bytes h.
    let s = c.loop-rest.invariant bytes h in
    gone_on _ _ c.step.ensures (bytes ++ c.args.piece.now) s.0 s.1 s.2

pub returns : goal.returns
returns c = λ bytes h.
    let s = c.loop-rest.invariant bytes h in
    gone_all (Scans c.loop-rest.scan) (bytes ++ c.args.piece.now) c.loop-rest.rest.now s.0 (search rules) s.1 s.2
