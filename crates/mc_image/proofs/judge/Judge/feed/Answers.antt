use Rattle.std.proofs.Common.{rules, ◌++◌}
use Rattle.mc_image.specs.Judging.{Judges}
use Rattle.mc_image.proofs.Scans.{gone_on, gone_all}
use Rattle.mc_image.proofs.judge.Judge.feed.Goals as goal

pub loop-rest-preserved : goal.loop-rest-preserved
loop-rest-preserved c = λ bytes h.
    let s = c.loop-rest.invariant bytes h in
    gone_on _ _ c.advance-rest.ensures (bytes ++ c.args.piece.now) s.0 s.1 s.2

pub returns : goal.returns
returns c = λ bytes h.
    let s = c.loop-rest.invariant bytes h in
    gone_all (Judges _) (bytes ++ c.args.piece.now) c.loop-rest.rest.now s.0 (search rules) s.1 s.2
