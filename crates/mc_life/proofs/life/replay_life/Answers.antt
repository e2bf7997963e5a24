use Rattle.std.proofs.Common.{◌≡◌, None, Some, sym, ◌∙◌}
use Rattle.mc_life.proofs.ReplayProof.{IsAt, begins, ends, fails, happened, lives_on, skips, torn_on}
use Rattle.mc_life.proofs.life.replay_life.Goals as goal
use Rattle.mc_life.proofs.life.replay_life.Goals.{then-not-is_skipped+in-Ok-replay_line, else-not-is_skipped}

pub lines-init : goal.lines-init
lines-init g c = rw c.text.ensures.text (begins _ _ _ _ _ c.in-Ok.ensures.new)

pub returns-in-Err-clause-failed : goal.returns-in-Err-clause-failed
returns-in-Err-clause-failed g c =
    let contents = g.W.Write.contents in
    let here : IsAt c.args.files.now c.args.start.now c.args.script.now (contents c.args.writer.now) (contents c.lines.writer)
    (Some c.in-Some.text.now) c.lines.number c.lines.line_number c.lines.device =
    rw c.in-Some.is at c.lines.invariant in
    rw c.failure.ensures (fails _ _ _ _ _ _ _ _ _ _ here _ _ c.next_line.ensures.lines c.next_line.ensures.less
    (sym c.is_skipped.ensures ∙ c.if-not-is_skipped.true) c.in-Err.error c.in-Err.ensures.failed)

pub lines-preserved : goal.lines-preserved
lines-preserved g c =
    let contents = g.W.Write.contents in
    let here : IsAt c.args.files.now c.args.start.now c.args.script.now (contents c.args.writer.now) (contents c.lines.writer)
    (Some c.in-Some.text.now) c.lines.number c.lines.line_number c.lines.device =
    rw c.in-Some.is at c.lines.invariant in
    elim c.if-not-is_skipped.branch [
      | then-not-is_skipped+in-Ok-replay_line w ↦
          (let replayed = w.in-Ok-replay_line.ensures.replayed in
          rw (w.writer-is, w.device-is, w.number-is) (happened _ _ _ _ _ _ _ _ _ here _ _ c.next_line.ensures.lines c.next_line.ensures.less
          (sym c.is_skipped.ensures ∙ w.if-not-is_skipped.true) _ replayed.0 _ replayed.1 replayed.2))
      | else-not-is_skipped w ↦
          rw (w.writer-is, w.device-is, w.number-is) (skips _ _ _ _ _ _ _ _ _ here _ _ c.next_line.ensures.lines c.next_line.ensures.less (sym c.is_skipped.ensures ∙ w.if-not-is_skipped.false))
    ]

pub returns-clause-lives : goal.returns-clause-lives
returns-clause-lives g c =
    let contents = g.W.Write.contents in
    let none : c.lines.rest ≡ None = c.in_default-rest.is in
    let here : IsAt c.args.files.now c.args.start.now c.args.script.now (contents c.args.writer.now) (contents c.lines.writer) None c.lines.number c.lines.line_number c.lines.device =
    rw none at c.lines.invariant in
    lives_on _ _ _ _ _ _ (ends _ _ _ _ _ _ _ _ here) c.life_law.ensures.life c.layout-layout.ensures.valid

pub returns-clause-torn : goal.returns-clause-torn
returns-clause-torn g c =
    let contents = g.W.Write.contents in
    let none : c.lines.rest ≡ None = c.in_default-rest.is in
    let here : IsAt c.args.files.now c.args.start.now c.args.script.now (contents c.args.writer.now) (contents c.lines.writer) None c.lines.number c.lines.line_number c.lines.device =
    rw none at c.lines.invariant in
    torn_on _ _ _ _ _ _ (ends _ _ _ _ _ _ _ _ here) c.torn_law.ensures.life c.layout-layout.ensures.valid
