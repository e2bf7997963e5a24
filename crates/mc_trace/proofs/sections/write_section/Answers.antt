use Rattle.std.specs.Prelude.{List, ℕ}
use Rattle.std.proofs.{Common.{ap, subst, sym}, lemmas.Result.{err_from_is_err_and}}
use Rattle.mc_boot.specs.{Outcome.{shown}, Plan.{PowerOn}}
use Rattle.mc_explore.specs.{facts.Occurring.{landed_again}, inner.LastCuts.{boot_at}}
use Rattle.mc_output.specs.Text.{AppendsPrefix}
use Rattle.mc_start.specs.Start.{begun}
use Rattle.mc_trace.specs.{Frames.{boot_frames, heading}, inner.Boots.{WritesText}}
use Rattle.mc_trace.proofs.{Headed.{outcome_here, section_is}, Writing.{first_begun, writes_then}}
use Rattle.mc_trace.proofs.sections.write_section.Goals as goal

pub returns-in_err-write_line-clause-written : goal.returns-in_err-write_line-clause-written
returns-in_err-write_line-clause-written g c =
    let x = boot_at (begun c.args.start.now) c.args.walk.now.path in
    let look = c.args.look.now in
    let layout = ap (λ (x : PowerOn). x.geometry) (landed_again (begun c.args.start.now) c.args.walk.now.path) in
    let start = c.args.start.now.content in
    let o = shown c.summary.result.now.outcome in
    let failed = err_from_is_err_and c.from_residual.result c.from_residual.ensures.1 in
    rw failed.1 (subst (λ (t : List ℕ). AppendsPrefix (g.W.Write.contents c.args.writer.now) (g.W.Write.contents c.write_line.new.writer) t)
    (sym (section_is look start c.args.boot x o (outcome_here _ _ _ c.requires.ready.start_is c.summary.ensures) c.args.cut))
    (first_begun _ _ (heading look.form x.geometry c.args.boot o) (boot_frames look start c.args.boot x c.args.cut)
    (rw layout (rw (c.heading-line.ensures, c.layout.ensures.value) at c.in_err-write_line.ensures.prefix))))

pub returns-clause-written : goal.returns-clause-written
returns-clause-written g c =
    let x = boot_at (begun c.args.start.now) c.args.walk.now.path in
    let look = c.args.look.now in
    let layout = ap (λ (x : PowerOn). x.geometry) (landed_again (begun c.args.start.now) c.args.walk.now.path) in
    let start = c.args.start.now.content in
    let o = shown c.summary.result.now.outcome in
    subst (λ (t : List ℕ). WritesText c.write_boot_frames.result (g.W.Write.contents c.args.writer.now) (g.W.Write.contents c.write_boot_frames.new.writer) t)
    (sym (section_is look start c.args.boot x o (outcome_here _ _ _ c.requires.ready.start_is c.summary.ensures) c.args.cut))
    (writes_then _ _ _ (heading look.form x.geometry c.args.boot o) (boot_frames look start c.args.boot x c.args.cut) c.write_boot_frames.result
    (rw layout (rw (c.heading-line.ensures, c.layout.ensures.value) at c.in_ok-write_line.ensures.whole)) c.write_boot_frames.ensures.written)
