use Rattle.std.proofs.{Common.{ap, subst, ◌≡◌, ◌∙◌}, lemmas.Result.{err_from_is_err_and}}
use Rattle.std.specs.{Io.KnownBytes.{Appends}, Prelude.{length}}
use Rattle.mc_boot.specs.Outcome.{ops_of}
use Rattle.mc_explore.specs.facts.Summaries.{width_is}
use Rattle.mc_output.specs.Text.{AppendsPrefix}
use Rattle.mc_start.specs.Start.{begun}
use Rattle.mc_tears.proofs.Written.{head, head_begun, none_out, then_begun, then_whole}
use Rattle.mc_tears.specs.Tears.{counts_text}
use Rattle.mc_tears.proofs.tears.write_tears.Given.{Over}
use Rattle.mc_tears.proofs.tears.write_tears.Goals as goal
use Rattle.mc_tears.proofs.tears.write_tears.Goals.{After-counts_line, In_ok-write_line}

pub returns-in_err-cases-clause-prefix : goal.returns-in_err-cases-clause-prefix
returns-in_err-cases-clause-prefix g c =
    let failed = err_from_is_err_and c.from_residual-in_err-cases.result c.from_residual-in_err-cases.ensures.1 in
    rw failed.1 (none_out _ _)

line_is : (g : Over) (c : After-counts_line g) → c.counts_line.result ≡ head c.args.asked.now (begun c.args.start.now)
line_is g c =
    let x = begun c.args.start.now in
    c.counts_line.ensures
    ∙ ap (λ n. counts_text n c.in_ok-cases.cases) (width_is x c.in_ok-loaded.loaded.whole.summary c.in_ok-loaded.ensures.is_whole.summary)
    ∙ ap (counts_text (length (ops_of x))) c.in_ok-cases.ensures.count

pub returns-in_err-write_line-clause-prefix : goal.returns-in_err-write_line-clause-prefix
returns-in_err-write_line-clause-prefix g c =
    let failed = err_from_is_err_and c.from_residual-in_err-write_line.result c.from_residual-in_err-write_line.ensures.1 in
    let line = line_is g (goal.at.returns-in_err-write_line-clause-prefix g c).After-counts_line in
    let out = g.W.Write.contents c.args.writer.now in
    let new = g.W.Write.contents c.write_line.new.writer in
    rw failed.1 (head_begun c.args.asked.now (begun c.args.start.now) out new (subst (AppendsPrefix out new) line c.in_err-write_line.ensures.prefix))

pub write_all-requires-clause-buffer : goal.write_all-requires-clause-buffer
write_all-requires-clause-buffer g c = let cases = c.in_ok-cases.ensures in rw (cases.returns.stays.geometry, cases.capacity) c.in_ok-loaded.ensures.buffer

first : (g : Over) (c : In_ok-write_line g) → Appends (g.W.Write.contents c.args.writer.now) (g.W.Write.contents c.write_line.new.writer) (head c.args.asked.now (begun c.args.start.now))
first g c =
    subst (Appends (g.W.Write.contents c.args.writer.now) (g.W.Write.contents c.write_line.new.writer)) (line_is g (goal.at.In_ok-write_line g c).After-counts_line) c.in_ok-write_line.ensures.whole

pub returns-clause-whole : goal.returns-clause-whole
returns-clause-whole g c =
    then_whole c.args.asked.now (begun c.args.start.now) _ (g.W.Write.contents c.write_line.new.writer) _ (first g (goal.at.returns-clause-whole g c).In_ok-write_line)
    c.write_all.result c.write_all.ensures.written

pub returns-clause-prefix : goal.returns-clause-prefix
returns-clause-prefix g c =
    then_begun c.args.asked.now (begun c.args.start.now) _ (g.W.Write.contents c.write_line.new.writer) _ (first g (goal.at.returns-clause-prefix g c).In_ok-write_line)
    c.write_all.result c.write_all.ensures.written
