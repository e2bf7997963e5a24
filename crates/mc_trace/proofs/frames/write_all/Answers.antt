use Rattle.std.proofs.lemmas.Result.{err_from_is_err_and}
use Rattle.mc_start.specs.Start.{begun}
use Rattle.mc_trace.specs.{Frames.{header_text, sections_text}, declared.header.TheConstants.{NAMES}}
use Rattle.mc_trace.proofs.{TornLines.{none_torn}, Writing.{first_begun, then_begun, writes_then}}
use Rattle.mc_trace.proofs.frames.write_all.Goals as goal

pub returns-in_err-write_header-clause-written : goal.returns-in_err-write_header-clause-written
returns-in_err-write_header-clause-written g c =
    let s = c.args.start.now in
    let failed = err_from_is_err_and c.from_residual.result c.from_residual.ensures.1 in
    rw failed.1 (first_begun _ _ (header_text c.args.version.now s c.args.look.now.expectation c.args.schedule.now) _ c.in_err-write_header.ensures)

pub returns-in_err-write_text-clause-written : goal.returns-in_err-write_text-clause-written
returns-in_err-write_text-clause-written g c =
    let s = c.args.start.now in
    let failed = err_from_is_err_and c.from_residual-in_err-write_text.result c.from_residual-in_err-write_text.ensures.1 in
    rw failed.1 (then_begun _ _ _ (header_text c.args.version.now s c.args.look.now.expectation c.args.schedule.now) _ c.in_ok-write_header.ensures
    (first_begun _ _ NAMES.now (sections_text c.args.look.now s.content 0 (begun s) c.args.schedule.now) (rw c.as_bytes.ensures.value at c.in_err-write_text.ensures.prefix)))

pub returns-clause-written : goal.returns-clause-written
returns-clause-written g c =
    let s = c.args.start.now in
    let names = rw c.as_bytes.ensures.value at c.in_ok-write_text.ensures.whole in
    let later = rw (c.requires.root, c.cuts.ensures.value) at c.write_sections.ensures.written in
    writes_then _ _ _ (header_text c.args.version.now s c.args.look.now.expectation c.args.schedule.now) _ c.write_sections.result c.in_ok-write_header.ensures
    (writes_then _ _ _ NAMES.now (sections_text c.args.look.now s.content 0 (begun s) c.args.schedule.now) c.write_sections.result names later)

pub write_sections-requires-clause-torn : goal.write_sections-requires-clause-torn
write_sections-requires-clause-torn g c = rw c.requires.whole (none_torn c.args.look.now.expectation _ _)
