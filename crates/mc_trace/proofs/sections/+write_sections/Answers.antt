use Rattle.std.specs.{Prelude.{List, None, Some, [], length, ℕ, ◌+◌, ◌<◌, ◌∷◌, ◌≤◌}, Io.KnownBytes.{Appends}}
use Rattle.std.proofs.{Common.{ap, arith, subst, sym, ◌∙◌}, KnownBytes.{Appends-trans}, lemmas.List.{length-append, nil_from_length}}
use Rattle.std.proofs.lemmas.Result.{err_from_is_err_and}
use Rattle.mc_boot.specs.{Outcome.{ops_of, shown}, Plan.{PowerOn, again}}
use Rattle.mc_explore.specs.{Schedules.{CanOccur}, facts.Children.{listed_there}, inner.LastCuts.{boot_at}, inner.OneRound.{begins}}
use Rattle.mc_explore.specs.Boots.{at_cut}
use Rattle.mc_output.specs.Text.{AppendsPrefix}
use Rattle.mc_start.specs.Start.{begun}
use Rattle.mc_trace.specs.{Frames.{boot_section, end_text, sections_text}, inner.Boots.{WritesText}, inner.Walking.{IsReady, model_of, width_along}}
use Rattle.mc_trace.proofs.{Headed.{child_boot, first_occurs, last_is, next_is, outcome_here}, TornLines.{torn_first, torn_later}, Writing.{first_begun, then_begun, writes_then}}
use Rattle.mc_trace.proofs.sections.+write_sections.Goals as goal

pub returns-in_err-write_section-clause-written : goal.returns-in_err-write_section-clause-written
returns-in_err-write_section-clause-written g t c =
    let x = boot_at (begun c.args.start.now) c.args.walk.now.path in
    let look = c.args.look.now in
    let start = c.args.start.now.content in
    let o = shown c.summary.result.now.outcome in
    let none = nil_from_length c.args.cuts.now c.in_default.ensures.cases in
    let failed = err_from_is_err_and c.from_residual.result c.from_residual.ensures.1 in
    rw failed.1 (subst (λ (t : List ℕ). AppendsPrefix (g.W.Write.contents c.args.writer.now) (g.W.Write.contents c.write_section.new.writer) t)
    (sym (last_is look start c.args.boot x o (outcome_here _ _ _ c.requires.ready.start_is c.summary.ensures) c.args.cuts.now none))
    (first_begun _ _ (boot_section look start c.args.boot x None) (end_text look.form look.expectation o) c.in_err-write_section.ensures.written))

pub returns-in_err-write_line-clause-written : goal.returns-in_err-write_line-clause-written
returns-in_err-write_line-clause-written g t c =
    let x = boot_at (begun c.args.start.now) c.args.walk.now.path in
    let look = c.args.look.now in
    let start = c.args.start.now.content in
    let o = shown c.summary.result.now.outcome in
    let none = nil_from_length c.args.cuts.now c.in_default.ensures.cases in
    let failed = err_from_is_err_and c.from_residual-in_err-write_line.result c.from_residual-in_err-write_line.ensures.1 in
    rw failed.1 (subst (λ (t : List ℕ). AppendsPrefix (g.W.Write.contents c.args.writer.now) (g.W.Write.contents c.write_line.new.writer) t)
    (sym (last_is look start c.args.boot x o (outcome_here _ _ _ c.requires.ready.start_is c.summary.ensures) c.args.cuts.now none))
    (then_begun _ _ _ (boot_section look start c.args.boot x None) (end_text look.form look.expectation o) c.in_ok-write_section.ensures.written
    (rw c.end_line.ensures at c.in_err-write_line.ensures.prefix)))

pub returns-in_default-clause-written : goal.returns-in_default-clause-written
returns-in_default-clause-written g t c =
    let x = boot_at (begun c.args.start.now) c.args.walk.now.path in
    let look = c.args.look.now in
    let start = c.args.start.now.content in
    let o = shown c.summary.result.now.outcome in
    let none = nil_from_length c.args.cuts.now c.in_default.ensures.cases in
    subst (λ (t : List ℕ). Appends (g.W.Write.contents c.args.writer.now) (g.W.Write.contents c.write_line.new.writer) t)
    (sym (last_is look start c.args.boot x o (outcome_here _ _ _ c.requires.ready.start_is c.summary.ensures) c.args.cuts.now none))
    (Appends-trans _ _ _ (boot_section look start c.args.boot x None) (end_text look.form look.expectation o) c.in_ok-write_section.ensures.written
    (rw c.end_line.ensures at c.in_ok-write_line.ensures.whole))

pub returns-in_err-write_section-2-clause-written : goal.returns-in_err-write_section-2-clause-written
returns-in_err-write_section-2-clause-written g t c =
    let x = boot_at (begun c.args.start.now) c.args.walk.now.path in
    let look = c.args.look.now in
    let start = c.args.start.now.content in
    let cut = c.in-Some.cut.now in
    let rest = c.in-Some.rest.now in
    let failed = err_from_is_err_and c.from_residual-in_err-write_section-2.result c.from_residual-in_err-write_section-2.ensures.1 in
    rw failed.1 (subst (λ (t : List ℕ). AppendsPrefix (g.W.Write.contents c.args.writer.now) (g.W.Write.contents c.write_section-2.new.writer) t)
    (sym (next_is look start c.args.boot x c.args.cuts.now cut rest c.in-Some.ensures.cases.0))
    (first_begun _ _ (boot_section look start c.args.boot x (Some cut)) (sections_text look start (c.args.boot + 1) (again x (at_cut x cut)) rest) c.in_err-write_section-2.ensures.written))

pub write_sections-requires : goal.write_sections-requires
write_sections-requires g t c κs within =
    let walk = c.args.walk.now in
    let x = boot_at (begun c.args.start.now) walk.path in
    let at = c.write_section-2.new.walk in
    let cut = c.in-Some.cut.now in
    let rest = c.in-Some.rest.now in
    let here = c.in_ok-write_section-2.ensures.goes in
    let both = first_occurs x cut rest (subst (CanOccur x) c.in-Some.ensures.cases.0 c.requires.occurs) in
    let some = subst (λ y. cut < length (ops_of (boot_at y walk.path))) (sym c.requires.ready.start_is) both.0 in
    let listed = listed_there model_of walk c.requires.ready.listed cut (rw (width_along walk.flash_tree walk.path) some) (omega (arith, c.requires.ready.deep, c.in-Some.ensures.cases.1)) at here in
    let deep : length at.path + (length rest + 1) ≤ at.bound =
    omega (arith, c.requires.ready.deep, c.in-Some.ensures.cases.1, here.same.bound, ap length here.path, length-append walk.path (cut ∷ [])) in
    let occurs = subst (λ (y : PowerOn). CanOccur y rest) (sym (child_boot (begun c.args.start.now) walk at cut here)) both.1 in
    let start_is = ap begins here.same.flash_tree ∙ c.requires.ready.start_is in
    let ready : IsReady (begun c.args.start.now) (length rest + 1) at = record { start_is = start_is; stands = here.stands; listed = listed; deep = deep } in
    let few : c.args.boot + 1 + length rest ≤ 16 = omega (arith, c.requires.few, c.in-Some.ensures.cases.1) in
    let torn = torn_later c.args.look.now.torn c.args.look.now.expectation x _ c.args.cuts.now cut rest _ _ c.in-Some.ensures.cases.0
    (child_boot (begun c.args.start.now) walk at cut here) c.first_boot.ensures.later c.requires.torn in
    (omega (arith, c.decreases, c.in-Some.ensures.cases.1), (within.0, (within.1, (ready, (occurs, (few, torn))))))

pub returns-clause-written : goal.returns-clause-written
returns-clause-written g t c =
    let walk = c.args.walk.now in
    let x = boot_at (begun c.args.start.now) walk.path in
    let look = c.args.look.now in
    let start = c.args.start.now.content in
    let cut = c.in-Some.cut.now in
    let rest = c.in-Some.rest.now in
    let later = rw (child_boot (begun c.args.start.now) walk c.write_section-2.new.walk cut c.in_ok-write_section-2.ensures.goes) at c.write_sections.ensures.written in
    subst (λ (t : List ℕ). WritesText c.write_sections.result (g.W.Write.contents c.args.writer.now) (g.W.Write.contents c.write_sections.new.writer) t)
    (sym (next_is look start c.args.boot x c.args.cuts.now cut rest c.in-Some.ensures.cases.0))
    (writes_then _ _ _ (boot_section look start c.args.boot x (Some cut)) (sections_text look start (c.args.boot + 1) (again x (at_cut x cut)) rest) c.write_sections.result
    c.in_ok-write_section-2.ensures.written later)

pub write_section-requires-clause-torn : goal.write_section-requires-clause-torn
write_section-requires-clause-torn g t c =
    rw c.first_boot.ensures.first (torn_first c.args.look.now.torn c.args.look.now.expectation (boot_at (begun c.args.start.now) c.args.walk.now.path) _ c.args.cuts.now c.requires.torn)

pub write_section-requires-2-clause-torn : goal.write_section-requires-2-clause-torn
write_section-requires-2-clause-torn g t c =
    rw c.first_boot.ensures.first (torn_first c.args.look.now.torn c.args.look.now.expectation (boot_at (begun c.args.start.now) c.args.walk.now.path) _ c.args.cuts.now c.requires.torn)
