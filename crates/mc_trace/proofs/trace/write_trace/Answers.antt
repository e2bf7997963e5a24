use Rattle.std.proofs.{Common.{rules, ◌≡◌, ◌+◌, length, List, ℕ, Some, refl, sym, ap, subst, ◌∙◌, arith}, lemmas.Result.{err_from_is_err_and}}
use Rattle.mc_flash.specs.Usage.{Counts, IsWithin, Limits, Usage, limits_for, no_counts}
use Rattle.mc_boot.specs.Outcome.{shown, after}
use Rattle.mc_start.specs.Start.{begun}
use Rattle.std.specs.Io.KnownBytes.{Appends}
use Rattle.mc_output.specs.Text.{AppendsPrefix}
use Rattle.mc_trace.specs.Trace.{trace_text}
use Rattle.mc_trace.proofs.Tracing.{none_written, one_begun, one_inside, one_written, one_counted, room_left, last_begun, outcome_begun, outcome_written}
use Rattle.mc_trace.proofs.trace.write_trace.Given.{Over}
use Rattle.mc_trace.proofs.trace.write_trace.Goals as goal
use Rattle.mc_trace.proofs.trace.write_trace.Goals.{In_ok-flash}

pub boots-init : goal.boots-init
boots-init g c =
    let l = c.in_ok-flash.ensures.loads in
    let counts : (g.F.Flash.seen c.in_ok-flash.flash).usage.counts ≡ no_counts = ap (λ (x : Usage). x.counts) l.usage_is in
    record {
      written = none_written c.args.span (begun c.args.start.now) c.cuts-cuts.result.now _ (g.F.Flash.seen c.in_ok-flash.flash) (search rules) (l.geometry_is ∙ c.layout.ensures.value);
      counts = record { entries = omega (arith, ap (λ (x : Counts). x.entries) counts); saved = omega (arith, ap (λ (x : Counts). x.saved) counts) };
      limits = refl;
    }

pub returns-in_err-write_cut_boot-clause-prefix : goal.returns-in_err-write_cut_boot-clause-prefix
returns-in_err-write_cut_boot-clause-prefix g c =
    let start = begun c.args.start.now in
    let r = c.in_ok-outcome.ensures.replayed in
    let same = c.cuts-cuts.ensures.value in
    let occurs = subst (λ (l : List ℕ). after start l ≡ Some r.cut) (sym same) r.occurs in
    let failed = err_from_is_err_and c.from_residual-in_err-write_cut_boot.result c.from_residual-in_err-write_cut_boot.ensures.1 in
    let P : List ℕ → Type 0 = λ l. AppendsPrefix (g.W.Write.contents c.args.writer.now) (g.W.Write.contents c.write_cut_boot.new.writer) (trace_text c.args.span start l) in
    rw failed.1 (subst P same (one_begun c.args.span start c.cuts-cuts.result.now (g.W.Write.contents c.args.writer.now) (g.W.Write.contents c.boots.writer)
    (g.W.Write.contents c.write_cut_boot.new.writer)
    c.boots.cut-index c.boots.boot (g.F.Flash.seen c.boots.flash) c.boots.invariant.written c.boots-test.true r.cut occurs (rw c.rules-rules.ensures at c.in_err-write_cut_boot.ensures.prefix)))

pub returns-in_err-write_cut_boot-clause-refused : goal.returns-in_err-write_cut_boot-clause-refused
returns-in_err-write_cut_boot-clause-refused g c = grind arith

pub boots-preserved : goal.boots-preserved
boots-preserved g c =
    let start = begun c.args.start.now in
    let r = c.in_ok-outcome.ensures.replayed in
    let same = c.cuts-cuts.ensures.value in
    let occurs = subst (λ (l : List ℕ). after start l ≡ Some r.cut) (sym same) r.occurs in
    let e = c.in_ok-write_cut_boot.ensures in
    let i = c.boots.invariant in
    record {
      written = one_written c.args.span start c.cuts-cuts.result.now (g.W.Write.contents c.args.writer.now) (g.W.Write.contents c.boots.writer)
          (g.W.Write.contents c.write_cut_boot.new.writer) c.boots.cut-index
          c.boots.boot (g.F.Flash.seen c.boots.flash) i.written c.boots-test.true r.cut occurs (g.F.Flash.seen c.write_cut_boot.new.flash) (rw c.rules-rules.ensures at e.whole)
          (rw c.rules-rules.ensures at e.left) e.layout;
      counts = one_counted start c.rules-rules.result (g.F.Flash.seen c.boots.flash) c.rules-rules.ensures i.written.layout c.boots.cut-index i.counts _ e.counts.counts;
      limits = e.counts.limits ∙ i.limits;
    }

pub returns-in_err-write_last_boot-clause-prefix : goal.returns-in_err-write_last_boot-clause-prefix
returns-in_err-write_last_boot-clause-prefix g c =
    let start = begun c.args.start.now in
    let r = c.in_ok-outcome.ensures.replayed in
    let same = c.cuts-cuts.ensures.value in
    let occurs = subst (λ (l : List ℕ). after start l ≡ Some r.cut) (sym same) r.occurs in
    let failed = err_from_is_err_and c.from_residual-in_err-write_last_boot.result c.from_residual-in_err-write_last_boot.ensures.1 in
    let P : List ℕ → Type 0 = λ l. AppendsPrefix (g.W.Write.contents c.args.writer.now) (g.W.Write.contents c.write_last_boot.new.writer) (trace_text c.args.span start l) in
    rw failed.1 (subst P same (last_begun c.args.span start c.cuts-cuts.result.now (g.W.Write.contents c.args.writer.now) (g.W.Write.contents c.boots.writer) c.boots.cut-index c.boots.boot
    (g.F.Flash.seen c.boots.flash) c.boots.invariant.written c.boots-test.false r.cut occurs (shown c.in_ok-outcome.outcome) r.outcome_is _
    (rw c.rules-rules.ensures at c.in_err-write_last_boot.ensures.prefix)))

pub returns-in_err-write_last_boot-clause-refused : goal.returns-in_err-write_last_boot-clause-refused
returns-in_err-write_last_boot-clause-refused g c = grind arith

pub returns-in_err-write_line-clause-prefix : goal.returns-in_err-write_line-clause-prefix
returns-in_err-write_line-clause-prefix g c =
    let start = begun c.args.start.now in
    let r = c.in_ok-outcome.ensures.replayed in
    let same = c.cuts-cuts.ensures.value in
    let occurs = subst (λ (l : List ℕ). after start l ≡ Some r.cut) (sym same) r.occurs in
    let failed = err_from_is_err_and c.from_residual-in_err-write_line.result c.from_residual-in_err-write_line.ensures.1 in
    let P : List ℕ → Type 0 = λ l. AppendsPrefix (g.W.Write.contents c.args.writer.now) (g.W.Write.contents c.write_line.new.writer) (trace_text c.args.span start l) in
    rw failed.1 (subst P same (outcome_begun c.args.span start c.cuts-cuts.result.now (g.W.Write.contents c.args.writer.now) (g.W.Write.contents c.boots.writer) c.boots.cut-index c.boots.boot
    (g.F.Flash.seen c.boots.flash) c.boots.invariant.written c.boots-test.false r.cut occurs (shown c.in_ok-outcome.outcome) r.outcome_is _
    (rw c.rules-rules.ensures at c.in_ok-write_last_boot.ensures.whole) _ (rw (c.put_into.ensures.text, c.new-line.ensures) at c.in_err-write_line.ensures.prefix)))

pub returns-clause-written : goal.returns-clause-written
returns-clause-written g c =
    let start = begun c.args.start.now in
    let r = c.in_ok-outcome.ensures.replayed in
    let same = c.cuts-cuts.ensures.value in
    let occurs = subst (λ (l : List ℕ). after start l ≡ Some r.cut) (sym same) r.occurs in
    let P : List ℕ → Type 0 = λ l. Appends (g.W.Write.contents c.args.writer.now) (g.W.Write.contents c.write_line.new.writer) (trace_text c.args.span start l) in
    subst P same (outcome_written c.args.span start c.cuts-cuts.result.now (g.W.Write.contents c.args.writer.now) (g.W.Write.contents c.boots.writer) c.boots.cut-index c.boots.boot
    (g.F.Flash.seen c.boots.flash) c.boots.invariant.written c.boots-test.false r.cut occurs (shown c.in_ok-outcome.outcome) r.outcome_is _
    (rw c.rules-rules.ensures at c.in_ok-write_last_boot.ensures.whole) _ (rw (c.put_into.ensures.text, c.new-line.ensures) at c.in_ok-write_line.ensures.whole))

-- The flash is still one that was loaded for a boot more than there are cuts.
loaded_for : (g : Over) (c : In_ok-flash g) (limits : Limits) → limits ≡ (g.F.Flash.seen c.in_ok-flash.flash).usage.limits
    → IsWithin (limits_for (begun c.args.start.now).rules.grain (begun c.args.start.now).geometry (length c.cuts-cuts.result.now + 1)) limits
loaded_for g c limits same = rw same (rw (c.rules-rules.ensures, c.layout.ensures.value) at c.in_ok-flash.ensures.loads.room)

pub write_cut_boot-requires-clause-inside : goal.write_cut_boot-requires-clause-inside
write_cut_boot-requires-clause-inside g c =
    let start = begun c.args.start.now in
    let r = c.in_ok-outcome.ensures.replayed in
    let occurs = subst (λ (l : List ℕ). after start l ≡ Some r.cut) (sym c.cuts-cuts.ensures.value) r.occurs in
    let out = g.W.Write.contents c.boots.writer in
    rw c.rules-rules.ensures (one_inside c.args.span start c.cuts-cuts.result.now (g.W.Write.contents c.args.writer.now) out out c.boots.cut-index c.boots.boot (g.F.Flash.seen c.boots.flash)
    c.boots.invariant.written c.boots-test.true r.cut occurs)

pub write_cut_boot-requires-clause-room : goal.write_cut_boot-requires-clause-room
write_cut_boot-requires-clause-room g c =
    let start = begun c.args.start.now in
    let i = c.boots.invariant in
    let f = g.F.Flash.seen c.boots.flash in
    let a = goal.at.write_cut_boot-requires-clause-room g c in
    room_left start c.rules-rules.result f c.rules-rules.ensures i.written.layout c.boots.cut-index i.counts (length c.cuts-cuts.result.now + 1) (omega arith)
    (loaded_for g a.In_ok-flash f.usage.limits i.limits)

pub write_last_boot-requires : goal.write_last_boot-requires
write_last_boot-requires g c =
    let start = begun c.args.start.now in
    let i = c.boots.invariant in
    let f = g.F.Flash.seen c.boots.flash in
    let a = goal.at.write_last_boot-requires g c in
    room_left start c.rules-rules.result f c.rules-rules.ensures i.written.layout c.boots.cut-index i.counts (length c.cuts-cuts.result.now + 1) (omega arith)
    (loaded_for g a.In_ok-flash f.usage.limits i.limits)
