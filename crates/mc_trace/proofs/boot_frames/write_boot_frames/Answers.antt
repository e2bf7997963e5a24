use Rattle.std.specs.Prelude.{◌≡◌, ◌+◌, ◌<◌, IfSome, ◌∷◌, [], ℕ, length, map, suc, refl, None, Option, Some}
use Rattle.std.proofs.{Common.{arith, ap, subst, ◌∙◌}, lemmas.Result.{err_from_is_err_and}, lemmas.List.{length-append}}
use Rattle.mc_boot.specs.{Outcome.{ops_of}, Plan.{PowerOn}}
use Rattle.mc_explore.specs.{facts.Children.{HasCome, IsAtChild, can_pass, come_on, reached, width_here}, facts.Occurring.{landed_again}}
use Rattle.mc_explore.specs.{declared.one_round.OneRound.{OneRound}, inner.LastCuts.{boot_at}, inner.OneRound.{begins}}
use Rattle.mc_output.specs.facts.Prefixes.{out_stops}
use Rattle.mc_flash.specs.Usage.{Seen}
use Rattle.mc_start.specs.Start.{begun}
use Rattle.mc_trace.specs.{Frames.{torn_lines}, inner.Torn.{line_at}, inner.Walking.{length_to, model_of, width_along}}
use Rattle.mc_trace.proofs.BootFrames.{all_shown, end_out, frame_begun, frame_is, frame_out, frames_begun, number_is, one_shown, one_there, within}
use Rattle.mc_trace.proofs.boot_frames.write_boot_frames.Given.{Over}
use Rattle.mc_trace.proofs.boot_frames.write_boot_frames.Goals as goal
use Rattle.mc_trace.proofs.boot_frames.write_boot_frames.Goals.{In_ok-go_to_child}

pub loop-number-init : goal.loop-number-init
loop-number-init g c =
    let start = begun c.args.start.now in
    let walk = c.args.walk.now in
    let all = width_here model_of walk c.flash_tree.result c.summary.result.now c.width-count.result c.flash_tree.ensures c.summary.ensures c.width-count.ensures in
    record {
      to_is = c.frames_to-to.ensures ∙ ap (length_to c.args.cut) (all ∙ width_along walk.flash_tree walk.path ∙ ap (λ x. length (ops_of (boot_at x walk.path))) c.requires.ready.start_is);
      at = λ n is. absurd (omega (arith, is));
      come = record { same = record { flash_tree = refl; bound = refl }; limits = refl; stands = c.requires.ready.stands; passed = refl };
      out = frames_begun c.args.look.now start.content c.args.boot (boot_at start walk.path) c.args.cut (g.W.Write.contents c.args.writer.now);
    }

pub frames_to-to-requires : goal.frames_to-to-requires
frames_to-to-requires g c =
    let walk = c.args.walk.now in
    let all = width_here model_of walk c.flash_tree.result c.summary.result.now c.width-count.result c.flash_tree.ensures c.summary.ensures c.width-count.ensures in
    rw (all ∙ width_along walk.flash_tree walk.path ∙ ap (λ x. length (ops_of (boot_at x walk.path))) c.requires.ready.start_is) c.requires.inside

pub go_to_child-requires-clause-passed : goal.go_to_child-requires-clause-passed
go_to_child-requires-clause-passed g c =
    let i = c.loop-number.invariant in
    let some = one_there (begun c.args.start.now) c.args.walk.now c.requires.ready.start_is c.args.cut c.requires.inside _ i.to_is c.loop-number.number c.loop-number-test.true in
    can_pass model_of c.args.walk.now c.requires.ready.listed c.loop-number.number some (omega (arith, c.requires.ready.deep)) c.loop-number.walk i.come

-- The walk stands at that child.
at_child : (g : Over) (c : In_ok-go_to_child g) → IsAtChild model_of c.args.walk.now c.loop-number.number c.go_to_child.new.walk
at_child g c =
    let i = c.loop-number.invariant in
    let some = one_there (begun c.args.start.now) c.args.walk.now c.requires.ready.start_is c.args.cut c.requires.inside _ i.to_is c.loop-number.number c.loop-number-test.true in
    reached model_of c.args.walk.now c.requires.ready.listed c.loop-number.number some (omega (arith, c.requires.ready.deep)) c.loop-number.walk i.come
    c.go_to_child.new.walk c.in_ok-go_to_child.ensures.reaches c.in_ok-go_to_child.ensures.limits

pub returns-in_err-go_to_child-clause-written : goal.returns-in_err-go_to_child-clause-written
returns-in_err-go_to_child-clause-written g c =
    let failed = err_from_is_err_and c.from_residual.result c.from_residual.ensures.1 in
    rw failed.1 (out_stops _ _ _ _ c.loop-number.invariant.out)

pub frame_here-frame-requires-clause-stands : goal.frame_here-frame-requires-clause-stands
frame_here-frame-requires-clause-stands g c = (at_child g c).stands

pub frame_here-frame-requires-clause-below : goal.frame_here-frame-requires-clause-below
frame_here-frame-requires-clause-below g c none =
    let here = at_child g c in
    absurd (omega (arith, ap length here.path, ap length none, length-append c.args.walk.now.path (c.loop-number.number ∷ [])))

pub write_seen-requires : goal.write_seen-requires
write_seen-requires g c =
    let here = at_child g (goal.at.write_seen-requires g c).In_ok-go_to_child in
    ap (λ (s : Seen). s.geometry) c.flash.ensures ∙ c.frame_here-frame.ensures.layout ∙ ap (λ (t : OneRound). (begins t).geometry) here.same.flash_tree
    ∙ ap (λ (x : PowerOn). x.geometry) c.requires.ready.start_is

-- The lines of the operation's torn cases.
lines_are : (g : Over) (c : In_ok-go_to_child g) → line_at (map (λ text. text.items) c.args.lines.now) c.loop-number.number
    ≡ torn_lines c.args.look.now.torn c.args.look.now.expectation (boot_at (begun c.args.start.now) c.args.walk.now.path) c.loop-number.number
lines_are g c =
    let start = begun c.args.start.now in
    let walk = c.args.walk.now in
    let i = c.loop-number.invariant in
    c.requires.torn c.loop-number.number
    (omega (arith, c.loop-number-test.true, i.to_is, within (ops_of (boot_at start walk.path)) c.args.cut c.requires.inside))

pub returns-in_err-write_seen-clause-written : goal.returns-in_err-write_seen-clause-written
returns-in_err-write_seen-clause-written g c =
    let start = begun c.args.start.now in
    let walk = c.args.walk.now in
    let i = c.loop-number.invariant in
    let here = at_child g (goal.at.returns-in_err-write_seen-clause-written g c).In_ok-go_to_child in
    let frame = c.frame_here-frame.ensures.frame in
    let at = c.go_to_child.new.walk in
    let is = frame_is start walk at c.requires.ready.start_is c.loop-number.number here c.args.boot c.args.cut _ frame in
    let number = number_is start walk at c.requires.ready.start_is c.loop-number.number here c.args.boot c.args.cut _ frame in
    let more = one_shown start walk c.requires.ready.start_is c.args.cut c.requires.inside _ i.to_is c.loop-number.number c.loop-number-test.true in
    let layout = ap (λ (x : PowerOn). x.geometry) (landed_again start walk.path) in
    let failed = err_from_is_err_and c.from_residual-in_err-write_seen.result c.from_residual-in_err-write_seen.ensures.1 in
    rw failed.1 (frame_begun c.args.look.now start.content c.args.boot (boot_at start walk.path) c.args.cut c.loop-number.number at.seen.content _ is number more _
    (c.line_at.ensures ∙ lines_are g (goal.at.returns-in_err-write_seen-clause-written g c).In_ok-go_to_child) start.geometry layout
    (g.W.Write.contents c.args.writer.now) (g.W.Write.contents c.loop-number.writer) (g.W.Write.contents c.write_seen.new.writer) i.out
    (rw c.flash.ensures at c.in_err-write_seen.ensures))

pub loop-number-preserved : goal.loop-number-preserved
loop-number-preserved g c =
    let start = begun c.args.start.now in
    let walk = c.args.walk.now in
    let i = c.loop-number.invariant in
    let n : ℕ = c.loop-number.number in
    let here = at_child g (goal.at.loop-number-preserved g c).In_ok-go_to_child in
    let frame = c.frame_here-frame.ensures.frame in
    let at = c.go_to_child.new.walk in
    let is = frame_is start walk at c.requires.ready.start_is n here c.args.boot c.args.cut _ frame in
    let number = number_is start walk at c.requires.ready.start_is n here c.args.boot c.args.cut _ frame in
    let more = one_shown start walk c.requires.ready.start_is c.args.cut c.requires.inside _ i.to_is n c.loop-number-test.true in
    let layout = ap (λ (x : PowerOn). x.geometry) (landed_again start walk.path) in
    let one : suc n ≡ n + 1 = omega arith in
    record {
      to_is = i.to_is;
      at = λ m e. let same : n ≡ m = omega (arith, e) in subst (λ k. IsAtChild model_of walk k at) same here;
      come = subst (λ k. HasCome model_of walk k at) one (come_on model_of walk n at here);
      out = frame_out c.args.look.now start.content c.args.boot (boot_at start walk.path) c.args.cut n at.seen.content _ is number more _
          (c.line_at.ensures ∙ lines_are g (goal.at.loop-number-preserved g c).In_ok-go_to_child) start.geometry layout
          (g.W.Write.contents c.args.writer.now) (g.W.Write.contents c.loop-number.writer) (g.W.Write.contents c.write_seen.new.writer) i.out
          (rw c.flash.ensures at c.in_ok-write_seen.ensures);
    }

pub returns-clause-written : goal.returns-clause-written
returns-clause-written g c =
    let start = begun c.args.start.now in
    let walk = c.args.walk.now in
    let i = c.loop-number.invariant in
    let end = all_shown start walk c.requires.ready.start_is c.args.cut c.requires.inside _ i.to_is c.loop-number.number c.loop-number-test.false in
    end_out c.args.look.now start.content c.args.boot (boot_at start walk.path) c.args.cut c.loop-number.number _ _ i.out end

pub returns-clause-goes : goal.returns-clause-goes
returns-clause-goes g c = by c.args.cut c.loop-number.invariant.to_is
  where
    by : (cut : Option ℕ) → c.frames_to-to.result ≡ length_to cut (length (ops_of (boot_at (begun c.args.start.now) c.args.walk.now.path)))
        → IfSome cut (λ n. IsAtChild model_of c.args.walk.now n c.loop-number.walk)
    by None to = tt
    by (Some n) to = c.loop-number.invariant.at n (omega (arith, to, c.loop-number-test.false, c.loop-number.auto.number-end))
