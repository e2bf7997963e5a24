use Rattle.std.proofs.Common.{◌≡◌, ℕ, ◌≤◌, ◌^◌, List, [], ◌++◌, length, length-append, length-take, take, drop, Option, None, Some, Result, Ok, Err, IfSome, refl, sym, subst, arith}
use Rattle.std.proofs.{lemmas.List.{take-append-le}, KnownBytes.{Consumes-nil, Consumes-trans, Consumes-all, Consumes-kept}}
use Rattle.std.specs.Result.{IsErrAnd, MatchResult}
use Rattle.mc_image.specs.{declared.error.ImageError.{ImageError}, declared.judge.Judged.{Judged}}
use Rattle.mc_image.specs.Verdict.{verdict}
use Rattle.mc_imgtool.specs.{Engines.{Judges}, declared.error.ToolError.{ToolError}, declared.error.ToolError.TheVariants.{Image as image_error}}
use Rattle.mc_imgtool.proofs.Answering.{has_room, within, nothing, longer}
use Rattle.mc_imgtool.proofs.verification.judge_input.Goals as goal

of_all : (known : Option (List ℕ)) (fed : List ℕ) (P : List ℕ → Type 0) → IfSome known (λ xs. fed ≡ xs) → P fed → IfSome known P
of_all None fed P all h = tt
of_all (Some xs) fed P all h = subst P all h

-- what is answered of all that was read
judged_all : (known : Option (List ℕ)) (fed : List ℕ) (answer : Result Judged ImageError) (r : Result Judged ToolError) → IfSome known (λ xs. fed ≡ xs) → length fed ≤ 2 ^ 24
    → answer ≡ verdict fed → MatchResult answer (λ x. r ≡ Ok x) (λ e. IsErrAnd r (λ f. f ≡ image_error e)) → Judges known (2 ^ 24) r
judged_all known fed (Ok x) r all le is e =
    let given = of_all known fed (λ xs. (length xs ≤ 2 ^ 24) × (verdict xs ≡ Ok x)) all (le, sym is) in
    subst (λ (a : Result Judged ToolError). Judges known (2 ^ 24) a) (sym e) given
judged_all known fed (Err x) (Ok y) all le is e = absurd e
judged_all known fed (Err x) (Err f) all le is e =
    let given = of_all known fed (λ xs. (length xs ≤ 2 ^ 24) × (verdict xs ≡ Err x)) all (le, sym is) in
    subst (λ (a : ToolError). Judges known (2 ^ 24) (Err a)) (sym e) given

pub loop-taken-init : goal.loop-taken-init
loop-taken-init g c = ([], c.new-judge.ensures, refl, omega arith, Consumes-nil _)

pub loop-taken-preserved : goal.loop-taken-preserved
loop-taken-preserved g c =
    let fed = c.loop-taken.invariant.0 in
    let piece = take c.in-Ok.count c.read.new.buf in
    let prefix = take-append-le c.in-Ok.count c.read.new.buf (drop c.min-room.result c.loop-taken.buffer) c.in-Ok.ensures.bound.0 in (
      fed ++ piece,
      rw prefix at (c.feed.ensures fed c.loop-taken.invariant.1),
      omega (arith, length-append fed piece, c.loop-taken.invariant.2, c.in-Ok.ensures.bound.1),
      within 16777217 c.loop-taken.taken c.min-room.result c.in-Ok.count c.loop-taken.buffer c.read.new.buf (omega (arith, c.min-room.ensures))
          c.loop-taken.invariant.3 c.read.auto.buf c.in-Ok.ensures.bound.0,
      Consumes-trans _ _ _ fed piece c.loop-taken.invariant.4 c.in-Ok.ensures.bytes.0,
    )

pub loop-taken-smaller : goal.loop-taken-smaller
loop-taken-smaller g c = omega arith

pub returns-then-count-eq0-clause-judged : goal.returns-then-count-eq0-clause-judged
returns-then-count-eq0-clause-judged g c =
    let fed = c.loop-taken.invariant.0 in
    let room = has_room 16777217 c.loop-taken.taken c.min-room.result c.loop-taken.buffer c.read.new.buf c.loop-taken-test.true c.min-room.ensures (omega arith) c.read.auto.buf in
    let took = nothing _ _ _ fed c.read.new.buf c.in-Ok.count c.loop-taken.invariant.4 c.in-Ok.ensures.bytes.0 c.if-count-eq0.true in
    judged_all _ fed c.finish.result c.map_err.result (Consumes-all _ _ fed [] fed took (c.in-Ok.ensures.bytes.1 c.if-count-eq0.true room) refl)
    (omega (arith, c.loop-taken.invariant.2, c.loop-taken-test.true)) (c.finish.ensures fed c.loop-taken.invariant.1) c.map_err.ensures.cases

pub returns-then-count-eq0-clause-taken : goal.returns-then-count-eq0-clause-taken
returns-then-count-eq0-clause-taken g c =
    let fed = c.loop-taken.invariant.0 in
    (fed, nothing _ _ _ fed c.read.new.buf c.in-Ok.count c.loop-taken.invariant.4 c.in-Ok.ensures.bytes.0 c.if-count-eq0.true, omega (arith, c.loop-taken.invariant.2, c.loop-taken.invariant.3))

pub returns-clause-judged : goal.returns-clause-judged
returns-clause-judged g c = longer _ _ c.loop-taken.invariant.0 (2 ^ 24) c.loop-taken.invariant.4 (omega (arith, c.loop-taken.invariant.2, c.loop-taken-test.false))

pub returns-clause-taken : goal.returns-clause-taken
returns-clause-taken g c = (c.loop-taken.invariant.0, c.loop-taken.invariant.4, omega (arith, c.loop-taken.invariant.2, c.loop-taken.invariant.3))

pub feed-requires : goal.feed-requires
feed-requires g c =
    let fed = c.loop-taken.invariant.0 in
    let le = within 16777217 c.loop-taken.taken c.min-room.result c.in-Ok.count c.loop-taken.buffer c.read.new.buf (omega (arith, c.min-room.ensures))
    c.loop-taken.invariant.3 c.read.auto.buf c.in-Ok.ensures.bound.0 in
    let at_most = length-take c.in-Ok.count (c.read.new.buf ++ drop c.min-room.result c.loop-taken.buffer) in
    (fed, c.loop-taken.invariant.1, omega (arith, c.loop-taken.invariant.2, at_most, le))

pub returns-in_default : goal.returns-in_default
returns-in_default g c = record {
  judged = tt;
  end = tt;
  taken = (c.loop-taken.invariant.0, Consumes-kept _ _ _ _ c.loop-taken.invariant.4 c.in_default.ensures.bytes, omega (arith, c.loop-taken.invariant.2, c.loop-taken.invariant.3));
}
