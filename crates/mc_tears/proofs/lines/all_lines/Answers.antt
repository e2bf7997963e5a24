use Rattle.std.proofs.{Common.{Global, Vec, ap, append-nil, append_assoc, arith, refl, sym, ◌∙◌}, lemmas.List.{map-append}}
use Rattle.std.specs.Prelude.{List, [], length, map, ◌++◌, ◌+◌, ◌<◌, ◌≡◌, ◌∷◌, ℕ}
use Rattle.mc_boot.specs.Outcome.{ops_of}
use Rattle.mc_explore.specs.{facts.Summaries.{width_is}, inner.OneRound.{begins}}
use Rattle.mc_tears.proofs.Listed.{up_to, up_to_end, up_to_first, up_to_next}
use Rattle.mc_tears.proofs.Standing.{begins_here}
use Rattle.mc_tears.specs.Tears.{number_text}
use Rattle.mc_tears.proofs.lines.all_lines.Given.{Over}
use Rattle.mc_tears.proofs.lines.all_lines.Goals as goal
use Rattle.mc_tears.proofs.lines.all_lines.Goals.{In-loop-number}

pub loop-number-init : goal.loop-number-init
loop-number-init g c =
    let x = begins c.args.rounds.now in
    let begun = begins_here x c.args.whole.now c.requires.whole (g.F.Flash.seen c.args.flash.now) c.begin-here.result c.begin-here.ensures c.requires.stands c.requires.marks in
    record {
      here = begun.0;
      number = begun.1;
      lines = rw c.new-lines.ensures.items (ap (map (number_text c.args.asked.now x)) (up_to_first (length (ops_of x))));
      capacity = refl;
    }

-- The lines of one operation more.
more : {A : Type 0} (f : A → List ℕ) (h : ℕ → List ℕ) (old : List A) (t : A) (new : List A) (n : ℕ) (rest : List ℕ) (whole : List (List ℕ))
    → new ≡ old ++ t ∷ [] → f t ≡ h n → map f old ++ map h (n ∷ rest) ≡ whole → map f new ++ map h rest ≡ whole
more f h old t new n rest whole is same out = rw (is, map-append f old (t ∷ []), append_assoc (map f old) (f t ∷ []) (map h rest), same) out

early : (g : Over) (c : In-loop-number g) → c.loop-number.here.at.done < length (ops_of (begins c.args.rounds.now))
early g c = omega (arith, c.loop-number.invariant.number, c.loop-number-test.true, width_is (begins c.args.rounds.now) c.args.whole.now.summary c.requires.whole.summary)

pub write_next-requires-clause-early : goal.write_next-requires-clause-early
write_next-requires-clause-early g c = early g (goal.at.write_next-requires-clause-early g c).In-loop-number

pub write_next-requires-clause-buffer : goal.write_next-requires-clause-buffer
write_next-requires-clause-buffer g c =
    let i = c.loop-number.invariant in
    rw (i.here.stands.at_is.layout_is ∙ sym c.requires.stands.at_is.layout_is, i.capacity) c.requires.buffer

pub loop-number-preserved : goal.loop-number-preserved
loop-number-preserved g c =
    let a = c.args.asked.now in
    let x = begins c.args.rounds.now in
    let n : ℕ = c.loop-number._number in
    let at = (goal.at.loop-number-preserved g c).In-loop-number in
    let i = c.loop-number.invariant in
    let e = c.in_ok-write_next.ensures in
    record {
      here = e.steps.0;
      number = omega (arith, e.steps.1, i.number);
      lines = more (λ (text : Vec ℕ Global). text.items) (number_text a x) _ c.write_next.new.writer _ n (up_to (length (ops_of x)) (n + 1)) _ c.in-Ok.ensures.items
          (e.written ∙ ap (λ (l : List ℕ). l ++ number_text a x c.loop-number.here.at.done) c.new-text.ensures.items ∙ ap (number_text a x) i.number)
          (rw (up_to_next (length (ops_of x)) n (omega (arith, early g at, i.number))) at i.lines);
      capacity = e.capacity ∙ i.capacity;
    }

pub returns : goal.returns
returns g c =
    let x = begins c.args.rounds.now in
    let end = up_to_end (length (ops_of x)) c.loop-number._number
    (omega (arith, c.loop-number-test.false, width_is x c.args.whole.now.summary c.requires.whole.summary)) in
    sym (append-nil _) ∙ (rw end at c.loop-number.invariant.lines)
