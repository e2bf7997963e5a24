use Rattle.std.proofs.Common.{◌≡◌, ℕ, List, [], ◌++◌, Result, Ok, Err, length, length-append, take, drop, cond, inl, inr, refl, sym, ap, ◌∙◌, arith, ◌<◌, ◌≤◌, ◌⊎◌, Option, None, Some, IfSome}
use Rattle.std.proofs.{KnownBytes.{Consumes-nil, Consumes-trans, Consumes-all, Consumes-kept}, lemmas.List.{take-append-le}}
use Rattle.std.specs.Prelude.{is_ok, is_err, false}
use Rattle.mc_imgtool.specs.{declared.error.ToolError.{ToolError}, declared.error.ToolError.TheVariants.{InputTooLong, Read, Memory}}
use Rattle.mc_imgtool.proofs.{Answering.{has_room, fits_with_more, nothing, longer}, input.read_bounded.Given.{Over}}
use Rattle.mc_imgtool.proofs.input.read_bounded.Goals as goal
use Rattle.mc_imgtool.proofs.input.read_bounded.Goals.{Else-is_err}

at_ok : {A E : Type 0} (r : Result A E) (new more old : List ℕ) → new ≡ cond (is_ok r) more old → false ≡ is_err r → new ≡ more
at_ok (Ok x) new more old e ok = e
at_ok (Err x) new more old e ok = absurd (cc)

-- what was read whole is not longer
not_longer : (known : Option (List ℕ)) (bytes : List ℕ) (limit : ℕ) → length bytes ≤ limit → IfSome known (λ xs. bytes ≡ xs) → IfSome known (λ xs. limit < length xs → ⊥)
not_longer None bytes limit at_most all = tt
not_longer (Some xs) bytes limit at_most all = λ long. omega (arith, ap length all)

-- each refusal is one of the three
abbrev IsRefusal : ToolError → Type 0
IsRefusal e = (e ≡ InputTooLong) ⊎ ((e ≡ Read) ⊎ (e ≡ Memory))

refused_so : (known : Option (List ℕ)) (limit : ℕ) (e : ToolError) → IsRefusal e → IfSome known (λ xs. limit < length xs → IsRefusal e)
refused_so None limit e is = tt
refused_so (Some xs) limit e is = λ long. is

-- the bytes after a read
longer_by : (g : Over) (c : Else-is_err g) → c.extend_from_slice.new.self.items ≡ c.loop-buffer.bytes.items ++ take c.in-Ok.count c.read.new.buf
longer_by g c =
    let prefix = take-append-le c.in-Ok.count c.read.new.buf (drop c.min-room.result c.loop-buffer.buffer) c.in-Ok.ensures.bound.0 in
    rw prefix at (at_ok c.extend_from_slice.result _ _ _ c.extend_from_slice.ensures.items c.if-is_err.ensures.value)

pub loop-buffer-init : goal.loop-buffer-init
loop-buffer-init g c = record {
  within = rw c.new-bytes.ensures.items (omega arith);
  taken = rw c.new-bytes.ensures.items (Consumes-nil _);
}

pub loop-buffer-preserved : goal.loop-buffer-preserved
loop-buffer-preserved g c =
    let b = c.loop-buffer in
    let given = c.in-Ok.ensures in
    let fits = fits_with_more _ _ _ _ b.bytes.items b.buffer _ c.min-room.ensures (c.len-in-loop-buffer.ensures ∙ b.bytes.ok.0) b.invariant.within c.read.auto.buf given.bound in
    let is = longer_by g c in
    record { within = rw is fits; taken = rw is (Consumes-trans _ _ _ b.bytes.items (take c.in-Ok.count c.read.new.buf) b.invariant.taken given.bytes.0) }

pub loop-buffer-smaller : goal.loop-buffer-smaller
loop-buffer-smaller g c =
    let b = c.loop-buffer.bytes in
    let sum = length-append b.items (take c.in-Ok.count c.read.new.buf) in
    rw (longer_by g c) (omega (arith, sum, c.in-Ok.ensures.bound.1, c.if-count-eq0.false, c.loop-buffer-test.true, c.len.ensures, b.ok.0))

pub returns-then-is_err-clause-taken : goal.returns-then-is_err-clause-taken
returns-then-is_err-clause-taken g c =
    let b = c.loop-buffer in
    let given = c.in-Ok.ensures in
    let fits = fits_with_more _ _ _ _ b.bytes.items b.buffer _ c.min-room.ensures (c.len-in-loop-buffer.ensures ∙ b.bytes.ok.0) b.invariant.within c.read.auto.buf given.bound in
    (b.bytes.items ++ take c.in-Ok.count c.read.new.buf, Consumes-trans _ _ _ b.bytes.items _ b.invariant.taken given.bytes.0, omega (arith, fits))

pub returns-then-count-eq0 : goal.returns-then-count-eq0
returns-then-count-eq0 g c =
    let b = c.loop-buffer in
    let below = rw (c.len.ensures ∙ sym c.len-in-loop-buffer.ensures) at c.loop-buffer-test.true in
    let room = has_room _ c.len-in-loop-buffer.result c.min-room.result b.buffer c.read.new.buf below c.min-room.ensures (omega arith) c.read.auto.buf in
    let took = nothing _ _ _ b.bytes.items c.read.new.buf c.in-Ok.count b.invariant.taken c.in-Ok.ensures.bytes.0 c.if-count-eq0.true in
    let end = c.in-Ok.ensures.bytes.1 c.if-count-eq0.true room in
    let at_most : length b.bytes.items ≤ c.args.limit = omega (arith, c.loop-buffer-test.true, c.len.ensures, b.bytes.ok.0) in
    let all = Consumes-all _ _ b.bytes.items [] b.bytes.items took end refl in
    record {
      whole = (at_most, all);
      end = end;
      refused = tt;
      longer = not_longer _ b.bytes.items c.args.limit at_most all;
      taken = (b.bytes.items, took, omega (arith, b.invariant.within));
    }

pub returns-clause-refused : goal.returns-clause-refused
returns-clause-refused g c =
    longer _ _ c.loop-buffer.bytes.items c.args.limit c.loop-buffer.invariant.taken (omega (arith, c.loop-buffer-test.false, c.len.ensures, c.loop-buffer.bytes.ok.0))

pub returns-clause-longer : goal.returns-clause-longer
returns-clause-longer g c = refused_so _ c.args.limit InputTooLong (inl refl)

pub returns-then-is_err-clause-longer : goal.returns-then-is_err-clause-longer
returns-then-is_err-clause-longer g c = refused_so _ c.args.limit Memory (inr (inr refl))

pub returns-in_default-clause-longer : goal.returns-in_default-clause-longer
returns-in_default-clause-longer g c = refused_so _ c.args.limit Read (inr (inl refl))

pub returns-in_default-clause-whole : goal.returns-in_default-clause-whole
returns-in_default-clause-whole g c = tt

pub returns-in_default-clause-end : goal.returns-in_default-clause-end
returns-in_default-clause-end g c = tt

pub returns-in_default-clause-taken : goal.returns-in_default-clause-taken
returns-in_default-clause-taken g c = (c.loop-buffer.bytes.items, Consumes-kept _ _ _ _ c.loop-buffer.invariant.taken c.in_default.ensures.bytes, omega (arith, c.loop-buffer.invariant.within))
