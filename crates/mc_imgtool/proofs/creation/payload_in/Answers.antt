use Rattle.std.proofs.Common.{◌≡◌, ℕ, ◌-◌, ◌<◌, ◌≤◌, ◌==◌, Bool, true, false, List, length, take, drop, length-drop, refl, ap, ◌∙◌, arith}
use Rattle.std.proofs.{lemmas.Bool.{lt-ltb, le-ltb}, lemmas.List.{take_all}}
use Rattle.std.specs.{Prelude.{nat_lt, not}, List.{list_all}}
use Rattle.mc_imgtool.specs.{Created.{lacks_zeros, payload_in}, declared.creation.CreateOptions.{CreateOptions}}
use Rattle.mc_imgtool.proofs.creation.payload_in.Goals as goal
use Rattle.mc_imgtool.proofs.creation.payload_in.Goals.{then-input-header-via-then-input-header as short, then-input-header-via-else-input-header+then-not-are_zeros as other}

in_short : (o : CreateOptions) (xs : List ℕ) → o.pad_header ≡ false → length xs < o.header_size → lacks_zeros o xs ≡ true
unfolding lacks_zeros
in_short o xs pad h = let t : nat_lt (length xs) o.header_size ≡ true = lt-ltb _ _ h in rw (pad, t) refl

in_long : (o : CreateOptions) (xs : List ℕ) (zeros : Bool) → o.pad_header ≡ false → o.header_size ≤ length xs → zeros ≡ list_all (λ b. b == 0) (take o.header_size xs) → lacks_zeros o xs ≡ not zeros
unfolding lacks_zeros
in_long o xs zeros pad h are = let t : nat_lt (length xs) o.header_size ≡ false = le-ltb _ _ h in rw (pad, t, are) refl

rest : (o : CreateOptions) (xs : List ℕ) → o.pad_header ≡ false → take (length xs - o.header_size) (drop o.header_size xs) ≡ payload_in o xs
unfolding payload_in
rest o xs pad = rw pad (take_all (length xs - o.header_size) (drop o.header_size xs) (omega (arith, length-drop o.header_size xs)))

pub returns-then-input-header : goal.returns-then-input-header
returns-then-input-header c = elim c.then-input-header.branch as (λ _. lacks_zeros c.args.options.now c.args.input.now ≡ true) [
  | short w ↦ in_short _ _ c.if-options.false w.if-input-header.true
  | other w ↦ in_long _ _ w.are_zeros.result c.if-options.false w.if-input-header.false w.are_zeros.ensures ∙ ap not w.if-not-are_zeros.true
]

pub returns : goal.returns
returns c =
    (in_long _ _ c.are_zeros.result c.if-options.false c.if-input-header.false c.are_zeros.ensures ∙ ap not c.if-not-are_zeros.false, rest c.args.options.now c.args.input.now c.if-options.false)
