-- What an operation does to two flashes that hold the same bytes where it reads and writes.
use Rattle.std.proofs.{Common.{ap, arith, inl, inr, sym, ◌∙◌}, lemmas.Bool.{cases_lt}, lemmas.List.Edits.{get_or-between, length-between}, lemmas.List.{get_or_default, same_lists}}
use Rattle.std.specs.List.{between}
use Rattle.std.specs.Prelude.{Bool, List, None, Some, false, length, refl, replicate, true, ℕ, ◌*◌, ◌+◌, ◌-◌, ◌<◌, ◌≡◌, ◌≤◌, ◌⊎◌}
use Rattle.mc_boot.proofs.Meets.{which_slot}
use Rattle.mc_flash.specs.{Flash.{Content, IsSized, apply, byte, bytes_of, is_blank, sectors_of, size_of}, Geometry.{Geometry}, declared.op.Op.{Op}}
use Rattle.mc_flash.specs.{declared.op.Op.TheVariants.{Copy, Erase, Program}, declared.op.Slot.{Slot}}
use Rattle.mc_flash.specs.facts.{Changes.{Changed, changed_sized, copied, copy_is_program, erase_changes, length-copied, program_changes, range_blank, sized_is}, Layouts.{sector_inside}}

-- Two flashes that hold the same bytes at some places.
pub record SameAt (g : Geometry) (P : Slot → ℕ → Type 0) (u v : Content) : Type 0 where
  pub sized_u : IsSized g u
  pub sized_v : IsSized g v
  pub same : (o : Slot) (i : ℕ) → P o i → byte v o i ≡ byte u o i

-- They are changed by the same bytes.
pub record ChangedBoth (u v t w : Content) (slot : Slot) (at : ℕ) (new : List ℕ) : Type 0 where
  pub of_u : Changed u t slot at new
  pub of_v : Changed v w slot at new

-- An operation is refused by both, or changes both so.
abbrev pub Changes : Geometry → Op → Content → Content → Slot → ℕ → List ℕ → Type 0
Changes g op u v slot at new =
    ((apply g op u ≡ None) × (apply g op v ≡ None))
    ⊎ ((t : Content) × (w : Content) × (apply g op u ≡ Some t) × (apply g op v ≡ Some w) × ChangedBoth u v t w slot at new)

module _ (g : Geometry) (P : Slot → ℕ → Type 0) (u v : Content) (is : SameAt g P u v) where
  pub same_after : (t w : Content) (slot : Slot) (at : ℕ) (new : List ℕ) → ChangedBoth u v t w slot at new → SameAt g P t w
  same_after t w slot at new ch = record {
    sized_u = changed_sized g u t slot at new ch.of_u is.sized_u;
    sized_v = changed_sized g v w slot at new ch.of_v is.sized_v;
    same = λ o i p. elim (which_slot o slot) [
      | inr other ↦ ch.of_v.other o i other ∙ is.same o i p ∙ sym (ch.of_u.other o i other)
      | inl here ↦ rw here (by i (rw here at p))
    ];
  }
    where
      by : (i : ℕ) → P slot i → byte w slot i ≡ byte t slot i
      by i p = elim (cases_lt i at) [
        | inl low ↦ ch.of_v.before i low ∙ is.same slot i p ∙ sym (ch.of_u.before i low)
        | inr high ↦ elim (cases_lt i (at + length new)) [
          | inr beyond ↦ ch.of_v.beyond i beyond ∙ is.same slot i p ∙ sym (ch.of_u.beyond i beyond)
          | inl short ↦
              let there : at + (i - at) ≡ i = omega (arith, high) in
              let within : i - at < length new = omega (arith, high, short) in
              ap (byte w slot) (sym there) ∙ ch.of_v.inside (i - at) within ∙ sym (ch.of_u.inside (i - at) within) ∙ ap (byte t slot) there
        ]
      ]

  -- Bytes one after another.
  range_same : (slot : Slot) (at n : ℕ) → at + n ≤ size_of g slot → ((i : ℕ) → i < n → P slot (at + i))
      → between at (at + n) (bytes_of v slot) ≡ between at (at + n) (bytes_of u slot)
  range_same slot at n inside each =
      let wide_u : length (between at (at + n) (bytes_of u slot)) ≡ n = length-between (bytes_of u slot) at (at + n) (omega (arith, inside, sized_is g u slot is.sized_u)) ∙ omega arith in
      let wide_v : length (between at (at + n) (bytes_of v slot)) ≡ n = length-between (bytes_of v slot) at (at + n) (omega (arith, inside, sized_is g v slot is.sized_v)) ∙ omega arith in
      same_lists (between at (at + n) (bytes_of v slot)) (between at (at + n) (bytes_of u slot)) (wide_v ∙ sym wide_u) (λ i d h.
      get_or_default (between at (at + n) (bytes_of v slot)) i d 0 h ∙ get_or-between (bytes_of v slot) at (at + n) i 0 (omega (arith, h, wide_v))
      ∙ is.same slot (at + i) (each i (omega (arith, h, wide_v))) ∙ sym (get_or-between (bytes_of u slot) at (at + n) i 0 (omega (arith, h, wide_v)))
      ∙ sym (get_or_default (between at (at + n) (bytes_of u slot)) i d 0 (omega (arith, h, wide_u, wide_v))))

  pub erase_both : (slot : Slot) (sector : ℕ) → sector < sectors_of g slot → Changes g (Erase slot sector) u v slot (sector * g.sector) (replicate g.sector 255)
  erase_both slot sector below =
      let inside = sector_inside g slot sector below in
      let of_u = erase_changes g u slot sector (omega (arith, inside, sized_is g u slot is.sized_u)) in
      let of_v = erase_changes g v slot sector (omega (arith, inside, sized_is g v slot is.sized_v)) in
      inr (of_u.0, of_v.0, of_u.1, of_v.1, record { of_u = of_u.2; of_v = of_v.2 })

  refused : (s : Content) (slot : Slot) (at : ℕ) (new : List ℕ) → is_blank (between at (at + length new) (bytes_of s slot)) ≡ false → apply g (Program slot at new) s ≡ None
  unfolding apply
  refused s slot at new not_so = rw not_so refl

  pub program_both : (slot : Slot) (at : ℕ) (new : List ℕ) → at + length new ≤ size_of g slot → ((i : ℕ) → i < length new → P slot (at + i)) → Changes g (Program slot at new) u v slot at new
  program_both slot at new inside each = by (is_blank (between at (at + length new) (bytes_of u slot))) refl
    where
      fits_u : at + length new ≤ length (bytes_of u slot)
      fits_u = omega (arith, inside, sized_is g u slot is.sized_u)

      fits_v : at + length new ≤ length (bytes_of v slot)
      fits_v = omega (arith, inside, sized_is g v slot is.sized_v)

      by : (b : Bool) → is_blank (between at (at + length new) (bytes_of u slot)) ≡ b → Changes g (Program slot at new) u v slot at new
      by false not_so = inl (refused u slot at new not_so, refused v slot at new (ap is_blank (range_same slot at (length new) inside each) ∙ not_so))
      by true blank =
          let free : (i : ℕ) → i < length new → byte u slot (at + i) ≡ 255 = λ i short. range_blank (bytes_of u slot) at (length new) i fits_u blank short in
          let of_u = program_changes g u slot at new fits_u free in
          let of_v = program_changes g v slot at new fits_v (λ i short. is.same slot (at + i) (each i short) ∙ free i short) in
          inr (of_u.0, of_v.0, of_u.1, of_v.1, record { of_u = of_u.2; of_v = of_v.2 })

  pub copy_both : (from to : Slot) (at offset len : ℕ) → at + len ≤ size_of g from → offset + len ≤ size_of g to
      → ((i : ℕ) → i < len → P from (at + i)) → ((i : ℕ) → i < len → P to (offset + i))
      → Changes g (Copy from at to offset len) u v to offset (copied u from at len)
  copy_both from to at offset len inside_from inside_to reads writes =
      let long = length-copied u from at len (omega (arith, inside_from, sized_is g u from is.sized_u)) in
      let one : apply g (Copy from at to offset len) u ≡ apply g (Program to offset (copied u from at len)) u = copy_is_program g u from to at offset len in
      let two : apply g (Copy from at to offset len) v ≡ apply g (Program to offset (copied u from at len)) v =
      copy_is_program g v from to at offset len ∙ ap (λ (new : List ℕ). apply g (Program to offset new) v) (range_same from at len inside_from reads) in
      elim (program_both to offset (copied u from at len) (omega (arith, inside_to, long)) (λ i short. writes i (omega (arith, short, long)))) [
        | inl none ↦ inl (one ∙ none.0, two ∙ none.1)
        | inr some ↦ inr (some.0, some.1, one ∙ some.2, two ∙ some.3, some.4)
      ]
