-- A flash with the bytes of another where an operation may change them: one that the operation may leave, torn.
use Rattle.std.proofs.{Common.{ap, arith, eq-eqb, inl, inr, subst, sym, ◌∙◌}, lemmas.Bool.{cases_lt}, lemmas.Bool.Decides.{nat_tests}, lemmas.Slice.Eq.{bytes_eq-Decides}}
use Rattle.std.proofs.{lemmas.List.FromFn.{get_or-map-range_with_len, length-map-range_with_len}}
use Rattle.std.specs.List.{range_with_len}
use Rattle.std.specs.Prelude.{Bool, List, Some, bytes_eq, false, if◌then◌else◌, length, map, refl, true, ℕ, ◌*◌, ◌+◌, ◌-◌, ◌<◌, ◌==◌, ◌≡◌, ◌≢◌, ◌≤◌, ◌⊎◌}
use Rattle.mc_boot.proofs.Meets.{same_bytes, same_content, which_slot}
use Rattle.mc_boot.specs.Torn.{IsKept, IsTorn}
use Rattle.mc_flash.specs.{Flash.{CanTry, Content, IsSized, apply, byte, bytes_of}, Geometry.{Geometry, IsLayout}, declared.op.Op.{Op}}
use Rattle.mc_flash.specs.{declared.op.Op.TheVariants.{Copy, Erase, Program}, declared.op.Slot.{Slot}, declared.op.Slot.TheVariants.{Primary, Secondary}}
use Rattle.mc_flash.specs.facts.Changes.{Changed, changed, changed_sized, sized_is}
use Rattle.mc_tear.proofs.{Ranges.{range_of}, Whole.{whole_byte, whole_is}}
use Rattle.mc_tear.specs.Cases.{is_rough, may_change, may_change_at, put_in, slot_of, tearing_of, written_byte, written_from, written_len}
use Rattle.mc_tear.specs.declared.torn.Erasing.{Erasing}
use Rattle.mc_tear.specs.declared.torn.Erasing.TheVariants as erasings

module _ (e : Erasing) (g : Geometry) (ok : IsLayout g) (op : Op) (can : CanTry g op) (s v : Content) (sized : IsSized g s) where
  abbrev slot : Slot
  slot = slot_of op

  abbrev from : ℕ
  from = written_from g op

  abbrev len : ℕ
  len = written_len g op

  abbrev mix : ℕ → ℕ
  mix k = if may_change e g op s k then byte v slot (from + k) else byte s slot (from + k)

  abbrev new : List ℕ
  new = map mix (range_with_len 0 len)

  abbrev pub mixed : Content
  mixed = put_in g op s new

  long : length new ≡ len
  long = length-map-range_with_len mix 0 len

  fits : from + length new ≤ length (bytes_of s slot)
  fits = let range = range_of g op ok can in omega (arith, range.inside, sized_is g s slot sized, long)

  mixed_is : Changed s mixed slot from new
  mixed_is = changed s slot from new fits

  pub mixed_sized : IsSized g mixed
  mixed_sized = changed_sized g s mixed slot from new mixed_is sized

  there : (k : ℕ) → k < len → byte mixed slot (from + k) ≡ mix k
  there k short = mixed_is.inside k (omega (arith, short, long)) ∙ get_or-map-range_with_len mix 0 len k k 0 short (omega arith)

  pub mixed_out : (o : Slot) (i : ℕ) → (o ≡ slot → (i < from) ⊎ (from + len ≤ i)) → byte mixed o i ≡ byte s o i
  mixed_out o i out = elim (which_slot o slot) [
    | inr other ↦ mixed_is.other o i other
    | inl here ↦ elim (out here) [
      | inl low ↦ rw here (mixed_is.before i low)
      | inr beyond ↦ rw here (mixed_is.beyond i (omega (arith, beyond, long)))
    ]
  ]

  within_is : (i k : ℕ) → from + k ≡ i → k < len → may_change_at e g op s i ≡ may_change e g op s k
  within_is i k is short = grind (arith, nat_tests)

  -- Where the operation may change a byte, it is that of the other.
  pub mixed_changed : (i : ℕ) → from ≤ i → i < from + len → may_change_at e g op s i ≡ true → byte mixed slot i ≡ byte v slot i
  mixed_changed i low high may =
      let here : from + (i - from) ≡ i = omega (arith, low) in
      let short : i - from < len = omega (arith, low, high) in
      let free : may_change e g op s (i - from) ≡ true = sym (within_is i (i - from) here short) ∙ may in
      subst (λ n. byte mixed slot n ≡ byte v slot n) here (there (i - from) short ∙ ap (λ (b : Bool). if b then byte v slot (from + (i - from)) else byte s slot (from + (i - from))) free)

  -- Where it may not, it is as before.
  pub mixed_kept : (i : ℕ) → may_change_at e g op s i ≡ false → byte mixed slot i ≡ byte s slot i
  mixed_kept i no_ = elim (cases_lt i from) [
    | inl low ↦ mixed_out slot i (λ _. inl low)
    | inr high ↦ elim (cases_lt i (from + len)) [
      | inr beyond ↦ mixed_out slot i (λ _. inr beyond)
      | inl below ↦
          let here : from + (i - from) ≡ i = omega (arith, high) in
          let short : i - from < len = omega (arith, high, below) in
          let kept : may_change e g op s (i - from) ≡ false = sym (within_is i (i - from) here short) ∙ no_ in
          subst (λ n. byte mixed slot n ≡ byte s slot n) here (there (i - from) short ∙ ap (λ (b : Bool). if b then byte v slot (from + (i - from)) else byte s slot (from + (i - from))) kept)
    ]
  ]

  module _ (whole : Content) (makes : apply g op s ≡ Some whole) where
    unchanged : (k : ℕ) → k < len → is_rough e op ≡ false → byte whole slot (from + k) ≡ byte s slot (from + k) → may_change e g op s k ≡ false
    unchanged k short fine same =
        let equal : (written_byte op s k == byte s slot (from + k)) ≡ true =
        eq-eqb (written_byte op s k) (byte s slot (from + k)) (sym (whole_byte g ok s sized op can whole makes k short) ∙ same) in
        rw (fine, equal) refl

    -- A byte that is kept may not change.
    kept_not : (i : ℕ) → from ≤ i → i < from + len → IsKept (tearing_of e) g op s whole slot i → may_change_at e g op s i ≡ false
    kept_not i low high kept =
        let here : from + (i - from) ≡ i = omega (arith, low) in
        let short : i - from < len = omega (arith, low, high) in
        within_is i (i - from) here short ∙ by e op refl refl kept (λ fine same. unchanged (i - from) short fine (subst (λ n. byte whole slot n ≡ byte s slot n) (sym here) same))
      where
        by : (x : Erasing) (o : Op) → e ≡ x → op ≡ o → IsKept (tearing_of x) g o s whole (slot_of o) i
            → (is_rough x o ≡ false → byte whole (slot_of o) i ≡ byte s (slot_of o) i → may_change e g op s (i - from) ≡ false) → may_change e g op s (i - from) ≡ false
        by erasings.Gentle o is_e is_o same go = go refl same
        by erasings.Rough (Erase o sector) is_e is_o outside go =
            let start : from ≡ sector * g.sector = ap (written_from g) is_o in
            let wide : len ≡ g.sector = ap (written_len g) is_o in
            elim (outside refl) [ inl below ↦ absurd (omega (arith, below, low, start)) | inr beyond ↦ absurd (omega (arith, beyond, high, start, wide)) ]
        by erasings.Rough (Program o at bytes) is_e is_o same go = go refl same
        by erasings.Rough (Copy a b c d n) is_e is_o same go = go refl same

    pub mixed_torn : mixed ≢ whole → IsTorn (tearing_of e) g op s mixed
    mixed_torn other = record {
      whole = whole;
      makes = makes;
      kept = λ o i kept. elim (which_slot o slot) [
        | inr away ↦ mixed_is.other o i away
        | inl here ↦ rw here (by i (rw here at kept))
      ];
      sizes = mixed_is.sizes;
      unfinished = other;
    }
      where
        by : (i : ℕ) → IsKept (tearing_of e) g op s whole slot i → byte mixed slot i ≡ byte s slot i
        by i kept = elim (cases_lt i from) [
          | inl low ↦ mixed_out slot i (λ _. inl low)
          | inr high ↦ elim (cases_lt i (from + len)) [
            | inr beyond ↦ mixed_out slot i (λ _. inr beyond)
            | inl below ↦ mixed_kept i (kept_not i high below kept)
          ]
        ]

    -- It is finished, or it is not.
    pub finished_or : (mixed ≡ whole) ⊎ (mixed ≢ whole)
    finished_or = elim (split (bytes_eq (bytes_of mixed slot) (bytes_of whole slot))) [
      | inl is ↦ inl (same_content whole mixed (each ((bytes_eq-Decides (bytes_of mixed slot) (bytes_of whole slot)).0 is) Primary)
          (each ((bytes_eq-Decides (bytes_of mixed slot) (bytes_of whole slot)).0 is) Secondary))
      | inr is ↦ inr (λ same. no_one (bytes_eq (bytes_of mixed slot) (bytes_of whole slot)) is
          ((bytes_eq-Decides (bytes_of mixed slot) (bytes_of whole slot)).1 (ap (λ (x : Content). bytes_of x slot) same)))
    ]
      where
        split : (b : Bool) → (b ≡ true) ⊎ (b ≡ false)
        split true = inl refl
        split false = inr refl

        no_one : (b : Bool) → b ≡ false → b ≡ true → ⊥
        no_one true is it = absurd cc
        no_one false is it = absurd cc

        each : bytes_of mixed slot ≡ bytes_of whole slot → (o : Slot) → bytes_of mixed o ≡ bytes_of whole o
        each same o = elim (which_slot o slot) [
          | inl here ↦ rw here same
          | inr other ↦ same_bytes whole mixed o (mixed_is.sizes o ∙ sym ((whole_is g ok s sized op whole can makes).sizes o)) (λ i. mixed_is.other o i other
              ∙ sym ((whole_is g ok s sized op whole can makes).other o i other))
        ]
