-- Flashes that boots treat alike, where an operation in the secondary's trailer is torn in the second.
use Rattle.std.proofs.{Common.{ap, arith, inl, inr, subst, sym, ◌∙◌}, lemmas.Bool.{cases_lt}, lemmas.Bool.Decides.{nat_tests}, lemmas.List.Edits.{get_or-between, length-between}}
use Rattle.std.specs.Prelude.{Bool, List, Some, false, length, refl, slice_index, true, ℕ, ◌+◌, ◌<◌, ◌≡◌, ◌≤◌, ◌⊎◌}
use Rattle.mc_boot.proofs.{Keeps.{place_beyond_data}}
use Rattle.mc_boot.specs.Torn.{IsTorn}
use Rattle.mc_flash.specs.{Flash.{CanTry, Content, IsSized, apply, byte, bytes_of}, Geometry.{Geometry, IsLayout}, declared.op.Op.{Op}}
use Rattle.mc_flash.specs.{declared.op.Slot.{Slot}, declared.op.Slot.TheVariants.{Primary, Secondary}}
use Rattle.mc_flash.specs.facts.{Changes.{blank_each, sized_is}, Layouts.{data_end}}
use Rattle.mc_tear.proofs.{Lists.{InTrailer, trailer_can, trailer_place}, Mixed.{finished_or, mixed, mixed_changed, mixed_kept, mixed_out, mixed_sized, mixed_torn}}
use Rattle.mc_tear.proofs.{Near.{AlikeByte, Near}, NearTorn.{GoesOn, Leaves, before, behind, within}, OneOp.{torn_sized}, Read.{StandsFor, stands_for, torn_out, unset_is as blank_is}}
use Rattle.mc_tear.specs.Cases.{magic_byte, may_change_at, slot_of, tearing_of, written_from, written_len}
use Rattle.mc_tear.specs.{Laws.{IsListed}, declared.torn.Erasing.{Erasing}}
use Rattle.mc_trailer.specs.{Trailer.{bytes_at, flag_of, magic_bytes, place, room, trailer_of}, declared.places.Field.{Field}, declared.trailer.Magic.{Magic}}
use Rattle.mc_trailer.specs.facts.{Fields.{same_magic, same_trailer}, Places.{place_inside}}
use Rattle.mc_trailer.specs.declared.places.Field.TheVariants as field
use Rattle.mc_trailer.specs.declared.trailer.Magic.TheVariants as magics

not_blank : (k : ℕ) → k < 16 → slice_index magic_bytes k ≡ 255 → ⊥
not_blank k short is = grind arith

-- Only of an unset magic a byte is 0xff that the reading names.
unset_by : (k : ℕ) (m : Magic) → k < 16 → magic_byte k m ≡ 255 → m ≡ magics.Unset
unset_by k magics.Good short is = absurd (not_blank k short is)
unset_by k magics.Unset short is = refl
unset_by k magics.Bad short is = absurd (omega (arith, is))

module _ (e : Erasing) (g : Geometry) (ok : IsLayout g) (H : Slot → ℕ → Type 0) (s t : Content) (is : Near g H s t) (op : Op) (inside : InTrailer g Secondary op) where
  abbrev from : ℕ
  from = written_from g op

  abbrev end : ℕ
  end = written_from g op + written_len g op

  -- Where it writes a byte.
  abbrev Writes : ℕ → Type 0
  Writes i = (from ≤ i) × (i < end)

  abbrev Spares : ℕ → Type 0
  Spares i = (i < from) ⊎ (end ≤ i)

  can : CanTry g op
  can = trailer_can g Secondary op inside

  slot_is : slot_of op ≡ Secondary
  slot_is = (trailer_place g Secondary op inside).0

  behind_data : data_end g Secondary ≤ from
  behind_data = (trailer_place g Secondary op inside).1

  -- What it must keep alike: a byte that it may not change in the first it does not change in the second; a field it writes whole, or not
  -- at all, or the trailers hold the same bytes.
  abbrev pub SameSecond : Type 0
  SameSecond = (i : ℕ) → data_end g Secondary ≤ i → byte t Secondary i ≡ byte s Secondary i

  abbrev pub Ways : Field → Type 0
  Ways f = ((i : ℕ) → i < room f → Writes (place g Secondary f + i)) ⊎ (((i : ℕ) → i < room f → Spares (place g Secondary f + i)) ⊎ SameSecond)

  module _ (v : Content) (torn_v : IsTorn (tearing_of e) g op t v) where
    sized_v : IsSized g v
    sized_v = torn_sized e g op t v is.outer.sized_v torn_v

    abbrev pub Quiet : ℕ → Type 0
    Quiet i = Writes i → may_change_at e g op s i ≡ false → byte v Secondary i ≡ byte s Secondary i

    abbrev m : Content
    m = mixed e g ok op can s v is.outer.sized_u

    sized_m : IsSized g m
    sized_m = mixed_sized e g ok op can s v is.outer.sized_u

    m_changed : (i : ℕ) → Writes i → may_change_at e g op s i ≡ true → byte m Secondary i ≡ byte v Secondary i
    m_changed i at may = subst (λ o. byte m o i ≡ byte v o i) slot_is (mixed_changed e g ok op can s v is.outer.sized_u i at.0 at.1 may)

    m_kept : (i : ℕ) → may_change_at e g op s i ≡ false → byte m Secondary i ≡ byte s Secondary i
    m_kept i no_ = subst (λ o. byte m o i ≡ byte s o i) slot_is (mixed_kept e g ok op can s v is.outer.sized_u i no_)

    m_out : (o : Slot) (i : ℕ) → (o ≡ Secondary → Spares i) → byte m o i ≡ byte s o i
    m_out o i out = mixed_out e g ok op can s v is.outer.sized_u o i (λ here. out (here ∙ slot_is))

    v_out : (o : Slot) (i : ℕ) → (o ≡ Secondary → Spares i) → byte v o i ≡ byte t o i
    v_out o i out = torn_out e g op t v ok is.outer.sized_v can torn_v o i (λ here. out (here ∙ slot_is))

    -- A byte that it writes.
    m_agrees : (i : ℕ) → Quiet i → Writes i → byte v Secondary i ≡ byte m Secondary i
    m_agrees i quiet at = by (may_change_at e g op s i) refl
      where
        by : (b : Bool) → may_change_at e g op s i ≡ b → byte v Secondary i ≡ byte m Secondary i
        by true may = sym (m_changed i at may)
        by false no_ = quiet at no_ ∙ sym (m_kept i no_)

    writes_or : (i : ℕ) → Writes i ⊎ Spares i
    writes_or i = elim (cases_lt i from) [
      | inl low ↦ inr (inl low)
      | inr high ↦ elim (cases_lt i end) [ inl short ↦ inl (high, short) | inr beyond ↦ inr (inr beyond) ]
    ]

    -- Where the trailers hold the same bytes, the mixed one is the second.
    m_second : SameSecond → (i : ℕ) → data_end g Secondary ≤ i → Quiet i → byte v Secondary i ≡ byte m Secondary i
    m_second same i high quiet = elim (writes_or i) [
      | inl at ↦ m_agrees i quiet at
      | inr out ↦ v_out Secondary i (λ _. out) ∙ same i high ∙ sym (m_out Secondary i (λ _. out))
    ]

    field_high : (f : Field) (i : ℕ) → data_end g Secondary ≤ place g Secondary f + i
    field_high f i = omega (arith, place_beyond_data g Secondary f ok)

    module _ (quiet_magic : (k : ℕ) → k < 16 → Quiet (place g Secondary field.Magic + k)) (quiet_flag : Quiet (place g Secondary field.ImageOk)) (ways : (f : Field) → Ways f) where
      magic_m : (trailer_of g v Secondary).magic ≡ (trailer_of g m Secondary).magic
      magic_m = elim (ways field.Magic) [
        | inl all ↦ same_magic g m v Secondary ok sized_m sized_v (λ i within. m_agrees (place g Secondary field.Magic + i) (quiet_magic i within) (all i within))
        | inr rest ↦ elim rest [
          | inl none ↦
              same_magic g t v Secondary ok is.outer.sized_v sized_v (λ i within. v_out Secondary (place g Secondary field.Magic + i) (λ _. none i within)) ∙ is.outer.magic
              ∙ sym (same_magic g s m Secondary ok is.outer.sized_u sized_m (λ i within. m_out Secondary (place g Secondary field.Magic + i) (λ _. none i within)))
          | inr same ↦ same_magic g m v Secondary ok sized_m sized_v (λ i within. m_second same (place g Secondary field.Magic + i) (field_high field.Magic i) (quiet_magic i within))
        ]
      ]

      at_flag : place g Secondary field.ImageOk + 0 ≡ place g Secondary field.ImageOk
      at_flag = omega arith

      image_ok_m : (trailer_of g v Secondary).image_ok ≡ (trailer_of g m Secondary).image_ok
      unfolding trailer_of
      image_ok_m = elim (ways field.ImageOk) [
        | inl all ↦ ap flag_of (m_agrees (place g Secondary field.ImageOk) quiet_flag (subst Writes at_flag (all 0 (omega arith))))
        | inr rest ↦ elim rest [
          | inl none ↦
              let out : Spares (place g Secondary field.ImageOk) = subst Spares at_flag (none 0 (omega arith)) in
              ap flag_of (v_out Secondary (place g Secondary field.ImageOk) (λ _. out)) ∙ is.outer.image_ok ∙ sym (ap flag_of (m_out Secondary (place g Secondary field.ImageOk) (λ _. out)))
          | inr same ↦ ap flag_of (m_second same (place g Secondary field.ImageOk) (let high = field_high field.ImageOk 0 in omega (arith, high)) quiet_flag)
        ]
      ]

      -- A byte of the magic that it may not change is free where it was.
      free_kept : (k : ℕ) → k < 16 → may_change_at e g op s (place g Secondary field.Magic + k) ≡ false → byte s Secondary (place g Secondary field.Magic + k) ≡ 255
          → byte v Secondary (place g Secondary field.Magic + k) ≡ 255
      free_kept k short no_ was = elim (writes_or (place g Secondary field.Magic + k)) [
        | inl at ↦ quiet_magic k short at no_ ∙ was
        | inr out ↦ v_out Secondary (place g Secondary field.Magic + k) (λ _. out) ∙ is.outer.free k short was
      ]

      writes_it : (i : ℕ) → may_change_at e g op s i ≡ true → Writes i
      writes_it i may = elim (writes_or i) [
        | inl at ↦ at
        | inr out ↦ absurd (let no_ : may_change_at e g op s i ≡ false = grind (arith, nat_tests) in let e2 : false ≡ true = sym no_ ∙ may in absurd cc)
      ]

      blank_m : (k : ℕ) → k < 16 → (trailer_of g m Secondary).magic ≡ magics.Unset → byte m Secondary (place g Secondary field.Magic + k) ≡ 255
      unfolding trailer_of
      blank_m k short unset =
          let inside_m = place_inside g Secondary field.Magic ok in
          let fits : place g Secondary field.Magic + 16 ≤ length (bytes_of m Secondary) = omega (arith, inside_m, sized_is g m Secondary sized_m) in
          let long : length (bytes_at m Secondary (place g Secondary field.Magic) 16) ≡ 16 = length-between (bytes_of m Secondary) (place g Secondary field.Magic)
          (place g Secondary field.Magic + 16) fits ∙ omega arith in
          sym (get_or-between (bytes_of m Secondary) (place g Secondary field.Magic) (place g Secondary field.Magic + 16) k 0 (omega (arith, short)))
          ∙ blank_each (bytes_at m Secondary (place g Secondary field.Magic) 16) k (blank_is (bytes_at m Secondary (place g Secondary field.Magic) 16) unset) (omega (arith, short, long))

      -- What is read as the mixed one, and is as that where nothing was written.
      near_to : (u : Content) → IsSized g u → ((o : Slot) (i : ℕ) → (o ≡ Secondary → Spares i) → byte u o i ≡ byte m o i)
          → (trailer_of g u Secondary).magic ≡ (trailer_of g m Secondary).magic → (trailer_of g u Secondary).image_ok ≡ (trailer_of g m Secondary).image_ok
          → ((k : ℕ) → k < 16 → byte u Secondary (place g Secondary field.Magic + k) ≡ 255 → byte v Secondary (place g Secondary field.Magic + k) ≡ 255)
          → Near g H u v
      near_to u sized_u u_out magic image_ok free = record {
        outer = record {
          sized_u = sized_u;
          sized_v = sized_v;
          data_ = λ o i low out. v_out o i (below o i low) ∙ is.outer.data_ o i low out ∙ sym (u_out o i (below o i low) ∙ m_out o i (below o i low));
          magic = magic_m ∙ sym magic;
          image_ok = image_ok_m ∙ sym image_ok;
          free = free;
        };
        primary = first t v is.outer.sized_v sized_v (λ i. v_out Primary i (λ no_. absurd cc)) ∙ is.primary ∙ sym (first s u is.outer.sized_u sized_u u_first);
        blank = λ i high. subst (λ a. AlikeByte a (byte v Primary i)) (sym (u_first i)) (subst (AlikeByte (byte s Primary i)) (sym (v_out Primary i (λ no_. absurd cc))) (is.blank i high));
      }
        where
          below : (o : Slot) (i : ℕ) → i < data_end g o → o ≡ Secondary → Spares i
          below Primary i low no_ = absurd cc
          below Secondary i low here = inl (let high = behind_data in omega (arith, low, high))

          u_first : (i : ℕ) → byte u Primary i ≡ byte s Primary i
          u_first i = u_out Primary i (λ no_. absurd cc) ∙ m_out Primary i (λ no_. absurd cc)

          first : (x y : Content) → IsSized g x → IsSized g y → ((i : ℕ) → byte y Primary i ≡ byte x Primary i) → trailer_of g y Primary ≡ trailer_of g x Primary
          first x y sized_x sized_y each = same_trailer g x y Primary ok sized_x sized_y (λ f i within. each (place g Primary f + i))

      pub second_torn : (ops : List Op) (whole : Content) → apply g op s ≡ Some whole → GoesOn g ops whole → (u : Content) × Leaves e g op ops s u × Near g H u v
      second_torn ops whole makes goes = elim (finished_or e g ok op can s v is.outer.sized_u whole makes) [
        | inl done ↦ (
          m,
          subst (Leaves e g op ops s) (sym done) (behind makes goes),
          near_to m sized_m (λ o i out. refl) refl refl (λ k short e255. by_m k short e255 (may_change_at e g op s (place g Secondary field.Magic + k)) refl),
        )
        | inr other ↦ torn_too (mixed_torn e g ok op can s v is.outer.sized_u whole makes other)
      ]
        where
          by_m : (k : ℕ) → k < 16 → byte m Secondary (place g Secondary field.Magic + k) ≡ 255 → (b : Bool) → may_change_at e g op s (place g Secondary field.Magic + k) ≡ b
              → byte v Secondary (place g Secondary field.Magic + k) ≡ 255
          by_m k short e255 true may = sym (m_changed (place g Secondary field.Magic + k) (writes_it (place g Secondary field.Magic + k) may) may) ∙ e255
          by_m k short e255 false no_ = free_kept k short no_ (sym (m_kept (place g Secondary field.Magic + k) no_) ∙ e255)

          torn_too : IsTorn (tearing_of e) g op s m → (u : Content) × Leaves e g op ops s u × Near g H u v
          torn_too torn_m = (
            for_it.0,
            leaves for_it.1.listed,
            near_to for_it.0 for_it.1.sized (λ o i out. for_it.1.out o i (λ here. out (here ∙ slot_is)))
                (subst (λ o. (trailer_of g for_it.0 o).magic ≡ (trailer_of g m o).magic) slot_is for_it.1.magic)
                (subst (λ o. (trailer_of g for_it.0 o).image_ok ≡ (trailer_of g m o).image_ok) slot_is for_it.1.image_ok)
                (λ k short e255. by_u k short e255 (may_change_at e g op s (place g Secondary field.Magic + k)) refl),
          )
            where
              for_it : (u : Content) × StandsFor e g op s m u
              for_it = stands_for e g op s m ok is.outer.sized_u can torn_m

              leaves : IsListed e g op s for_it.0 → Leaves e g op ops s for_it.0
              leaves (inl same) = before same
              leaves (inr (inl made)) =
                  let one : Some for_it.0 ≡ Some whole = sym made ∙ makes in
                  let same : for_it.0 ≡ whole = cc in
                  behind made (subst (GoesOn g ops) (sym same) goes)
              leaves (inr (inr (r, case, made))) = within r case made

              by_u : (k : ℕ) → k < 16 → byte for_it.0 Secondary (place g Secondary field.Magic + k) ≡ 255 → (b : Bool) → may_change_at e g op s (place g Secondary field.Magic + k) ≡ b
                  → byte v Secondary (place g Secondary field.Magic + k) ≡ 255
              by_u k short e255 true may =
                  let at : place g (slot_of op) field.Magic ≡ place g Secondary field.Magic = ap (λ o. place g o field.Magic) slot_is in
                  let said = for_it.1.magic_is k short (subst (λ n. may_change_at e g op s (n + k) ≡ true) (sym at) may) in
                  let said_here : byte for_it.0 Secondary (place g Secondary field.Magic + k) ≡ magic_byte k (trailer_of g m Secondary).magic =
                  subst (λ o. byte for_it.0 o (place g o field.Magic + k) ≡ magic_byte k (trailer_of g m o).magic) slot_is said in
                  let unset = unset_by k (trailer_of g m Secondary).magic short (sym said_here ∙ e255) in
                  sym (m_changed (place g Secondary field.Magic + k) (writes_it (place g Secondary field.Magic + k) may) may) ∙ blank_m k short unset
              by_u k short e255 false no_ =
                  let kept : byte for_it.0 Secondary (place g Secondary field.Magic + k) ≡ byte m Secondary (place g Secondary field.Magic + k) =
                  subst (λ o. byte for_it.0 o (place g Secondary field.Magic + k) ≡ byte m o (place g Secondary field.Magic + k)) slot_is (for_it.1.kept (place g Secondary field.Magic + k) no_) in
                  free_kept k short no_ (sym (m_kept (place g Secondary field.Magic + k) no_) ∙ sym kept ∙ e255)
