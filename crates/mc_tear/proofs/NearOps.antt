-- What operations make of flashes that boots treat alike: such again.
use Rattle.std.proofs.{Common.{ap, arith, inl, inr, subst, sym, ◌∙◌}, Math.Nat.{mul-le-mul_right}, lemmas.Bool.{cases_eq, cases_lt}, lemmas.List.{length-replicate}}
use Rattle.std.specs.Prelude.{List, None, Option, Some, length, refl, replicate, ℕ, ◌*◌, ◌+◌, ◌-◌, ◌<◌, ◌≡◌, ◌≢◌, ◌≤◌, ◌⊎◌}
use Rattle.mc_boot.proofs.{Keeps.{field_in_last, place_beyond_data}, Meets.{which_slot}}
use Rattle.mc_flash.specs.{Flash.{Content, IsSized, apply, byte, bytes_of, sectors_of, size_of}, Geometry.{Geometry, IsLayout}}
use Rattle.mc_flash.specs.{declared.op.Op.TheVariants.{Copy, Erase, Program}, declared.op.Slot.{Slot}, declared.op.Slot.TheVariants.{Primary, Secondary}}
use Rattle.mc_flash.specs.facts.{Changes.{Changed, changed_sized, copied, length-copied, program_changes, program_was_blank, sized_is}, Layouts.{data_before_trailer, data_end, trailer_leaves_one}}
use Rattle.mc_tear.proofs.{Alike.{Does}, Near.{AlikeByte, Near, Outer, in_sector, nowhere}, Same.{ChangedBoth, Changes, SameAt, copy_both, erase_both}}
use Rattle.mc_trailer.specs.{Trailer.{flag_of, place, room, trailer_of}, declared.places.Field.{Field}, declared.trailer.Flag.{Flag}, declared.trailer.Magic.{Magic}, declared.trailer.Trailer.{Trailer}}
use Rattle.mc_trailer.specs.facts.{Fields.{SameField, same_copy_done, same_image_ok, same_info, same_magic, same_size, same_trailer, trailer_kept, trailer_kept_elsewhere}}
use Rattle.mc_trailer.specs.declared.places.Field.TheVariants as field

-- ---- bytes that are changed in both

module _ (u v t w : Content) (slot : Slot) (at : ℕ) (new : List ℕ) (ch : ChangedBoth u v t w slot at new) where
  pub same_inside : (i : ℕ) → at ≤ i → i < at + length new → byte w slot i ≡ byte t slot i
  same_inside i from to =
      let there : at + (i - at) ≡ i = omega (arith, from) in
      let within : i - at < length new = omega (arith, from, to) in
      ap (byte w slot) (sym there) ∙ ch.of_v.inside (i - at) within ∙ sym (ch.of_u.inside (i - at) within) ∙ ap (byte t slot) there

  -- A byte is the same in both afterwards, or in each as it was.
  pub either : (o : Slot) (i : ℕ) → (byte w o i ≡ byte t o i) ⊎ ((byte t o i ≡ byte u o i) × (byte w o i ≡ byte v o i))
  either o i = elim (which_slot o slot) [
    | inr other ↦ inr (ch.of_u.other o i other, ch.of_v.other o i other)
    | inl here ↦ rw here (by i)
  ]
    where
      by : (i : ℕ) → (byte w slot i ≡ byte t slot i) ⊎ ((byte t slot i ≡ byte u slot i) × (byte w slot i ≡ byte v slot i))
      by i = elim (cases_lt i at) [
        | inl low ↦ inr (ch.of_u.before i low, ch.of_v.before i low)
        | inr high ↦ elim (cases_lt i (at + length new)) [
          | inl short ↦ inl (same_inside i high short)
          | inr beyond ↦ inr (ch.of_u.beyond i beyond, ch.of_v.beyond i beyond)
        ]
      ]

-- ---- fields

abbrev made : Magic → Flag → Flag → ℕ → ℕ → Trailer
made m i c n s = record { magic = m; image_ok = i; copy_done = c; swap_info = n; swap_size = s }

same_parts : (m n : Magic) (i j c d : Flag) (x y p q : ℕ) → m ≡ n → i ≡ j → c ≡ d → x ≡ y → p ≡ q → made m i c x p ≡ made n j d y q
same_parts m n i j c d x y p q a b e f h = cc

module _ (g : Geometry) (ok : IsLayout g) (u v t w : Content) (sized_u : IsSized g u) (sized_v : IsSized g v) (sized_t : IsSized g t) (sized_w : IsSized g w) (o : Slot) where
  -- A field is as it was in each, or the same in both.
  abbrev pub Goes : Field → Type 0
  Goes f = (SameField g u t o f × SameField g v w o f) ⊎ SameField g t w o f

  -- The same of a flag, which may be the same in both by what is read.
  abbrev pub GoesFirst : Field → Type 0
  GoesFirst f = (SameField g u t o f × SameField g v w o f) ⊎ (flag_of (byte w o (place g o f)) ≡ flag_of (byte t o (place g o f)))

  first_of : (f : Field) → 0 < room f → SameField g t w o f → byte w o (place g o f) ≡ byte t o (place g o f)
  first_of f some same = let none : place g o f + 0 ≡ place g o f = omega arith in ap (byte w o) (sym none) ∙ same 0 some ∙ ap (byte t o) none

  pub goes_first : (f : Field) → 0 < room f → Goes f → GoesFirst f
  goes_first f some (inl both) = inl both
  goes_first f some (inr same) = inr (ap flag_of (first_of f some same))

  pub magic_on : Goes field.Magic → (trailer_of g v o).magic ≡ (trailer_of g u o).magic → (trailer_of g w o).magic ≡ (trailer_of g t o).magic
  magic_on (inl both) alike = same_magic g v w o ok sized_v sized_w both.1 ∙ alike ∙ sym (same_magic g u t o ok sized_u sized_t both.0)
  magic_on (inr same) alike = same_magic g t w o ok sized_t sized_w same

  pub image_ok_on : GoesFirst field.ImageOk → (trailer_of g v o).image_ok ≡ (trailer_of g u o).image_ok → (trailer_of g w o).image_ok ≡ (trailer_of g t o).image_ok
  unfolding trailer_of
  image_ok_on (inl both) alike = same_image_ok g v w o both.1 ∙ alike ∙ sym (same_image_ok g u t o both.0)
  image_ok_on (inr same) alike = same

  copy_done_on : GoesFirst field.CopyDone → (trailer_of g v o).copy_done ≡ (trailer_of g u o).copy_done → (trailer_of g w o).copy_done ≡ (trailer_of g t o).copy_done
  unfolding trailer_of
  copy_done_on (inl both) alike = same_copy_done g v w o both.1 ∙ alike ∙ sym (same_copy_done g u t o both.0)
  copy_done_on (inr same) alike = same

  info_on : Goes field.SwapInfo → (trailer_of g v o).swap_info ≡ (trailer_of g u o).swap_info → (trailer_of g w o).swap_info ≡ (trailer_of g t o).swap_info
  info_on (inl both) alike = same_info g v w o both.1 ∙ alike ∙ sym (same_info g u t o both.0)
  info_on (inr same) alike = same_info g t w o same

  size_on : Goes field.SwapSize → (trailer_of g v o).swap_size ≡ (trailer_of g u o).swap_size → (trailer_of g w o).swap_size ≡ (trailer_of g t o).swap_size
  size_on (inl both) alike = same_size g v w o ok sized_v sized_w both.1 ∙ alike ∙ sym (same_size g u t o ok sized_u sized_t both.0)
  size_on (inr same) alike = same_size g t w o ok sized_t sized_w same

  pub trailer_on : Goes field.Magic → GoesFirst field.ImageOk → GoesFirst field.CopyDone → Goes field.SwapInfo → Goes field.SwapSize
      → trailer_of g v o ≡ trailer_of g u o → trailer_of g w o ≡ trailer_of g t o
  trailer_on magic image_ok copy_done info size alike =
      same_parts (trailer_of g w o).magic (trailer_of g t o).magic (trailer_of g w o).image_ok (trailer_of g t o).image_ok (trailer_of g w o).copy_done (trailer_of g t o).copy_done
      (trailer_of g w o).swap_info (trailer_of g t o).swap_info (trailer_of g w o).swap_size (trailer_of g t o).swap_size
      (magic_on magic (ap (λ (x : Trailer). x.magic) alike))
      (image_ok_on image_ok (ap (λ (x : Trailer). x.image_ok) alike))
      (copy_done_on copy_done (ap (λ (x : Trailer). x.copy_done) alike))
      (info_on info (ap (λ (x : Trailer). x.swap_info) alike))
      (size_on size (ap (λ (x : Trailer). x.swap_size) alike))

-- ---- one operation, done in both

module _ (g : Geometry) (ok : IsLayout g) (H J : Slot → ℕ → Type 0) (u v : Content) (t w : Content) (slot : Slot) (at : ℕ) (new : List ℕ) (ch : ChangedBoth u v t w slot at new)
    (fills : (o : Slot) (i : ℕ) → i < data_end g o → (J o i → ⊥) → (H o i → ⊥) ⊎ ((o ≡ slot) × (at ≤ i) × (i < at + length new))) where
  pub outer_on : (is : Outer g H u v) → (trailer_of g w Secondary).magic ≡ (trailer_of g t Secondary).magic → (trailer_of g w Secondary).image_ok ≡ (trailer_of g t Secondary).image_ok
      → Outer g J t w
  outer_on is magic image_ok = record {
    sized_u = changed_sized g u t slot at new ch.of_u is.sized_u;
    sized_v = changed_sized g v w slot at new ch.of_v is.sized_v;
    data_ = λ o i low out. elim (either u v t w slot at new ch o i) [
      | inl same ↦ same
      | inr both ↦ elim (fills o i low out) [
        | inl away ↦ both.1 ∙ is.data_ o i low away ∙ sym both.0
        | inr there ↦ rw there.0 (same_inside u v t w slot at new ch i there.1 there.2)
      ]
    ];
    magic = magic;
    image_ok = image_ok;
    free = λ k short e. elim (either u v t w slot at new ch Secondary (place g Secondary field.Magic + k)) [
      | inl same ↦ same ∙ e
      | inr both ↦ both.1 ∙ is.free k short (sym both.0 ∙ e)
    ];
  }

  pub near_on : (is : Near g H u v) → (trailer_of g w Secondary).magic ≡ (trailer_of g t Secondary).magic → (trailer_of g w Secondary).image_ok ≡ (trailer_of g t Secondary).image_ok
      → trailer_of g w Primary ≡ trailer_of g t Primary → Near g J t w
  near_on is magic image_ok primary = record {
    outer = outer_on is.outer magic image_ok;
    primary = primary;
    blank = λ i from. elim (either u v t w slot at new ch Primary i) [
      | inl same ↦ inl same
      | inr both ↦ subst (λ a. AlikeByte a (byte w Primary i)) (sym both.0) (subst (AlikeByte (byte u Primary i)) (sym both.1) (is.blank i from))
    ];
  }

-- ---- erases

-- A field is in the last sector.
module _ (g : Geometry) (ok : IsLayout g) (u v t w : Content) (slot : Slot) (sector : ℕ) (below : sector < sectors_of g slot)
    (ch : ChangedBoth u v t w slot (sector * g.sector) (replicate g.sector 255)) (sized_u : IsSized g u) (sized_v : IsSized g v) (sized_t : IsSized g t) (sized_w : IsSized g w) where
  wide : length {A = ℕ} (replicate g.sector 255) ≡ g.sector
  wide = length-replicate {A = ℕ} g.sector 255

  pub erase_goes : (o : Slot) (f : Field) → Goes g ok u v t w sized_u sized_v sized_t sized_w o f
  erase_goes o f = elim (which_slot o slot) [
    | inr other ↦ inl ((λ i within. ch.of_u.other o (place g o f + i) other), (λ i within. ch.of_v.other o (place g o f + i) other))
    | inl here ↦ rw here here_goes
  ]
    where
      here_goes : Goes g ok u v t w sized_u sized_v sized_t sized_w slot f
      here_goes = elim (cases_eq sector (sectors_of g slot - 1 - 0)) [
        | inl last ↦ inr (λ i within.
            let there = field_in_last g slot f i ok within in
            let rows : sector * g.sector ≡ (sectors_of g slot - 1 - 0) * g.sector = ap (λ n. n * g.sector) last in
            same_inside u v t w slot (sector * g.sector) (replicate g.sector 255) ch (place g slot f + i) (omega (arith, rows, there.0)) (omega (arith, rows, there.1, wide)))
        | inr other ↦ inl ((λ i within. ch.of_u.beyond (place g slot f + i) (past i within other)), (λ i within. ch.of_v.beyond (place g slot f + i) (past i within other)))
      ]
        where
          past : (i : ℕ) → i < room f → sector ≢ sectors_of g slot - 1 - 0 → sector * g.sector + length {A = ℕ} (replicate g.sector 255) ≤ place g slot f + i
          past i within other =
              let there = field_in_last g slot f i ok within in
              let rows : (sector + 1) * g.sector ≤ (sectors_of g slot - 1 - 0) * g.sector =
              mul-le-mul_right g.sector (let leaves = trailer_leaves_one g slot ok in omega (arith, below, other, leaves)) in
              omega (arith, there.0, rows, wide)

-- Two flashes hold the same bytes where they do.
abbrev pub Agree : Content → Content → Slot → ℕ → Type 0
Agree u v o i = byte v o i ≡ byte u o i

pub agree : (g : Geometry) (u v : Content) → IsSized g u → IsSized g v → SameAt g (Agree u v) u v
agree g u v sized_u sized_v = record { sized_u = sized_u; sized_v = sized_v; same = λ o i is. is }

module _ (g : Geometry) (ok : IsLayout g) (H J : Slot → ℕ → Type 0) (slot : Slot) (sector : ℕ) (below : sector < sectors_of g slot)
    (fills : (o : Slot) (i : ℕ) → i < data_end g o → (J o i → ⊥) → (H o i → ⊥) ⊎ in_sector g slot sector o i) (u v : Content) where
  done_fills : (o : Slot) (i : ℕ) → i < data_end g o → (J o i → ⊥) → (H o i → ⊥) ⊎ ((o ≡ slot) × (sector * g.sector ≤ i) × (i < sector * g.sector + length {A = ℕ} (replicate g.sector 255)))
  done_fills o i low out = elim (fills o i low out) [
    | inl away ↦ inl away
    | inr there ↦ inr (there.0, there.1, (let wide = length-replicate {A = ℕ} g.sector 255 in omega (arith, there.2, wide)))
  ]

  -- An erase may fill a hole.
  pub near_erase : Near g H u v → Does g (Near g J) (Erase slot sector) u v
  near_erase is = elim (erase_both g (Agree u v) u v (agree g u v is.outer.sized_u is.outer.sized_v) slot sector below) [
    | inl none ↦ inl none
    | inr some ↦ inr (some.0, some.1, some.2, some.3, after some.0 some.1 some.4)
  ]
    where
      after : (t w : Content) → ChangedBoth u v t w slot (sector * g.sector) (replicate g.sector 255) → Near g J t w
      after t w ch =
          let sized_t = changed_sized g u t slot (sector * g.sector) (replicate g.sector 255) ch.of_u is.outer.sized_u in
          let sized_w = changed_sized g v w slot (sector * g.sector) (replicate g.sector 255) ch.of_v is.outer.sized_v in
          let goes = erase_goes g ok u v t w slot sector below ch is.outer.sized_u is.outer.sized_v sized_t sized_w in
          near_on g ok H J u v t w slot (sector * g.sector) (replicate g.sector 255) ch done_fills is
          (magic_on g ok u v t w is.outer.sized_u is.outer.sized_v sized_t sized_w Secondary (goes Secondary field.Magic) is.outer.magic)
          (image_ok_on g ok u v t w is.outer.sized_u is.outer.sized_v sized_t sized_w Secondary
          (goes_first g ok u v t w is.outer.sized_u is.outer.sized_v sized_t sized_w Secondary field.ImageOk (omega arith) (goes Secondary field.ImageOk)) is.outer.image_ok)
          (trailer_on g ok u v t w is.outer.sized_u is.outer.sized_v sized_t sized_w Primary (goes Primary field.Magic)
          (goes_first g ok u v t w is.outer.sized_u is.outer.sized_v sized_t sized_w Primary field.ImageOk (omega arith) (goes Primary field.ImageOk))
          (goes_first g ok u v t w is.outer.sized_u is.outer.sized_v sized_t sized_w Primary field.CopyDone (omega arith) (goes Primary field.CopyDone))
          (goes Primary field.SwapInfo) (goes Primary field.SwapSize) is.primary)

-- ---- copies

module _ (g : Geometry) (ok : IsLayout g) (u v : Content) where
  abbrev D : Slot → ℕ → Type 0
  D o i = i < data_end g o

  data_at : Near g nowhere u v → SameAt g D u v
  data_at is = record { sized_u = is.outer.sized_u; sized_v = is.outer.sized_v; same = λ o i low. is.outer.data_ o i low (λ e. e) }

  inside : (o : Slot) → data_end g o ≤ size_of g o
  inside o = let before = data_before_trailer g o ok in omega (arith, before)

  pub near_copy : (from to : Slot) (at offset len : ℕ) → at + len ≤ data_end g from → offset + len ≤ data_end g to → Near g nowhere u v → Does g (Near g nowhere) (Copy from at to offset len) u v
  near_copy from to at offset len reads writes is =
      elim (copy_both g D u v (data_at is) from to at offset len (omega (arith, reads, inside from)) (omega (arith, writes, inside to)) (λ i short. omega (arith, short, reads))
      (λ i short. omega (arith, short, writes))) [
        | inl none ↦ inl none
        | inr some ↦ inr (some.0, some.1, some.2, some.3, after some.0 some.1 some.4)
      ]
    where
      long : length (copied u from at len) ≡ len
      long = length-copied u from at len (omega (arith, reads, inside from, sized_is g u from is.outer.sized_u))

      after : (t w : Content) → ChangedBoth u v t w to offset (copied u from at len) → Near g nowhere t w
      after t w ch = near_on g ok nowhere nowhere u v t w to offset (copied u from at len) ch (λ o i low out. inl out) is
          (ap (λ (x : Trailer). x.magic) (kept v w is.outer.sized_v ch.of_v Secondary) ∙ is.outer.magic ∙ sym (ap (λ (x : Trailer). x.magic) (kept u t is.outer.sized_u ch.of_u Secondary)))
          (ap (λ (x : Trailer). x.image_ok) (kept v w is.outer.sized_v ch.of_v Secondary) ∙ is.outer.image_ok ∙ sym (ap (λ (x : Trailer). x.image_ok) (kept u t is.outer.sized_u ch.of_u Secondary)))
          (kept v w is.outer.sized_v ch.of_v Primary ∙ is.primary ∙ sym (kept u t is.outer.sized_u ch.of_u Primary))
        where
          kept : (x y : Content) → IsSized g x → Changed x y to offset (copied u from at len) → (o : Slot) → trailer_of g y o ≡ trailer_of g x o
          kept x y sized cx o = elim (which_slot o to) [
            | inr other ↦ trailer_kept_elsewhere g x y to o offset (copied u from at len) ok sized cx other
            | inl here ↦ rw here (trailer_kept g x y to offset (copied u from at len) ok sized cx (let end = data_before_trailer g to ok in omega (arith, end, long, writes)))
          ]

-- ---- writes in the primary's trailer

module _ (g : Geometry) (ok : IsLayout g) (H : Slot → ℕ → Type 0) (u v : Content) (is : Near g H u v) (at : ℕ) (new : List ℕ) (beyond : data_end g Primary ≤ at)
    (fits : at + length new ≤ size_of g Primary) where
  fits_in : (s : Content) → IsSized g s → at + length new ≤ length (bytes_of s Primary)
  fits_in s sized = let e = sized_is g s Primary sized in omega (arith, fits, e)

  -- It is refused in both, or done in both.
  pub program_alike : Changes g (Program Primary at new) u v Primary at new
  program_alike = by (apply g (Program Primary at new) u) refl (apply g (Program Primary at new) v) refl
    where
      free : (s : Content) → IsSized g s → (t : Content) → apply g (Program Primary at new) s ≡ Some t → (i : ℕ) → i < length new → byte s Primary (at + i) ≡ 255
      free s sized t makes i short = program_was_blank g s t Primary at new (fits_in s sized) makes i short

      over : (i : ℕ) → byte u Primary (at + i) ≡ 255 → byte v Primary (at + i) ≡ 255
      over i e = elim (is.blank (at + i) (omega (arith, beyond))) [ inl same ↦ same ∙ e | inr both ↦ absurd (both.0 e) ]

      back : (i : ℕ) → byte v Primary (at + i) ≡ 255 → byte u Primary (at + i) ≡ 255
      back i e = elim (is.blank (at + i) (omega (arith, beyond))) [ inl same ↦ sym same ∙ e | inr both ↦ absurd (both.1 e) ]

      by : (a : Option Content) → apply g (Program Primary at new) u ≡ a → (b : Option Content) → apply g (Program Primary at new) v ≡ b → Changes g (Program Primary at new) u v Primary at new
      by None none_u None none_v = inl (none_u, none_v)
      by None none_u (Some w) some_v =
          let made = program_changes g u Primary at new (fits_in u is.outer.sized_u) (λ i short. back i (free v is.outer.sized_v w some_v i short)) in
          let no_ : Some made.0 ≡ None = sym made.1 ∙ none_u in absurd cc
      by (Some t) some_u b e_b =
          let each = free u is.outer.sized_u t some_u in
          let of_u = program_changes g u Primary at new (fits_in u is.outer.sized_u) each in
          let of_v = program_changes g v Primary at new (fits_in v is.outer.sized_v) (λ i short. over i (each i short)) in
          inr (of_u.0, of_v.0, of_u.1, of_v.1, record { of_u = of_u.2; of_v = of_v.2 })

  pub near_program : ((t w : Content) → IsSized g t → IsSized g w → ChangedBoth u v t w Primary at new → trailer_of g w Primary ≡ trailer_of g t Primary)
      → Does g (Near g H) (Program Primary at new) u v
  near_program reads = elim program_alike [
    | inl none ↦ inl none
    | inr some ↦ inr (some.0, some.1, some.2, some.3, after some.0 some.1 some.4)
  ]
    where
      after : (t w : Content) → ChangedBoth u v t w Primary at new → Near g H t w
      after t w ch =
          let second_u = trailer_kept_elsewhere g u t Primary Secondary at new ok is.outer.sized_u ch.of_u (λ e. cc) in
          let second_v = trailer_kept_elsewhere g v w Primary Secondary at new ok is.outer.sized_v ch.of_v (λ e. cc) in
          near_on g ok H H u v t w Primary at new ch (λ o i low out. inl out) is
          (ap (λ (x : Trailer). x.magic) second_v ∙ is.outer.magic ∙ sym (ap (λ (x : Trailer). x.magic) second_u))
          (ap (λ (x : Trailer). x.image_ok) second_v ∙ is.outer.image_ok ∙ sym (ap (λ (x : Trailer). x.image_ok) second_u))
          (reads t w (changed_sized g u t Primary at new ch.of_u is.outer.sized_u) (changed_sized g v w Primary at new ch.of_v is.outer.sized_v) ch)

-- ---- what a torn operation leaves

-- What is as one of them but for a hole in the data.
pub near_beyond : (g : Geometry) (H J : Slot → ℕ → Type 0) (u v w : Content) → IsLayout g → Near g H u v → IsSized g w → ((o : Slot) (i : ℕ) → (J o i → ⊥) → byte w o i ≡ byte v o i)
    → ((o : Slot) (i : ℕ) → J o i → i < data_end g o) → ((o : Slot) (i : ℕ) → H o i → J o i) → Near g J u w
near_beyond g H J u v w ok is sized same low wider = record {
  outer = record {
    sized_u = is.outer.sized_u;
    sized_v = sized;
    data_ = λ o i below out. same o i out ∙ is.outer.data_ o i below (λ h. out (wider o i h));
    magic = ap (λ (x : Trailer). x.magic) (read Secondary) ∙ is.outer.magic;
    image_ok = ap (λ (x : Trailer). x.image_ok) (read Secondary) ∙ is.outer.image_ok;
    free = λ k short e. after Secondary (place g Secondary field.Magic + k) (omega (arith, place_beyond_data g Secondary field.Magic ok)) ∙ is.outer.free k short e;
  };
  primary = read Primary ∙ is.primary;
  blank = λ i from. subst (AlikeByte (byte u Primary i)) (sym (after Primary i from)) (is.blank i from);
}
  where
    after : (o : Slot) (i : ℕ) → data_end g o ≤ i → byte w o i ≡ byte v o i
    after o i from = same o i (λ j. let below = low o i j in omega (arith, below, from))

    read : (o : Slot) → trailer_of g w o ≡ trailer_of g v o
    read o = same_trailer g v w o ok is.outer.sized_v sized (λ f i within. after o (place g o f + i) (omega (arith, place_beyond_data g o f ok)))

-- What differs from them in one byte of the primary's trailer, where both are alike.
pub near_one : (g : Geometry) (s t u v : Content) (at : ℕ) → IsLayout g → Near g nowhere s t → IsSized g u → IsSized g v → data_end g Primary ≤ at
    → ((o : Slot) (i : ℕ) → (o ≡ Primary → i ≢ at) → byte u o i ≡ byte s o i) → ((o : Slot) (i : ℕ) → (o ≡ Primary → i ≢ at) → byte v o i ≡ byte t o i)
    → AlikeByte (byte u Primary at) (byte v Primary at) → trailer_of g v Primary ≡ trailer_of g u Primary → Near g nowhere u v
near_one g s t u v at ok is sized_u sized_v beyond of_u of_v alike primary = record {
  outer = record {
    sized_u = sized_u;
    sized_v = sized_v;
    data_ = λ o i low out. of_v o i (λ e. below o i low e) ∙ is.outer.data_ o i low out ∙ sym (of_u o i (λ e. below o i low e));
    magic = ap (λ (x : Trailer). x.magic) second_v ∙ is.outer.magic ∙ sym (ap (λ (x : Trailer). x.magic) second_u);
    image_ok = ap (λ (x : Trailer). x.image_ok) second_v ∙ is.outer.image_ok ∙ sym (ap (λ (x : Trailer). x.image_ok) second_u);
    free = λ k short e. of_v Secondary (place g Secondary field.Magic + k) (λ no_. absurd cc) ∙ is.outer.free k short (sym (of_u Secondary (place g Secondary field.Magic + k) (λ no_. absurd cc)) ∙ e);
  };
  primary = primary;
  blank = λ i from. elim (cases_eq i at) [
    | inl here ↦ rw here alike
    | inr away ↦ subst (λ a. AlikeByte a (byte v Primary i)) (sym (of_u Primary i (λ _. away))) (subst (AlikeByte (byte s Primary i)) (sym (of_v Primary i (λ _. away))) (is.blank i from))
  ];
}
  where
    below : (o : Slot) (i : ℕ) → i < data_end g o → o ≡ Primary → i ≡ at → ⊥
    below Primary i low e same = omega (arith, low, same, beyond)
    below Secondary i low e same = absurd cc

    second_u : trailer_of g u Secondary ≡ trailer_of g s Secondary
    second_u = same_trailer g s u Secondary ok is.outer.sized_u sized_u (λ f i within. of_u Secondary (place g Secondary f + i) (λ e. absurd cc))

    second_v : trailer_of g v Secondary ≡ trailer_of g t Secondary
    second_v = same_trailer g t v Secondary ok is.outer.sized_v sized_v (λ f i within. of_v Secondary (place g Secondary f + i) (λ e. absurd cc))
