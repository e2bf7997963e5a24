-- Flashes that differ in the secondary's trailer, and read alike there.
use Rattle.std.proofs.{Common.{ap, arith, inl, inr, sym, ◌∙◌}, Math.Nat.{mul-le-mul_right}, lemmas.Bool.{cases_eq}, lemmas.List.{get_or-replicate, length-replicate}}
use Rattle.std.specs.Prelude.{List, [], length, refl, replicate, ℕ, ◌*◌, ◌+◌, ◌-◌, ◌<◌, ◌≡◌, ◌≢◌, ◌≤◌}
use Rattle.mc_boot.proofs.{Keeps.{field_in_last}, Meets.{same_bytes}}
use Rattle.mc_boot.specs.Plan.{image_size, images_of, plan, plan_with, power_on}
use Rattle.mc_flash.specs.{Flash.{Content, IsSized, byte, bytes_of, sectors_of, size_of}, Geometry.{Geometry, IsLayout}, declared.op.Op.{Op}}
use Rattle.mc_flash.specs.{declared.op.Op.TheVariants.{Copy, Erase, Program}, declared.op.Slot.{Slot}, declared.op.Slot.TheVariants.{Primary, Secondary}}
use Rattle.mc_flash.specs.facts.{Changes.{Changed, copied, length-copied, sized_is}, Layouts.{data_before_trailer, data_end, trailer_leaves_one}}
use Rattle.mc_image.specs.Valid.{id_of}
use Rattle.mc_tear.proofs.{Alike.{KeepsAlike, Pair, valid_by_id}, Lists.{IsPlain}, Same.{ChangedBoth, SameAt, copy_both, erase_both, program_both, same_after}}
use Rattle.mc_tear.specs.Laws.{AsksApart, ImagesApart}
use Rattle.mc_trailer.specs.{Tables.{is_resumed, resumes_by, swap_type, table_of}, Trailer.{highest_entry, place, room, trailer_of}, declared.places.Field.{Field}, declared.tables.Profile.{Profile}}
use Rattle.mc_trailer.specs.{declared.tables.Rules.{Rules}, declared.trailer.Trailer.{Trailer}}
use Rattle.mc_trailer.specs.facts.Fields.{SameField, reads_absent, reads_image_ok, same_image_ok, same_magic, same_trailer, trailer_kept, trailer_kept_elsewhere}
use Rattle.mc_trailer.specs.declared.places.Field.TheVariants as field
use Rattle.mc_trailer.specs.declared.tables.Profile.TheVariants as profiles
use Rattle.mc_trailer.specs.declared.trailer.Flag.TheVariants as flags
use Rattle.mc_trailer.specs.declared.trailer.Magic.TheVariants as magics

-- ---- images

abbrev pub IsData : Geometry → Slot → ℕ → Type 0
IsData g o i = i < data_end g o

-- What is the same up to the trailers begins with the same images, if they depend on no trailer.
module _ (g : Geometry) (a b : Content) (same : SameAt g (IsData g) a b) (apart : ImagesApart g a) where
  both : (slot : Slot) → (id_of (bytes_of b slot) ≡ id_of (bytes_of a slot)) × (image_size (bytes_of b slot) ≡ image_size (bytes_of a slot))
  both slot = apart slot (bytes_of b slot) (sized_is g b slot same.sized_v ∙ sym (sized_is g a slot same.sized_u)) (λ i low. same.same slot i low)

  pub same_id : (slot : Slot) → id_of (bytes_of a slot) ≡ id_of (bytes_of b slot)
  same_id slot = sym (both slot).0

  pub same_images : images_of b ≡ images_of a
  unfolding images_of
  same_images = rw (valid_by_id b.secondary a.secondary (both Secondary).0, (both Primary).1, (both Secondary).1) refl

-- ---- the secondary

pub record SecondAlike (g : Geometry) (a b : Content) : Type 0 where
  pub same : SameAt g (λ o i. o ≡ Secondary → i < data_end g Secondary) a b
  pub magic : (trailer_of g b Secondary).magic ≡ (trailer_of g a Secondary).magic
  pub image_ok : (trailer_of g b Secondary).image_ok ≡ (trailer_of g a Secondary).image_ok

resumes_alike : (profile : Profile) (p s t : Trailer) → t.magic ≡ s.magic → t.image_ok ≡ s.image_ok → resumes_by profile p t ≡ resumes_by profile p s
resumes_alike profiles.One p s t magic image_ok = rw magic refl
resumes_alike profiles.Two p s t magic image_ok = rw magic refl
resumes_alike profiles.Three p s t magic image_ok = rw (magic, image_ok) refl

type_alike : (profile : Profile) (p s t : Trailer) → t.magic ≡ s.magic → t.image_ok ≡ s.image_ok → swap_type profile p t ≡ swap_type profile p s
type_alike profile p s t magic image_ok = rw (magic, image_ok) refl

module _ (g : Geometry) (ok : IsLayout g) (a b : Content) (is : SecondAlike g a b) where
  primary_bytes : b.primary ≡ a.primary
  primary_bytes = same_bytes a b Primary (is.same.sized_v.primary ∙ sym is.same.sized_u.primary) (λ i. is.same.same Primary i (λ e. absurd cc))

  trailer_same : trailer_of g b Primary ≡ trailer_of g a Primary
  trailer_same = same_trailer g a b Primary ok is.same.sized_u is.same.sized_v (λ f i within. is.same.same Primary (place g Primary f + i) (λ e. absurd cc))

  highest_same : highest_entry g b ≡ highest_entry g a
  highest_same = ap (λ (bytes : List ℕ). highest_entry g (record { primary = bytes; secondary = [] })) primary_bytes

  data_same : SameAt g (IsData g) a b
  data_same = record { sized_u = is.same.sized_u; sized_v = is.same.sized_v; same = by }
    where
      by : (o : Slot) (i : ℕ) → i < data_end g o → byte b o i ≡ byte a o i
      by Primary i low = is.same.same Primary i (λ e. absurd cc)
      by Secondary i low = is.same.same Secondary i (λ _. low)

  module _ (r : Rules) where
    resumes : is_resumed r.profile g b ≡ is_resumed r.profile g a
    resumes =
        ap (λ (p : Trailer). resumes_by r.profile p (trailer_of g b Secondary)) trailer_same
        ∙ resumes_alike r.profile (trailer_of g a Primary) (trailer_of g a Secondary) (trailer_of g b Secondary) is.magic is.image_ok

    types : table_of r.profile g b ≡ table_of r.profile g a
    types =
        ap (λ (p : Trailer). swap_type r.profile p (trailer_of g b Secondary)) trailer_same
        ∙ type_alike r.profile (trailer_of g a Primary) (trailer_of g a Secondary) (trailer_of g b Secondary) is.magic is.image_ok

    pub second_plans : AsksApart r g a → plan (power_on r g a) ≡ plan (power_on r g b)
    unfolding plan plan_with
    second_plans (inl resumed) = sym (rw (resumes ∙ resumed, resumed, trailer_same, highest_same) refl)
    second_plans (inr apart) = sym (rw (resumes, types, trailer_same, highest_same, same_images g a b data_same apart) refl)

    pub second_pair : ImagesApart g a → Pair r g a b
    second_pair apart = record {
      plan_is = second_plans (inr apart);
      primary = same_id g a b data_same apart Primary;
      secondary = same_id g a b data_same apart Secondary;
      trailer = sym trailer_same;
    }

-- ---- operations

module _ (g : Geometry) (ok : IsLayout g) (a b : Content) (is : SecondAlike g a b) where
  abbrev P : Slot → ℕ → Type 0
  P o i = o ≡ Secondary → i < data_end g Secondary

  in_primary : (i : ℕ) → P Primary i
  in_primary i e = absurd cc

  -- Where the secondary's trailer is as before in both.
  kept : (t w : Content) (slot : Slot) (at : ℕ) (new : List ℕ) → ChangedBoth a b t w slot at new
      → trailer_of g t Secondary ≡ trailer_of g a Secondary → trailer_of g w Secondary ≡ trailer_of g b Secondary → SecondAlike g t w
  kept t w slot at new ch of_t of_w = record {
    same = same_after g P a b is.same t w slot at new ch;
    magic = ap (λ (x : Trailer). x.magic) of_w ∙ is.magic ∙ sym (ap (λ (x : Trailer). x.magic) of_t);
    image_ok = ap (λ (x : Trailer). x.image_ok) of_w ∙ is.image_ok ∙ sym (ap (λ (x : Trailer). x.image_ok) of_t);
  }

  elsewhere : (t w : Content) (at : ℕ) (new : List ℕ) → ChangedBoth a b t w Primary at new → SecondAlike g t w
  elsewhere t w at new ch =
      kept t w Primary at new ch (trailer_kept_elsewhere g a t Primary Secondary at new ok is.same.sized_u ch.of_u (λ e. cc))
      (trailer_kept_elsewhere g b w Primary Secondary at new ok is.same.sized_v ch.of_v (λ e. cc))

  before : (t w : Content) (at : ℕ) (new : List ℕ) → ChangedBoth a b t w Secondary at new → at + length new ≤ data_end g Secondary → SecondAlike g t w
  before t w at new ch low =
      let end = data_before_trailer g Secondary ok in
      kept t w Secondary at new ch (trailer_kept g a t Secondary at new ok is.same.sized_u ch.of_u (omega (arith, low, end)))
      (trailer_kept g b w Secondary at new ok is.same.sized_v ch.of_v (omega (arith, low, end)))

  -- An erase of the secondary.
  module _ (sector : ℕ) (below : sector < sectors_of g Secondary) (t w : Content) (ch : ChangedBoth a b t w Secondary (sector * g.sector) (replicate g.sector 255)) where
    wide : length {A = ℕ} (replicate g.sector 255) ≡ g.sector
    wide = length-replicate {A = ℕ} g.sector 255

    abbrev last : ℕ
    last = sectors_of g Secondary - 1 - 0

    -- of its last sector
    module _ (is_last : sector ≡ last) (x y : Content) (cx : Changed x y Secondary (sector * g.sector) (replicate g.sector 255)) (sized : IsSized g y) where
      erased : (f : Field) (i : ℕ) → i < room f → byte y Secondary (place g Secondary f + i) ≡ 255
      erased f i within =
          let here = field_in_last g Secondary f i ok within in
          let start : sector * g.sector ≡ last * g.sector = ap (λ n. n * g.sector) is_last in
          let k : ℕ = place g Secondary f + i - sector * g.sector in
          let there : sector * g.sector + k ≡ place g Secondary f + i = omega (arith, here.0, start) in
          let short : k < g.sector = omega (arith, here.1, here.0, start) in
          ap (byte y Secondary) (sym there) ∙ cx.inside k (omega (arith, short, wide)) ∙ get_or-replicate g.sector k 255 0 short

      magic_gone : (trailer_of g y Secondary).magic ≡ magics.Unset
      magic_gone = reads_absent g y Secondary ok sized (λ i short within. erased field.Magic i within ∙ sym (get_or-replicate 16 i 255 0 within))

      image_ok_gone : (trailer_of g y Secondary).image_ok ≡ flags.Unset
      image_ok_gone = reads_image_ok g y Secondary 255 (replicate 7 255) (λ i short within. erased field.ImageOk i within ∙ sym (get_or-replicate 8 i 255 0 within))

    -- of another
    module _ (not_last : sector ≢ last) (x y : Content) (cx : Changed x y Secondary (sector * g.sector) (replicate g.sector 255)) where
      stays : (f : Field) → SameField g x y Secondary f
      stays f i within =
          let here = field_in_last g Secondary f i ok within in
          let rows : (sector + 1) * g.sector ≤ last * g.sector =
          mul-le-mul_right g.sector (let leaves = trailer_leaves_one g Secondary ok in omega (arith, below, not_last, leaves)) in
          cx.beyond (place g Secondary f + i) (omega (arith, here.0, rows, wide))

    after_erase : SecondAlike g t w
    after_erase = elim (cases_eq sector last) [
      | inl is_last ↦ record {
        same = all;
        magic = magic_gone is_last b w ch.of_v all.sized_v ∙ sym (magic_gone is_last a t ch.of_u all.sized_u);
        image_ok = image_ok_gone is_last b w ch.of_v all.sized_v ∙ sym (image_ok_gone is_last a t ch.of_u all.sized_u);
      }
      | inr not_last ↦ record {
        same = all;
        magic =
            same_magic g b w Secondary ok is.same.sized_v all.sized_v (stays not_last b w ch.of_v field.Magic) ∙ is.magic
            ∙ sym (same_magic g a t Secondary ok is.same.sized_u all.sized_u (stays not_last a t ch.of_u field.Magic));
        image_ok =
            same_image_ok g b w Secondary (stays not_last b w ch.of_v field.ImageOk) ∙ is.image_ok
            ∙ sym (same_image_ok g a t Secondary (stays not_last a t ch.of_u field.ImageOk));
      }
    ]
      where
        all : SameAt g P t w
        all = same_after g P a b is.same t w Secondary (sector * g.sector) (replicate g.sector 255) ch

  -- A copy of data.
  in_data : (o : Slot) (i : ℕ) → i < data_end g o → P o i
  in_data Primary i low = in_primary i
  in_data Secondary i low = λ _. low

  data_inside : (o : Slot) → data_end g o ≤ size_of g o
  data_inside o = let end = data_before_trailer g o ok in omega (arith, end)

  after_copy : (to : Slot) (t w : Content) (at : ℕ) (new : List ℕ) → ChangedBoth a b t w to at new → at + length new ≤ data_end g to → SecondAlike g t w
  after_copy Primary t w at new ch low = elsewhere t w at new ch
  after_copy Secondary t w at new ch low = before t w at new ch low

pub second_keeps : (g : Geometry) → IsLayout g → (op : Op) → IsPlain g op → KeepsAlike g (SecondAlike g) op
second_keeps g ok (Erase Primary sector) plain a b is =
    elim (erase_both g (P g ok a b is) a b is.same Primary sector plain.0) [
      | inl none ↦ inl none
      | inr some ↦ inr (some.0, some.1, some.2, some.3, elsewhere g ok a b is some.0 some.1 (sector * g.sector) (replicate g.sector 255) some.4)
    ]
second_keeps g ok (Erase Secondary sector) plain a b is =
    elim (erase_both g (P g ok a b is) a b is.same Secondary sector plain.0) [
      | inl none ↦ inl none
      | inr some ↦ inr (some.0, some.1, some.2, some.3, after_erase g ok a b is sector plain.0 some.0 some.1 some.4)
    ]
second_keeps g ok (Program Primary at bytes) plain a b is =
    elim (program_both g (P g ok a b is) a b is.same Primary at bytes plain.0.1 (λ i short. in_primary g ok a b is (at + i))) [
      | inl none ↦ inl none
      | inr some ↦ inr (some.0, some.1, some.2, some.3, elsewhere g ok a b is some.0 some.1 at bytes some.4)
    ]
second_keeps g ok (Program Secondary at bytes) plain a b is = absurd plain.1
second_keeps g ok (Copy from at to offset len) plain a b is =
    elim (copy_both g (P g ok a b is) a b is.same from to at offset len
    (let end = data_inside g ok a b is from in omega (arith, end, plain.0.0)) (let end = data_inside g ok a b is to in omega (arith, end, plain.0.1))
    (λ i short. in_data g ok a b is from (at + i) (omega (arith, short, plain.0.0)))
    (λ i short. in_data g ok a b is to (offset + i) (omega (arith, short, plain.0.1)))) [
      | inl none ↦ inl none
      | inr some ↦ inr (
        some.0,
        some.1,
        some.2,
        some.3,
        after_copy g ok a b is to some.0 some.1 offset (copied a from at len) some.4
            (let end = data_inside g ok a b is from in
            let long = length-copied a from at len (omega (arith, end, plain.0.0, sized_is g a from is.same.sized_u)) in
            omega (arith, long, plain.0.1)),
      )
    ]
