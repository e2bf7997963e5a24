-- Flashes that boots treat alike: what is read of them is the same, and so is where a byte is 0xff that may be written.
use Rattle.std.proofs.{Common.{ap, arith, inl, inr, sym, ◌∙◌}}
use Rattle.std.proofs.lemmas.List.Edits.{get_or-between, length-between}
use Rattle.std.specs.Prelude.{Bool, false, length, not, refl, suc, true, zero, ℕ, ◌*◌, ◌+◌, ◌<◌, ◌≡◌, ◌≢◌, ◌≤◌, ◌⊎◌}
use Rattle.mc_boot.specs.Plan.{images_of, plan, plan_with, power_on}
use Rattle.mc_flash.specs.{Flash.{Content, IsSized, byte, bytes_of, is_blank}, Geometry.{Geometry, IsLayout}}
use Rattle.mc_flash.specs.{declared.op.Slot.{Slot}, declared.op.Slot.TheVariants.{Primary, Secondary}}
use Rattle.mc_flash.specs.facts.{Changes.{all_blank, blank_each, sized_is}, Layouts.{data_before_trailer, data_end}}
use Rattle.mc_tear.proofs.{Alike.{Pair}, Same.{SameAt}, Second.{IsData, same_id, same_images}}
use Rattle.mc_tear.specs.Laws.{AsksApart, ImagesApart}
use Rattle.mc_trailer.specs.{Tables.{asks_another, is_resumed, swap_type, table_of}, Trailer.{bytes_at, entry_place, greatest, highest_entry, is_written, place, trailer_of}}
use Rattle.mc_trailer.specs.{declared.tables.Profile.{Profile}, declared.tables.Rules.{Rules}}
use Rattle.mc_trailer.specs.{declared.trailer.Trailer.{Trailer}}
use Rattle.mc_trailer.specs.facts.{Places.{entry_inside}}
use Rattle.mc_trailer.specs.declared.places.Field.TheVariants as field
use Rattle.mc_trailer.specs.declared.tables.Profile.TheVariants as profiles

-- ---- the relation

-- Two bytes are the same, or each is written.
abbrev pub AlikeByte : ℕ → ℕ → Type 0
AlikeByte a b = (b ≡ a) ⊎ ((a ≢ 255) × (b ≢ 255))

-- Where nothing may differ, and where a sector may.
abbrev pub nowhere : Slot → ℕ → Type 0
nowhere o i = ⊥

abbrev pub in_sector : Geometry → Slot → ℕ → Slot → ℕ → Type 0
in_sector g slot sector o i = (o ≡ slot) × (sector * g.sector ≤ i) × (i < sector * g.sector + g.sector)

-- They hold the same data but for a hole in it, and their secondaries are read alike. Where a byte of the secondary's magic is 0xff in the
-- first it is in the other.
pub record Outer (g : Geometry) (H : Slot → ℕ → Type 0) (u v : Content) : Type 0 where
  pub sized_u : IsSized g u
  pub sized_v : IsSized g v
  pub data_ : (o : Slot) (i : ℕ) → i < data_end g o → (H o i → ⊥) → byte v o i ≡ byte u o i
  pub magic : (trailer_of g v Secondary).magic ≡ (trailer_of g u Secondary).magic
  pub image_ok : (trailer_of g v Secondary).image_ok ≡ (trailer_of g u Secondary).image_ok
  pub free : (k : ℕ) → k < 16 → byte u Secondary (place g Secondary field.Magic + k) ≡ 255 → byte v Secondary (place g Secondary field.Magic + k) ≡ 255

-- And their primaries' trailers are read alike, and blank alike.
pub record Near (g : Geometry) (H : Slot → ℕ → Type 0) (u v : Content) : Type 0 where
  pub outer : Outer g H u v
  pub primary : trailer_of g v Primary ≡ trailer_of g u Primary
  pub blank : (i : ℕ) → data_end g Primary ≤ i → AlikeByte (byte u Primary i) (byte v Primary i)

pub near_self : (g : Geometry) (s : Content) → IsSized g s → Near g nowhere s s
near_self g s sized = record {
  outer = record { sized_u = sized; sized_v = sized; data_ = λ o i low out. refl; magic = refl; image_ok = refl; free = λ k short is. is };
  primary = refl;
  blank = λ i from. inl refl;
}

-- ---- what is read

pub asks_alike : (profile : Profile) (p s t : Trailer) → t.magic ≡ s.magic → t.image_ok ≡ s.image_ok → asks_another profile p t ≡ asks_another profile p s
asks_alike profiles.One p s t magic image_ok = rw magic refl
asks_alike profiles.Two p s t magic image_ok = rw magic refl
asks_alike profiles.Three p s t magic image_ok = rw (magic, image_ok) refl

type_alike : (profile : Profile) (p s t : Trailer) → t.magic ≡ s.magic → t.image_ok ≡ s.image_ok → swap_type profile p t ≡ swap_type profile p s
type_alike profile p s t magic image_ok = rw (magic, image_ok) refl

module _ (g : Geometry) (ok : IsLayout g) (H : Slot → ℕ → Type 0) (u v : Content) (is : Near g H u v) where
  alike_blank : (i : ℕ) → data_end g Primary ≤ i → byte u Primary i ≡ 255 → byte v Primary i ≡ 255
  alike_blank i from e = elim (is.blank i from) [ inl same ↦ same ∙ e | inr both ↦ absurd (both.0 e) ]

  blank_back : (i : ℕ) → data_end g Primary ≤ i → byte v Primary i ≡ 255 → byte u Primary i ≡ 255
  blank_back i from e = elim (is.blank i from) [ inl same ↦ sym same ∙ e | inr both ↦ absurd (both.1 e) ]

  pub written_alike : (d : ℕ) → d < 3 * g.max_sectors → is_written g v d ≡ is_written g u d
  written_alike d below = ap not (by (is_blank (bytes_at u Primary (entry_place g d) g.unit)) refl (is_blank (bytes_at v Primary (entry_place g d) g.unit)) refl)
    where
      beyond : data_end g Primary ≤ entry_place g d
      beyond = omega (arith, entry_inside g d ok below, data_before_trailer g Primary ok)

      fits : (s : Content) → IsSized g s → entry_place g d + g.unit ≤ length (bytes_of s Primary)
      fits s sized = let h = entry_inside g d ok below in let e = sized_is g s Primary sized in grind (arith, entry_inside)

      all : (s t : Content) → IsSized g s → IsSized g t → ((i : ℕ) → data_end g Primary ≤ i → byte s Primary i ≡ 255 → byte t Primary i ≡ 255)
          → is_blank (bytes_at s Primary (entry_place g d) g.unit) ≡ true → is_blank (bytes_at t Primary (entry_place g d) g.unit) ≡ true
      all s t sized_s sized_t over blank =
          let long_s = length-between (bytes_of s Primary) (entry_place g d) (entry_place g d + g.unit) (fits s sized_s) in
          let long_t = length-between (bytes_of t Primary) (entry_place g d) (entry_place g d + g.unit) (fits t sized_t) in
          all_blank (bytes_at t Primary (entry_place g d) g.unit) (λ i short.
          get_or-between (bytes_of t Primary) (entry_place g d) (entry_place g d + g.unit) i 0 (omega (arith, short, long_t))
          ∙ over (entry_place g d + i) (omega (arith, beyond))
          (sym (get_or-between (bytes_of s Primary) (entry_place g d) (entry_place g d + g.unit) i 0 (omega (arith, short, long_t)))
          ∙ blank_each (bytes_at s Primary (entry_place g d) g.unit) i blank (omega (arith, short, long_t, long_s))))

      by : (b : Bool) → is_blank (bytes_at u Primary (entry_place g d) g.unit) ≡ b → (c : Bool) → is_blank (bytes_at v Primary (entry_place g d) g.unit) ≡ c
          → is_blank (bytes_at v Primary (entry_place g d) g.unit) ≡ is_blank (bytes_at u Primary (entry_place g d) g.unit)
      by true b c is_c = all u v is.outer.sized_u is.outer.sized_v alike_blank b ∙ sym b
      by false b true c = let no_ : false ≡ true = sym b ∙ all v u is.outer.sized_v is.outer.sized_u blank_back c in absurd cc
      by false b false c = c ∙ sym b

  greatest_alike : (n : ℕ) → n ≤ 3 * g.max_sectors → greatest (is_written g v) n ≡ greatest (is_written g u) n
  greatest_alike zero most = refl
  greatest_alike (suc n) most = rw (written_alike n (omega (arith, most))) (rw (greatest_alike n (omega (arith, most))) refl)

  pub highest_alike : highest_entry g v ≡ highest_entry g u
  highest_alike = greatest_alike (3 * g.max_sectors) (omega arith)

  module _ (r : Rules) where
    pub resumed_alike : is_resumed r.profile g v ≡ is_resumed r.profile g u
    resumed_alike =
        rw (is.primary, asks_alike r.profile (trailer_of g u Primary) (trailer_of g u Secondary) (trailer_of g v Secondary) is.outer.magic is.outer.image_ok) refl

    -- A swap that is under way goes on alike.
    pub resumed_plans : is_resumed r.profile g v ≡ true → plan (power_on r g v) ≡ plan (power_on r g u)
    unfolding plan plan_with
    resumed_plans resumed = rw (resumed, sym resumed_alike ∙ resumed, is.primary, highest_alike) refl

-- Where the same images are asked for, the next boot has one plan.
module _ (g : Geometry) (ok : IsLayout g) (H : Slot → ℕ → Type 0) (u v : Content) (is : Near g H u v) (r : Rules) where
  types : table_of r.profile g v ≡ table_of r.profile g u
  types =
      ap (λ (p : Trailer). swap_type r.profile p (trailer_of g v Secondary)) is.primary
      ∙ type_alike r.profile (trailer_of g u Primary) (trailer_of g u Secondary) (trailer_of g v Secondary) is.outer.magic is.outer.image_ok

  pub images_plans : images_of v ≡ images_of u → plan (power_on r g v) ≡ plan (power_on r g u)
  unfolding plan plan_with
  images_plans images = sym (rw (sym (resumed_alike g ok H u v is r), sym types, sym is.primary, sym (highest_alike g ok H u v is), sym images) refl)

-- So it is without a hole, where no image that is asked for depends on a trailer.
module _ (g : Geometry) (ok : IsLayout g) (u v : Content) (is : Near g nowhere u v) (r : Rules) where
  data_same : SameAt g (IsData g) v u
  data_same = record { sized_u = is.outer.sized_v; sized_v = is.outer.sized_u; same = λ o i low. sym (is.outer.data_ o i low (λ e. e)) }

  pub near_plans : AsksApart r g v → plan (power_on r g v) ≡ plan (power_on r g u)
  near_plans (inl resumed) = resumed_plans g ok nowhere u v is r resumed
  near_plans (inr apart) = images_plans g ok nowhere u v is r (sym (same_images g v u data_same apart))

  pub near_pair : ImagesApart g v → Pair r g v u
  near_pair apart = record {
    plan_is = near_plans (inr apart);
    primary = same_id g v u data_same apart Primary;
    secondary = same_id g v u data_same apart Secondary;
    trailer = is.primary;
  }
