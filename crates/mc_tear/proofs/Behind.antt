-- Flashes that hold two whole images, and may hold any bytes in the sector behind them.
use Rattle.std.proofs.{Common.{ap, arith, inl, inr, sym, ◌∙◌}}
use Rattle.std.specs.Prelude.{List, Some, refl, take, ℕ, ◌*◌, ◌<◌, ◌≡◌, ◌≤◌, ◌⊎◌}
use Rattle.mc_boot.proofs.{Images.{id_parts, same_prefixes, size_valid}}
use Rattle.mc_boot.specs.{Plan.{image_size, images_of}}
use Rattle.mc_flash.specs.{Flash.{Content, IsSized, byte, bytes_of}, Geometry.{Geometry, IsLayout}, declared.op.Slot.{Slot}, declared.op.Slot.TheVariants.{Primary, Secondary}}
use Rattle.mc_flash.specs.facts.{Changes.{sized_is}, Layouts.{data_before_trailer, data_end}}
use Rattle.mc_image.specs.{Image.{IsBytes}, Valid.{Identity, id_of}}
use Rattle.mc_tear.proofs.{Alike.{Pair, valid_by_id}, Near.{Near, images_plans, in_sector, near_pair, nowhere}}
use Rattle.mc_tear.specs.Laws.{ImagesApart, ImagesInside}
use Rattle.mc_trailer.specs.declared.tables.Rules.{Rules}

-- Sector n of the primary, into which a swap of n sectors first moves one.
abbrev pub next_sector : Geometry → ℕ → Slot → ℕ → Type 0
next_sector g n = in_sector g Primary n

-- A flash holds the data of another, but for that sector.
abbrev pub HoldsAll : Geometry → ℕ → Content → Content → Type 0
HoldsAll g n ref s = (o : Slot) (i : ℕ) → i < data_end g o → (next_sector g n o i → ⊥) → byte s o i ≡ byte ref o i

-- The images end before it.
pub record EndsBefore (g : Geometry) (n : ℕ) (ref : Content) : Type 0 where
  pub sized : IsSized g ref
  pub inside : ImagesInside g ref
  pub low : (inside Primary).1.0.size ≤ n * g.sector

-- An image is known by the bytes of which it is.
abbrev pub KnownByBytes : Type 0
KnownByBytes = (b c : List ℕ) (i : Identity) → IsBytes b → id_of b ≡ Some i → take i.size c ≡ take i.size b → id_of c ≡ Some i

module _ (law : KnownByBytes) (g : Geometry) (ok : IsLayout g) (n : ℕ) (ref : Content) (ends : EndsBefore g n ref) where
  module _ (s : Content) (sized : IsSized g s) (holds : HoldsAll g n ref s) where
    size_of_id : (b : List ℕ) (i : Identity) → id_of b ≡ Some i → image_size b ≡ i.size
    size_of_id b i is = let parts = id_parts b i is in sym (size_valid b parts.0) ∙ ap (λ (x : Identity). x.size) parts.1

    -- Its images are those.
    both : (o : Slot) → (id_of (bytes_of s o) ≡ id_of (bytes_of ref o)) × (image_size (bytes_of s o) ≡ image_size (bytes_of ref o))
    both o =
        let held = ends.inside o in
        let i = held.1.0 in
        let end = data_before_trailer g o ok in
        let prefix = same_prefixes (bytes_of ref o) (bytes_of s o) i.size (omega (arith, held.1.2, end, sized_is g ref o ends.sized)) (omega (arith, held.1.2, end, sized_is g s o sized))
        (λ k below. holds o k (omega (arith, below, held.1.2)) (away o k below)) in
        let id = law (bytes_of ref o) (bytes_of s o) i held.0 held.1.1 prefix in
        (id ∙ sym held.1.1, size_of_id (bytes_of s o) i id ∙ sym (size_of_id (bytes_of ref o) i held.1.1))
      where
        away : (o : Slot) (k : ℕ) → k < (ends.inside o).1.0.size → next_sector g n o k → ⊥
        away Primary k below there = let low = ends.low in omega (arith, below, low, there.1)
        away Secondary k below there = absurd (let no_ : Secondary ≡ Primary = there.0 in cc)

    pub behind_id : (o : Slot) → id_of (bytes_of s o) ≡ id_of (bytes_of ref o)
    behind_id o = (both o).0

    pub behind_images : images_of s ≡ images_of ref
    unfolding images_of
    behind_images = rw (valid_by_id s.secondary ref.secondary (both Secondary).0, (both Primary).1, (both Secondary).1) refl

  -- Two such flashes.
  module _ (r : Rules) (s t : Content) (is : Near g (next_sector g n) s t) (of_s : HoldsAll g n ref s) (of_t : HoldsAll g n ref t) where
    pub same_behind : images_of t ≡ images_of s
    same_behind = behind_images t is.outer.sized_v of_t ∙ sym (behind_images s is.outer.sized_u of_s)

    pub behind_pair : Pair r g t s
    behind_pair = record {
      plan_is = images_plans g ok (next_sector g n) s t is r same_behind;
      primary = behind_id t is.outer.sized_v of_t Primary ∙ sym (behind_id s is.outer.sized_u of_s Primary);
      secondary = behind_id t is.outer.sized_v of_t Secondary ∙ sym (behind_id s is.outer.sized_u of_s Secondary);
      trailer = is.primary;
    }

-- How boots end that are treated alike: nothing differs that is read; or no more than the sector behind two whole images.
pub record HeldRest (g : Geometry) (s t : Content) : Type 0 where
  pub n : ℕ
  pub ref : Content
  pub ends : EndsBefore g n ref
  pub near_ : Near g (next_sector g n) s t
  pub of_s : HoldsAll g n ref s
  pub of_t : HoldsAll g n ref t

abbrev pub Rest : Geometry → Content → Content → Type 0
Rest g s t = Near g nowhere s t ⊎ HeldRest g s t

pub rest_pair : KnownByBytes → (r : Rules) (g : Geometry) → IsLayout g → (s t : Content) → Rest g s t → ImagesApart g t → Pair r g t s
rest_pair law r g ok s t (inl is) apart = near_pair g ok s t is r apart
rest_pair law r g ok s t (inr is) apart = behind_pair law g ok is.n is.ref is.ends r s t is.near_ is.of_s is.of_t
