-- How many operations each part of a course has. Proved here, so that the bounds on a boot can cite it.
use Rattle.std.proofs.{Common.{ap, arith, length-append, sym, zero-mul, ◌∙◌}, lemmas.List.{length-replicate}}
use Rattle.std.proofs.lemmas.List.FromFn.{length-map-range_with_len, length-range_with_len}
use Rattle.std.specs.{List.{range_with_len}, Prelude.{List, [], flat_map, length, map, max, refl, replicate, ℕ, ◌*◌, ◌+◌, ◌-◌, ◌/◌, ◌∷◌, ◌≡◌}}
use Rattle.byteorder.specs.Endian.{little_bytes}
use Rattle.mc_boot.specs.Plan.{brought_in, copy_of, entry_of, moved_up, steps, taken_out, transfers, write, write_count}
use Rattle.mc_boot.specs.declared.transfer.Transfer.{Transfer}
use Rattle.mc_flash.specs.{Geometry.{Geometry}, declared.flash.Grain.{Grain}, declared.op.Slot.{Slot}}
use Rattle.mc_trailer.specs.{Trailer.{magic_bytes, size_bytes}}
use Rattle.mc_trailer.specs.declared.places.Field.TheVariants as field

pub length-size_bytes : (g : Geometry) (size : ℕ) → length (size_bytes g size) ≡ max g.unit 4
length-size_bytes g size = omega (arith, length-append (little_bytes 4 size) (replicate (g.unit - 4) 255), length-replicate {A = ℕ} (g.unit - 4) 255)

-- how many operations a transfer has
pub length-steps : (g : Geometry) (t : Transfer) → length (steps g t) ≡ g.sector / g.chunk + 2
length-steps g t = omega (arith, length-append (map (copy_of g t) (range_with_len 0 (g.sector / g.chunk))) (entry_of g t ∷ []), length-map-range_with_len (copy_of g t) 0 (g.sector / g.chunk))

pub length_pieces : {A B : Type 0} (f : A → List B) (w : ℕ) → ((x : A) → length (f x) ≡ w) → (xs : List A) → length (flat_map f xs) ≡ length xs * w
length_pieces f w even [] = sym (zero-mul w)
length_pieces f w even (x ∷ xs) = omega (arith, length-append (f x) (flat_map f xs), even x, length_pieces f w even xs)

pub length-transfers : (g : Geometry) (n : ℕ) → length (transfers g n) ≡ 3 * n
length-transfers g n =
    omega (
      arith,
      length-append (map (moved_up n) (range_with_len 0 n)) (flat_map (λ i. brought_in g i ∷ taken_out g i ∷ []) (range_with_len 0 n)),
      length-map-range_with_len (moved_up n) 0 n,
      length_pieces (λ i. brought_in g i ∷ taken_out g i ∷ []) 2 (λ _. refl) (range_with_len 0 n),
      length-range_with_len 0 n,
    )

-- the writes of a size and of a magic
pub length-size : (c : Grain) (g : Geometry) (slot : Slot) (size : ℕ) → length (write c g slot field.SwapSize (size_bytes g size)) ≡ write_count c g (max g.unit 4)
length-size c g slot size = (grind (arith, length-map-range_with_len)) ∙ ap (write_count c g) (length-size_bytes g size)

pub length-magic : (c : Grain) (g : Geometry) (slot : Slot) → length (write c g slot field.Magic magic_bytes) ≡ write_count c g 16
length-magic c g slot = grind (arith, length-map-range_with_len)
