-- What stands at the start of the slots on the way of a swap, what a boot keeps, and how a swap ends.
use Rattle.std.proofs.{Common.{ap, arith, inl, inr, subst, sym, ◌∙◌}, Math.Nat.{mod-add-div', mul-le-mul_right}, lemmas.Bool.{cases_lt}, lemmas.Grind.{div_ceil_times}, lemmas.Nat.{mod_below}}
use Rattle.std.specs.Prelude.{false, max, refl, replicate, take, true, ℕ, ◌%◌, ◌*◌, ◌+◌, ◌-◌, ◌/◌, ◌<◌, ◌≡◌, ◌≤◌}
use Rattle.mc_boot.proofs.{Courses.{get_moved}, Images.{SameImage, same_image, same_prefixes}, InPieces.{plan_in_pieces, trailer_pieces}, Moving.{Data, IsNoTarget, byte_held}}
use Rattle.mc_boot.proofs.Phases.{Ended, SeesImages, Swap, image_ok_is, plan_settled, plan_tested, sees_images, swap_of}
use Rattle.mc_boot.proofs.Transfers.{Held, at_start, exchanged, held_after_all, held_at, held_begin, held_end, place_below, same_transfer}
use Rattle.mc_boot.specs.{Plan.{Plan, PowerOn, again, image_size, moved_up, power_on, transfers}, Restart.{AreExchanged, IsSettled, IsTested}, declared.transfer.Transfer.{Transfer}}
use Rattle.mc_flash.specs.{Flash.{Content, IsSized, byte, bytes_of, size_of}, Geometry.{Geometry, IsLayout, greatest_sectors, in_pieces}, declared.op.Slot.{Slot}}
use Rattle.mc_flash.specs.{declared.op.Slot.TheVariants.{Primary, Secondary}, facts.Changes.{sized_is}, facts.Layouts.{data_before_trailer, data_sectors, image_is_data}}
use Rattle.mc_trailer.specs.{Trailer.{room}, declared.tables.Rules.{Rules}, facts.Fields.{reads_absent, reads_copy_done, reads_good}}
use Rattle.mc_trailer.specs.declared.places.Field.TheVariants as field

-- The first n sectors of a slot, byte by byte, and the image in them.

abbrev pub other_slot : Slot → Slot
other_slot Primary = Secondary
other_slot Secondary = Primary

-- where the first n sectors of `from` stand in `o`
prefix_held : (g : Geometry) (start : Content) (n k : ℕ) (s : Content) (o from : Slot) → IsLayout g → n ≤ data_sectors g o → ((i : ℕ) → i < n → held_at g n k o i ≡ (from, i))
    → ((i : ℕ) → i < n → IsNoTarget g n k o i) → Data g n start k s
    → (p : ℕ) → p < n * g.sector → byte s o p ≡ byte start from p
prefix_held g start n k s o from ok room held free data_ p below =
    let parts = mod-add-div' p g.sector in
    let short : p % g.sector < g.sector = mod_below p g.sector (omega arith) in
    let inside : p / g.sector < n = in_prefix (p / g.sector) (p % g.sector) parts in
    ap (byte s o) (omega (arith, parts))
    ∙ data_.held o (p / g.sector) (p % g.sector) (omega (arith, inside, room)) short (free (p / g.sector) inside)
    ∙ ap (λ (h : Slot × ℕ). byte_held g start h (p % g.sector)) (held (p / g.sector) inside)
    ∙ ap (byte start from) (omega (arith, parts))
  where
    in_prefix : (q r : ℕ) → r + q * g.sector ≡ p → q < n
    in_prefix q r e = elim (cases_lt q n) [
      | inl low ↦ low
      | inr high ↦ absurd (let rows : n * g.sector ≤ q * g.sector = mul-le-mul_right g.sector high in omega (arith, rows, e, below))
    ]

pub prefix_inside : (g : Geometry) (n : ℕ) (o : Slot) → IsLayout g → n ≤ greatest_sectors g → n * g.sector ≤ size_of g o
prefix_inside g n o ok at_most =
    let rows : n * g.sector ≤ data_sectors g o * g.sector = mul-le-mul_right g.sector (image_is_data g o n at_most) in
    omega (arith, rows, data_before_trailer g o ok)

-- before the first transfer
pub prefix_at_start : (g : Geometry) (start : Content) (n : ℕ) (s : Content) (o : Slot) → IsLayout g → 0 < n → n ≤ greatest_sectors g → Data g n start 0 s → (p : ℕ) → p < n * g.sector
    → byte s o p ≡ byte start o p
prefix_at_start g start n s o ok some at_most data_ =
    prefix_held g start n 0 s o o ok (image_is_data g o n at_most)
    (λ i h. let E : Held → Type 0 = λ f. f o i ≡ (o, i) in subst E (sym (held_begin g n)) refl)
    (λ i h x at slot sector.
    let same : moved_up n 0 ≡ x = same_transfer (moved_up n 0) x (sym (get_moved g n 0 some) ∙ at) in
    let to : x.to_sector ≡ n - 0 = ap (λ (y : Transfer). y.to_sector) (sym same) in
    omega (arith, h, sector, to)) data_

-- after the last
pub prefix_at_end : (g : Geometry) (start : Content) (n : ℕ) (s : Content) (o : Slot) → IsLayout g → n ≤ greatest_sectors g → Data g n start (3 * n) s → (p : ℕ) → p < n * g.sector
    → byte s o p ≡ byte start (other_slot o) p
prefix_at_end g start n s o ok at_most data_ =
    prefix_held g start n (3 * n) s o (other_slot o) ok (image_is_data g o n at_most)
    (λ i h. let E : Held → Type 0 = λ f. f o i ≡ (other_slot o, i) in subst E (sym (held_end g n)) (swapped o i h))
    (λ i h x at slot sector. omega (arith, place_below g n (3 * n) x at)) data_
  where
    swapped : (o : Slot) (i : ℕ) → i < n → held_after_all at_start (transfers g n) o i ≡ (other_slot o, i)
    swapped Primary i h = (exchanged g n).done i h
    swapped Secondary i h = (exchanged g n).taken i h

-- a slot that begins as a slot of the start holds its image
pub image_there : (g : Geometry) (start : Content) (size n : ℕ) (s : Content) (o from : Slot) → Swap g start size n → IsSized g s → ((p : ℕ) → p < n * g.sector → byte s o p ≡ byte start from p)
    → SameImage (bytes_of start from) (bytes_of s o)
image_there g start size n s o from w sized same =
    let there : image_size (bytes_of start from) ≤ n * g.sector = grind (arith, div_ceil_times) in
    same_image (bytes_of start from) (bytes_of s o) w.laws (grind arith)
    (omega (arith, there, prefix_inside g n from w.ok w.at_most, sized_is g start from w.sized))
    (omega (arith, there, prefix_inside g n o w.ok w.at_most, sized_is g s o sized)) (λ i h. same i (omega (arith, h, there)))

pub prefix_lists : (g : Geometry) (start : Content) (n : ℕ) (s : Content) (o from : Slot) → IsLayout g → n ≤ greatest_sectors g → IsSized g start → IsSized g s
    → ((p : ℕ) → p < n * g.sector → byte s o p ≡ byte start from p) → take (n * g.sector) (bytes_of s o) ≡ take (n * g.sector) (bytes_of start from)
prefix_lists g start n s o from ok at_most sized_start sized same =
    same_prefixes (bytes_of start from) (bytes_of s o) (n * g.sector) (omega (arith, prefix_inside g n from ok at_most, sized_is g start from sized_start))
    (omega (arith, prefix_inside g n o ok at_most, sized_is g s o sized)) same

-- the images before the first transfer, and after the last
pub record Crossed (start z : Content) : Type 0 where
  pub primary : SameImage start.secondary z.primary
  pub secondary : SameImage start.primary z.secondary

module _ (g : Geometry) (start : Content) (size n : ℕ) (z : Content) (w : Swap g start size n) where
  pub uncrossed : Data g n start 0 z → SameImage start.primary z.primary × SameImage start.secondary z.secondary
  uncrossed data_ = (
    image_there g start size n z Primary Primary w data_.sized (prefix_at_start g start n z Primary w.ok w.some w.at_most data_),
    image_there g start size n z Secondary Secondary w data_.sized (prefix_at_start g start n z Secondary w.ok w.some w.at_most data_),
  )

  pub crossed : Data g n start (3 * n) z → Crossed start z
  crossed data_ = record {
    primary = image_there g start size n z Primary Secondary w data_.sized (prefix_at_end g start n z Primary w.ok w.at_most data_);
    secondary = image_there g start size n z Secondary Primary w data_.sized (prefix_at_end g start n z Secondary w.ok w.at_most data_);
  }

  -- what a plan sees of them
  pub sees_start : Data g n start 0 z → SeesImages z size
  sees_start data_ =
      let one = (uncrossed data_).0 in
      let two = (uncrossed data_).1 in
      sees_images z size two.valid (ap (λ m. max m (image_size z.secondary)) one.size ∙ ap (max (image_size start.primary)) two.size ∙ w.larger)

  pub sees_end : Data g n start (3 * n) z → SeesImages z size
  sees_end data_ =
      let one = (crossed data_).primary in
      let two = (crossed data_).secondary in
      let larger = w.larger in
      sees_images z size two.valid (grind arith)

-- the sectors at the end
pub exchanges : (g : Geometry) (start : Content) (size n : ℕ) (z : Content) → Swap g start size n → Data g n start (3 * n) z → AreExchanged g n start z
exchanges g start size n z w data_ = record {
  primary = prefix_lists g start n z Primary Secondary w.ok w.at_most w.sized data_.sized (prefix_at_end g start n z Primary w.ok w.at_most data_);
  secondary = prefix_lists g start n z Secondary Primary w.ok w.at_most w.sized data_.sized (prefix_at_end g start n z Secondary w.ok w.at_most data_);
}

-- the trailers at the end
pub tested_end : (x : PowerOn) (size n : ℕ) (z : Content) → Swap x.geometry x.content size n → (e : Ended x.geometry x.content size n true z) → IsTested (again x z)
tested_end x size n z w e =
    let done = e.2 in
    let unset = image_ok_is x.geometry z e.0 true (swap_of true e.0 e.1) (done.primary field.ImageOk) in
    let set = reads_copy_done x.geometry z Primary 1 (replicate (x.geometry.unit - 1) 255) (done.primary field.CopyDone) in
    record {
      image_ok = unset;
      copy_done = set;
      next = ap (λ (q : Plan). q.kind) (plan_tested (again x z) size n
          (reads_good x.geometry z Primary w.ok done.data_.sized (done.primary field.Magic)) unset set
          (grind (arith, reads_absent x.geometry z Secondary w.ok done.data_.sized (done.secondary field.Magic)))
          (sees_end x.geometry x.content size n z w done.data_) w.count w.at_most);
    }

pub settled_end : (x : PowerOn) (size n : ℕ) (z : Content) → Swap x.geometry x.content size n → (e : Ended x.geometry x.content size n false z) → IsSettled (again x z)
settled_end x size n z w e =
    let done = e.2 in
    let set = image_ok_is x.geometry z e.0 false (swap_of false e.0 e.1) (done.primary field.ImageOk) in
    let copied = reads_copy_done x.geometry z Primary 1 (replicate (x.geometry.unit - 1) 255) (done.primary field.CopyDone) in
    let stays = plan_settled (again x z) copied (reads_absent x.geometry z Secondary w.ok done.data_.sized (done.secondary field.Magic)) set in
    record { image_ok = set; copy_done = copied; next = ap (λ (q : Plan). q.kind) stays; idle = ap (λ (q : Plan). q.list) stays }

-- the same on the layout itself
module _ (r : Rules) (g : Geometry) (z : Content) where
  pub settled_on : IsSettled (power_on r (in_pieces r.grain g) z) → IsSettled (power_on r g z)
  settled_on is = grind (arith, trailer_pieces, plan_in_pieces)
