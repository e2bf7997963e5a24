-- A transfer whole and in pieces, and the bytes of the sectors on the way of a swap.
use Rattle.std.proofs.{Common.{add_assoc, ap, arith, inl, inr, subst, sym, zero-add, ◌∙◌}, Math.Nat.{mul-le-mul_right}, lemmas.Bool.{cases_eq, cases_lt}}
use Rattle.std.proofs.{lemmas.List.{get_or-replicate, length-replicate}, lemmas.List.Edits.{get_or-between, length-between}}
use Rattle.std.specs.{List.{between, range_with_len}, Prelude.{List, Some, length, map, refl, slice_get, ℕ, ◌*◌, ◌+◌, ◌-◌, ◌/◌, ◌<◌, ◌≡◌, ◌≤◌, ◌⊎◌}}
use Rattle.mc_boot.proofs.{Courses.{can_chunk}, Keeps.{Keeps, keeps_range}, Meets.{which_slot}, Transfers.{Fits, Held, fits_at, held_after, held_at, held_begin, held_here, held_next, same_transfer}}
use Rattle.mc_boot.specs.{Boot.{IsInside}, Plan.{copy_of, transfers}, declared.transfer.Transfer.{Transfer}}
use Rattle.mc_flash.specs.{Flash.{Content, IsSized, apply, byte, bytes_of, sectors_of}, Geometry.{Geometry, IsLayout, greatest_sectors}, declared.op.Op.TheVariants.{Copy, Erase}}
use Rattle.mc_flash.specs.{declared.op.Slot.{Slot}, facts.Changes.{Changed, changed_sized, copied, copy_is_program, erase_changes, length-copied, program_changes, sized_is}}
use Rattle.mc_flash.specs.facts.Layouts.{chunks_cover, data_end, data_sectors}
use Rattle.mc_trailer.specs.Trailer.{room}

-- A transfer, byte by byte.

pub copy_does : (g : Geometry) (s : Content) (from : Slot) (at : ℕ) (to : Slot) (offset len : ℕ) → at + len ≤ length (bytes_of s from) → offset + len ≤ length (bytes_of s to)
    → ((i : ℕ) → i < len → byte s to (offset + i) ≡ 255) → (t : Content) × (apply g (Copy from at to offset len) s ≡ Some t) × Changed s t to offset (copied s from at len)
copy_does g s from at to offset len there fits blank =
    let n = length-copied s from at len there in
    let does = program_changes g s to offset (copied s from at len) (omega (arith, n, fits)) (λ i below. blank i (omega (arith, n, below))) in
    (does.0, copy_is_program g s from to at offset len ∙ does.1, does.2)

-- outside a sector
abbrev pub IsOutside : Geometry → Slot → ℕ → Slot → ℕ → Type 0
IsOutside g slot sector o i = o ≡ slot → (i < sector * g.sector) ⊎ (sector * g.sector + g.sector ≤ i)

-- From s, the transfer's target was erased and c chunks of its source were copied; nothing else changed.
pub record Copied (g : Geometry) (s t : Content) (x : Transfer) (c : ℕ) : Type 0 where
  pub done : (i : ℕ) → i < c * g.chunk → byte t x.to (x.to_sector * g.sector + i) ≡ byte s x.from (x.from_sector * g.sector + i)
  pub blank : (i : ℕ) → c * g.chunk ≤ i → i < g.sector → byte t x.to (x.to_sector * g.sector + i) ≡ 255
  pub elsewhere : (o : Slot) (i : ℕ) → IsOutside g x.to x.to_sector o i → byte t o i ≡ byte s o i
  pub sized : IsSized g t

-- the source is outside the target
source_outside : (g : Geometry) (x : Transfer) (i : ℕ) → IsInside g x → i < g.sector → IsOutside g x.to x.to_sector x.from (x.from_sector * g.sector + i)
source_outside g x i inside below same = grind arith

pub unchanged : (s t : Content) (slot : Slot) (at : ℕ) (new : List ℕ) (o : Slot) (i : ℕ) → Changed s t slot at new → (o ≡ slot → (i < at) ⊎ (at + length new ≤ i)) → byte t o i ≡ byte s o i
unchanged s t slot at new o i ch out = grind arith

after_copy : (g : Geometry) (s t u : Content) (x : Transfer) (c : ℕ) → IsInside g x → c * g.chunk + g.chunk ≤ g.sector → x.from_sector * g.sector + c * g.chunk + g.chunk ≤ length (bytes_of t x.from)
    → Copied g s t x c
    → Changed t u x.to (x.to_sector * g.sector + c * g.chunk) (between (x.from_sector * g.sector + c * g.chunk) (x.from_sector * g.sector + c * g.chunk + g.chunk) (bytes_of t x.from))
    → Copied g s u x (c + 1)
after_copy g s t u x c inside room there so ch = record {
  done = λ i below. elim (cases_lt i (c * g.chunk)) [
    | inl low ↦ ch.before (x.to_sector * g.sector + i) (omega (arith, low)) ∙ so.done i low
    | inr high ↦
        let short : i - c * g.chunk < g.chunk = omega (arith, below, high) in
        ap (byte u x.to) (omega (arith, high))
        ∙ ch.inside (i - c * g.chunk) (omega (arith, short, len))
        ∙ get_or-between (bytes_of t x.from) (x.from_sector * g.sector + c * g.chunk) (x.from_sector * g.sector + c * g.chunk + g.chunk) (i - c * g.chunk) 0 (omega (arith, short))
        ∙ ap (byte t x.from) (omega (arith, high))
        ∙ so.elsewhere x.from (x.from_sector * g.sector + i) (source_outside g x i inside (omega (arith, below, room)))
  ];
  blank = λ i past short. ch.beyond (x.to_sector * g.sector + i) (omega (arith, past, len)) ∙ so.blank i (omega (arith, past)) short;
  elsewhere = λ o i out. unchanged t u x.to _ _ o i ch (λ same. elim (out same) [ inl low ↦ inl (omega (arith, low)) | inr high ↦ inr (omega (arith, high, len, room)) ]) ∙ so.elsewhere o i out;
  sized = changed_sized g t u x.to _ _ ch so.sized;
}
  where
    len : length (between (x.from_sector * g.sector + c * g.chunk) (x.from_sector * g.sector + c * g.chunk + g.chunk) (bytes_of t x.from)) ≡ g.chunk
    len = length-between (bytes_of t x.from) (x.from_sector * g.sector + c * g.chunk) (x.from_sector * g.sector + c * g.chunk + g.chunk) there ∙ omega arith

-- one chunk more
pub chunk_step : (g : Geometry) (s t : Content) (x : Transfer) (c : ℕ) → IsLayout g → IsInside g x → c < g.sector / g.chunk → Copied g s t x c → (u : Content) × (apply g (copy_of g x c) t ≡ Some u)
    × Copied g s u x (c + 1)
chunk_step g s t x c ok inside below so =
    let from_range = can_chunk g x.from x.from_sector c ok inside.from below in
    let to_range = can_chunk g x.to x.to_sector c ok inside.to below in
    let from_fits : x.from_sector * g.sector + c * g.chunk + g.chunk ≤ length (bytes_of t x.from) = omega (arith, from_range.inside, sized_is g t x.from so.sized) in
    let to_fits : x.to_sector * g.sector + c * g.chunk + g.chunk ≤ length (bytes_of t x.to) = omega (arith, to_range.inside, sized_is g t x.to so.sized) in
    let part : (c + 1) * g.chunk ≤ g.sector / g.chunk * g.chunk = mul-le-mul_right g.chunk (omega (arith, below)) in
    let room : c * g.chunk + g.chunk ≤ g.sector = omega (arith, part, chunks_cover g ok) in
    let does = copy_does g t x.from (x.from_sector * g.sector + c * g.chunk) x.to (x.to_sector * g.sector + c * g.chunk) g.chunk from_fits to_fits
    (λ i short. ap (byte t x.to) (add_assoc (x.to_sector * g.sector) (c * g.chunk) i) ∙ so.blank (c * g.chunk + i) (omega arith) (omega (arith, short, room))) in
    (does.0, does.1, after_copy g s t does.0 x c inside room from_fits so does.2)

-- all chunks, where P bears a half copied target
pub copies_keep : (g : Geometry) (P : Content → Type 0) (s t : Content) (x : Transfer) → IsLayout g → IsInside g x → ((u : Content) (c : ℕ) → Copied g s u x c → P u) → Copied g s t x 0
    → Keeps g P (map (copy_of g x) (range_with_len 0 (g.sector / g.chunk))) t (λ u. Copied g s u x (g.sector / g.chunk))
copies_keep g P s t x ok inside bears so =
    rw (zero-add (g.sector / g.chunk)) at
    (keeps_range g P (λ c u. Copied g s u x c) (copy_of g x) 0 (g.sector / g.chunk) t
    (λ c u h k. (bears u c k, chunk_step g s u x c ok inside (omega (arith, h)) k)) so)

-- the erase before them
pub erase_step : (g : Geometry) (s : Content) (x : Transfer) → IsLayout g → IsInside g x → IsSized g s → (u : Content) × (apply g (Erase x.to x.to_sector) s ≡ Some u) × Copied g s u x 0
erase_step g s x ok inside sized =
    let rows : (x.to_sector + 1) * g.sector ≤ sectors_of g x.to * g.sector = mul-le-mul_right g.sector (omega (arith, inside.to)) in
    let does = erase_changes g s x.to x.to_sector (omega (arith, rows, sized_is g s x.to sized)) in (
      does.0,
      does.1,
      record {
        done = λ i h. absurd (omega (arith, h));
        blank = λ i _ short. does.2.inside i (omega (arith, short, length-replicate {A = ℕ} g.sector 255)) ∙ get_or-replicate g.sector i 255 0 short;
        elsewhere = λ o i out. unchanged s does.0 x.to _ _ o i does.2 (λ same. elim (out same) [ inl low ↦ inl low | inr high ↦ inr (omega (arith, high, length-replicate {A = ℕ} g.sector 255)) ]);
        sized = changed_sized g s does.0 x.to _ _ does.2 sized;
      },
    )

-- The data sectors hold what the start's sectors held.

-- no target of the k-th transfer
abbrev pub IsNoTarget : Geometry → ℕ → ℕ → Slot → ℕ → Type 0
IsNoTarget g n k o i = (x : Transfer) → slice_get (transfers g n) k ≡ Some x → o ≡ x.to → i ≡ x.to_sector → ⊥

-- one byte of a sector, and the byte of the start that a Held names
abbrev pub byte_in : Geometry → Content → Slot → ℕ → ℕ → ℕ
byte_in g s o i m = byte s o (i * g.sector + m)

abbrev pub byte_held : Geometry → Content → Slot × ℕ → ℕ → ℕ
byte_held g s held m = byte_in g s held.0 held.1 m

-- Before transfer k: what it will overwrite may hold anything.
pub record Data (g : Geometry) (n : ℕ) (start : Content) (k : ℕ) (s : Content) : Type 0 where
  pub sized : IsSized g s
  pub held : (o : Slot) (i m : ℕ) → i < data_sectors g o → m < g.sector → IsNoTarget g n k o i → byte_in g s o i m ≡ byte_held g start (held_at g n k o i) m

pub data_begin : (g : Geometry) (n : ℕ) (start : Content) → IsSized g start → Data g n start 0 start
data_begin g n start sized = record {
  sized = sized;
  held = λ o i m below short away. let E : Held → Type 0 = λ f. byte_in g start o i m ≡ byte_held g start (f o i) m in subst E (sym (held_begin g n)) refl;
}

-- what stands after the data sectors doesn't matter
pub data_same : (g : Geometry) (n : ℕ) (start : Content) (k : ℕ) (s t : Content) → IsSized g t → ((o : Slot) (i : ℕ) → i < data_end g o → byte t o i ≡ byte s o i) → Data g n start k s
    → Data g n start k t
data_same g n start k s t sized same data_ = grind arith

-- a change after the data sectors of a slot
pub kept_below : (g : Geometry) (s t : Content) (slot : Slot) (at : ℕ) (new : List ℕ) → Changed s t slot at new → data_end g slot ≤ at → (o : Slot) (i : ℕ) → i < data_end g o → byte t o i ≡ byte s o i
kept_below g s t slot at new ch beyond o i below = grind arith

other_sector : (g : Geometry) (i j m : ℕ) → (i ≡ j → ⊥) → m < g.sector → (i * g.sector + m < j * g.sector) ⊎ (j * g.sector + g.sector ≤ i * g.sector + m)
other_sector g i j m differ short = elim (cases_lt i j) [
  | inl low ↦ inl (let rows : (i + 1) * g.sector ≤ j * g.sector = mul-le-mul_right g.sector (omega (arith, low)) in omega (arith, rows, short))
  | inr high ↦ inr (let rows : (j + 1) * g.sector ≤ i * g.sector = mul-le-mul_right g.sector (omega (arith, high, differ)) in omega (arith, rows))
]

pub away_outside : (g : Geometry) (x : Transfer) (o : Slot) (i m : ℕ) → (o ≡ x.to → i ≡ x.to_sector → ⊥) → m < g.sector → IsOutside g x.to x.to_sector o (i * g.sector + m)
away_outside g x o i m away short same = other_sector g i x.to_sector m (away same) short

-- The source of a transfer is not its target.
source_no_target : (g : Geometry) (n k : ℕ) (x : Transfer) → slice_get (transfers g n) k ≡ Some x → IsInside g x → IsNoTarget g n k x.from x.from_sector
source_no_target g n k x at inside y there slot sector = grind arith

-- one transfer more
pub data_step : (g : Geometry) (n : ℕ) (start : Content) (k : ℕ) (s u : Content) (x : Transfer) → IsLayout g → n ≤ greatest_sectors g → slice_get (transfers g n) k ≡ Some x → Data g n start k s
    → Copied g s u x (g.sector / g.chunk) → Data g n start (k + 1) u
data_step g n start k s u x ok at_most at data_ so = record {
  sized = so.sized;
  held = λ o i m below short away.
      rw (held_next g n k x at) (index o i m below short);
}
  where
    fits : Fits g n k x
    fits = fits_at g n k x ok at_most at

    elsewhere : (o : Slot) (i m : ℕ) → i < data_sectors g o → m < g.sector → (o ≡ x.to → i ≡ x.to_sector → ⊥) → byte_in g u o i m ≡ byte_held g start (held_after (held_at g n k) x o i) m
    elsewhere o i m below short away =
        so.elsewhere o (i * g.sector + m) (away_outside g x o i m away short)
        ∙ data_.held o i m below short (λ y there slot sector.
        let same : x ≡ y = same_transfer x y (sym at ∙ there) in
        away (slot ∙ ap (λ (z : Transfer). z.to) (sym same)) (sector ∙ ap (λ (z : Transfer). z.to_sector) (sym same)))
        ∙ ap (λ (h : Slot × ℕ). byte_held g start h m) (sym (grind arith))

    target : (m : ℕ) → m < g.sector → byte_in g u x.to x.to_sector m ≡ byte_held g start (held_after (held_at g n k) x x.to x.to_sector) m
    target m short =
        so.done m (omega (arith, short, chunks_cover g ok))
        ∙ data_.held x.from x.from_sector m fits.from_data short (source_no_target g n k x at fits.inside)
        ∙ ap (λ (h : Slot × ℕ). byte_held g start h m) (sym (held_here (held_at g n k) x))

    index : (o : Slot) (i m : ℕ) → i < data_sectors g o → m < g.sector → byte_in g u o i m ≡ byte_held g start (held_after (held_at g n k) x o i) m
    index o i m below short = grind (arith, which_slot, elsewhere, cases_eq, target)
