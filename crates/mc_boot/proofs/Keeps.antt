-- What operations keep: a phase, operation by operation, through erases, writes in pieces and boots that are not cut.
use Rattle.std.proofs.{Common.{ap, arith, inl, inr, subst, sym, zero-add, ◌∙◌}, Math.Nat.{mod-add-div', mul-le-mul_right, zero-mul}, lemmas.Bool.{cases_lt}, lemmas.Bool.Decides.{nat_tests}}
use Rattle.std.proofs.{lemmas.List.{get_or-replicate, get_or-take, length-replicate, length-take-le}, lemmas.List.Edits.{get_or-between, length-between}}
use Rattle.std.specs.List.{between, range_with_len}
use Rattle.std.specs.Prelude.{List, Some, [], false, length, map, nat_lt, option_and_then, option_map, refl, replicate, slice_index, suc, take, true, zero, ℕ, ◌%◌, ◌*◌, ◌++◌, ◌+◌, ◌-◌, ◌/◌, ◌<◌, ◌∷◌, ◌≡◌, ◌≢◌, ◌≤◌}
use Rattle.mc_boot.specs.{Outcome.{applied, at, first_then, happening, is_faulted, left_by, ops_of, outcome_of, report}, Plan.{PowerOn, piece, plan, power_on, write}}
use Rattle.mc_flash.specs.{Flash.{Content, IsSized, apply, byte, bytes_of, sectors_of, size_of}, Geometry.{Geometry, IsLayout, trailer_sectors}, declared.flash.Grain.{Grain}, declared.op.Op.{Op}}
use Rattle.mc_flash.specs.{declared.op.Op.TheVariants.{Program}, declared.op.Slot.{Slot}, facts.Changes.{Changed, program_changes, sized_is}}
use Rattle.mc_flash.specs.facts.Layouts.{data_end, sector_inside, trailer_leaves_one}
use Rattle.mc_image.specs.Valid.{is_valid}
use Rattle.mc_trailer.specs.{Trailer.{place, room}, declared.places.Field.{Field}, declared.tables.Rules.{Rules}, facts.Fields.{FieldIs, blank_byte, field_write}}
use Rattle.mc_trailer.specs.facts.Places.{field_beyond_data, field_ends, most_before_end, place_inside}
use lib.Seq.{take-length, take_all}
use Rattle.mc_flash.specs.declared.flash.Grain.TheVariants as grains
use Rattle.mc_trailer.specs.declared.tables.SwapType.TheVariants as kinds
use Rattle.mc_boot.specs.declared.outcome.BootResult.TheVariants as results

-- Lists of operations that can all be applied, with what holds before each and at the end.

-- From s each operation can be applied; before each P holds, and at the end Q.
abbrev pub Keeps : Geometry → (Content → Type 0) → List Op → Content → (Content → Type 0) → Type 0
Keeps g P [] s Q = Q s
Keeps g P (op ∷ ops) s Q = P s × ((t : Content) × (apply g op s ≡ Some t) × Keeps g P ops t Q)

pub keeps_append : (g : Geometry) (P Q R : Content → Type 0) (xs ys : List Op) (s : Content) → Keeps g P xs s Q → ((t : Content) → Q t → Keeps g P ys t R) → Keeps g P (xs ++ ys) s R
keeps_append g P Q R [] ys s first then_ = then_ s first
keeps_append g P Q R (x ∷ xs) ys s first then_ = (first.0, (first.1.0, first.1.1, keeps_append g P Q R xs ys first.1.0 first.1.2 then_))

-- a section of like operations, by what holds after the first k
pub keeps_range : (g : Geometry) (P : Content → Type 0) (K : ℕ → Content → Type 0) (f : ℕ → Op) (a n : ℕ) (s : Content)
    → ((i : ℕ) (t : Content) → i < a + n → K i t → P t × ((u : Content) × (apply g (f i) t ≡ Some u) × K (i + 1) u))
    → K a s → Keeps g P (map f (range_with_len a n)) s (K (a + n))
keeps_range g P K f a zero s step j = let D : ℕ → Type 0 = λ m. K m s in subst D (omega arith) j
keeps_range g P K f a (suc n) s step j =
    let now = step a s (omega arith) j in
    let rest = keeps_range g P K f (a + 1) n now.1.0 (λ i t h k. step i t (omega (arith, h)) k) now.1.2 in
    grind (arith, at)

-- nothing is refused
pub keeps_whole : (g : Geometry) (P Q : Content → Type 0) (ops : List Op) (s : Content) → Keeps g P ops s Q → happening g ops s ≡ ops
keeps_whole g P Q [] s k = refl
keeps_whole g P Q (op ∷ ops) s k =
    ap (first_then op (λ t. happening g ops t)) k.1.1 ∙ ap (λ (l : List Op). op ∷ l) (keeps_whole g P Q ops k.1.0 k.1.2)

pub keeps_end : (g : Geometry) (P Q : Content → Type 0) (ops : List Op) (s : Content) → Keeps g P ops s Q → (t : Content) × (applied g ops s ≡ Some t) × Q t
keeps_end g P Q [] s k = (s, refl, k)
keeps_end g P Q (op ∷ ops) s k =
    let end = keeps_end g P Q ops k.1.0 k.1.2 in
    (end.0, ap (option_and_then (λ t. applied g ops t)) k.1.1 ∙ end.1, end.2)

-- the same of a boot's plan
pub keeps_boot : (r : Rules) (g : Geometry) (P Q : Content → Type 0) (s : Content) → Keeps g P (plan (power_on r g s)).list s Q → ops_of (power_on r g s) ≡ (plan (power_on r g s)).list
unfolding ops_of
keeps_boot r g P Q s k = keeps_whole g P Q (plan (power_on r g s)).list s k

-- the same, said weaker
pub keeps_more : (g : Geometry) (P P' Q Q' : Content → Type 0) (ops : List Op) (s : Content) → ((t : Content) → P t → P' t) → ((t : Content) → Q t → Q' t) → Keeps g P ops s Q → Keeps g P' ops s Q'
keeps_more g P P' Q Q' [] s more end k = end s k
keeps_more g P P' Q Q' (op ∷ ops) s more end k = (more s k.0, (k.1.0, k.1.1, keeps_more g P P' Q Q' ops k.1.0 more end k.1.2))

-- The erases of a trailer.

pub erase_inside : (g : Geometry) (o : Slot) (i : ℕ) → IsLayout g → i < trailer_sectors g → (sectors_of g o - 1 - i) * g.sector + g.sector ≤ size_of g o
erase_inside g o i ok below = sector_inside g o (sectors_of g o - 1 - i) (let leaves = trailer_leaves_one g o ok in omega arith)

-- what the i-th erase of a trailer did
abbrev pub Erased : Geometry → Slot → ℕ → Content → Content → Type 0
Erased g slot i s t = Changed s t slot ((sectors_of g slot - 1 - i) * g.sector) (replicate g.sector 255)

-- a byte in the erased sector, and a byte that was 0xff
pub erased_here : (g : Geometry) (slot : Slot) (i : ℕ) (s t : Content) (p : ℕ) → Erased g slot i s t → (sectors_of g slot - 1 - i) * g.sector ≤ p
    → p < (sectors_of g slot - 1 - i) * g.sector + g.sector → byte t slot p ≡ 255
erased_here g slot i s t p ch from below = at ((sectors_of g slot - 1 - i) * g.sector) ch from below
  where
    at : (z : ℕ) → Changed s t slot z (replicate g.sector 255) → z ≤ p → p < z + g.sector → byte t slot p ≡ 255
    at z c low high =
        let short : p - z < g.sector = omega (arith, low, high) in
        ap (byte t slot) (omega (arith, low)) ∙ c.inside (p - z) (omega (arith, short, length-replicate {A = ℕ} g.sector 255)) ∙ get_or-replicate g.sector (p - z) 255 0 short

pub erased_still : (g : Geometry) (slot : Slot) (i : ℕ) (s t : Content) (p : ℕ) → Erased g slot i s t → byte s slot p ≡ 255 → byte t slot p ≡ 255
erased_still g slot i s t p ch was = grind (arith, cases_lt, erased_here, length-replicate)

-- a field stands in the last sector
pub field_in_last : (g : Geometry) (slot : Slot) (f : Field) (i : ℕ) → IsLayout g → i < room f
    → ((sectors_of g slot - 1 - 0) * g.sector ≤ place g slot f + i) × (place g slot f + i < (sectors_of g slot - 1 - 0) * g.sector + g.sector)
field_in_last g slot f i ok within = at (sectors_of g slot - 1 - 0) (let leaves = trailer_leaves_one g slot ok in omega arith)
  where
    at : (k : ℕ) → sectors_of g slot ≡ k + 1 → (k * g.sector ≤ place g slot f + i) × (place g slot f + i < k * g.sector + g.sector)
    at k e =
        let rows : sectors_of g slot * g.sector ≡ (k + 1) * g.sector = ap (λ n. n * g.sector) e in
        let least = ok.least_sector in
        (omega (arith, rows, least, place_inside g slot f ok, most_before_end f), omega (arith, rows, within, field_ends g slot f ok))

-- A write in pieces of one unit: what it changes is what one write of all the bytes changes.

-- after the first k bytes
abbrev pub Part : Content → Slot → ℕ → List ℕ → ℕ → Content → Type 0
Part s slot at new k t = Changed s t slot at (take k new)

none_yet : (s : Content) (slot : Slot) (at : ℕ) (new : List ℕ) → Part s slot at new 0 s
none_yet s slot at new = grind arith

piece_more : (g : Geometry) (s t u : Content) (slot : Slot) (at : ℕ) (new : List ℕ) (k : ℕ) → k + g.unit ≤ length new → Part s slot at new k t → Changed t u slot (at + k) (between k (k + g.unit) new)
    → Part s slot at new (k + g.unit) u
piece_more g s t u slot at new k fits so ch = record {
  inside = λ i h.
      let short : i < k + g.unit = omega (arith, h, all) in
      elim (cases_lt i k) [
        | inl low ↦ ch.before (at + i) (omega (arith, low)) ∙ so.inside i (omega (arith, low, prefix)) ∙ get_or-take k new i 0 low ∙ sym (get_or-take (k + g.unit) new i 0 short)
        | inr high ↦
            ap (byte u slot) (omega (arith, high)) ∙ ch.inside (i - k) (omega (arith, high, short, part))
            ∙ get_or-between new k (k + g.unit) (i - k) 0 (omega (arith, high, short))
            ∙ ap (slice_index new) (omega (arith, high)) ∙ sym (get_or-take (k + g.unit) new i 0 short)
      ];
  before = λ i h. ch.before i (omega (arith, h)) ∙ so.before i h;
  beyond = λ i h. ch.beyond i (omega (arith, h, all, part)) ∙ so.beyond i (omega (arith, h, all, prefix));
  other = λ o i away. ch.other o i away ∙ so.other o i away;
  sizes = λ o. ch.sizes o ∙ so.sizes o;
}
  where
    all : length (take (k + g.unit) new) ≡ k + g.unit
    all = length-take-le (k + g.unit) new fits

    prefix : length (take k new) ≡ k
    prefix = length-take-le k new (omega (arith, fits))

    part : length (between k (k + g.unit) new) ≡ g.unit
    part = length-between new k (k + g.unit) fits ∙ omega arith

piece_step : (g : Geometry) (s t : Content) (slot : Slot) (at : ℕ) (new : List ℕ) (k : ℕ) → at + length new ≤ length (bytes_of s slot) → ((i : ℕ) → i < length new → byte s slot (at + i) ≡ 255)
    → k + g.unit ≤ length new → Part s slot at new k t
    → (u : Content) × (apply g (Program slot (at + k) (between k (k + g.unit) new)) t ≡ Some u) × Part s slot at new (k + g.unit) u
piece_step g s t slot at new k fits free within so =
    let part : length (between k (k + g.unit) new) ≡ g.unit = length-between new k (k + g.unit) within ∙ omega arith in
    let prefix : length (take k new) ≡ k = length-take-le k new (omega (arith, within)) in
    let does = program_changes g t slot (at + k) (between k (k + g.unit) new) (omega (arith, fits, within, part, so.sizes slot))
    (λ i h. ap (byte t slot) (omega arith) ∙ so.beyond (at + (k + i)) (omega (arith, prefix)) ∙ free (k + i) (omega (arith, h, part, within))) in
    (does.0, does.1, piece_more g s t does.0 slot at new k within so does.2)

-- m pieces are the whole write; P has to bear each part of it
pub pieces_keep : (g : Geometry) (P : Content → Type 0) (s : Content) (slot : Slot) (at : ℕ) (new : List ℕ) (m : ℕ) → length new ≡ m * g.unit → at + length new ≤ length (bytes_of s slot)
    → ((i : ℕ) → i < length new → byte s slot (at + i) ≡ 255)
    → ((j : ℕ) (t : Content) → j < m → Part s slot at new (j * g.unit) t → P t)
    → Keeps g P (map (piece g slot at new) (range_with_len 0 m)) s (λ t. Changed s t slot at new)
pieces_keep g P s slot at new m len fits free bears =
    let K : ℕ → Content → Type 0 = λ j t. Part s slot at new (j * g.unit) t in
    rw (zero-add m, take_all (m * g.unit) new (omega (arith, len))) at
    (keeps_range g P K (piece g slot at new) 0 m s
    (λ j t h k.
    let below : j < m = omega (arith, h) in
    let row : (j + 1) * g.unit ≤ m * g.unit = mul-le-mul_right g.unit (omega (arith, below)) in
    let done = piece_step g s t slot at new (j * g.unit) fits free (omega (arith, row, len)) k in
    let N : ℕ → Type 0 = λ n. Part s slot at new n done.0 in
    let next : j * g.unit + g.unit ≡ (j + 1) * g.unit = omega arith in
    (bears j t below k, (done.0, done.1, subst N next done.2)))
    (rw (zero-mul g.unit) (none_yet s slot at new)))

-- A write of a field that is free, by either grain.

-- Either way it changes the same bytes, if P bears the start and, where units are written one by one, each part.
pub field_write_keeps : (g : Geometry) (P : Content → Type 0) (s : Content) (c : Grain) (slot : Slot) (f : Field) (new : List ℕ) → IsLayout g → IsSized g s
    → FieldIs g s slot f (replicate (room f) 255) → length new ≤ room f → length new % g.unit ≡ 0
    → P s → ((k : ℕ) (t : Content) → c ≡ grains.Unit → k + g.unit ≤ length new → Part s slot (place g slot f) new k t → P t)
    → Keeps g P (write c g slot f new) s (λ t. Changed s t slot (place g slot f) new)
field_write_keeps g P s grains.Call slot f new ok sized free short whole p bears = let does = field_write g s slot f new ok sized free short in (p, (does.0, does.1, does.2))
field_write_keeps g P s grains.Unit slot f new ok sized free short whole p bears =
    pieces_keep g P s slot (place g slot f) new (length new / g.unit) units
    (omega (arith, short, field_ends g slot f ok, sized_is g s slot sized))
    (λ i h. blank_byte g s slot f i free (omega (arith, h, short)))
    (λ j t h part.
    let row : (j + 1) * g.unit ≤ length new / g.unit * g.unit = mul-le-mul_right g.unit (omega (arith, h)) in
    bears (j * g.unit) t refl (omega (arith, row, units)) part)
  where
    units : length new ≡ length new / g.unit * g.unit
    units = let parts = mod-add-div' (length new) g.unit in omega (arith, parts, whole)

-- fields and entries are in the trailer
pub place_beyond_data : (g : Geometry) (slot : Slot) (f : Field) → IsLayout g → data_end g slot ≤ place g slot f
place_beyond_data g slot f ok = let beyond = field_beyond_data g slot f ok in omega (arith, beyond)

-- A boot whose list can be applied whole.

pub record Ends (r : Rules) (g : Geometry) (Q : Content → Type 0) (u z : Content) : Type 0 where
  pub end : left_by (power_on r g u) ≡ Some z
  pub whole : is_faulted (power_on r g u) ≡ false
  pub so : Q z

not_below : (n : ℕ) → nat_lt n n ≡ false
not_below n = grind (arith, nat_tests)

left_whole : (x : PowerOn) (z : Content) → ops_of x ≡ (plan x).list → applied x.geometry (plan x).list x.content ≡ Some z → left_by x ≡ Some z
unfolding left_by at
left_whole x z whole end = ap (λ (l : List Op). applied x.geometry l x.content) (take-length (ops_of x) ∙ whole) ∙ end

not_faulted : (x : PowerOn) → ops_of x ≡ (plan x).list → is_faulted x ≡ false
unfolding is_faulted
not_faulted x whole = ap (λ (l : List Op). nat_lt (length l) (length (plan x).list)) whole ∙ not_below (length (plan x).list)

pub ends : (r : Rules) (g : Geometry) (P Q : Content → Type 0) (u : Content) → Keeps g P (plan (power_on r g u)).list u Q → (z : Content) × Ends r g Q u z
ends r g P Q u keeps =
    let whole = keeps_boot r g P Q u keeps in
    let end = keeps_end g P Q (plan (power_on r g u)).list u keeps in
    (end.0, record { end = left_whole (power_on r g u) end.0 whole end.1; whole = not_faulted (power_on r g u) whole; so = end.2 })

pub boots_so : (x : PowerOn) (z : Content) → left_by x ≡ Some z → is_faulted x ≡ false → (plan x).kind ≢ kinds.Panic → is_valid z.primary ≡ true
    → option_map (λ o. o.result) (outcome_of x) ≡ Some results.Boot
unfolding outcome_of report
boots_so from z end whole not_panic valid = grind arith
