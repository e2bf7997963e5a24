-- The flash that a patch makes of the start's is the one that it was made of.
use Rattle.std.specs.Prelude.{◌≡◌, ℕ, zero, suc, ◌+◌, ◌-◌, ◌*◌, ◌<◌, ◌≤◌, ◌&&◌, ◌==◌, Bool, true, false, if◌then◌else◌, List, [], ◌∷◌, ◌++◌, length, take, drop, replicate, Option, Some, None, bytes_eq, refl}
use Rattle.std.specs.List.{between}
use Rattle.std.proofs.{Common.{arith, sym, ap, ◌∙◌, append_assoc, append-nil, take-add, take-append-drop}, Math.Path.{ap₂}, lemmas.Bool.{eqb-true}}
use Rattle.std.proofs.{lemmas.List.{drop-drop, drop_all, drop_at, length-take, length-take-le, take_all, take_at}, lemmas.List.Edits.{length-between}}
use Rattle.std.proofs.lemmas.Slice.Eq.{bytes_eq-Decides}
use Rattle.mc_flash.specs.{Flash.{Content, IsSized, bytes_of, is_blank, put, sectors_of, size_of, with_bytes}, Geometry.{Geometry}, declared.op.Slot.{Slot}}
use Rattle.mc_flash.specs.{declared.op.Slot.TheVariants.{Primary, Secondary}, facts.Layouts.{sector_inside}}
use Rattle.mc_trace.specs.Patch.{Blank, Change, change_of, changed, changes, changes_from, held_or, patched, slot_changes, source_bytes, source_of, with_sector}
use Rattle.mc_trace.specs.Sectors.{first_like, first_of, origin_of, sector_of}

-- A source names the bytes of which it was made.

both : (p q : Bool) → (p && q) ≡ true → (p ≡ true) × (q ≡ true)
both true true e = (refl, refl)
both true false e = absurd (cc)
both false q e = absurd (cc)

blank_is : (bytes : List ℕ) → is_blank bytes ≡ true → replicate (length bytes) 255 ≡ bytes
blank_is [] e = refl
blank_is (b ∷ bs) e =
    let parts = both (b == 255) (is_blank bs) e in
    ap₂ (λ (x : ℕ) (l : List ℕ). x ∷ l) (sym (eqb-true b 255 parts.0)) (blank_is bs parts.1)

sector_short : (g : Geometry) (slot : List ℕ) (i : ℕ) → length (sector_of g slot i) ≤ g.sector
sector_short g slot i = omega (arith, length-take (i * g.sector + g.sector - i * g.sector) (drop (i * g.sector) slot))

-- A sector that begins with bytes of its length holds them.
like_here : (g : Geometry) (slot bytes : List ℕ) (i : ℕ) → length bytes ≡ g.sector → bytes_eq (take (length bytes) (sector_of g slot i)) bytes ≡ true → sector_of g slot i ≡ bytes
like_here g slot bytes i len same = grind (arith, take_all, sector_short, bytes_eq-Decides)

like_first : (g : Geometry) (slot bytes : List ℕ) (i j : ℕ) (rest : Option ℕ) (t : Bool) → length bytes ≡ g.sector
    → bytes_eq (take (length bytes) (sector_of g slot i)) bytes ≡ t → (rest ≡ Some j → sector_of g slot j ≡ bytes)
    → (if t then Some i else rest) ≡ Some j → sector_of g slot j ≡ bytes
like_first g slot bytes i j rest true len same later e = grind (arith, like_here)
like_first g slot bytes i j rest false len other later e = later e

like_is : (g : Geometry) (slot bytes : List ℕ) (i n j : ℕ) → length bytes ≡ g.sector → first_like g slot bytes i n ≡ Some j → sector_of g slot j ≡ bytes
like_is g slot bytes i zero j len e = absurd (cc)
like_is g slot bytes i (suc n) j len e =
    like_first g slot bytes i j (first_like g slot bytes (i + 1) n) (bytes_eq (take (length bytes) (sector_of g slot i)) bytes) len refl (like_is g slot bytes (i + 1) n j len) e

held_is : (g : Geometry) (start : Content) (bytes : List ℕ) (o p : Option ℕ) → length bytes ≡ g.sector
    → first_like g start.primary bytes 0 g.primary ≡ o → first_like g start.secondary bytes 0 g.secondary ≡ p → source_bytes g start (held_or (first_of o p) bytes) ≡ bytes
held_is g start bytes (Some j) p len first second = like_is g start.primary bytes 0 g.primary j len first
held_is g start bytes None (Some j) len first second = like_is g start.secondary bytes 0 g.secondary j len second
held_is g start bytes None None len first second = refl

chosen_is : (g : Geometry) (start : Content) (bytes : List ℕ) (t : Bool) → length bytes ≡ g.sector → is_blank bytes ≡ t
    → source_bytes g start (if t then Blank else held_or (origin_of g start bytes) bytes) ≡ bytes
chosen_is g start bytes true len blank = ap (λ (n : ℕ). replicate n 255) (sym len) ∙ blank_is bytes blank
chosen_is g start bytes false len blank = grind (arith, held_is)

source_is : (g : Geometry) (start : Content) (bytes : List ℕ) → length bytes ≡ g.sector → source_bytes g start (source_of g start bytes) ≡ bytes
unfolding source_of
source_is g start bytes len = chosen_is g start bytes (is_blank bytes) len refl

-- The first bytes as they are now, and the others as they were.
abbrev mixed : List ℕ → List ℕ → ℕ → List ℕ
mixed was now at = take at now ++ drop at was

module _ (was now : List ℕ) (at size : ℕ) where
  piece : (l : List ℕ) → between at (at + size) l ≡ take size (drop at l)
  piece l = let e : at + size - at ≡ size = omega arith in ap (λ n. take n (drop at l)) e

  longer : take (at + size) now ≡ take at now ++ between at (at + size) now
  longer = take-add at size now ∙ ap (λ l. take at now ++ l) (sym (piece now))

  shorter : drop at was ≡ between at (at + size) was ++ drop (at + size) was
  shorter = sym (take-append-drop size (drop at was)) ∙ ap₂ (λ (x y : List ℕ). x ++ y) (sym (piece was)) (drop-drop size at was)

  joined : take at now ++ (between at (at + size) now ++ drop (at + size) was) ≡ mixed was now (at + size)
  joined = sym (append_assoc (take at now) (between at (at + size) now) (drop (at + size) was)) ∙ ap (λ l. l ++ drop (at + size) was) (sym longer)

  piece_long : at + size ≤ length now → length (between at (at + size) now) ≡ size
  piece_long inside = grind (arith, length-between)

  -- A piece that is as it was.
  same_mixed : between at (at + size) now ≡ between at (at + size) was → mixed was now at ≡ mixed was now (at + size)
  same_mixed same = ap (λ l. take at now ++ l) (shorter ∙ ap (λ l. l ++ drop (at + size) was) (sym same)) ∙ joined

  -- A piece that is put there.
  put_mixed : at + size ≤ length now → put (mixed was now at) at (between at (at + size) now) ≡ mixed was now (at + size)
  put_mixed inside =
      let begun = length-take-le at now (omega (arith, inside)) in
      let long : at + length (between at (at + size) now) ≡ at + size = ap (λ n. at + n) (piece_long inside) in
      let front = take_at (take at now) (drop at was) at begun in
      let back : drop (at + length (between at (at + size) now)) (mixed was now at) ≡ drop (at + size) was =
      ap (λ n. drop n (mixed was now at)) long ∙ sym (drop-drop size at (mixed was now at))
      ∙ ap (drop size) (drop_at (take at now) (drop at was) at begun) ∙ drop-drop size at was in
      ap₂ (λ (x y : List ℕ). x ++ (between at (at + size) now ++ y)) front back ∙ joined

-- A slot, changed sector by sector.

with_bytes_of : (s : Content) (slot : Slot) → with_bytes s slot (bytes_of s slot) ≡ s
with_bytes_of s Primary = refl
with_bytes_of s Secondary = refl

with_sector_is : (g : Geometry) (s : Content) (slot : Slot) (i : ℕ) (now bytes : List ℕ) → with_sector g (with_bytes s slot now) slot i bytes ≡ with_bytes s slot (put now (i * g.sector) bytes)
with_sector_is g s Primary i now bytes = refl
with_sector_is g s Secondary i now bytes = refl

module _ (g : Geometry) (start : Content) where
  changed-append : (cs ds : List Change) (s : Content) → changed g start (cs ++ ds) s ≡ changed g start ds (changed g start cs s)
  changed-append [] ds s = refl
  changed-append (c ∷ cs) ds s = changed-append cs ds (with_sector g s c.slot c.sector (source_bytes g start c.source))

  module _ (slot : Slot) (now : List ℕ) (s : Content) (len : length now ≡ size_of g slot) where
    abbrev was : List ℕ
    was = bytes_of start slot

    -- Its sectors before this are as they are now.
    abbrev begun : ℕ → Content
    begun i = with_bytes s slot (mixed was now (i * g.sector))

    next_sector : (i : ℕ) → with_bytes s slot (mixed was now (i * g.sector + g.sector)) ≡ begun (i + 1)
    next_sector i = let e : i * g.sector + g.sector ≡ (i + 1) * g.sector = omega arith in ap (λ n. with_bytes s slot (mixed was now n)) e

    module _ (i : ℕ) (below : i < sectors_of g slot) where
      inside : i * g.sector + g.sector ≤ length now
      inside = omega (arith, len, sector_inside g slot i below)

      sector_long : length (sector_of g now i) ≡ g.sector
      sector_long = piece_long was now (i * g.sector) g.sector inside

      by : (t : Bool) → bytes_eq (sector_of g now i) (sector_of g was i) ≡ t
          → changed g start (if t then [] else record { slot = slot; sector = i; source = source_of g start (sector_of g now i) } ∷ []) (begun i) ≡ begun (i + 1)
      by true same =
          let e = (bytes_eq-Decides (sector_of g now i) (sector_of g was i)).0 same in
          ap (with_bytes s slot) (same_mixed was now (i * g.sector) g.sector e) ∙ next_sector i
      by false other =
          ap (with_sector g (begun i) slot i) (source_is g start (sector_of g now i) sector_long)
          ∙ with_sector_is g s slot i (mixed was now (i * g.sector)) (sector_of g now i)
          ∙ ap (with_bytes s slot) (put_mixed was now (i * g.sector) g.sector inside) ∙ next_sector i

      sector_changed : changed g start (change_of g start slot i (sector_of g now i)) (begun i) ≡ begun (i + 1)
      unfolding change_of
      sector_changed = by (bytes_eq (sector_of g now i) (sector_of g was i)) refl

    module _ (sized : length was ≡ size_of g slot) where
      all_now : mixed was now (size_of g slot) ≡ now
      all_now = grind (arith, take_all, drop_all, append-nil)

      rest_changed : (k i : ℕ) → i + k ≡ sectors_of g slot → changed g start (changes_from g start slot now i k) (begun i) ≡ with_bytes s slot now
      rest_changed zero i count = grind (arith, all_now)
      rest_changed (suc k) i count =
          changed-append (change_of g start slot i (sector_of g now i)) (changes_from g start slot now (i + 1) k) (begun i)
          ∙ ap (changed g start (changes_from g start slot now (i + 1) k)) (sector_changed i (omega (arith, count)))
          ∙ rest_changed k (i + 1) (omega (arith, count))

      slot_changed : bytes_of s slot ≡ was → changed g start (slot_changes g start slot now) s ≡ with_bytes s slot now
      slot_changed same =
          let e : 0 * g.sector ≡ 0 = omega arith in
          let none : begun 0 ≡ s = ap (λ n. with_bytes s slot (mixed was now n)) e ∙ ap (with_bytes s slot) (sym same) ∙ with_bytes_of s slot in
          ap (changed g start (slot_changes g start slot now)) (sym none) ∙ rest_changed (sectors_of g slot) 0 (omega arith)

-- Both slots.
pub patch_makes : (g : Geometry) (start s : Content) → IsSized g start → IsSized g s → patched g start (changes g start s) ≡ s
patch_makes g start s was now =
    changed-append g start (slot_changes g start Primary s.primary) (slot_changes g start Secondary s.secondary) start
    ∙ ap (changed g start (slot_changes g start Secondary s.secondary)) (slot_changed g start Primary s.primary start now.primary was.primary refl)
    ∙ slot_changed g start Secondary s.secondary (with_bytes start Primary s.primary) now.secondary was.secondary refl

-- Contents as large as the slots.
pub sized : (g l : Geometry) (s : Content) (primary secondary : List ℕ) → l ≡ g → primary ≡ s.primary → length primary ≡ size_of l Primary
    → secondary ≡ s.secondary → length secondary ≡ size_of l Secondary → IsSized g s
sized g l s primary secondary same is_primary long_primary is_secondary long_secondary = grind arith
