-- Flashes that boots treat alike, as losses of power leave them: what may differ, and that an erase or a write of the secondary's trailer
-- leaves such again, whole or torn.
use Rattle.std.proofs.{Common.{ap, arith, inl, inr, sym, ◌∙◌}, Math.Nat.{mul-le-mul_right}, lemmas.Bool.{cases_eq}, lemmas.Bool.Decides.{nat_tests}}
use Rattle.std.specs.Prelude.{Bool, List, Some, false, length, not, refl, replicate, slice_get, true, ℕ, ◌*◌, ◌++◌, ◌+◌, ◌-◌, ◌<◌, ◌==◌, ◌≡◌, ◌≤◌, ◌||◌, ◌⊎◌}
use Rattle.mc_boot.proofs.{Keeps.{field_in_last}}
use Rattle.std.specs.Int.{div_ceil}
use Rattle.mc_tear.proofs.Behind.{EndsBefore, HoldsAll, next_sector}
use Rattle.mc_boot.specs.{Plan.{first_left, images_of, transfers}, Torn.{IsTorn}, declared.transfer.Transfer.{Transfer}}
use Rattle.mc_boot.proofs.Transfers.{entry_number}
use Rattle.mc_flash.specs.{Flash.{Content, IsSized, apply, byte, sectors_of, size_of}, Geometry.{Geometry, IsLayout, greatest_sectors}, declared.op.Op.{Op}}
use Rattle.mc_flash.specs.{declared.op.Op.TheVariants.{Erase, Program}, declared.op.Slot.{Slot}, declared.op.Slot.TheVariants.{Primary, Secondary}}
use Rattle.mc_flash.specs.facts.{Changes.{Changed, erase_changes, sized_is}, Layouts.{data_end, data_sectors, sector_inside, trailer_leaves_one}}
use Rattle.mc_tear.proofs.{Lists.{InTrailer}, Midway.{IsUnderWay}, Near.{Near, Outer, in_sector, nowhere}, NearSecond.{second_torn}, NearTorn.{GoesOn, Leaves, before, behind, within}, Opening.{Asks, CanBegin, IsClear}, Read.{torn_kept}}
use Rattle.mc_tear.specs.Cases.{is_rough, may_change, may_change_at, tearing_of}
use Rattle.mc_tear.specs.declared.torn.Erasing.{Erasing}
use Rattle.mc_trailer.specs.{Tables.{is_resumed}, Trailer.{flag_of, highest_entry, is_written, place, room, trailer_of}, declared.places.Field.{Field}, declared.tables.Rules.{Rules}}
use Rattle.mc_trailer.specs.{declared.trailer.Flag.{Flag}, declared.trailer.Trailer.{Trailer}}
use Rattle.mc_tear.specs.declared.torn.Erasing.TheVariants as erasings
use Rattle.mc_trailer.specs.declared.places.Field.TheVariants as field
use Rattle.mc_trailer.specs.declared.trailer.Flag.TheVariants as flags

-- ---- the relation

-- A swap of n sectors is under way by the primary's trailer p, and transfer k is its next.
pub record Held (g : Geometry) (n : ℕ) (p : Trailer) (k : ℕ) (s : Content) : Type 0 where
  pub primary : trailer_of g s Primary ≡ p
  pub left : first_left g n (highest_entry g s) ≡ Some k
  pub free : (d : ℕ) → entry_number g n k ≤ d → d < 3 * g.max_sectors → is_written g s d ≡ false

abbrev pub BlankSecond : Geometry → Content → Type 0
BlankSecond g s = (i : ℕ) → data_end g Secondary ≤ i → i < size_of g Secondary → byte s Secondary i ≡ 255

-- Nothing differs that is read; or a swap is under way, and the sector differs that its next transfer erases; or the secondary asks for a
-- swap, and the primary's trailer differs, which that swap makes anew; or, where erases are rough, the sector behind both images differs, too.
pub data Alike (e : Erasing) (r : Rules) (g : Geometry) (u v : Content) : Type 0 where
  near : Near g nowhere u v → Alike e r g u v
  held : (n k : ℕ) (p : Trailer) (t : Transfer) → n ≤ greatest_sectors g → IsUnderWay g n p → Held g n p k u → slice_get (transfers g n) k ≡ Some t
      → Near g (in_sector g t.to t.to_sector) u v → (is_resumed r.profile g u ≡ true) ⊎ ((e ≡ erasings.Rough) × (k ≡ 0))
      → (k ≡ 0 → e ≡ erasings.Gentle → BlankSecond g u × BlankSecond g v) → Alike e r g u v
  begun : (start : Content) (flag : Flag) → CanBegin g start → IsClear flag → Asks g start flag u → Outer g nowhere u v → Alike e r g u v
  reopened : (start ref : Content) (flag : Flag) → CanBegin g start → IsClear flag → Asks g start flag u
      → Outer g (next_sector g (div_ceil (images_of start).size g.sector)) u v → EndsBefore g (div_ceil (images_of start).size g.sector) ref
      → HoldsAll g (div_ceil (images_of start).size g.sector) ref u → HoldsAll g (div_ceil (images_of start).size g.sector) ref v
      → images_of start ≡ images_of ref → e ≡ erasings.Rough → Alike e r g u v

-- Both stand so before an operation, and whatever it leaves torn of the second, some loss leaves of the first.
abbrev pub Tears : Erasing → Rules → Geometry → Content → Content → Op → List Op → Type 0
Tears e r g s t op ops =
    Alike e r g s t × ((v : Content) → IsTorn (tearing_of e) g op t v → (u : Content) × Leaves e g op ops s u × Alike e r g u v)

pub leaves_open : (e : Erasing) (g : Geometry) (op : Op) (ops more : List Op) (s u : Content) → Leaves e g op ops s u → Leaves e g op (ops ++ more) s u
leaves_open e g op ops more s u (before same) = before same
leaves_open e g op ops more s u (behind made goes) = behind made (goes.0, goes.1 ++ more, ap (λ (xs : List Op). xs ++ more) goes.2, goes.3, goes.4)
leaves_open e g op ops more s u (within reading case made) = within reading case made

pub tears_open : (e : Erasing) (r : Rules) (g : Geometry) (s t : Content) (op : Op) (ops more : List Op) → Tears e r g s t op ops → Tears e r g s t op (ops ++ more)
tears_open e r g s t op ops more is = (is.0, λ v torn_v. let u = is.1 v torn_v in (u.0, leaves_open e g op ops more s u.0 u.1, u.2))

-- ---- an erase of a sector of the secondary's trailer

kept_parts : (b : Bool) (n m : ℕ) → (b || not (n == m)) ≡ false → (n ≡ m) × (b ≡ false)
kept_parts b n m is = grind (arith, nat_tests)

module _ (e : Erasing) (g : Geometry) (ok : IsLayout g) (H : Slot → ℕ → Type 0) (s t : Content) (is : Near g H s t) (sector : ℕ) (from_data : data_sectors g Secondary ≤ sector)
    (below : sector < sectors_of g Secondary) where
  abbrev erase : Op
  erase = Erase Secondary sector

  pub in_second : InTrailer g Secondary erase
  in_second = (refl, from_data, below)

  -- It is done.
  pub erase_makes : (s : Content) → IsSized g s → (whole : Content) × (apply g erase s ≡ Some whole) × Changed s whole Secondary (sector * g.sector) (replicate g.sector 255)
  erase_makes s sized = erase_changes g s Secondary sector (let inside = sector_inside g Secondary sector below in omega (arith, inside, sized_is g s Secondary sized))

  module _ (v : Content) (torn_v : IsTorn (tearing_of e) g erase t v) where
    -- A byte that it may not change is 0xff, and so in the second.
    quiet : (i : ℕ) → (byte s Secondary i ≡ 255 → byte t Secondary i ≡ 255) → (sector * g.sector ≤ i) × (i < sector * g.sector + g.sector)
        → may_change_at e g erase s i ≡ false → byte v Secondary i ≡ byte s Secondary i
    quiet i over at no_ = by e refl
      where
        here : sector * g.sector + (i - sector * g.sector) ≡ i
        here = omega (arith, at.0)

        not_in : may_change e g erase s (i - sector * g.sector) ≡ false
        not_in = grind (arith, nat_tests)

        parts : (255 ≡ byte s Secondary (sector * g.sector + (i - sector * g.sector))) × (is_rough e erase ≡ false)
        parts = kept_parts (is_rough e erase) 255 (byte s Secondary (sector * g.sector + (i - sector * g.sector))) not_in

        was : byte s Secondary i ≡ 255
        was = ap (byte s Secondary) (sym here) ∙ sym parts.0

        not_t : is_rough e erase ≡ false → may_change_at e g erase t i ≡ false
        not_t fine =
            let now_ : byte t Secondary (sector * g.sector + (i - sector * g.sector)) ≡ 255 = ap (byte t Secondary) here ∙ over was in
            let kept : may_change e g erase t (i - sector * g.sector) ≡ false = rw (fine, now_) refl in
            grind (arith, nat_tests)

        by : (x : Erasing) → e ≡ x → byte v Secondary i ≡ byte s Secondary i
        by x same = torn_kept e g erase t v ok is.outer.sized_v below torn_v i (not_t parts.1) ∙ over was ∙ sym was

    -- The last sector has the fields.
    ways : (f : Field) → ((i : ℕ) → i < room f → (sector * g.sector ≤ place g Secondary f + i) × (place g Secondary f + i < sector * g.sector + g.sector))
        ⊎ ((i : ℕ) → i < room f → (place g Secondary f + i < sector * g.sector) ⊎ (sector * g.sector + g.sector ≤ place g Secondary f + i))
    ways f = elim (cases_eq sector (sectors_of g Secondary - 1 - 0)) [
      | inl last ↦ inl (λ i inside.
          let there = field_in_last g Secondary f i ok inside in
          let rows : sector * g.sector ≡ (sectors_of g Secondary - 1 - 0) * g.sector = ap (λ n. n * g.sector) last in
          (omega (arith, rows, there.0), omega (arith, rows, there.1)))
      | inr other ↦ inr (λ i inside.
          let there = field_in_last g Secondary f i ok inside in
          let rows : (sector + 1) * g.sector ≤ (sectors_of g Secondary - 1 - 0) * g.sector =
          mul-le-mul_right g.sector (let leaves = trailer_leaves_one g Secondary ok in omega (arith, below, other, leaves)) in
          inr (omega (arith, there.0, rows)))
    ]

    flag_over : byte s Secondary (place g Secondary field.ImageOk) ≡ 255 → byte t Secondary (place g Secondary field.ImageOk) ≡ 255
    unfolding trailer_of
    flag_over unset = let same = is.outer.image_ok in unset_by (byte t Secondary (place g Secondary field.ImageOk)) (same ∙ ap flag_of unset)
      where
        unset_by : (q : ℕ) → flag_of q ≡ flags.Unset → q ≡ 255
        unset_by q it = grind arith

    pub erase_torn : (ops : List Op) (whole : Content) → apply g erase s ≡ Some whole → GoesOn g ops whole → (u : Content) × Leaves e g erase ops s u × Near g H u v
    erase_torn ops whole makes goes =
        second_torn e g ok H s t is erase in_second v torn_v
        (λ k short at no_. quiet (place g Secondary field.Magic + k) (is.outer.free k short) at no_)
        (λ at no_. quiet (place g Secondary field.ImageOk) flag_over at no_)
        (λ f. elim (ways f) [ inl all ↦ inl all | inr none ↦ inr (inl none) ])
        ops whole makes goes

-- ---- a write in the secondary's trailer, where both hold the same bytes there

module _ (e : Erasing) (g : Geometry) (ok : IsLayout g) (H : Slot → ℕ → Type 0) (s t : Content) (is : Near g H s t) (at : ℕ) (new : List ℕ) (inside : InTrailer g Secondary (Program Secondary at new))
    (same : (i : ℕ) → data_end g Secondary ≤ i → byte t Secondary i ≡ byte s Secondary i) where
  abbrev write : Op
  write = Program Secondary at new

  pub write_torn : (v : Content) → IsTorn (tearing_of e) g write t v → (ops : List Op) (whole : Content) → apply g write s ≡ Some whole → GoesOn g ops whole
      → (u : Content) × Leaves e g write ops s u × Near g H u v
  write_torn v torn_v ops whole makes goes =
      second_torn e g ok H s t is write inside v torn_v (λ k short there no_. quiet (place g Secondary field.Magic + k) there no_) (λ there no_. quiet (place g Secondary field.ImageOk) there no_)
      (λ f. inr (inr same)) ops whole makes goes
    where
      quiet : (i : ℕ) → (at ≤ i) × (i < at + length new) → may_change_at e g write s i ≡ false → byte v Secondary i ≡ byte s Secondary i
      quiet i there no_ =
          let here : at + (i - at) ≡ i = omega (arith, there.0) in
          let high : data_end g Secondary ≤ i = omega (arith, inside.1, there.0) in
          let alike : byte t Secondary (at + (i - at)) ≡ byte s Secondary (at + (i - at)) = ap (byte t Secondary) here ∙ same i high ∙ sym (ap (byte s Secondary) here) in
          let kept : may_change_at e g write t i ≡ false = rw alike no_ in
          torn_kept e g write t v ok is.outer.sized_v inside.2 torn_v i kept ∙ same i high
