-- Where operations write, and contents that are alike once sectors are erased.
use Rattle.std.proofs.{Common.{arith, inl, inr, length-append, subst, sym, ◌∙◌}, lemmas.Bool.{cases_lt}}
use Rattle.std.proofs.lemmas.List.{get_or_default, length-drop, length-replicate, length-take, same_lists}
use Rattle.std.specs.List.{AllByRecursion}
use Rattle.std.specs.Prelude.{List, Some, [], drop, length, replicate, ℕ, ◌*◌, ◌+◌, ◌-◌, ◌<◌, ◌∷◌, ◌≡◌, ◌≢◌, ◌≤◌, ◌⊎◌}
use Rattle.mc_boot.specs.inner.Meets.{AreThere, IsListed, Sector, WritesIn}
use Rattle.mc_flash.specs.Flash.{Content, IsSized, apply, byte, bytes_of, erased, in_slot, programmed, put, with_bytes}
use Rattle.mc_flash.specs.{Geometry.{Geometry}, declared.op.Op.{Op}, declared.op.Op.TheVariants.{Copy, Erase, Program}, declared.op.Slot.{Slot}}
use Rattle.mc_flash.specs.declared.op.Slot.TheVariants.{Primary, Secondary}
use Rattle.mc_flash.specs.facts.Changes.{Changed, changed, copied, program_changes, program_was_blank, same_content as one_content, sized_is}
use Rattle.mc_flash.specs.facts.Layouts.{sector_inside}

-- A content with some sectors erased, and the operations that it can't be distinguished from.

-- One sector erased, and these sectors, one after another.
abbrev pub erase_in : Geometry → Content → Sector → Content
erase_in g s e = with_bytes s e.slot (erased g.sector e.index (bytes_of s e.slot))

abbrev pub blank : Geometry → List Sector → Content → Content
blank g [] s = s
blank g (e ∷ es) s = blank g es (erase_in g s e)

-- A byte of none of these sectors.
abbrev IsOutside : Geometry → List Sector → Slot → ℕ → Type 0
IsOutside g es slot i = (index : ℕ) → IsListed es slot index → (i < index * g.sector) ⊎ (index * g.sector + g.sector ≤ i)

-- Two contents that differ in these sectors at most.
pub record SameOutside (g : Geometry) (es : List Sector) (s t : Content) : Type 0 where
  pub bytes : (o : Slot) (i : ℕ) → IsOutside g es o i → byte t o i ≡ byte s o i
  pub sizes : (o : Slot) → length (bytes_of t o) ≡ length (bytes_of s o)

pub which_slot : (a b : Slot) → (a ≡ b) ⊎ (a ≢ b)
which_slot a b = grind arith

pub erases : (g : Geometry) (s : Content) (e : Sector) → e.index * g.sector + g.sector ≤ length (bytes_of s e.slot) → Changed s (erase_in g s e) e.slot (e.index * g.sector) (replicate g.sector 255)
erases g s e fits = changed s e.slot (e.index * g.sector) (replicate g.sector 255) (omega (arith, fits, length-replicate {A = ℕ} g.sector 255))

-- Where a byte lies against an erased sector: in it, in the slot beside it, or in the other slot.
erase_apart : (g : Geometry) (s t : Content) (e : Sector) (es : List Sector) → e.index * g.sector + g.sector ≤ length (bytes_of s e.slot) → e.index * g.sector + g.sector ≤ length (bytes_of t e.slot)
    → SameOutside g (e ∷ es) s t → SameOutside g es (erase_in g s e) (erase_in g t e)
erase_apart g s t e es fits_s fits_t same = record {
  bytes = λ o i outside. by o i outside (which_slot o e.slot);
  sizes = λ o. to.sizes o ∙ same.sizes o ∙ sym (from.sizes o);
}
  where
    from : Changed s (erase_in g s e) e.slot (e.index * g.sector) (replicate g.sector 255)
    from = erases g s e fits_s

    to : Changed t (erase_in g t e) e.slot (e.index * g.sector) (replicate g.sector 255)
    to = erases g t e fits_t

    wide : length {A = ℕ} (replicate g.sector 255) ≡ g.sector
    wide = length-replicate {A = ℕ} g.sector 255

    beside : (o : Slot) (i : ℕ) → IsOutside g es o i → ((o ≡ e.slot) → (i < e.index * g.sector) ⊎ (e.index * g.sector + g.sector ≤ i)) → byte t o i ≡ byte s o i
    beside o i outside apart = same.bytes o i (λ index. elim [
      | inl head ↦ subst (λ (n : ℕ). (i < n * g.sector) ⊎ (n * g.sector + g.sector ≤ i)) (sym head.1) (apart head.0)
      | inr listed ↦ outside index listed
    ])

    within : (i : ℕ) → i < g.sector → byte (erase_in g t e) e.slot (e.index * g.sector + i) ≡ byte (erase_in g s e) e.slot (e.index * g.sector + i)
    within i short = to.inside i (omega (arith, wide, short)) ∙ sym (from.inside i (omega (arith, wide, short)))

    inner : (i k : ℕ) → e.index * g.sector + k ≡ i → k < g.sector → byte (erase_in g t e) e.slot i ≡ byte (erase_in g s e) e.slot i
    inner i k at short = subst (λ (n : ℕ). byte (erase_in g t e) e.slot n ≡ byte (erase_in g s e) e.slot n) at (within k short)

    here : (i : ℕ) → IsOutside g es e.slot i → byte (erase_in g t e) e.slot i ≡ byte (erase_in g s e) e.slot i
    here i outside = elim (cases_lt i (e.index * g.sector)) [
      | inl low ↦ to.before i low ∙ beside e.slot i outside (λ _. inl low) ∙ sym (from.before i low)
      | inr high ↦ elim (cases_lt i (e.index * g.sector + g.sector)) [
        | inl low ↦ inner i (i - e.index * g.sector) (omega (arith, high)) (omega (arith, low, high))
        | inr beyond ↦ to.beyond i (omega (arith, wide, beyond)) ∙ beside e.slot i outside (λ _. inr beyond) ∙ sym (from.beyond i (omega (arith, wide, beyond)))
      ]
    ]

    by : (o : Slot) (i : ℕ) → IsOutside g es o i → (o ≡ e.slot) ⊎ (o ≢ e.slot) → byte (erase_in g t e) o i ≡ byte (erase_in g s e) o i
    by o i outside (inl is) = rw is (here i (rw is at outside))
    by o i outside (inr no_) = to.other o i no_ ∙ beside o i outside (λ is. absurd (no_ is)) ∙ sym (from.other o i no_)

pub same_bytes : (s t : Content) (o : Slot) → length (bytes_of t o) ≡ length (bytes_of s o) → ((i : ℕ) → byte t o i ≡ byte s o i) → bytes_of t o ≡ bytes_of s o
same_bytes s t o len each = same_lists (bytes_of t o) (bytes_of s o) len (λ k d h.
    get_or_default (bytes_of t o) k d 0 h ∙ each k ∙ sym (get_or_default (bytes_of s o) k d 0 (omega (arith, h, len))))

pub same_content : (s t : Content) → t.primary ≡ s.primary → t.secondary ≡ s.secondary → t ≡ s
same_content s t p q = grind arith

-- what holds of each element, said weaker
pub all_weaker : {A : Type 0} (P Q : A → Type 0) → ((x : A) → P x → Q x) → (xs : List A) → AllByRecursion P xs → AllByRecursion Q xs
all_weaker P Q weaker [] all = tt
all_weaker P Q weaker (x ∷ xs) all = (weaker x all.0, all_weaker P Q weaker xs all.1)

-- The sectors end in the content.
abbrev pub Fit : Geometry → List Sector → Content → Type 0
Fit g es s = AllByRecursion (λ e. e.index * g.sector + g.sector ≤ length (bytes_of s e.slot)) es

pub fit_longer : (g : Geometry) (es : List Sector) (s t : Content) → ((o : Slot) → length (bytes_of s o) ≤ length (bytes_of t o)) → Fit g es s → Fit g es t
fit_longer g es s t longer fits = all_weaker _ _ (λ e fit. omega (arith, longer e.slot, fit)) es fits

-- Blanking leaves nothing of what they differ in.
pub blank_same : (g : Geometry) (es : List Sector) (s t : Content) → Fit g es s → SameOutside g es s t → blank g es t ≡ blank g es s
blank_same g [] s t fits same =
    same_content s t (same_bytes s t Primary (same.sizes Primary) (λ i. same.bytes Primary i (λ index no_. absurd no_)))
    (same_bytes s t Secondary (same.sizes Secondary) (λ i. same.bytes Secondary i (λ index no_. absurd no_)))
blank_same g (e ∷ es) s t fits same =
    blank_same g es (erase_in g s e) (erase_in g t e) (fit_longer g es s (erase_in g s e) (λ o. omega (arith, (erases g s e fits.0).sizes o)) fits.1)
    (erase_apart g s t e es fits.0 (omega (arith, fits.0, same.sizes e.slot)) same)

pub fit_there : (g : Geometry) (es : List Sector) (s : Content) → IsSized g s → AreThere g es → Fit g es s
fit_there g es s sized there = all_weaker _ _ (λ e here. omega (arith, sector_inside g e.slot e.index here, sized_is g s e.slot sized)) es there

listed_fits : (g : Geometry) (es : List Sector) (s : Content) (slot : Slot) (index : ℕ) → Fit g es s → IsListed es slot index → index * g.sector + g.sector ≤ length (bytes_of s slot)
listed_fits g [] s slot index fits listed = absurd listed
listed_fits g (e ∷ es) s slot index fits (inl is) = rw (is.0, is.1) fits.0
listed_fits g (e ∷ es) s slot index fits (inr listed) = listed_fits g es s slot index fits.1 listed

changed_outside : (g : Geometry) (es : List Sector) (s t : Content) (slot : Slot) (at : ℕ) (new : List ℕ) (index : ℕ) → Changed s t slot at new → IsListed es slot index
    → index * g.sector ≤ at → at + length new ≤ index * g.sector + g.sector → SameOutside g es s t
changed_outside g es s t slot at new index ch listed from to = grind arith

short_copy : (s : Content) (from : Slot) (at len : ℕ) → length (copied s from at len) ≤ len
short_copy s from at len = omega (arith, length-take (at + len - at) (drop at (bytes_of s from)))

program_outside : (g : Geometry) (es : List Sector) (s t : Content) (slot : Slot) (at : ℕ) (new : List ℕ) (index : ℕ) → IsListed es slot index → Fit g es s
    → index * g.sector ≤ at → at + length new ≤ index * g.sector + g.sector → apply g (Program slot at new) s ≡ Some t → SameOutside g es s t
program_outside g es s t slot at new index listed fits from to is =
    let inside : at + length new ≤ length (bytes_of s slot) = omega (arith, to, listed_fits g es s slot index fits listed) in
    let made = program_changes g s slot at new inside (program_was_blank g s t slot at new inside is) in
    grind (arith, changed_outside, from, to)

-- An operation changes nothing beside what it writes.
pub op_outside : (g : Geometry) (es : List Sector) (op : Op) (s t : Content) → WritesIn g es op → Fit g es s → apply g op s ≡ Some t → SameOutside g es s t
unfolding apply
op_outside g es (Erase slot sector) s t writes fits is =
    let wide = length-replicate {A = ℕ} g.sector 255 in
    let inside : sector * g.sector + length {A = ℕ} (replicate g.sector 255) ≤ length (bytes_of s slot) = omega (arith, wide, writes.to, listed_fits g es s slot writes.index fits writes.listed) in
    let new : List ℕ = replicate g.sector 255 in
    let made : Changed s (with_bytes s slot (put (bytes_of s slot) (sector * g.sector) new)) slot (sector * g.sector) new = changed s slot (sector * g.sector) new inside in
    rw (← one_content _ t is) (changed_outside g es s _ slot (sector * g.sector) (replicate g.sector 255) writes.index made writes.listed writes.from (omega (arith, wide, writes.to)))
op_outside g es (Program slot at bytes) s t writes fits is = program_outside g es s t slot at bytes writes.index writes.listed fits writes.from writes.to is
op_outside g es (Copy from at to offset len) s t writes fits is = grind (arith, program_outside, short_copy)

-- An operation that writes in these sectors alone does not change what blanking them gives.
pub op_blanked : (g : Geometry) (es : List Sector) (op : Op) (s t : Content) → WritesIn g es op → Fit g es s → apply g op s ≡ Some t → (blank g es t ≡ blank g es s) × Fit g es t
op_blanked g es op s t writes fits is =
    let same = op_outside g es op s t writes fits is in
    (blank_same g es s t fits same, fit_longer g es s t (λ o. omega (arith, same.sizes o)) fits)

-- No operation makes a slot shorter.
longer_put : (xs new : List ℕ) (at : ℕ) → length xs ≤ length (put xs at new)
longer_put xs new at = grind (arith, length-append, length-take, length-drop)

longer_slot : (s : Content) (slot : Slot) (new : List ℕ) → length (bytes_of s slot) ≤ length new → (o : Slot) → length (bytes_of s o) ≤ length (bytes_of (with_bytes s slot new) o)
longer_slot s slot new more o = grind arith

programmed_longer : (s t : Content) (slot : Slot) (at : ℕ) (new : List ℕ) → in_slot s slot (programmed (bytes_of s slot) at new) ≡ Some t → (o : Slot) → length (bytes_of s o) ≤ length (bytes_of t o)
programmed_longer s t slot at new is o = grind (arith, longer_slot, longer_put)

pub op_longer : (g : Geometry) (op : Op) (s t : Content) → apply g op s ≡ Some t → (o : Slot) → length (bytes_of s o) ≤ length (bytes_of t o)
unfolding apply
op_longer g (Erase slot sector) s t is o = grind (arith, longer_put)
op_longer g (Program slot at bytes) s t is o = programmed_longer s t slot at bytes is o
op_longer g (Copy from at to offset len) s t is o = programmed_longer s t to offset (copied s from at len) is o
