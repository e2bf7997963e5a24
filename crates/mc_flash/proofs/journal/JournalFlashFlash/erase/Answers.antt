use Rattle.std.proofs.{Common.{ℕ, [], ◌∷◌, ◌++◌, ◌+◌, ◌*◌, length, ◌<◌, ◌≤◌, ◌^◌, inl, inr, refl, subst, sym, ap, ◌∙◌, arith}, lemmas.List.{length-replicate}}
use Rattle.std.proofs.Math.Nat.{mul-le-mul_right}
use Rattle.std.specs.{Prelude.{replicate}, List.{between}, Vec.{vec_capacity}}
use Rattle.mc_flash.specs.{Geometry.{Geometry, IsLayout}, Flash.{Content, bytes_of, with_bytes, sectors_of, erased}, facts.Changes.{sized_is}}
use Rattle.mc_flash.specs.{facts.Layouts.{sector_inside}, Usage.{room_for, Seen}, inner.Journal.{limits_of, Journal, journal_with}}
use Rattle.mc_flash.specs.{declared.op.Op.TheVariants.{Erase}, declared.op.Slot.{Slot}, declared.op.Slot.TheVariants.{Primary, Secondary}}
use Rattle.mc_flash.specs.declared.entry.Entry.TheVariants.{Erased}
use Rattle.mc_flash.proofs.Undo.{by_erase, erase_back, sound_grown, is_full, does, erase_done}
use Rattle.mc_flash.proofs.journal.JournalFlashFlash.erase.Goals as goal

pub invariant_of-self-2 : goal.invariant_of-self-2
invariant_of-self-2 c =
    let f = c.self.inside in
    let g = f.slots.layout in
    let j : Journal = journal_with f.entries.items f.saved.items in
    let j' : Journal = journal_with c.push.new.self.items c.extend_from_slice.new.self.items in
    let below : c.args.sector < sectors_of g c.args.slot = subst (λ (old : Seen). c.args.sector < sectors_of old.geometry c.args.slot) (sym c.self.view_is) c.requires in
    let size = c.sector-size.ensures.value ∙ ap (λ (x : Geometry). x.sector) c.layout.ensures in
    let entry = c.in_ok-push.ensures.items ∙ ap (λ k. f.entries.items ++ Erased c.args.slot (c.args.sector * k) k ∷ []) size in
    sound_grown g (limits_of f.reserve) _ j f.checkpoints.items c.self.invariant c.erase.new.self.layout
    (room_for (vec_capacity c.push.new.self) (vec_capacity c.extend_from_slice.new.self) (vec_capacity f.checkpoints)) j' _ _
    (by_erase j j' c.args.slot (c.args.sector * g.sector) g.sector c.sector.result.now entry c.in_ok-extend_from_slice.ensures.items c.self.invariant.journal.saved_for c.sector.ensures.len)
    c.erase.ensures.layout (record { entries = c.push.ensures.capacity; saved = c.extend_from_slice.ensures.capacity; checkpoints = omega arith }) (omega (arith, f.entries.ok.0))
    (omega (arith, f.saved.ok.0, c.if-self-len.false, size, c.self.invariant.at_most.saved)) (sector_inside g c.args.slot c.args.sector below)

pub returns-then-len-self : goal.returns-then-len-self
returns-then-len-self c =
    let f = c.self.inside in
    let t : Content = with_bytes f.slots.content c.args.slot (erased f.slots.layout.sector c.args.sector (bytes_of f.slots.content c.args.slot)) in
    is_full f.slots.layout f.slots.content f.reserve (journal_with f.entries.items f.saved.items) f.checkpoints.items f.applied c.args.self.now c.self.view_is (Erase c.args.slot c.args.sector) t
    (erase_done f.slots.layout f.slots.content t c.args.slot c.args.sector refl) (inl (omega (arith, f.entries.ok.0)))

pub returns-then-self-len : goal.returns-then-self-len
returns-then-self-len c =
    let f = c.self.inside in
    let t : Content = with_bytes f.slots.content c.args.slot (erased f.slots.layout.sector c.args.sector (bytes_of f.slots.content c.args.slot)) in
    let size = c.sector-size.ensures.value ∙ ap (λ (x : Geometry). x.sector) c.layout.ensures in
    is_full f.slots.layout f.slots.content f.reserve (journal_with f.entries.items f.saved.items) f.checkpoints.items f.applied c.args.self.now c.self.view_is (Erase c.args.slot c.args.sector) t
    (erase_done f.slots.layout f.slots.content t c.args.slot c.args.sector refl) (inr (omega (arith, f.saved.ok.0, c.if-self-len.true, size, c.self.invariant.at_most.saved)))

pub returns : goal.returns
returns c =
    let f = c.self.inside in
    let g = f.slots.layout in
    let s = f.slots.content in
    let t = c.erase.new.self.content in
    let j : Journal = journal_with f.entries.items f.saved.items in
    let j' : Journal = journal_with c.push.new.self.items c.extend_from_slice.new.self.items in
    let size = c.sector-size.ensures.value ∙ ap (λ (x : Geometry). x.sector) c.layout.ensures in
    let below : c.args.sector < sectors_of g c.args.slot = subst (λ (old : Seen). c.args.sector < sectors_of old.geometry c.args.slot) (sym c.self.view_is) c.requires in
    let fits = sector_inside g c.args.slot c.args.sector below in
    let long = sized_is g s c.args.slot f.slots.sized in
    let entry = c.in_ok-push.ensures.items ∙ ap (λ k. f.entries.items ++ Erased c.args.slot (c.args.sector * k) k ∷ []) size in
    let old = between (c.args.sector * g.sector) (c.args.sector * g.sector + g.sector) (bytes_of s c.args.slot) in
    let grown = by_erase j j' c.args.slot (c.args.sector * g.sector) g.sector old entry (c.in_ok-extend_from_slice.ensures.items ∙ ap (λ z. f.saved.items ++ z) c.sector.ensures.value)
    c.self.invariant.journal.saved_for (omega (arith, c.sector.ensures.len, ap length c.sector.ensures.value)) in
    does g s f.reserve j f.checkpoints.items f.applied c.args.self.now c.self.view_is (Erase c.args.slot c.args.sector) c.erase.new.self.layout t j' c.saturating_add-self-inside.result _ _ grown refl
    (erase_back s t c.args.slot (c.args.sector * g.sector) g.sector (replicate g.sector 255) c.erase.ensures.content (length-replicate g.sector 255) (omega (arith, fits, long)))
    (erase_done g s t c.args.slot c.args.sector c.erase.ensures.content) c.erase.ensures.layout c.self.invariant.ascend c.saturating_add-self-inside.ensures
    (omega (arith, f.entries.ok.0)) (omega (arith, f.saved.ok.0, c.if-self-len.false, size, c.self.invariant.at_most.saved))

pub returns-in_err-extend_from_slice : goal.returns-in_err-extend_from_slice
returns-in_err-extend_from_slice c =
    let size = c.sector-size.ensures.value ∙ ap (λ (x : Geometry). x.sector) c.layout.ensures in
    absurd (omega (arith, c.in_err-extend_from_slice.ensures.full, c.if-self-len.false, c.sector.ensures.len, size, c.self.invariant.room.saved))

pub invariant_of-self : goal.invariant_of-self
invariant_of-self c =
    let size = c.sector-size.ensures.value ∙ ap (λ (x : Geometry). x.sector) c.layout.ensures in
    absurd (omega (arith, c.in_err-extend_from_slice.ensures.full, c.if-self-len.false, c.sector.ensures.len, size, c.self.invariant.room.saved))

pub returns-in_err-push : goal.returns-in_err-push
returns-in_err-push c = absurd (omega (arith, c.in_err-push.ensures.full, c.if-len-self.false, c.self.invariant.room.entries))

pub invariant_of-self-in_err-push : goal.invariant_of-self-in_err-push
invariant_of-self-in_err-push c = absurd (omega (arith, c.in_err-push.ensures.full, c.if-len-self.false, c.self.invariant.room.entries))

pub overflow_sub-self-inside : goal.overflow_sub-self-inside
overflow_sub-self-inside c = omega (arith, c.self.inside.saved.ok.0, c.self.invariant.at_most.saved)

pub sector-requires : goal.sector-requires
sector-requires c = subst (λ (old : Seen). c.args.sector < sectors_of old.geometry c.args.slot) (sym c.self.view_is) c.requires

pub erase-requires : goal.erase-requires
erase-requires c = subst (λ (old : Seen). c.args.sector < sectors_of old.geometry c.args.slot) (sym c.self.view_is) c.requires

small_at : (g : Geometry) (slot : Slot) (i : ℕ) → IsLayout g → i < sectors_of g slot → i * g.sector ≤ 2 ^ 24
small_at g Primary i ok below = let more : i * g.sector ≤ g.primary * g.sector = mul-le-mul_right g.sector (omega arith) in omega (arith, ok.size)
small_at g Secondary i ok below = let more : i * g.sector ≤ g.primary * g.sector = mul-le-mul_right g.sector (omega (arith, ok.counts)) in omega (arith, ok.size)

pub overflow_mul-sector : goal.overflow_mul-sector
overflow_mul-sector c =
    let g = c.self.inside.slots.layout in
    let below = subst (λ (old : Seen). c.args.sector < sectors_of old.geometry c.args.slot) (sym c.self.view_is) c.requires in
    let size = c.sector-size.ensures.value ∙ ap (λ (x : Geometry). x.sector) c.layout.ensures in
    let small = small_at g c.args.slot c.args.sector c.self.invariant.layout below in
    rw size (omega (arith, small))
