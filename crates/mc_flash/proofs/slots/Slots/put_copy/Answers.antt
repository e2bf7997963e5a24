use Rattle.std.proofs.{Common.{◌≡◌, ℕ, List, [], ◌+◌, ◌≤◌, length, ap, subst, ◌∙◌, arith}, lemmas.Grind.{common_steps}, lemmas.List.{with_items_is}}
use Rattle.std.specs.List.{between}
use Rattle.mc_flash.specs.{Flash.{Content, bytes_of, with_bytes, put, size_of}, declared.op.Slot.{Slot}, declared.op.Slot.TheVariants.{Primary, Secondary}}
use Rattle.mc_flash.proofs.slots.Slots.put_copy.Goals as goal

-- As many bytes as the secondary slot has.
long : (c : goal.After-deref_mut-in-Secondary-Secondary) → length c.deref_mut-in-Secondary-Secondary.result.now ≡ size_of c.args.self.now.layout Secondary
long c =
    ap length c.deref_mut-in-Secondary-Secondary.ensures.value ∙ ap (λ (s : Content). length s.secondary) c.secondary.view_is ∙ c.args.self.now.sized.secondary

pub copy_part-requires-in-Secondary-Secondary-clause-source : goal.copy_part-requires-in-Secondary-Secondary-clause-source
copy_part-requires-in-Secondary-Secondary-clause-source c =
    let inside = subst (λ (s : Slot). c.args.at + c.args.len ≤ size_of c.args.self.now.layout s) c.in-Secondary-Secondary.is-0 c.requires.source in
    omega (arith, long c, inside)

pub copy_part-requires-in-Secondary-Secondary-clause-target : goal.copy_part-requires-in-Secondary-Secondary-clause-target
copy_part-requires-in-Secondary-Secondary-clause-target c =
    let inside = subst (λ (s : Slot). c.args.offset + c.args.len ≤ size_of c.args.self.now.layout s) c.in-Secondary-Secondary.is-1 c.requires.target in
    omega (arith, long c, inside)

copied : (s : Content) (from to : Slot) (at offset len : ℕ) (primary secondary now new : List ℕ) → record { primary = primary; secondary = secondary } ≡ s → from ≡ Secondary → to ≡ Secondary
    → now ≡ secondary → new ≡ put now offset (between at (at + len) now)
    → record { primary = primary; secondary = new } ≡ with_bytes s to (put (bytes_of s to) offset (between at (at + len) (bytes_of s from)))
copied s Primary to at offset len primary secondary now new e f t n m = absurd cc
copied s Secondary Primary at offset len primary secondary now new e f t n m = absurd cc
copied s Secondary Secondary at offset len primary secondary now new e f t n m =
    let first = ap (λ (z : Content). z.primary) e in
    let second = n ∙ ap (λ (z : Content). z.secondary) e in
    let both = m ∙ ap (λ z. put z offset (between at (at + len) z)) second in
    cc

pub returns-in-Secondary-Secondary-clause-content : goal.returns-in-Secondary-Secondary-clause-content
returns-in-Secondary-Secondary-clause-content c =
    let is = c.in-Secondary-Secondary in
    let old = c.deref_mut-in-Secondary-Secondary in
    let new = c.copy_part-in-Secondary-Secondary.new.bytes in
    let whole = with_items_is c.secondary.inside.secondary new (omega (arith, ap length old.ensures.value, c.secondary.inside.secondary.ok.0)) in
    ap (λ z. with_bytes (record { primary = c.secondary.inside.primary.items; secondary = [] }) Secondary z) whole
    ∙ copied c.args.self.now.content c.args.from c.args.to c.args.at c.args.offset c.args.len _ _ old.result.now new c.secondary.view_is is.is-0 is.is-1 old.ensures.value
    c.copy_part-in-Secondary-Secondary.ensures

pub invariant_of-self : goal.invariant_of-self
invariant_of-self c = grind (arith, common_steps)

pub invariant_of-self-in-Primary-Secondary : goal.invariant_of-self-in-Primary-Secondary
invariant_of-self-in-Primary-Secondary c = grind (arith, common_steps)

pub invariant_of-self-in-Secondary-Secondary : goal.invariant_of-self-in-Secondary-Secondary
invariant_of-self-in-Secondary-Secondary c = grind (arith, common_steps)

pub invariant_of-self-in-Secondary-Primary : goal.invariant_of-self-in-Secondary-Primary
invariant_of-self-in-Secondary-Primary c = grind (arith, common_steps)
