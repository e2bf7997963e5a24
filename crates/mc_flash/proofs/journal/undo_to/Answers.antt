use Rattle.std.proofs.Common.{◌≡◌, ◌+◌, ◌-◌, ◌≤◌, length, refl, sym, ap, subst, ◌∙◌, arith}
use Rattle.std.specs.List.{AllByRecursion}
use Rattle.mc_flash.specs.{Geometry.{Geometry}, Flash.{bytes_of, with_bytes, put}, inner.Journal.{Journal, journal_with, IsInside}}
use Rattle.mc_flash.specs.declared.entry.Entry.TheVariants.{Written, Erased}
use Rattle.mc_flash.proofs.Undo.{by_write, same_earlier, newest, same_prefix, saved_last, erase_undone}
use Rattle.mc_flash.proofs.journal.undo_to.Goals as goal

pub undo-preserved-in-Written : goal.undo-preserved-in-Written
undo-preserved-in-Written c =
    let i = c.undo.invariant in
    let w = c.in-Written in
    let j : Journal = journal_with c.undo.entries.items c.undo.saved.items in
    let left : Journal = journal_with c.pop.new.self.items c.undo.saved.items in
    let top = newest c.undo.slots.layout j left.entries _ (Written w.slot w.at w.len) i.journal c.in-Some.ensures.items w.is in
    let early : c.args.count ≤ length left.entries = omega (arith, top.fewer, c.undo-test.true) in
    let grown = by_write left j w.slot w.at w.len top.entries refl in
    record {
      above = early;
      left = same_prefix c.undo.slots.layout j left.entries _ top c.args.count early ∙ i.left;
      journal = record {
        saved_for = omega (arith, top.saves);
        inside = subst (λ (g : Geometry). AllByRecursion (IsInside g) left.entries) (sym c.fill.ensures.layout) top.inside_before;
      };
      layout = c.fill.ensures.layout ∙ i.layout;
      room_entries = c.pop.ensures.capacity ∙ i.room_entries;
      room_saved = i.room_saved;
      same = λ n h. sym (same_earlier left j _ _ grown c.fill.new.self.content c.undo.slots.content n (sym c.fill.ensures.content) (omega (arith, h, early))) ∙ i.same n h;
    }

pub overflow_sub-from : goal.overflow_sub-from
overflow_sub-from c =
    let e = c.in-Erased in
    let j : Journal = journal_with c.undo.entries.items c.undo.saved.items in
    let top = newest c.undo.slots.layout j c.pop.new.self.items _ (Erased e.slot e.at e.len) c.undo.invariant.journal c.in-Some.ensures.items e.is in
    omega (arith, top.saves, c.undo.saved.ok.0)

pub put-requires : goal.put-requires
put-requires c =
    let e = c.in-Erased in
    let j : Journal = journal_with c.undo.entries.items c.undo.saved.items in
    let top = newest c.undo.slots.layout j c.pop.new.self.items _ (Erased e.slot e.at e.len) c.undo.invariant.journal c.in-Some.ensures.items e.is in
    let last = saved_last c.undo.slots.layout j c.pop.new.self.items _ top (c.len-in-Erased.result - e.len) c.deref.result.now c.deref.ensures.value (omega (arith, top.saves, c.undo.saved.ok.0)) in
    omega (arith, ap length last.0, last.1, top.inside)

pub undo-preserved-in-Erased : goal.undo-preserved-in-Erased
undo-preserved-in-Erased c =
    let i = c.undo.invariant in
    let e = c.in-Erased in
    let j : Journal = journal_with c.undo.entries.items c.undo.saved.items in
    let left : Journal = journal_with c.pop.new.self.items c.truncate.new.self.items in
    let top = newest c.undo.slots.layout j left.entries _ (Erased e.slot e.at e.len) i.journal c.in-Some.ensures.items e.is in
    let early : c.args.count ≤ length left.entries = omega (arith, top.fewer, c.undo-test.true) in
    let whole : c.len-in-Erased.result - e.len + e.len ≡ length c.undo.saved.items = omega (arith, top.saves, c.undo.saved.ok.0) in
    let last = saved_last c.undo.slots.layout j left.entries _ top (c.len-in-Erased.result - e.len) c.deref.result.now c.deref.ensures.value whole in
    let rest = erase_undone c.undo.slots.layout j left.entries e.slot e.at e.len (c.len-in-Erased.result - e.len) left.saved top whole c.truncate.ensures.items in
    let back = c.put.ensures.content ∙ ap (λ z. with_bytes c.undo.slots.content e.slot (put (bytes_of c.undo.slots.content e.slot) e.at z)) last.0 in
    record {
      above = early;
      left = same_prefix c.undo.slots.layout j left.entries _ top c.args.count early ∙ i.left;
      journal = record {
        saved_for = omega (arith, rest.0, whole, top.saves);
        inside = subst (λ (g : Geometry). AllByRecursion (IsInside g) left.entries) (sym c.put.ensures.layout) top.inside_before;
      };
      layout = c.put.ensures.layout ∙ i.layout;
      room_entries = c.pop.ensures.capacity ∙ i.room_entries;
      room_saved = c.truncate.ensures.capacity ∙ i.room_saved;
      same = λ n h. sym (same_earlier left j _ _ rest.1 c.put.new.self.content c.undo.slots.content n (sym back) (omega (arith, h, early))) ∙ i.same n h;
    }
