use Rattle.std.proofs.{Common.{◌++◌, [], ◌∷◌, subst, ap, ◌∙◌, arith}, lemmas.List.{length-map}}
use Rattle.std.specs.{Prelude.{Ok}, Vec.{vec_capacity}}
use Rattle.mc_flash.specs.{Usage.{room_for, Seen, Marks}, inner.Journal.{limits_of, Journal, journal_with, seen_of, checkpoint_after}}
use Rattle.mc_flash.proofs.Undo.{sound_marked, marks_more}
use Rattle.mc_flash.proofs.journal.JournalFlashFlash.mark.Goals as goal

pub invariant_of-self-2 : goal.invariant_of-self-2
invariant_of-self-2 c =
    let f = c.self.inside in
    sound_marked f.slots.layout (limits_of f.reserve) _ (journal_with f.entries.items f.saved.items) f.checkpoints.items c.self.invariant
    (room_for (vec_capacity f.entries) (vec_capacity f.saved) (vec_capacity c.push.new.self)) c.push.new.self.items
    (c.in_ok-push.ensures.items ∙ ap (λ z. f.checkpoints.items ++ z ∷ []) (omega (arith, f.entries.ok.0)))
    (record { entries = omega arith; saved = omega arith; checkpoints = c.push.ensures.capacity }) (omega (arith, f.checkpoints.ok.0))

pub returns : goal.returns
returns c =
    let f = c.self.inside in
    let j : Journal = journal_with f.entries.items f.saved.items in
    let long = length-map f.checkpoints.items (checkpoint_after j f.slots.content) in
    let after : Seen = seen_of f.slots.layout f.slots.content (limits_of f.reserve) j c.push.new.self.items f.applied in
    subst (λ (old : Seen). Marks old (Ok c.len-number.result) after) c.self.view_is (
      omega (arith, long, f.checkpoints.ok.0),
      marks_more f.slots.layout f.slots.content f.reserve j f.checkpoints.items f.applied c.args.self.now c.self.view_is c.push.new.self.items c.self.invariant.journal.saved_for
          (c.in_ok-push.ensures.items ∙ ap (λ z. f.checkpoints.items ++ z ∷ []) (omega (arith, f.entries.ok.0))),
      λ _ full. omega (arith, full, long, f.checkpoints.ok.0),
    )
