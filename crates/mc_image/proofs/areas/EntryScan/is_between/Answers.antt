use Rattle.std.proofs.Common.{◌∙◌, inl, inr}
use Rattle.mc_image.proofs.Scans.{between_head, between_value, between_digest}
use Rattle.mc_image.proofs.areas.EntryScan.is_between.Goals as goal

pub returns-in-Head : goal.returns-in-Head
returns-in-Head c = λ bytes h. c.is_empty.ensures ∙ between_head c.args.self.now c.in-Head.head bytes c.in-Head.is h

pub returns-in-Value : goal.returns-in-Value
returns-in-Value c = λ bytes h.
    elim c.in-Value.is [
      | inl at ↦ between_value c.args.self.now at.0 bytes at.1 h
      | inr at ↦ between_digest c.args.self.now at.0 at.1 bytes at.2 h
    ]
