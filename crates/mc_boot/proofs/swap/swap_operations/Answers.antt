use Rattle.mc_flash.specs.declared.op.Op.{Op}
use Rattle.std.proofs.Common.{List, ap, length, sym, ◌∙◌}
use Rattle.mc_boot.proofs.{RestartProof.{makes_swap}, Sections.{same_length}}
use Rattle.mc_boot.proofs.swap.swap_operations.Goals as goal

pub returns-clause-made : goal.returns-clause-made
returns-clause-made c =
    makes_swap (record { begins = c.one_reading.ensures.begins; same = c.same_prefix.ensures.id }) c.args.grain c.args.layout.now c.len.result c.greatest_sectors.ensures.valid
    (λ size. same_length c.args.grain _ _ size 0 ∙ sym (rw (c.in_pieces.ensures, c.greatest_sectors.ensures.value) at (c.len.ensures.len ∙ ap (λ (l : List Op). length l) c.new-course.ensures.list)))

pub returns-clause-value : goal.returns-clause-value
returns-clause-value c =
    (rw (c.in_pieces.ensures, c.greatest_sectors.ensures.value) at (c.len.ensures.len ∙ ap (λ (l : List Op). length l) c.new-course.ensures.list))
    ∙ same_length c.args.grain _ _ 0 _
