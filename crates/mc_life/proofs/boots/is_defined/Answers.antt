use Rattle.std.proofs.Common.{List, ℕ, length, sym, ap, ◌∙◌}
use Rattle.std.specs.Option.{is_some}
use Rattle.mc_flash.specs.{Flash.{apply}, declared.op.Op.{Op}}
use Rattle.mc_life.proofs.Booting.{copy_defined}
use Rattle.mc_life.proofs.boots.is_defined.Goals as goal

pub returns-in-Copy : goal.returns-in-Copy
returns-in-Copy g c =
    let f = g.F.Flash.seen c.args.flash.now in
    let ok = rw c.in-Copy.is at c.requires in
    let long = sym (ap (λ (z : List ℕ). length z) c.read-from.ensures.value) ∙ c.read-from.ensures.len in
    let free = copy_defined f.geometry f.content c.in-Copy.from c.in-Copy.to c.in-Copy.field-1 c.in-Copy.offset c.in-Copy.len ok.0.inside long in
    c.is_free-in-Copy.ensures ∙ free ∙ ap (λ (op : Op). is_some (apply f.geometry op f.content)) (sym c.in-Copy.is)
