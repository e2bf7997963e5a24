use Rattle.std.proofs.Common.{sym, ◌∙◌}
use Rattle.mc_vectors.proofs.{Differing.{listed_more, no_more}, locating.add_differing.Goals.{then-is_other+in_ok-push, else-is_other}}
use Rattle.mc_vectors.proofs.locating.add_differing.Goals as goal

pub loop-number-preserved : goal.loop-number-preserved
loop-number-preserved g c =
    let f = g.F.Flash.seen c.args.flash.now in
    let t = c.args.wanted.now in
    let n = c.loop-number.number in
    let listed = c.loop-number.invariant in
    elim c.if-is_other.branch [
      | then-is_other+in_ok-push w ↦
          let more = listed_more f.geometry f.content t c.args.slot n c.args.differs.now.items c.loop-number.differs.items listed (sym c.is_other.ensures ∙ w.if-is_other.true) in
          cc (more, w.in_ok-push.ensures.items)
      | else-is_other w ↦
          let same = no_more f.geometry f.content t c.args.slot n (sym c.is_other.ensures ∙ w.if-is_other.false) in
          cc (same, listed)
    ]
