use Rattle.std.specs.Prelude.{length, min, ◌+◌, ◌≡◌}
use Rattle.std.proofs.Common.{sym, ◌∙◌}
use Rattle.mc_vectors.specs.inner.Locating.{differing_first}
use Rattle.mc_vectors.proofs.Differing.{count_full, count_none, count_one}
use Rattle.mc_vectors.proofs.locating.count_in.Goals.{then-count-most+then-is_other, else-count-most, else-count-most-via-then-count-most+else-is_other, else-count-most-via-else-count-most}
use Rattle.mc_vectors.proofs.locating.count_in.Goals as goal

pub loop-number-preserved : goal.loop-number-preserved
loop-number-preserved g c =
    let f = g.F.Flash.seen c.args.flash.now in
    let t = c.args.wanted.now in
    let n = c.loop-number.number in
    let most = c.args.most in
    let counted = c.loop-number.invariant in
    elim c.if-count-most.branch [
      | then-count-most+then-is_other w ↦
          w.count-is ∙ count_one f.geometry f.content t c.args.slot n c.loop-number.count most counted w.if-count-most.true (sym w.is_other.ensures ∙ w.if-is_other.true)
      | else-count-most w ↦
          let kept : c.loop-number.count ≡ min most (length (differing_first f.geometry f.content t c.args.slot (n + 1))) = elim w.else-count-most.branch [
            | else-count-most-via-then-count-most+else-is_other v ↦ count_none f.geometry f.content t c.args.slot n c.loop-number.count most counted (sym v.is_other.ensures ∙ v.if-is_other.false)
            | else-count-most-via-else-count-most v ↦ count_full f.geometry f.content t c.args.slot n c.loop-number.count most counted v.if-count-most.false
          ] in
          w.count-is ∙ kept
    ]
