use Rattle.std.proofs.Common.{arith, ℕ, ◌+◌, ◌-◌, ◌/◌, ◌≤◌}
use Rattle.mc_boot.proofs.Courses.{can_copies, get_later_copy}
use Rattle.mc_boot.proofs.transfer.copies_of.Goals as goal

pub returns-clause-copies : goal.returns-clause-copies
returns-clause-copies c =
    let g = c.args.layout.now in
    let i : ℕ = c.args.index in
    let all : c.min.result + (i - 1) ≤ g.sector / g.chunk = omega (arith, c.min.ensures, c.requires.width, c.if-index-eq0.false, c.if-width-index.false) in
    record {
      each = λ j lt. rw (c.chunk_offset-at.ensures, c.chunk_offset-offset.ensures, c.chunk.ensures.value)
          (get_later_copy g c.args.transfer (i - 1) j (i + j) (omega (arith, c.if-index-eq0.false)) (omega (arith, lt, all)));
      some = omega (arith, c.min.ensures, c.if-width-index.false, c.if-most-eq0.false);
      at_most = omega (arith, c.min.ensures);
    }

pub returns-clause-inside : goal.returns-clause-inside
returns-clause-inside c =
    let g = c.args.layout.now in
    rw (c.chunk_offset-at.ensures, c.chunk_offset-offset.ensures, c.chunk.ensures.value) (can_copies g c.args.transfer (c.args.index - 1) c.min.result c.chunk.ensures.valid c.requires.inside
    (omega (arith, c.min.ensures, c.if-width-index.false, c.if-most-eq0.false))
    (omega (arith, c.min.ensures, c.requires.width, c.if-index-eq0.false, c.if-width-index.false)))
