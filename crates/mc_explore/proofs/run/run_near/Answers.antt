use Rattle.std.proofs.Common.{ap, arith, suc, ◌+◌, ◌∙◌, ◌≡◌}
use Rattle.mc_explore.specs.inner.Runs.{begin_of}
use Rattle.mc_explore.proofs.run.run_near.Goals as goal

pub returns-then-number-next : goal.returns-then-number-next
returns-then-number-next g c = λ split some lt.
    let one : c.args.near + 1 ≡ suc c.args.near = omega arith in
    let next = c.begin_at-next.ensures ∙ ap (begin_of c.args.runs.now c.args.count) one in
    record {
      some = c.if-near-runs.true;
      first = omega (arith, c.begin_at-first.ensures, c.if-first-number.true);
      at_most = omega (arith, next, c.if-number-next.true);
      inside = λ _. omega (arith, next, c.if-number-next.true);
    }
