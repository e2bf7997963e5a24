use Rattle.std.proofs.Common.{ap, arith, sym, subst, ◌∙◌}
use Rattle.std.specs.Prelude.{not, ◌+◌, ◌-◌, ◌≡◌, false, ℕ}
use Rattle.mc_tear.specs.Cases.{may_change_at}
use Rattle.mc_tear.proofs.Ranges.{all_pass, one_fails}
use Rattle.mc_tear.proofs.torn.may_change_some.Goals as goal

pub returns-then-may_change_at : goal.returns-then-may_change_at
returns-then-may_change_at g c =
    let f = g.F.Flash.seen c.args.flash.now in
    sym (ap not (one_fails (λ i. not (may_change_at c.args.erasing f.geometry c.args.op.now f.content i)) c.args.at c.args.len (c.args.at + c.loop-k.k)
    (omega arith) (omega (arith, c.loop-k-test.true)) (ap not (sym c.may_change_at.ensures ∙ c.if-may_change_at.true))))

pub returns : goal.returns
returns g c =
    let f = g.F.Flash.seen c.args.flash.now in
    sym (ap not (all_pass (λ i. not (may_change_at c.args.erasing f.geometry c.args.op.now f.content i)) c.args.at c.args.len (λ i from below.
    let here : c.args.at + (i - c.args.at) ≡ i = omega (arith, from) in
    ap not (subst (λ (n : ℕ). may_change_at c.args.erasing f.geometry c.args.op.now f.content n ≡ false) here
    (c.loop-k.invariant (i - c.args.at) (omega (arith, from, below, c.loop-k-test.false)))))))
