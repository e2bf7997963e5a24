use Rattle.std.proofs.{Common.{◌≡◌, ◌+◌, ◌*◌, ap, subst, arith}, lemmas.Result.{err_from_is_err_and}}
use Rattle.mc_flash.specs.{Usage.{Limits, Spent}, facts.Spends.{keeps_both, ran_out_later, spent_both, spent_more}}
use Rattle.mc_walk.specs.TreeModel.{IsAt}
use Rattle.mc_walk.proofs.child_steps.go_to_child.Goals as goal

pub first_child-requires : goal.first_child-requires
first_child-requires g c = (c.requires.0, c.requires.1, omega (arith, c.requires.2), c.requires.3)

pub loop-i-init : goal.loop-i-init
loop-i-init g c = record {
  here = λ n node lt. c.in_ok-at.ensures.reaches n node (omega (arith, lt));
  keeps = c.in_ok-at.ensures.keeps;
  spent = spent_more _ _ _ _ (omega arith) c.in_ok-at.ensures.spends;
}

pub next-requires : goal.next-requires
next-requires g c =
    let i = c.loop-i.invariant in
    let room = c.requires.3 in
    let (here, left) = i.here c.requires.0 c.requires.1 c.requires.2 in (
      c.requires.0,
      c.loop-i._i,
      here,
      omega (arith, c.requires.2),
      record {
        entries = omega (arith, left.entries, room.entries, ap (λ (l : Limits). l.entries) i.spent.limits);
        saved = omega (arith, left.saved, room.saved, ap (λ (l : Limits). l.saved) i.spent.limits);
      },
    )

pub loop-i-preserved : goal.loop-i-preserved
loop-i-preserved g c =
    let k = g.B.FlashTree.model c.args.flash_tree in
    let i = c.loop-i.invariant in
    let h = c.in_ok-next.ensures in
    let left = h.goes_on.1 in
    record {
      here = λ n node lt.
          let (here, room) = i.here n node lt in
          (h.goes_on.0 n c.loop-i._i here (omega (arith, lt)), record { entries = omega (arith, room.entries, left.entries); saved = omega (arith, room.saved, left.saved) });
      keeps = keeps_both _ _ _ i.keeps h.keeps;
      spent = spent_more _ _ _ _ (omega arith) (spent_both ((c.loop-i._i + 1) * k.step) k.step _ _ _ i.spent h.spends);
    }

pub returns-clause-reaches : goal.returns-clause-reaches
returns-clause-reaches g c =
    let k = g.B.FlashTree.model c.args.flash_tree in
    let i = c.loop-i.invariant in
    let e : c.loop-i._i ≡ c.args.number = omega arith in
    λ n node lt.
    let (here, room) = i.here n node lt in
    (subst (λ z. IsAt k n z c.loop-i.at (g.F.Flash.seen c.loop-i.flash)) e here, room)

pub returns-clause-spends : goal.returns-clause-spends
returns-clause-spends g c =
    let k = g.B.FlashTree.model c.args.flash_tree in
    let e : c.loop-i._i ≡ c.args.number = omega arith in
    subst (λ z. Spent ((z + 1) * k.step) (g.F.Flash.seen c.args.flash.now) (g.F.Flash.seen c.loop-i.flash)) e c.loop-i.invariant.spent

pub returns-in_err-next-clause-spends : goal.returns-in_err-next-clause-spends
returns-in_err-next-clause-spends g c =
    let p = err_from_is_err_and c.from_residual-in_err-next.result c.from_residual-in_err-next.ensures.1 in
    rw p.1 (ran_out_later _ _ _ _ c.loop-i.invariant.spent c.in_err-next.ensures.spends)
