use Rattle.std.proofs.Common.{arith}
use Rattle.mc_life.proofs.Wiping.{all_counted, counted, wiping_begins, wiping_more, wiping_ends}
use Rattle.mc_life.proofs.work.wipe.Goals as goal

pub wipe-init : goal.wipe-init
wipe-init g c = grind (arith, wiping_begins)

pub wipe-preserved : goal.wipe-preserved
wipe-preserved g c =
    let i = c.wipe.invariant in
    let e = c.in_ok-erase.ensures in
    record {
      wiping = wiping_more _ _ _ _ _ (omega arith) i.wiping e.does.0;
      wear = counted _ _ _ _ _ (omega arith) e.wear i.wear;
    }

pub returns-clause-content : goal.returns-clause-content
returns-clause-content g c = wiping_ends _ _ _ c.wipe-test.false c.wipe.invariant.wiping

pub returns-clause-wear : goal.returns-clause-wear
returns-clause-wear g c = all_counted _ _ _ c.wipe-test.false c.idles.ensures c.wipe.invariant.wear
