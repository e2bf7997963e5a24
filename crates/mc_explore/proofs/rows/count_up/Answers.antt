use Rattle.std.proofs.Common.{Some, ap, arith, refl, rules, true, ◌≡◌}
use Rattle.mc_explore.proofs.rows.count_up.Goals as goal

pub overflow_add-rows : goal.overflow_add-rows
overflow_add-rows c =
    let within = rw c.in-Some.is at c.requires in
    omega (arith, within, c.if-rows-eq0.false)

pub returns-clause-next : goal.returns-clause-next
returns-clause-next c = λ yes. (c.in-Some.rows, c.in-Some.is, omega (arith, c.if-rows-eq0.false), refl)

pub returns-clause-counted : goal.returns-clause-counted
returns-clause-counted c = λ yes.
    let done : c.count_up.result ≡ true = search rules in
    record {
      before = c.in-Some-row.row;
      was = c.in-Some-row.is;
      is = ap (λ r. Some r) (c.count_up.ensures.counted done);
      can = c.count_up.ensures.text done;
    }
