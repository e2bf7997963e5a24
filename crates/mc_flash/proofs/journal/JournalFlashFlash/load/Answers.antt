use Rattle.std.proofs.Common.{arith, refl}
use Rattle.mc_flash.proofs.journal.JournalFlashFlash.load.Goals as goal

pub invariant_of-result : goal.invariant_of-result
invariant_of-result c = record {
  layout = grind arith;
  room = record { entries = c.in_ok-with_capacity.ensures.capacity; saved = c.in_ok-with_capacity-2.ensures.capacity; checkpoints = c.in_ok-with_capacity-3.ensures.capacity };
  at_most = rw (c.in_ok-with_capacity.ensures.items, c.in_ok-with_capacity-2.ensures.items, c.in_ok-with_capacity-3.ensures.items)
      (record { entries = omega arith; saved = omega arith; checkpoints = omega arith });
  journal = rw (c.in_ok-with_capacity.ensures.items, c.in_ok-with_capacity-2.ensures.items) (record { saved_for = refl; inside = tt });
  ascend = rw c.in_ok-with_capacity-3.ensures.items (omega arith);
}

pub returns-clause-loads : goal.returns-clause-loads
returns-clause-loads c = record {
  geometry_is = c.in_ok-new.ensures.layout;
  content_is = c.in_ok-new.ensures.content;
  none = rw c.in_ok-with_capacity-3.ensures.items refl;
  usage_is = rw (c.in_ok-with_capacity.ensures.items, c.in_ok-with_capacity-2.ensures.items) refl;
  counted_is = refl;
  room = rw c.new-reserve.ensures (record { entries = omega arith; saved = omega arith; checkpoints = omega arith });
  exact = λ _. c.new-reserve.ensures;
}
