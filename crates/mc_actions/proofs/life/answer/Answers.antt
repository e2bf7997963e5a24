use Rattle.std.proofs.Common.{inl, refl}
use Rattle.mc_actions.proofs.Shelving.{life_written}
use Rattle.mc_actions.proofs.life.answer.Goals as goal

pub returns-in-Some : goal.returns-in-Some
returns-in-Some g c =
    inl (record {
      device = c.in_ok-device.device;
      mid = _;
      replayed = c.in_ok-device.ensures;
      rest = inl (c.in_ok-write_erased.ensures.whole, life_written c.args.life.now _ (rw c.in-Some.is refl) c.write_file.ensures);
    })
