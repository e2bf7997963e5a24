use Rattle.std.specs.{Prelude.{◌*◌, ◌+◌, ◌≡◌}, Vec.{vec_capacity}}
use Rattle.mc_explore.specs.inner.OneRound.{begins}
use Rattle.mc_tears.specs.inner.{Losing.{Expands, IsReady}, Standing.{IsBack}}
use Rattle.mc_tears.proofs.losses.Search.visit_tears.Given as goal

abbrev pub invariant-loop-number : goal.invariant-loop-number
invariant-loop-number g l = record {
  ready : IsReady (begins l.rounds).geometry.sector l.self;
  erasing : l.self.erasing ≡ l.fn.self.erasing;
  back : IsBack (g.F.Flash.seen l.fn.flash) (g.F.Flash.seen l.flash);
  capacity : vec_capacity l.buffer ≡ vec_capacity l.fn.buffer;
  visited : Expands l.fn.self.erasing (begins l.rounds) l.before l.fn.self.cases.items (193 * l.operation + 1) l.self.cases.items (193 * l.operation + 1 + l.number);
}
