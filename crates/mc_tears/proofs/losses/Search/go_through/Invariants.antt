use Rattle.std.specs.{Prelude.{◌*◌, ◌≡◌}, Vec.{vec_capacity}}
use Rattle.mc_explore.specs.inner.OneRound.{begins}
use Rattle.mc_tears.specs.inner.{Losing.{Expands, IsReady}, Standing.{CanMark, Stands}}
use Rattle.mc_tears.proofs.losses.Search.go_through.Given as goal

abbrev pub invariant-loop-operation : goal.invariant-loop-operation
invariant-loop-operation g l = record {
  ready : IsReady (begins l.rounds).geometry.sector l.self;
  erasing : l.self.erasing ≡ l.fn.self.erasing;
  stands : Stands (begins l.rounds) l.at (g.F.Flash.seen l.flash);
  number : l.at.done ≡ l.operation;
  marks : CanMark 2 (g.F.Flash.seen l.flash);
  capacity : vec_capacity l.buffer ≡ vec_capacity l.fn.buffer;
  visited : Expands l.fn.self.erasing (begins l.rounds) l.before l.fn.self.cases.items 0 l.self.cases.items (193 * l.operation);
}
