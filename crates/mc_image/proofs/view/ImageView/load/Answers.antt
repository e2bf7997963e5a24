use Rattle.std.proofs.Common.{arith}
use Rattle.mc_image.proofs.Views.{view_long, view_load}
use Rattle.mc_image.proofs.view.ImageView.load.Goals as goal

pub u32_at-requires : goal.u32_at-requires
u32_at-requires c = let long = view_long _ _ _ _ _ _ c.self.invariant in omega (arith, long)

pub returns : goal.returns
returns c = view_load _ _ _ _ _ _ _ c.u32_at.result c.self.view_is c.self.invariant c.u32_at.ensures
