use Rattle.std.proofs.Common.{arith}
use Rattle.mc_boot.proofs.{Courses.{greatest_pieces}, Plans.{none_of, resumed_begun}}
use Rattle.mc_boot.proofs.boot.Boot.resumed_swap.Goals as goal

pub new-requires : goal.new-requires
new-requires g c = grind (arith, greatest_pieces)

pub returns-clause-progress : goal.returns-clause-progress
returns-clause-progress g c = grind (arith, resumed_begun, none_of)

pub returns-clause-layout : goal.returns-clause-layout
returns-clause-layout g c = grind arith

pub returns-then-sectors-eq0-clause-progress : goal.returns-then-sectors-eq0-clause-progress
returns-then-sectors-eq0-clause-progress g c = rw c.if-sectors-eq0.true c.idle.ensures.progress

pub returns-then-sectors-eq0-clause-layout : goal.returns-then-sectors-eq0-clause-layout
returns-then-sectors-eq0-clause-layout g c = c.idle.ensures.layout (g.F.Flash.seen c.args.flash.now).geometry

pub returns-then-greatest_sectors-sectors-clause-progress : goal.returns-then-greatest_sectors-sectors-clause-progress
returns-then-greatest_sectors-sectors-clause-progress g c = grind arith

pub returns-then-greatest_sectors-sectors-clause-layout : goal.returns-then-greatest_sectors-sectors-clause-layout
returns-then-greatest_sectors-sectors-clause-layout g c = c.idle-then-greatest_sectors-sectors.ensures.layout (g.F.Flash.seen c.args.flash.now).geometry

pub returns-in_default-clause-progress : goal.returns-in_default-clause-progress
returns-in_default-clause-progress g c = grind arith

pub returns-in_default-clause-layout : goal.returns-in_default-clause-layout
returns-in_default-clause-layout g c = c.idle-in_default.ensures.layout (g.F.Flash.seen c.args.flash.now).geometry
