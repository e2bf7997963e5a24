use Rattle.std.proofs.Common.{ap}
use Rattle.mc_flash.specs.Geometry.{Geometry}
use Rattle.mc_trailer.specs.Trailer.{entry_place}
use Rattle.mc_trailer.proofs.entries.is_written.Goals as goal

pub returns : goal.returns
returns g c = cc (ap (λ (l : Geometry). entry_place l c.args.entry) c.layout-layout.ensures, ap (λ (l : Geometry). l.unit) c.layout-layout.ensures)
