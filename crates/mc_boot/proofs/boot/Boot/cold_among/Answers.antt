use Rattle.mc_flash.specs.Flash.{IsSized}
use Rattle.mc_boot.proofs.{CourseJoins.{is_cold}, boot.Boot.cold_among.Given.{Over}}
use Rattle.mc_boot.proofs.boot.Boot.cold_among.Goals as goal

sized : (g : Over) (c : goal.After-begin g) → IsSized (g.F.Flash.seen c.args.flash.now).geometry (g.F.Flash.seen c.args.flash.now).content
sized g c = record {
  primary = rw c.read-primary.ensures.value at c.read-primary.ensures.len;
  secondary = rw c.read-secondary.ensures.value at c.read-secondary.ensures.len;
}

pub returns-clause-cold : goal.returns-clause-cold
returns-clause-cold g c =
    is_cold c.args.rules (g.F.Flash.seen c.args.flash.now) c.begin.result (rw c.layout.ensures at c.sector-sector.ensures.valid) (sized g c) c.begin.ensures.progress c.begin.ensures.layout
