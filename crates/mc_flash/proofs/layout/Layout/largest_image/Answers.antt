use Rattle.std.proofs.Common.{◌≡◌, ◌↔◌, ◌≤◌, ◌*◌, true, sym, ap, subst, ◌∙◌}
use Rattle.mc_flash.specs.{Geometry.{Geometry, fits, greatest_sectors}, Largest.{largest_image, fits_largest}}
use Rattle.mc_flash.proofs.layout.Layout.largest_image.Goals as goal

largest : (c : goal.After-self) → c.greatest_sectors.result * c.self.inside.sector ≡ largest_image c.args.self.now
largest c = ap (λ n. n * c.self.inside.sector) c.greatest_sectors.ensures.value ∙ ap (λ (g : Geometry). greatest_sectors c.args.self.now * g.sector) c.self.view_is

pub returns-clause-value : goal.returns-clause-value
returns-clause-value c = largest c

pub returns-clause-fits : goal.returns-clause-fits
returns-clause-fits c = λ size. subst (λ n. (fits c.args.self.now size ≡ true) ↔ (size ≤ n)) (sym (largest c)) (fits_largest c.args.self.now size c.greatest_sectors.ensures.valid)
