use Rattle.std.proofs.Common.{inr, refl}
use Rattle.clap.specs.Matches.{found_of}
use Rattle.mc_flash.specs.Geometry.{of_numbers}
use Rattle.mc_options.proofs.GivenOptions.{not_ok}
use Rattle.mc_options.specs.{Arguments.{GivesLayout}, Refusals.{FailsLayout}}
use Rattle.mc_options.specs.declared.refusal.Refusal.TheVariants as refusals
use Rattle.mc_options.proofs.options.layout_options.Goals as goal

pub returns-in_err-sector-clause-judged : goal.returns-in_err-sector-clause-judged
returns-in_err-sector-clause-judged c = λ g given. absurd (not_ok (c.in_err-sector.ensures.taken g.sector given.sector))

pub returns-in_err-unit-clause-judged : goal.returns-in_err-unit-clause-judged
returns-in_err-unit-clause-judged c = λ g given. absurd (not_ok (c.in_err-unit.ensures.taken g.unit given.unit))

pub returns-in_err-max_sectors-clause-judged : goal.returns-in_err-max_sectors-clause-judged
returns-in_err-max_sectors-clause-judged c = λ g given. absurd (not_ok (c.in_err-max_sectors.ensures.taken g.max_sectors given.max_sectors))

pub returns-in_err-chunk-clause-judged : goal.returns-in_err-chunk-clause-judged
returns-in_err-chunk-clause-judged c = λ g given. absurd (not_ok (c.in_err-chunk.ensures.taken g.chunk given.chunk))

pub returns-in_err-primary-clause-judged : goal.returns-in_err-primary-clause-judged
returns-in_err-primary-clause-judged c = λ g given. absurd (not_ok (c.in_err-primary.ensures.taken g.primary given.primary))

pub returns-in_err-secondary-clause-judged : goal.returns-in_err-secondary-clause-judged
returns-in_err-secondary-clause-judged c = λ g given. absurd (not_ok (c.in_err-secondary.ensures.taken g.secondary given.secondary))

pub returns-in-Err-clause-refused : goal.returns-in-Err-clause-refused
returns-in-Err-clause-refused c =
    let g = of_numbers c.in_ok-sector.sector c.in_ok-unit.unit c.in_ok-max_sectors.max_sectors c.in_ok-chunk.chunk c.in_ok-primary.primary c.in_ok-secondary.secondary in
    let given : GivesLayout (found_of c.args.arguments.now) g = record {
      sector = c.in_ok-sector.ensures.given;
      unit = c.in_ok-unit.ensures.given;
      max_sectors = c.in_ok-max_sectors.ensures.given;
      chunk = c.in_ok-chunk.ensures.given;
      primary = c.in_ok-primary.ensures.given;
      secondary = c.in_ok-secondary.ensures.given;
    } in
    let fails : FailsLayout (found_of c.args.arguments.now) (refusals.Layout c.in-Err.error) = record {
      numbers = g;
      given = given;
      error = c.in-Err.error;
      first = c.in-Err.ensures;
      error_is = refl;
    } in
    inr (inr fails)
