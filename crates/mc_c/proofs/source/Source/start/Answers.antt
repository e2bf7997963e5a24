use Rattle.mc_c.proofs.source.Source.start.Goals as goal

pub returns-in-Ok-start_of : goal.returns-in-Ok-start_of
returns-in-Ok-start_of c =
    let named = c.in-Some.ensures in
    let layout = c.in-Ok.ensures in (
      record { rules = c.in-Some.rules; origin = c.in-Some.origin; rules_are = named.0; origin_is = named.1 },
      layout.1,
      c.in-Ok-start_of.start,
      rw layout.0 at c.in-Ok-start_of.ensures,
      c.with_rules.ensures,
    )

pub returns-in-Err-start_of : goal.returns-in-Err-start_of
returns-in-Err-start_of c =
    let named = c.in-Some.ensures in
    let layout = c.in-Ok.ensures in (
      record { rules = c.in-Some.rules; origin = c.in-Some.origin; rules_are = named.0; origin_is = named.1 },
      layout.1,
      rw layout.0 at c.in-Err-start_of.ensures,
    )
