use Rattle.std.proofs.Common.{Ok, Option, ap, subst, ◌∙◌}
use Rattle.mc_image.specs.Valid.{Identity}
use Rattle.mc_verdict.specs.{Sessions.{ends_of}, Verdicts.{IsExpectation}}
use Rattle.mc_verdict.proofs.Shortening.{boots_first}
use Rattle.mc_verdict.proofs.census.count.Goals as goal

pub shortest_wrong-requires-clause-first : goal.shortest_wrong-requires-clause-first
shortest_wrong-requires-clause-first g c = rw c.any-any.ensures (boots_first g.X.Subject.subject _ _ _ _ c.in_ok-census.ensures.census)

pub returns-clause-counts : goal.returns-clause-counts
returns-clause-counts g c =
    let wanted = c.args.wanted.now in
    record {
      comes_to = c.in_ok-census.ensures.census;
      expectation = c.in_ok-expectation.expectation;
      expects = subst (λ (named : Option (Identity × Identity)). IsExpectation wanted.asked named (Ok c.in_ok-expectation.expectation))
          (c.ends.ensures ∙ ap (ends_of wanted.images_return) c.named.ensures) c.in_ok-expectation.ensures;
      rights = c.in_ok-rights.ensures.rights;
      not_boot = rw c.any-any.ensures at c.in_ok-not_boot.ensures.shortest;
      not_right = c.in_ok-not_right.ensures.shortest;
    }
