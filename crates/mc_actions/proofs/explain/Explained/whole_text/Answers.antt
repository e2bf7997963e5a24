use Rattle.std.proofs.{Common.{ap, arith, flat_map, sym, ◌∙◌}, lemmas.List.{take_all}}
use Rattle.mc_actions.specs.Explained.{said_of}
use Rattle.mc_cli.specs.Explanations.{entry_of}
use Rattle.mc_actions.proofs.Explaining.{parts_mapped, parts_said}
use Rattle.mc_actions.proofs.explain.Explained.whole_text.Goals as goal

pub returns : goal.returns
returns c =
    let parts = c.all_explanations-explanations-items.result in
    record {
      explanations = flat_map (λ part. part.now) parts;
      are = sym (parts_mapped entry_of parts) ∙ c.all_explanations-explanations-items.ensures;
      text_is = c.loop-explanations.invariant
          ∙ ap (flat_map (λ part. flat_map (said_of c.args.self.now) part.now)) (take_all c.loop-explanations.explanations-index parts (omega (arith, c.loop-explanations-test.false)))
          ∙ parts_said (said_of c.args.self.now) parts;
    }
