use Rattle.std.proofs.{Common.{◌&&◌, eqb, rules, tests, sym, ap, ◌∙◌}, lemmas.Iterator.{YieldsList-from_slice}, lemmas.Iterator.Search.{all_from_yields_List}}
use Rattle.mc_flash.specs.Flash.{is_blank}
use Rattle.mc_flash.proofs.Lanes.{by_groups}
use Rattle.mc_flash.proofs.erased.blank.Goals as goal

pub returns-then-all : goal.returns-then-all
returns-then-all c =
    let cut = c.as_chunks.ensures in
    let (groups, rest) = c.as_chunks.result in
    let each = all_from_yields_List is_blank _ _ c.all.result c.all.ensures.ran
    (YieldsList-from_slice groups.now cc) (λ x b q k. search (rules, tests)) in
    c.blank_words.ensures
    ∙ ap (λ b. b && is_blank rest.now) (sym c.if-all.true)
    ∙ by_groups (λ b. eqb b 255) 32 c.args.bytes.now rest.now groups.now c.all.result cut.front cut.back each

pub returns-else-all : goal.returns-else-all
returns-else-all c =
    let cut = c.as_chunks.ensures in
    let (groups, rest) = c.as_chunks.result in
    let each = all_from_yields_List is_blank _ _ c.all.result c.all.ensures.ran
    (YieldsList-from_slice groups.now cc) (λ x b q k. search (rules, tests)) in
    c.if-all.false
    ∙ ap (λ b. b && is_blank rest.now) (sym c.if-all.false)
    ∙ by_groups (λ b. eqb b 255) 32 c.args.bytes.now rest.now groups.now c.all.result cut.front cut.back each
