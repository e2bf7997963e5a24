use Rattle.std.proofs.{Common.{codes, subst}, KnownBytes.{Appends-trans}, lemmas.Result.{err_from_is_err_and}}
use Rattle.mc_output.specs.facts.Results.{on_err, on_ok}
use Rattle.mc_life.specs.Device.{IsMost, Most, slot_wear}
use Rattle.mc_life.proofs.Lines.{first_of_two, last_of_two}
use Rattle.mc_life.proofs.wear_text.write_wear.Goals as goal

pub returns-in_err-write_line-clause-prefix : goal.returns-in_err-write_line-clause-prefix
returns-in_err-write_line-clause-prefix g c =
    let w = c.args.wear.now in
    let p : Most = record { count = c.most_of.result.count; sector = c.most_of.result.sector } in
    let q : Most = record { count = c.most_of-2.result.count; sector = c.most_of-2.result.sector } in
    let greatest = subst (λ z. IsMost z p) c.counts-primary.ensures c.most_of.ensures in
    let other = subst (λ z. IsMost z q) c.counts-secondary.ensures c.most_of-2.ensures in
    let first = rw (c.slot_line-first.ensures, c.total.ensures, c.counts-primary.ensures) at c.in_err-write_line.ensures.prefix in
    let r = err_from_is_err_and c.from_residual.result c.from_residual.ensures.1 in
    rw r.1 (p, q, greatest, other, first_of_two _ (slot_wear (codes "secondary") q w.secondary) _ _ first)

pub returns-clause-whole : goal.returns-clause-whole
returns-clause-whole g c =
    let w = c.args.wear.now in
    let p : Most = record { count = c.most_of.result.count; sector = c.most_of.result.sector } in
    let q : Most = record { count = c.most_of-2.result.count; sector = c.most_of-2.result.sector } in
    let greatest = subst (λ z. IsMost z p) c.counts-primary.ensures c.most_of.ensures in
    let other = subst (λ z. IsMost z q) c.counts-secondary.ensures c.most_of-2.ensures in
    let first = rw (c.slot_line-first.ensures, c.total.ensures, c.counts-primary.ensures) at c.in_ok-write_line.ensures.whole in
    let second = rw (c.slot_line-second.ensures, c.total-2.ensures, c.counts-secondary.ensures) at c.write_line-2.ensures.whole in
    on_ok c.write_line-2.result _ _ (λ last. (p, q, greatest, other, Appends-trans _ _ _ _ _ first last)) second

pub returns-clause-prefix : goal.returns-clause-prefix
returns-clause-prefix g c =
    let w = c.args.wear.now in
    let p : Most = record { count = c.most_of.result.count; sector = c.most_of.result.sector } in
    let q : Most = record { count = c.most_of-2.result.count; sector = c.most_of-2.result.sector } in
    let greatest = subst (λ z. IsMost z p) c.counts-primary.ensures c.most_of.ensures in
    let other = subst (λ z. IsMost z q) c.counts-secondary.ensures c.most_of-2.ensures in
    let first = rw (c.slot_line-first.ensures, c.total.ensures, c.counts-primary.ensures) at c.in_ok-write_line.ensures.whole in
    let second = rw (c.slot_line-second.ensures, c.total-2.ensures, c.counts-secondary.ensures) at c.write_line-2.ensures.prefix in
    on_err c.write_line-2.result _ _ (λ last. (p, q, greatest, other, last_of_two _ _ _ _ _ first last)) second
