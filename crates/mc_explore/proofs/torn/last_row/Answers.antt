use Rattle.std.proofs.{Common.{List, ◌++◌, ap, drop, take, sym, ◌∙◌, append_assoc}, lemmas.List.{take-append-drop}}
use Rattle.mc_explore.specs.{Page.{page_at}, Rows.{ShownRow}}
use Rattle.mc_explore.proofs.TornPages.{row_read, other_read, all_read, continues, rest_shown}
use Rattle.mc_explore.proofs.torn.last_row.Goals as goal

pub lines-preserved-in-Some-schedule_of : goal.lines-preserved-in-Some-schedule_of
lines-preserved-in-Some-schedule_of c =
    let parts = c.in-Some.ensures.some in
    row_read c.args.torn.now c.lines.rest.now c.in-Some.line.now c.in-Some.after.now c.lines.last parts.0 parts.1 c.lines.invariant c.in-Some-schedule_of.schedule c.in-Some-schedule_of.ensures.row

pub lines-preserved : goal.lines-preserved
lines-preserved c =
    let parts = c.in-Some.ensures.some in
    other_read c.args.torn.now c.lines.rest.now c.in-Some.line.now c.in-Some.after.now c.lines.last parts.0 parts.1 c.lines.invariant c.in_default-schedule_of.ensures.none

pub returns-clause-exact : goal.returns-clause-exact
returns-clause-exact c = all_read c.args.torn.now c.lines.rest.now c.lines.last c.in_default.ensures.none c.lines.invariant

pub returns-clause-goes_on : goal.returns-clause-goes_on
returns-clause-goes_on c state limit n rows valid at_most rest is =
    continues state rows (take limit rows) (drop limit rows) (sym (take-append-drop limit rows)) (rest_shown state rows valid at_most rest) rest
    c.args.torn.now n (page_at state limit rows).goes_on c.lines.last is (returns-clause-exact c)

pub returns-clause-until : goal.returns-clause-until
returns-clause-until c until state limit n of valid at_most is =
    let shown = of.shown in
    let others = of.are.others in
    let parted = of.are.parted ∙ ap (λ (z : List ShownRow). z ++ others) (sym (take-append-drop limit shown)) ∙ append_assoc (take limit shown) (drop limit shown) others in
    continues state of.rows (take limit shown) (drop limit shown ++ others) parted (rest_shown state of.rows valid at_most of.rest) of.rest
    c.args.torn.now n (page_at state limit shown).goes_on c.lines.last is (returns-clause-exact c)
