use Rattle.std.proofs.Common.{List, Some, ap, arith, length, sym, take, ℕ, ◌<◌, ◌∙◌, ◌≡◌}
use Rattle.std.specs.List.{slice_get}
use Rattle.std.proofs.lemmas.List.{length-take-le}
use Rattle.mc_explore.specs.{declared.boot_row.Cuts.{Cuts}, inner.{BootRows.{cuts_of, labels_along, one_cut_more}, BootTree.{begins_of, model_is}}}
use Rattle.mc_explore.proofs.CutsAlong.{along-length, cuts-push, few_first, is_none, numbers-length, taken_more, taken_whole, taken_within}
use Rattle.mc_explore.proofs.boot_row.Cuts.named.Given.{Over}
use Rattle.mc_explore.proofs.boot_row.Cuts.named.Goals as goal
use Rattle.mc_explore.proofs.boot_row.Cuts.named.Goals.{In-Some}

abbrev all : (g : Over) (c : In-Some g) → List (ℕ × ℕ)
all g c = let t = c.args.walk.now.flash_tree in labels_along t.rounds (begins_of t) c.args.walk.now.path

label_is : (g : Over) (c : In-Some g) → Some (c.in-Some.round, c.in-Some.number) ≡ slice_get (all g c) c.cuts.step
label_is g c = rw (model_is c.args.walk.now.flash_tree) at c.in-Some.ensures

below : (g : Over) (c : In-Some g) → c.cuts.step < length c.args.walk.now.path
below g c =
    let t = c.args.walk.now.flash_tree in
    omega (arith, taken_within (all g c) c.cuts.step (c.in-Some.round, c.in-Some.number) (label_is g c), along-length t.rounds (begins_of t) c.args.walk.now.path)

few : (g : Over) (c : In-Some g) → length (take c.cuts.step (all g c)) < 16
few g c =
    let within = taken_within (all g c) c.cuts.step (c.in-Some.round, c.in-Some.number) (label_is g c) in
    omega (arith, below g c, c.requires.at_most, length-take-le c.cuts.step (all g c) (omega (arith, within)))

pub with-cuts-requires-clause-short : goal.with-cuts-requires-clause-short
with-cuts-requires-clause-short g c =
    let a = (goal.at.with-cuts-requires-clause-short g c).In-Some in
    omega (arith, few g a, numbers-length (take c.cuts.step (all g a)), ap (λ (x : Cuts). length x.numbers) c.cuts.invariant)

pub with-cuts-requires-clause-few : goal.with-cuts-requires-clause-few
with-cuts-requires-clause-few g c =
    let a = (goal.at.with-cuts-requires-clause-few g c).In-Some in
    omega (arith, few g a, few_first (take c.cuts.step (all g a)), ap (λ (x : Cuts). x.in_first) c.cuts.invariant)

pub overflow_add-step : goal.overflow_add-step
overflow_add-step g c = let small = below g (goal.at.overflow_add-step g c).In-Some in omega (arith, small, c.requires.at_most)

pub cuts-smaller : goal.cuts-smaller
cuts-smaller g c = let small = below g (goal.at.cuts-smaller g c).In-Some in omega (arith, small)

pub cuts-preserved : goal.cuts-preserved
cuts-preserved g c =
    let a = (goal.at.cuts-preserved g c).In-Some in
    let cut : ℕ × ℕ = (c.in-Some.round, c.in-Some.number) in
    c.with-cuts.ensures ∙ ap (λ x. one_cut_more x cut) c.cuts.invariant ∙ sym (cuts-push (take c.cuts.step (all g a)) cut)
    ∙ ap cuts_of (sym (taken_more (all g a) c.cuts.step cut (label_is g a)))

pub returns : goal.returns
returns g c =
    let t = c.args.walk.now.flash_tree in
    let labels = labels_along t.rounds (begins_of t) c.args.walk.now.path in
    c.cuts.invariant ∙ ap cuts_of (taken_whole labels c.cuts.step (grind (arith, is_none, rw (model_is t) at c.label.ensures)))
