use Rattle.std.proofs.Common.{Some, ap, option_map, sym, ◌∙◌, ◌≡◌}
use Rattle.mc_explore.proofs.Counting.{first_member, is_census}
use Rattle.mc_explore.specs.inner.{BootEnds.{report_in}, BootRows.{tree_in}, BootTree.{root_of}, Exploring.{key_along}}
use Rattle.mc_start.specs.Start.{begun}
use Rattle.mc_explore.proofs.start_census.count.Goals as goal
use Rattle.mc_explore.proofs.start_census.count.Goals.{in-Some+in_ok-cuts_at-in-Some, in-None}

pub returns : goal.returns
returns g c =
    let subject = g.X.Subject.subject in
    let edge = g.X.Subject.edge in
    let family = g.met.X.Subject.laws in
    let x = begun c.args.start.now in
    let chosen = c.args.chosen in
    let rounds = edge.rounds_in chosen in
    let e = c.args.expectation.now in
    let bound = c.args.bound in
    let paths = c.in_ok-census.census in
    let is = rw c.rounds_of-rounds.ensures at c.in_ok-census.ensures in
    let key = key_along subject edge x chosen in
    let report = report_in x rounds in
    let row = edge.row_at x chosen in
    let first : c.match-census.first_not_boot ≡ option_map key paths.first_not_boot = elim c.match-census.branch [
      | in-Some+in_ok-cuts_at-in-Some w ↦
          let member = first_member subject (tree_in rounds) (root_of rounds x) report key row (family.all_ends x chosen) (family.all_keys x chosen) e bound c.requires paths is _ w.in-Some.is in
          let cuts = (rw c.rounds_of-rounds.ensures at w.in_ok-cuts_at-in-Some.ensures) bound member in
          w.first_not_boot-is ∙ ap (λ k. Some k) (w.key_of.ensures ∙ ap edge.key_in cuts) ∙ ap (option_map key) (sym w.in-Some.is)
      | in-None w ↦ w.first_not_boot-is ∙ ap (option_map key) (sym w.in-None.is)
    ] in
    is_census subject (tree_in rounds) (root_of rounds x) report key row (family.all_ends x chosen) (family.all_keys x chosen) e bound c.requires paths is x chosen _
    (family.all_rows x chosen bound) (cc first)
