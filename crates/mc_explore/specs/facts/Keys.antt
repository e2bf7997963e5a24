-- Schedules are the paths of one round of boots.
use Rattle.std.specs.Prelude.{List, Some, codes, false, map, refl, ℕ, ◌++◌, ◌≡◌}
use Rattle.std.proofs.Common.{ap, append_assoc, arith, subst, sym, ◌∙◌}
use Rattle.mc_boot.specs.{Outcome.{outcome_of, shown}, Plan.{PowerOn}}
use Rattle.mc_explore.specs.{Boots.{boots}, Pages.{IsRest}, Rounds.{second_start}, Rows.{ShownRow, outcome_after, outcome_text, slots_text, subject}, Schedules.{IsMember}, Subject.{at_start, rows_of}}
use Rattle.mc_explore.specs.{declared.boot_row.BootRow.{BootRow}, declared.boot_row.Cuts.{Cuts}}
use Rattle.mc_explore.specs.facts.{Listed.{all_rows, lands_summary, row_at, some_rest}, Occurring.{member_of, path_of}, OneRoundPaths.{all_alike, ends_alike, from_second, in_second, one_round_cuts}}
use Rattle.mc_explore.specs.inner.{BootRows.{CanCountUp, IsRowOf, counted_up, cuts_along, tree_in}, BootTree.{later_from, model_is, root_of}, Exploring.{AreKeys, AreNextTexts, Edge, IsFamily}}
use Rattle.mc_flash.specs.Usage.{most_operations}
use Rattle.mc_start.specs.Start.{schedule_text}
use Rattle.mc_tree.specs.{Tree.{Allowed, Precedes}, facts.Order.{paths_in_order}, facts.Rounds.{later_lands}}
use Rattle.mc_explore.specs.declared.rounds.Rounds.TheVariants as kinds

-- A schedule has the numbers of the cuts along its path, and its row the last outcome there.
abbrev pub edge : Edge (Unit {0}) (List ℕ) ShownRow
edge = record {
  rounds_in = λ _. kinds.One;
  key_in = λ cuts. cuts.numbers;
  shown_of = λ row. record { schedule = row.cuts.numbers; outcome = shown row.ends.last };
  row_at = λ start _ path. row_at start path;
}

module _ (start : PowerOn) where
  pub numbers_are : (path : List ℕ) → (cuts_along kinds.One start path).numbers ≡ path
  numbers_are path = ap (λ (c : Cuts). c.numbers) (one_round_cuts start path)

  are_schedules : AreKeys subject (tree_in kinds.One) (root_of kinds.One start) start tt (λ path. (cuts_along kinds.One start path).numbers)
  are_schedules = record {
    listed = λ bound path m. subst (IsMember start bound) (sym (numbers_are path)) (member_of start bound path (m.0, from_second false start start path m.1));
    path_of = λ bound k m. let there = path_of start bound k m in (k, (there.0, in_second false start start k there.1), numbers_are k);
    order = λ bound l m i j. (
      λ before. subst (λ z. Precedes z m) (numbers_are l) (subst (Precedes _) (numbers_are m) before),
      λ before. subst (Precedes _) (sym (numbers_are m)) (subst (λ z. Precedes z m) (sym (numbers_are l)) before),
    );
    none = refl;
  }

  has_outcome : (path : List ℕ) (row : BootRow) → Allowed (tree_in kinds.One) (root_of kinds.One start) path → IsRowOf kinds.One start path row
      → outcome_after start row.cuts.numbers ≡ Some (shown row.ends.last)
  has_outcome path row allowed is =
      ap (outcome_after start) (ap (λ (c : Cuts). c.numbers) is.cuts_are ∙ numbers_are path)
      ∙ lands_summary start path (from_second false start start path allowed)
      ∙ ap (λ p. outcome_of (later_from false p)) (sym (later_lands boots (second_start false) start start path))
      ∙ is.ends_so.last

next_texts : (row : BootRow) → CanCountUp row → AreNextTexts subject (edge.shown_of row) (edge.shown_of (counted_up 1 row))
next_texts row can =
    let o = shown row.ends.last in
    record {
      key = can;
      rest = (codes " " ++ outcome_text o) ++ (codes " " ++ slots_text o);
      old_is = append_assoc (schedule_text row.cuts.numbers) (codes " " ++ outcome_text o) (codes " " ++ slots_text o);
      new_is = append_assoc (schedule_text (counted_up 1 row).cuts.numbers) (codes " " ++ outcome_text o) (codes " " ++ slots_text o);
    }

pub schedules_are_family : IsFamily subject edge
schedules_are_family = record {
  keys = λ start _. are_schedules start;
  order = paths_in_order;
  some_rest = some_rest;
  key_is = λ row. refl;
  outcomes = λ start _. has_outcome start;
  texts = next_texts;
  all_rows = λ start _ bound. subst (λ ls. IsRest (rows_of subject) (at_start start tt bound) (map (row_at start) ls)) (sym (all_alike false bound start start)) (all_rows start bound);
  all_keys = λ start _ path. sym (numbers_are start path);
  all_ends = λ start _ path. ends_alike start path;
  costs = λ start _ t is one. rw (model_is t, one) (omega (arith, ap (λ (x : PowerOn). most_operations x.rules.grain x.geometry) is));
}
