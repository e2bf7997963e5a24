-- Campaigns are the paths of the tree of two rounds.
use Rattle.std.specs.Prelude.{Bool, List, None, Option, Some, codes, option_map, refl, ℕ, ◌++◌, ◌+◌, ◌≡◌, ◌≤◌}
use Rattle.std.proofs.Common.{ap, arith, length, subst, sym, ◌∙◌}
use Rattle.mc_boot.specs.{Outcome.{outcome_of, shown}, Plan.{PowerOn}, declared.outcome.Outcome.{Outcome}, facts.Run.{outcome_defined}}
use Rattle.mc_campaign.specs.{Campaigns.{IsMember, Precedes}, Rounds.{cuts_along}, Rows.{HasOutcomes, campaigns}, Texts.{campaign_text}, inner.InRounds.{campaign_of, edge, first_or}}
use Rattle.mc_campaign.specs.facts.{Cuts.{along_ordered}, InRounds.{next_campaign, rounds_back}, Listed.{all_rows, row_at, some_rest}, Paths.{listed_along, path_of, replayed_at, same_order}}
use Rattle.mc_explore.specs.{Boots.{boots}, Rounds.{second_start, tree_of}, Rows.{outcome_text, slots_text}, declared.boot_row.BootRow.{BootRow}, declared.boot_row.Cuts.{Cuts}}
use Rattle.mc_explore.specs.inner.{BootEnds.{report_in}, BootRows.{CanCountUp, IsRowOf, counted_up, tree_in}, BootTree.{began_at, later_from, model_is, root_of}, Exploring.{AreKeys, AreNextTexts, IsFamily, key_along}}
use Rattle.mc_flash.specs.Usage.{most_operations}
use Rattle.mc_tree.specs.{Tree.{Allowed, landed, round_one}, facts.Order.{pairs_in_order}}
use Rattle.mc_explore.specs.declared.rounds.Rounds.TheVariants as kinds

-- There is a first round, and so it ends.
first_is : (x : PowerOn) (first : Option Outcome) (last : Outcome) → outcome_of x ≡ option_map shown first → outcome_of x ≡ Some (shown (first_or first last))
first_is x (Some first) last is = is
first_is x None last is = absurd (let some = (outcome_defined x).1 in cc)

module _ (start : PowerOn) (confirms : Bool) where
  -- The campaign of the cuts along a path has these.
  pub key_is : (path : List ℕ) → key_along campaigns edge start confirms path ≡ cuts_along confirms start path
  key_is path = rounds_back (cuts_along confirms start path) (along_ordered boots (second_start confirms) (round_one start) path)

  are_campaigns : AreKeys campaigns (tree_of confirms) (round_one start) start confirms (key_along campaigns edge start confirms)
  are_campaigns = record {
    listed = λ bound path m. subst (IsMember start confirms bound) (sym (key_is path)) (listed_along confirms start bound path m).0;
    path_of = λ bound k m. let p = path_of confirms start bound k m in (p.0, p.1.member, key_is p.0 ∙ p.1.cuts_are);
    order = λ bound path other m n.
        let same = same_order confirms start bound path other _ _ (record { member = m; cuts_are = refl }) (record { member = n; cuts_are = refl }) in (
          λ before. same.0 (subst (λ z. Precedes z (cuts_along confirms start other)) (key_is path) (subst (Precedes (key_along campaigns edge start confirms path)) (key_is other) before)),
          λ before.
              let there = subst (λ z. Precedes z (cuts_along confirms start other)) (sym (key_is path)) (same.1 before) in
              subst (Precedes (key_along campaigns edge start confirms path)) (sym (key_is other)) there,
        );
    none = refl;
  }

  has_outcomes : (path : List ℕ) (row : BootRow) → Allowed (tree_of confirms) (round_one start) path → IsRowOf (kinds.Two confirms) start path row → HasOutcomes start confirms (edge.shown_of row)
  has_outcomes path row allowed is =
      let key = ap campaign_of is.cuts_are ∙ key_is path in
      replayed_at confirms start (length path) path (campaign_of row.cuts) _ _ (record { member = (omega arith, allowed); cuts_are = sym key })
      (first_is (began_at (landed (tree_of confirms) (round_one start) path)) row.ends.first row.ends.last is.ends_so.first) is.ends_so.last

next_texts : (row : BootRow) → CanCountUp row → AreNextTexts campaigns (edge.shown_of row) (edge.shown_of (counted_up 1 row))
next_texts row can =
    let one = shown (first_or row.ends.first row.ends.last) in
    let two = shown row.ends.last in
    record {
      key = next_campaign row.cuts.in_first row.cuts.numbers can;
      rest = codes " " ++ (outcome_text one ++ (codes " " ++ (outcome_text two ++ (codes " " ++ slots_text two))));
      old_is = refl;
      new_is = refl;
    }

pub campaigns_are_family : IsFamily campaigns edge
campaigns_are_family = record {
  keys = are_campaigns;
  order = pairs_in_order;
  some_rest = some_rest;
  key_is = λ row. refl;
  outcomes = has_outcomes;
  texts = next_texts;
  all_rows = all_rows;
  all_keys = λ start confirms path. sym (key_is start confirms path);
  all_ends = λ start confirms path. refl;
  costs = λ start confirms t is two. rw (model_is t, two) (omega (arith, ap (λ (x : PowerOn). most_operations x.rules.grain x.geometry) is));
}
