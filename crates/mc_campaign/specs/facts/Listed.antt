-- The rows of campaigns are listed as those of the tree of two rounds.
use Rattle.std.specs.Prelude.{◌≡◌, ℕ, Bool, List, map}
use Rattle.std.proofs.Common.{refl, sym, ap, subst, ◌∙◌}
use Rattle.mc_tree.specs.Tree.{IsMember, RoundNode, landed, round_one}
use Rattle.mc_tree.specs.facts.Existence as existence
use Rattle.mc_tree.specs.{facts.Existence.{AreRows, all_from, all_rest}, facts.Order.{pairs_in_order}}
use Rattle.mc_flash.specs.Flash.{Content}
use Rattle.mc_boot.specs.{Restart.{confirmed_if}, Outcome.{Report, outcome_of, left_by}, facts.Run.{outcome_defined}, Plan.{PowerOn, again}}
use Rattle.mc_explore.specs.{Pages.{IsLawful}, Schedules.{IsReplayed}, Subject.{are_lawful, rows_of}}
use Rattle.mc_campaign.specs.{Campaigns.{Precedes, in_round, AreReplayed}}
use Rattle.mc_campaign.specs.Rounds.{cuts_along}
use Rattle.mc_campaign.specs.Rows.{IsRest, IsRow, campaigns, State, ShownRow, HasOutcomes, at_start}
use Rattle.mc_campaign.specs.facts.Paths.{listed_along, path_of, replayed_at, same_order, some_same}
use Rattle.mc_explore.specs.Rounds.{tree_of}
use Rattle.mc_explore.specs.inner.{BootEnds.{report_from}, BootTree.{began_at, later_from}}

-- ---- a campaign has one row

module _ (x : PowerOn) (cuts : List ℕ) (o p : Report) (y z : Content) (a : IsReplayed x cuts o y) (b : IsReplayed x cuts p z) where
  same_cut : a.cut ≡ b.cut
  same_cut = some_same a.cut b.cut (sym a.occurs ∙ b.occurs)

  same_outcome : o ≡ p
  same_outcome = some_same o p (sym a.outcome_is ∙ ap (λ s. outcome_of (again x s)) same_cut ∙ b.outcome_is)

  same_left : y ≡ z
  same_left = some_same y z (sym a.left ∙ ap (λ s. left_by (again x s)) same_cut ∙ b.left)

summary_of : List (ℕ × ℕ) → Report → Report → ShownRow
summary_of c one two = record { campaign = c; first = one; second = two }

summary_is : (c d : List (ℕ × ℕ)) (o p x y : Report) → c ≡ d → o ≡ p → x ≡ y → summary_of c o x ≡ summary_of d p y
summary_is c d o p x y a b e = cc

module _ (start : PowerOn) (confirms : Bool) where
  same_row : (x y : ShownRow) → HasOutcomes start confirms x → HasOutcomes start confirms y → x.campaign ≡ y.campaign → x ≡ y
  unfolding summary_of
  same_row x y (end, a) outcomes e =
      let c = x.campaign in
      let moved = subst (λ d. (z : Content) × AreReplayed start confirms d y.first y.second z) (sym e) outcomes in
      let b = moved.1 in
      let one = same_outcome start (in_round 1 c) x.first y.first a.middle b.middle a.first b.first in
      let middle = same_left start (in_round 1 c) x.first y.first a.middle b.middle a.first b.first in
      let second = subst (λ m. IsReplayed (again start (confirmed_if confirms start.geometry m)) (in_round 2 c) y.second moved.0) (sym middle) b.second in
      let two = same_outcome (again start (confirmed_if confirms start.geometry a.middle)) (in_round 2 c) x.second y.second end moved.0 a.second second in
      summary_is x.campaign y.campaign x.first y.first x.second y.second e one two

  -- The row of a path: its campaign, and what the boots come to from the node at its end.
  abbrev pub node_at : List ℕ → RoundNode PowerOn
  node_at path = landed (tree_of confirms) (round_one start) path

  abbrev pub row_at : List ℕ → ShownRow
  row_at path = record {
    campaign = cuts_along confirms start path;
    first = report_from (began_at (node_at path));
    second = report_from (later_from confirms (node_at path));
  }

  has_outcomes : (bound : ℕ) (path : List ℕ) → IsMember (tree_of confirms) (round_one start) bound path → HasOutcomes start confirms (row_at path)
  has_outcomes bound path m =
      replayed_at confirms start bound path (row_at path).campaign (row_at path).first (row_at path).second (record { member = m; cuts_are = refl })
      (outcome_defined (began_at (node_at path))).1 (outcome_defined (later_from confirms (node_at path))).1

  are_rows : (bound : ℕ) → AreRows Precedes pairs_in_order (λ row. row.campaign) (IsRow start confirms bound) (tree_of confirms) (round_one start) bound row_at
  are_rows bound =
      record {
        in_order = λ l m i j before. (same_order confirms start bound l m _ _ (record { member = i; cuts_are = refl }) (record { member = j; cuts_are = refl })).1 before;
        is_row = λ l i. record { listed = (listed_along confirms start bound l i).0; outcome = has_outcomes bound l i };
        only = λ row is.
            let p = path_of confirms start bound row.campaign is.listed in
            (p.0, p.1.member, same_row row (row_at p.0) is.outcome (has_outcomes bound p.0 p.1.member) (sym p.1.cuts_are));
      }

  -- The rows from the start, as those of all paths.
  pub all_rows : (bound : ℕ) → IsRest (at_start start confirms bound) (map row_at (all_from (tree_of confirms) bound (round_one start)))
  all_rows bound =
      all_rest Precedes pairs_in_order (λ row. row.campaign) (IsRow start confirms bound) (tree_of confirms) (round_one start) bound row_at (are_rows bound)

pub some_rest : (state : State) → (rows : List ShownRow) × IsRest state rows
some_rest state =
    existence.some_rest Precedes pairs_in_order (λ row. row.campaign) (IsRow state.start state.choice state.bound) (tree_of state.choice)
    (round_one state.start) state.bound (row_at state.start state.choice) (are_rows state.start state.choice state.bound) state.position

pub campaigns_are_lawful : IsLawful (rows_of campaigns)
campaigns_are_lawful = are_lawful campaigns pairs_in_order some_rest
