use Rattle.std.proofs.Common.{None, Some, [], ap, arith, length, refl, subst, sym, ℕ, ◌++◌, ◌+◌, ◌<◌, ◌≤◌, ◌≡◌, ◌∙◌, ◌∷◌}
use Rattle.std.specs.Prelude.{if◌then◌else◌}
use Rattle.mc_boot.specs.SharedTail.{index_in_parent}
use Rattle.mc_explore.proofs.{BootLast.{row_there}, CutsAlong.{along_few, along_short, more_later, same_round, still_there}}
use Rattle.mc_explore.specs.{declared.boot_row.BootRow.{BootRow}, declared.boot_row.Cuts.{Cuts}, facts.LastCuts.{like_there, told_there}}
use Rattle.mc_explore.specs.inner.{BootRows.{AreLikePaths, EndSoAt, IsRowIn, counted_up, cut_at, first_there, left_in_round, one_cut_more}, BootTree.{begins_of, model_of}}
use Rattle.mc_explore.proofs.last_cuts.row_ahead.Goals as goal

pub cuts_of-cuts-requires-clause-short : goal.cuts_of-cuts-requires-clause-short
cuts_of-cuts-requires-clause-short c =
    let t = c.args.flash_tree.now in
    omega (arith, c.requires.short, ap (λ (z : Cuts). length z.numbers) c.requires.are.cuts_are, along_short t.rounds (begins_of t) c.args.path.now)

pub cuts_of-cuts-requires-clause-few : goal.cuts_of-cuts-requires-clause-few
cuts_of-cuts-requires-clause-few c =
    let t = c.args.flash_tree.now in
    omega (arith, c.requires.short, ap (λ (z : Cuts). z.in_first) c.requires.are.cuts_are, along_few t.rounds (begins_of t) c.args.path.now)

pub returns-in_err-told-clause-row : goal.returns-in_err-told-clause-row
returns-in_err-told-clause-row c =
    let t = c.args.flash_tree.now in
    let rows = c.args.rows.now in
    absurd (told_there (model_of t) (AreLikePaths t) (EndSoAt t) c.args.path.now c.args.kept.now rows.ahead.shared_tail rows.count rows.next c.requires.are.are c.requires.some None
    (λ i at split lt. rw c.in_err-told.was at (c.find.ensures i at split lt)) c.requires.kept)

pub returns-clause-row : goal.returns-clause-row
returns-clause-row c =
    let t = c.args.flash_tree.now in
    let rows = c.args.rows.now in
    let kept = c.args.kept.now in
    let path = c.args.path.now in
    let are = c.requires.are in
    let told = c.in_ok-told.told.now in
    let alike = c.in_ok-told.alike in
    let in_first = rows.ahead.in_first in
    let ends = told_there (model_of t) (AreLikePaths t) (EndSoAt t) path kept rows.ahead.shared_tail rows.count rows.next are.are c.requires.some (Some (told, alike))
    (λ i at split lt. rw c.in_ok-told.was at (c.find.ensures i at split lt)) c.requires.kept in
    let row : BootRow = record { cuts = c.cuts_of-cuts.result; ends = c.ends_of-ends.result } in
    let there : (j n : ℕ) → rows.next + j ≡ n → j ≤ alike → n < rows.count → first_there rows.ahead told n ≡ first_there rows.ahead told rows.next → (cuts : Cuts)
    → cuts ≡ one_cut_more rows.ahead.cuts (cut_at in_first n) → IsRowIn t (path ++ n ∷ []) (record { cuts = cuts; ends = row.ends }) = λ j n is le lt first cuts cuts_are.
    let like = like_there (model_of t) (AreLikePaths t) (EndSoAt t) path kept rows.ahead.shared_tail rows.count n are.are lt in
    let here = subst (λ m. EndSoAt t (kept.parent_path ++ index_in_parent rows.ahead.shared_tail m ∷ []) told) is (ends j le) in
    row_there t kept path rows.ahead rows.count n are told like here (record { cuts = cuts; ends = row.ends }) cuts_are (c.ends_of-ends.ensures.first ∙ sym first) c.ends_of-ends.ensures.last in
    let few : c.min-rows.result ≤ alike = omega (arith, c.min-rows.ensures) in (
      there 0 rows.next (omega arith) (omega arith) c.requires.some refl row.cuts c.cuts_of-cuts.ensures,
      λ j lt.
          let left : j + 1 < left_in_round in_first rows.next rows.count = omega (arith, lt, c.min-rows.ensures, c.saturating_sub.ensures, c.left_in_round-left.ensures) in
          let next : rows.next + (j + 1) ≡ rows.next + 1 + j = omega arith in
          let cuts = ap (λ (z : Cuts). (counted_up (j + 1) (record { cuts = z; ends = row.ends })).cuts) c.cuts_of-cuts.ensures ∙ more_later in_first rows.next rows.count (j + 1) left rows.ahead.cuts
          ∙ ap (λ n. one_cut_more rows.ahead.cuts (cut_at in_first n)) next in
          let round = ap (λ b. if b then told.first else rows.ahead.first) (same_round in_first rows.next rows.count (j + 1) left) in
          there (j + 1) (rows.next + 1 + j) next (omega (arith, few, lt)) (omega (arith, still_there in_first rows.next rows.count (j + 1) left))
          (ap (first_there rows.ahead told) (sym next) ∙ round) (counted_up (j + 1) row).cuts cuts,
    )
