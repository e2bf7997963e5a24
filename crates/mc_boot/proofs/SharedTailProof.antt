-- What two courses, and the sectors that are erased, say of the flashes after a cut.
use Rattle.std.specs.Prelude.{◌≡◌, ℕ, zero, suc, ◌+◌, ◌<◌, ◌≤◌, max, true, List, [], ◌∷◌, length, map, take, drop, slice_get, Some, IfSome}
use Rattle.std.proofs.{Common.{arith, sym, ap, subst, ◌∙◌, inl, inr}, lemmas.Bool.{cases_lt}, lemmas.Bool.Decides.{nat_tests}}
use Rattle.mc_flash.specs.{Flash.{Content}, Geometry.{Geometry}}
use Rattle.mc_flash.specs.{declared.op.Op.{Op}}
use Rattle.mc_boot.specs.{Joins.{IsCut, erases_of}, Boot.{IsBootOf, begun, progress, course_list}, Outcome.{Report, at, ops_of}}
use Rattle.mc_boot.specs.{Plan.{plan, PowerOn, again}, inner.Idle.{AllIdleBut, changes_nothing}, inner.Meets.{GoesOnWith, Meets, Sector, erase_of}, SharedTail.{IsSharedTail, index_in_parent}}
use Rattle.mc_boot.specs.{declared.boot.Boot.{Boot}, declared.course.Course.{Course}, declared.shared_tail.SharedTail.{SharedTail}}
use Rattle.mc_boot.proofs.{CourseJoins.{boots_join, courses_meet}, Meets.{Fit}}
use Rattle.mc_boot.proofs.{Erased.{AreErased, erased_here}, Joins.{IsJoined, Joins, joined}, SharedTails.{among, beyond_erased, fits, late, next_erases, stays}}

module _ (g : Geometry) (u : Content) where
  idle_before : (es : List Sector) (ops : List Op) (n : ℕ) → take (length es) ops ≡ map erase_of es → Fit g es u
      → ((k : ℕ) → k < n → k < length es → IfSome (slice_get ops k) (λ op. changes_nothing g u op ≡ true)) → AreErased g (take n es) u
  idle_before es ops zero first fit idle = tt
  idle_before [] ops (suc n) first fit idle = tt
  idle_before (e ∷ es) [] (suc n) first fit idle = absurd cc
  idle_before (e ∷ es) (op ∷ ops) (suc n) first fit idle =
      let same : op ≡ erase_of e = cc in
      let beyond : take (length es) ops ≡ map erase_of es = cc in (
        erased_here g u e fit.0 (subst (λ o. changes_nothing g u o ≡ true) same (idle 0 (omega arith) (omega arith))),
        idle_before es ops n beyond fit.1 (λ k lt at_most. idle (suc k) (omega (arith, lt)) (omega (arith, at_most))),
      )

  idle_beyond : (es : List Sector) (ops : List Op) (n : ℕ) → take (length es) ops ≡ map erase_of es → Fit g es u
      → ((k : ℕ) → n ≤ k → k < length es → IfSome (slice_get ops k) (λ op. changes_nothing g u op ≡ true)) → AreErased g (drop n es) u
  idle_beyond [] ops zero first fit idle = tt
  idle_beyond [] ops (suc n) first fit idle = tt
  idle_beyond (e ∷ es) [] n first fit idle = absurd cc
  idle_beyond (e ∷ es) (op ∷ ops) zero first fit idle =
      let same : op ≡ erase_of e = cc in
      let beyond : take (length es) ops ≡ map erase_of es = cc in (
        erased_here g u e fit.0 (subst (λ o. changes_nothing g u o ≡ true) same (idle 0 (omega arith) (omega arith))),
        idle_beyond es ops zero beyond fit.1 (λ k le at_most. idle (suc k) (omega arith) (omega (arith, at_most))),
      )
  idle_beyond (e ∷ es) (op ∷ ops) (suc n) first fit idle =
      let beyond : take (length es) ops ≡ map erase_of es = cc in
      idle_beyond es ops n beyond fit.1 (λ k le at_most. idle (suc k) (omega (arith, le)) (omega (arith, at_most)))

module _ (x : SharedTail) (i : ℕ) where
  placed_beyond : x.erases ≤ i → index_in_parent x i ≡ x.kept + i
  placed_beyond le = grind (arith, nat_tests)

  placed_among : i < x.erases → x.done ≤ x.kept + x.erases → index_in_parent x i ≡ max x.done (x.kept + i)
  placed_among lt le = grind (arith, nat_tests)

  placed_still : i < x.erases → x.kept + x.erases < x.done → i ≤ x.only → index_in_parent x i ≡ x.done
  placed_still lt beyond le = grind (arith, nat_tests)

  placed_over : i < x.erases → x.kept + x.erases < x.done → x.only < i → index_in_parent x i ≡ x.kept + x.erases
  placed_over lt beyond over = grind (arith, nat_tests)

module _ (from : PowerOn) (u : Content) (cut next : Boot) (a b : Course) (whole : Report) (x : SharedTail) where
  module _ (is : IsCut from u cut whole) (at_a : cut.course ≡ Some a) (at_b : next.course ≡ Some b) (of : IsBootOf from.geometry next) where
    module _ (start : progress next ≡ begun from.rules (plan (again from u))) (goes : GoesOnWith a cut.done b x.kept)
        (done : x.done ≡ cut.done) (erases : x.erases ≡ erases_of b) where
      abbrev met : Meets from.geometry (course_list a) (course_list b) cut.done x.kept (erases_of b)
      met = courses_meet from u cut next a b whole x.kept is at_a at_b of start goes

      joins : Joins from u cut.done x.kept met.sectors
      joins = boots_join from u cut next a b whole x.kept is at_a at_b of start goes

      count : length met.sectors ≡ x.erases
      count = met.so_many ∙ sym erases

      goes_on : IsJoined from u x.kept
      goes_on = joined from u cut.done x.kept met.sectors joins

      at_most : x.erases ≤ length (ops_of (again from u))
      at_most = let n = next_erases from u cut.done x.kept met.sectors joins in omega (arith, n, count)

      early : cut.done < length (ops_of from)
      early = is.early

      beyond : (i : ℕ) → x.erases ≤ i → at (again from u) i ≡ at from (index_in_parent x i)
      beyond i le =
          late from u cut.done x.kept met.sectors joins i (omega (arith, le, count)) ∙ ap (at from) (sym (placed_beyond x i le))

      -- The power was lost before the end of the erases.
      pub tail_shared_among : x.done ≤ x.kept + x.erases → IsSharedTail from u x
      tail_shared_among low = record {
        width = goes_on.count;
        at_most = at_most;
        same = λ i lt. elim (cases_lt i x.erases) [
          | inl under ↦
              among from u cut.done x.kept met.sectors joins (omega (arith, low, done, count)) i (omega (arith, under, count))
              ∙ ap (λ n. at from (max n (x.kept + i))) (sym done)
              ∙ ap (at from) (sym (placed_among x i under low))
          | inr le ↦ beyond i le
        ];
        within = λ i lt. elim (cases_lt i x.erases) [
          | inl under ↦ omega (arith, placed_among x i under low, under, goes_on.count, at_most, early, done)
          | inr le ↦ omega (arith, placed_beyond x i le, lt, goes_on.count)
        ];
        left = goes_on.left;
      }

      -- The power was lost after them, and all but one of them are made already.
      pub tail_shared_beyond : x.kept + x.erases < x.done → AllIdleBut from.geometry u (course_list b) x.only x.erases → IsSharedTail from u x
      tail_shared_beyond high idle = record {
        width = goes_on.count;
        at_most = at_most;
        same = λ i lt. elim (cases_lt i x.erases) [
          | inl under ↦ elim (cases_lt x.only i) [
            | inl over ↦
                beyond_erased from u cut.done x.kept met.sectors joins i (omega (arith, under, count)) (left i over)
                ∙ ap (λ n. at from (x.kept + n)) count
                ∙ ap (at from) (sym (placed_over x i under high over))
            | inr still ↦
                stays from u cut.done x.kept met.sectors joins i (omega (arith, under, count)) (before i still)
                ∙ ap (at from) (sym done)
                ∙ ap (at from) (sym (placed_still x i under high still))
          ]
          | inr le ↦ beyond i le
        ];
        within = λ i lt. elim (cases_lt i x.erases) [
          | inl under ↦ elim (cases_lt x.only i) [
            | inl over ↦ omega (arith, placed_over x i under high over, high, done, early)
            | inr still ↦ omega (arith, placed_still x i under high still, done, early)
          ]
          | inr le ↦ omega (arith, placed_beyond x i le, lt, goes_on.count)
        ];
        left = goes_on.left;
      }
        where
          fit : Fit from.geometry met.sectors u
          fit = fits from u cut.done x.kept met.sectors joins

          first : take (length met.sectors) (course_list b) ≡ map erase_of met.sectors
          first = met.begins.erases

          before : (i : ℕ) → i ≤ x.only → AreErased from.geometry (take i met.sectors) u
          before i still =
              idle_before from.geometry u met.sectors (course_list b) i first fit (λ k lt short. idle k (omega (arith, short, count)) (λ e. omega (arith, lt, still, e)))

          left : (i : ℕ) → x.only < i → AreErased from.geometry (drop i met.sectors) u
          left i over =
              idle_beyond from.geometry u met.sectors (course_list b) i first fit (λ k le short. idle k (omega (arith, short, count)) (λ e. omega (arith, le, over, e)))
