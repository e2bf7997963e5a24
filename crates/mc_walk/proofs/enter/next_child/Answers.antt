use Rattle.std.proofs.Common.{◌≡◌, ℕ, ◌+◌, ◌-◌, ◌<◌, ◌≤◌, List, [], ◌∷◌, ◌++◌, length, length-append, sym, ap, subst, ◌∙◌, arith}
use Rattle.std.proofs.lemmas.Result.{err_from_is_err_and}
use Rattle.mc_flash.specs.{Usage.{Seen, marked, Spent}, facts.Spends.{mark_spends, ran_out_later, spent_both, spent_marked, spent_more}}
use Rattle.mc_walk.specs.TreeModel.{HasNext}
use Rattle.mc_walk.proofs.{Steps.{gone_on, last_now, last_set, mark_on, next_on}}
use Rattle.mc_walk.proofs.enter.next_child.Goals as goal

-- Where the last of a list stands.
within : {X : Type 0} (n : ℕ) (all before : List X) (x : X) → n ≡ length all → all ≡ before ++ x ∷ [] → 1 ≤ n
within n all before x e split = omega (arith, e, ap length split, length-append before (x ∷ []))

below : (n : ℕ) → 1 ≤ n → n - 1 < n
below n h = omega (arith, h)

-- The number of the last.
end : (n m : ℕ) → n ≡ m → n - 1 ≡ m - 1
end n m e = ap (λ z. z - 1) e

-- From one child on to the next, which is marked.
both : (a : ℕ) (x y z : Seen) → Spent a x y → z ≡ marked y → Spent a x z
both a x y z s m = subst (Spent a x) (sym m) (spent_more (a + 0) a x (marked y) (omega arith) (spent_both a 0 x y (marked y) s (spent_marked y)))

pub overflow_sub-end : goal.overflow_sub-end
overflow_sub-end g c = within _ _ _ _ (c.len-end.ensures ∙ c.args.frames.now.ok.0) c.requires.frames_are

pub index_mut-last-requires : goal.index_mut-last-requires
index_mut-last-requires g c = subst (λ n. c.len-end.result - 1 < n) c.len-end.ensures (below _ (within _ _ _ _ (c.len-end.ensures ∙ c.args.frames.now.ok.0) c.requires.frames_are))

pub next-requires : goal.next-requires
next-requires g c =
    let k = g.B.FlashTree.model c.args.flash_tree in
    let is = last_now k _ _ _ _ _ (end _ _ (c.len-end.ensures ∙ c.args.frames.now.ok.0)) c.index_mut-last.ensures.value c.requires.frames_are in
    subst (λ f. HasNext k f.at (g.F.Flash.seen c.args.flash.now)) (sym is) c.requires.has_next

pub overflow_add-last : goal.overflow_add-last
overflow_add-last g c =
    let is = last_now (g.B.FlashTree.model c.args.flash_tree) _ _ _ _ _ (end _ _ (c.len-end.ensures ∙ c.args.frames.now.ok.0)) c.index_mut-last.ensures.value c.requires.frames_are in
    rw is (grind arith)

pub returns-in_err-mark-clause-spends : goal.returns-in_err-mark-clause-spends
returns-in_err-mark-clause-spends g c =
    let k = g.B.FlashTree.model c.args.flash_tree in
    let h = c.in_ok-next.ensures in
    let is = last_now k _ _ _ _ _ (end _ _ (c.len-end.ensures ∙ c.args.frames.now.ok.0)) c.index_mut-last.ensures.value c.requires.frames_are in
    let p = err_from_is_err_and c.from_residual-in_err-mark.result c.from_residual-in_err-mark.ensures.1 in
    let room = mark_on k _ _ _ c.requires c.index_mut-last.result.now is c.next.new.at h.keeps h.goes_on h.spends in
    rw p.1 (ran_out_later _ _ _ _ h.spends (rw c.in_err-mark.was at (mark_spends _ _ c.mark.result room c.mark.ensures)))

pub returns-clause-goes : goal.returns-clause-goes
returns-clause-goes g c =
    let k = g.B.FlashTree.model c.args.flash_tree in
    let h = c.in_ok-next.ensures in
    let index_is = end _ _ (c.len-end.ensures ∙ c.args.frames.now.ok.0) in
    let is = last_now k _ _ _ _ _ index_is c.index_mut-last.ensures.value c.requires.frames_are in
    let next = next_on k _ _ _ c.requires c.index_mut-last.result.now is c.next.new.at h.keeps h.goes_on h.spends in
    gone_on k _ _ _ c.requires c.index_mut-last.result.now is c.next.new.at h.keeps h.goes_on h.spends _ _ c.in_ok-mark.ensures.1
    (last_set k _ _ _ next (c.len-end.result - 1) index_is c.requires.frames_are)

pub returns-clause-spends : goal.returns-clause-spends
returns-clause-spends g c = both _ _ _ _ c.in_ok-next.ensures.spends c.in_ok-mark.ensures.1
