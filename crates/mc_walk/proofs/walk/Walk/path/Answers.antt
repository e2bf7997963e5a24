use Rattle.std.proofs.{Common.{◌≡◌, ℕ, ◌<◌, ◌≤◌, List, take, length, length-take, ◌++◌, ◌∷◌, [], sym, ap, ◌∙◌, arith}, lemmas.List.{length-map, take_more}}
use Rattle.mc_walk.specs.{inner.Stack.{path_of}, declared.frame.Frame.{Frame}}
use Rattle.mc_walk.proofs.{Stacks.{path-push}, Steps.{standing}}
use Rattle.mc_walk.proofs.walk.Walk.path.Goals as goal

small : 72 < 9223372036854775808
small = omega arith

-- There is room for one number more.
room : {A T : Type 0} (items : List ℕ) (fs all : List (Frame A T)) (i bound : ℕ) → items ≡ path_of (take i fs) → i < length fs → fs ≡ all → length all ≤ bound → bound ≤ 16
    → length items < 16
room items fs all i bound is lt same at_most most = grind (arith, length-map, length-take)

pub push-requires : goal.push-requires
push-requires g c = grind (arith, standing, room, small)

pub loop-frame-preserved : goal.loop-frame-preserved
loop-frame-preserved g c =
    let fs = c.deref-frame-items.result.now in
    let i = c.loop-frame.frame-index in
    let f = c.frame-item.result in
    let more = take_more fs i f c.loop-frame-test.true ∙ ap (λ z. take i fs ++ z ∷ []) (sym c.frame-item.is) in
    c.push.ensures.items ∙ ap (λ z. z ++ f.number ∷ []) c.loop-frame.invariant ∙ sym (ap path_of more ∙ path-push (take i fs) f)
