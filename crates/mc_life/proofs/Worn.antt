-- Counts after operations, one after another.
use Rattle.std.specs.Prelude.{◌≡◌, ℕ, zero, suc, ◌+◌, ◌-◌, ◌^◌, ◌<◌, ◌≤◌, min, List, [], ◌∷◌, ◌++◌, length, refl}
use Rattle.std.proofs.{Common.{arith, ap, ◌∙◌, get_or}, Math.ListN.{set}}
use Rattle.mc_boot.specs.Life.{all_erases}
use Rattle.mc_flash.specs.{declared.op.Op.{Op}, declared.op.Op.TheVariants.{Erase}, declared.op.Slot.{Slot}, declared.op.Slot.TheVariants.{Primary, Secondary}}
use Rattle.mc_life.specs.Device.{AreCounts, Counts, worn, worn_from}

pub all_erases_both : (slot : Slot) (sector : ℕ) (ops more : List Op) → all_erases slot sector (ops ++ more) ≡ all_erases slot sector ops + all_erases slot sector more
all_erases_both slot sector [] more = omega arith
all_erases_both slot sector (op ∷ ops) more = omega (arith, all_erases_both slot sector ops more)

from_both : (slot : Slot) (sector : ℕ) (ns : List ℕ) (ops more : List Op) → worn_from slot sector (worn_from slot sector ns ops) more ≡ worn_from slot sector ns (ops ++ more)
from_both slot sector [] ops more = refl
from_both slot sector (n ∷ ns) ops more =
    let one : min (2 ^ 64 - 1) (min (2 ^ 64 - 1) (n + all_erases slot sector ops) + all_erases slot sector more) ≡ min (2 ^ 64 - 1) (n + all_erases slot sector (ops ++ more)) =
    omega (arith, all_erases_both slot sector ops more) in
    ap (λ (x : ℕ). x ∷ worn_from slot (sector + 1) (worn_from slot (sector + 1) ns ops) more) one
    ∙ ap (λ (z : List ℕ). min (2 ^ 64 - 1) (n + all_erases slot sector (ops ++ more)) ∷ z) (from_both slot (sector + 1) ns ops more)

-- Operations in two parts.
pub worn_both : (w : Counts) (ops more : List Op) → worn (worn w ops) more ≡ worn w (ops ++ more)
worn_both w ops more = grind (arith, from_both)

abbrev Idle : Slot → List Op → Type 0
Idle slot ops = (sector : ℕ) → all_erases slot sector ops ≡ 0

from_idle : (slot : Slot) (sector : ℕ) (ns : List ℕ) (ops : List Op) → AreCounts ns → ((i : ℕ) → sector ≤ i → all_erases slot i ops ≡ 0) → ns ≡ worn_from slot sector ns ops
from_idle slot sector [] ops small idle = refl
from_idle slot sector (n ∷ ns) ops small idle =
    let one : n ≡ min (2 ^ 64 - 1) (n + all_erases slot sector ops) = omega (arith, small 0 0 (omega arith), idle sector (omega arith)) in
    ap (λ (x : ℕ). x ∷ ns) one
    ∙ ap (λ (z : List ℕ). min (2 ^ 64 - 1) (n + all_erases slot sector ops) ∷ z) (from_idle slot (sector + 1) ns ops (λ i d lt. small (suc i) d (omega (arith, lt))) (λ i le. idle i (omega
    (arith, le))))

-- Operations that erase nothing.
pub worn_idle : (w : Counts) (ops : List Op) → AreCounts w.primary → AreCounts w.secondary → Idle Primary ops → Idle Secondary ops → w ≡ worn w ops
worn_idle w ops small below idle rests = grind (arith, from_idle)

-- ---- one erase

erase_here : (slot : Slot) (sector at : ℕ) → at ≡ sector → all_erases slot sector (Erase slot at ∷ []) ≡ 1
erase_here it sector at is = grind arith

erase_there : (slot : Slot) (sector at : ℕ) → (at ≡ sector → ⊥) → all_erases slot sector (Erase slot at ∷ []) ≡ 0
erase_there it sector at other = grind arith

pub erased_once : (slot : Slot) (sector at k x had : ℕ) (ns : List ℕ) → at ≡ sector + k → k < length ns → get_or ns k had ≡ had → x ≡ min (had + 1) (2 ^ 64 - 1) → AreCounts (set ns k x)
    → set ns k x ≡ worn_from slot sector ns (Erase slot at ∷ [])
erased_once slot sector at k x had [] is inside was more small = absurd (omega (arith, inside))
erased_once slot sector at zero x had (n ∷ ns) is inside was more small =
    let one : x ≡ min (2 ^ 64 - 1) (n + all_erases slot sector (Erase slot at ∷ [])) = omega (arith, more, was, erase_here slot sector at (omega (arith, is))) in
    ap (λ (y : ℕ). y ∷ ns) one
    ∙ ap (λ (z : List ℕ). min (2 ^ 64 - 1) (n + all_erases slot sector (Erase slot at ∷ [])) ∷ z)
    (from_idle slot (sector + 1) ns (Erase slot at ∷ []) (λ i d lt. small (suc i) d (omega (arith, lt))) (λ i le. erase_there slot i at (λ e. omega (arith, is, le, e))))
erased_once slot sector at (suc k) x had (n ∷ ns) is inside was more small =
    let one : n ≡ min (2 ^ 64 - 1) (n + all_erases slot sector (Erase slot at ∷ [])) =
    omega (arith, small 0 0 (omega arith), erase_there slot sector at (λ e. omega (arith, is, e))) in
    ap (λ (y : ℕ). y ∷ set ns k x) one
    ∙ ap (λ (z : List ℕ). min (2 ^ 64 - 1) (n + all_erases slot sector (Erase slot at ∷ [])) ∷ z)
    (erased_once slot (sector + 1) at k x had ns (omega (arith, is)) (omega (arith, inside)) was more (λ i d lt. small (suc i) d (omega (arith, lt))))

-- An erase beyond the sectors counts nothing.
pub erased_none : (slot : Slot) (at : ℕ) (ns : List ℕ) → length ns ≤ at → AreCounts ns → ns ≡ worn_from slot 0 ns (Erase slot at ∷ [])
erased_none slot at ns beyond small = go 0 ns (omega (arith, beyond)) small
  where
    go : (sector : ℕ) (ns : List ℕ) → sector + length ns ≤ at → AreCounts ns → ns ≡ worn_from slot sector ns (Erase slot at ∷ [])
    go sector [] le small = refl
    go sector (n ∷ ns) le small =
        let one : n ≡ min (2 ^ 64 - 1) (n + all_erases slot sector (Erase slot at ∷ [])) =
        omega (arith, small 0 0 (omega arith), erase_there slot sector at (λ e. omega (arith, le, e))) in
        ap (λ (y : ℕ). y ∷ ns) one
        ∙ ap (λ (z : List ℕ). min (2 ^ 64 - 1) (n + all_erases slot sector (Erase slot at ∷ [])) ∷ z)
        (go (sector + 1) ns (omega (arith, le)) (λ i d lt. small (suc i) d (omega (arith, lt))))

-- One slot was noted, and of the other nothing is erased.
pub noted_primary : (w : Counts) (ns : List ℕ) (sector : ℕ) → AreCounts w.secondary → ns ≡ worn_from Primary 0 w.primary (Erase Primary sector ∷ [])
    → record { primary = ns; secondary = w.secondary } ≡ worn w (Erase Primary sector ∷ [])
noted_primary w ns sector small is = grind (arith, from_idle)

pub noted_secondary : (w : Counts) (ns : List ℕ) (sector : ℕ) → AreCounts w.primary → ns ≡ worn_from Secondary 0 w.secondary (Erase Secondary sector ∷ [])
    → record { primary = w.primary; secondary = ns } ≡ worn w (Erase Secondary sector ∷ [])
noted_secondary w ns sector small is = grind (arith, from_idle)
