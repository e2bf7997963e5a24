use Rattle.std.proofs.{Common.{◌≡◌, ℕ, ◌+◌, ◌-◌, ◌*◌, ◌<◌, ◌≤◌, Fits, w32, arith}, Math.Nat.{mul-le-mul_right}}
use Rattle.mc_flash.specs.{Flash.{size_of}, Geometry.{Geometry, IsLayout}, declared.op.Slot.TheVariants.{Primary}, facts.Layouts.{trailer_inside}}
use Rattle.mc_trailer.specs.facts.Places.{entry_aligned, entry_ends}
use Rattle.mc_trailer.proofs.places.entry_place.Goals as goal

-- The entries and the fields fit the slot, and an entry lies among the entries.
trailer : (g : Geometry) (m u s : ℕ) → m ≡ g.max_sectors → u ≡ g.unit → s ≡ size_of g Primary → IsLayout g → 48 + 3 * m * u ≤ s
trailer g m u s em eu es ok = rw (em, eu, es) (omega (arith, trailer_inside g Primary ok))

before : (g : Geometry) (e m u : ℕ) → m ≡ g.max_sectors → u ≡ g.unit → e < 3 * g.max_sectors → e * u ≤ 3 * m * u
before g e m u em eu below = rw (em, eu) (mul-le-mul_right g.unit (omega (arith, below)))

fits : (n rest s : ℕ) → n ≤ 48 + rest → 48 + rest ≤ s → s < 4294967296 → Fits w32 n
fits n rest s le inside small = omega (arith, le, inside, small)

at_most : (g : Geometry) (m : ℕ) → m ≡ g.max_sectors → IsLayout g → Fits w32 (3 * m)
at_most g m e ok = let most = ok.few_sectors in omega (arith, e, most)

over : (n rest : ℕ) → n ≤ rest → n ≤ 48 + rest
over n rest le = omega (arith, le)

left : (n rest s : ℕ) → 48 + rest ≤ s → (48 + rest) - n ≤ s
left n rest s le = omega (arith, le)

pub overflow_mul-result : goal.overflow_mul-result
overflow_mul-result c = at_most _ _ c.max_sectors.ensures.value c.max_sectors.ensures.valid

pub overflow_mul-result-2 : goal.overflow_mul-result-2
overflow_mul-result-2 c =
    fits _ _ _ (over _ _ (omega arith))
    (trailer c.args.layout.now _ _ _ c.max_sectors.ensures.value c.unit-unit.ensures.value c.size.ensures.value c.size.ensures.valid) c.size.type_inv

pub overflow_add-result : goal.overflow_add-result
overflow_add-result c =
    fits _ _ _ (omega arith)
    (trailer c.args.layout.now _ _ _ c.max_sectors.ensures.value c.unit-unit.ensures.value c.size.ensures.value c.size.ensures.valid) c.size.type_inv

pub overflow_mul-result-3 : goal.overflow_mul-result-3
overflow_mul-result-3 c =
    fits _ _ _ (over _ _ (before c.args.layout.now _ _ _ c.max_sectors.ensures.value c.unit-unit.ensures.value c.requires))
    (trailer c.args.layout.now _ _ _ c.max_sectors.ensures.value c.unit-unit.ensures.value c.size.ensures.value c.size.ensures.valid) c.size.type_inv

pub overflow_sub-result : goal.overflow_sub-result
overflow_sub-result c = over _ _ (before c.args.layout.now _ _ _ c.max_sectors.ensures.value c.unit-unit.ensures.value c.requires)

pub overflow_sub-result-2 : goal.overflow_sub-result-2
overflow_sub-result-2 c = left _ _ _ (trailer c.args.layout.now _ _ _ c.max_sectors.ensures.value c.unit-unit.ensures.value c.size.ensures.value c.size.ensures.valid)

pub returns-clause-place : goal.returns-clause-place
returns-clause-place c = cc

pub returns-clause-inside : goal.returns-clause-inside
returns-clause-inside c = rw (c.size.ensures.value, c.max_sectors.ensures.value, c.unit-unit.ensures.value) (entry_ends c.args.layout.now c.args.entry c.size.ensures.valid c.requires)

pub returns-clause-aligned : goal.returns-clause-aligned
returns-clause-aligned c = rw (c.size.ensures.value, c.max_sectors.ensures.value, c.unit-unit.ensures.value) (entry_aligned c.args.layout.now c.args.entry c.size.ensures.valid)
