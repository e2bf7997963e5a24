-- Why a file is not written.
use Rattle.std.specs.Prelude.{◌≡◌, ◌⊎◌}
use Rattle.mc_options.specs.declared.refusal.Refusal.{Refusal}
use Rattle.mc_options.specs.declared.refusal.Refusal.TheVariants as refusals

-- It cannot be made, or an allocation failed.
abbrev pub IsUnmade : Refusal → Type 0
IsUnmade e = (e ≡ refusals.Open) ⊎ (e ≡ refusals.Memory)

-- Or what is to be written into it is refused so, or it cannot be written, or take its target's place.
abbrev pub IsUnfinished : (Refusal → Type 0) → Refusal → Type 0
IsUnfinished Refuses e = IsUnmade e ⊎ (Refuses e ⊎ (e ≡ refusals.Write))
