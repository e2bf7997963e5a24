-- Operations that change nothing: erases of sectors that are erased.
use Rattle.std.specs.{List.{between}, Prelude.{Bool, IfSome, List, false, slice_get, true, ℕ, ◌*◌, ◌+◌, ◌<◌, ◌≡◌, ◌≢◌}}
use Rattle.mc_flash.specs.{Flash.{Content, bytes_of, is_blank}, Geometry.{Geometry}, declared.op.Op.{Op}, declared.op.Op.TheVariants.{Copy, Erase, Program}}

-- It erases a sector that is erased.
abbrev pub changes_nothing : Geometry → Content → Op → Bool
changes_nothing g s (Erase slot sector) =
    is_blank (between (sector * g.sector) (sector * g.sector + g.sector) (bytes_of s slot))
changes_nothing g s (Program slot at bytes) = false
changes_nothing g s (Copy from at to offset len) = false

-- The first so many operations change nothing, but for that one.
abbrev pub AllIdleBut : Geometry → Content → List Op → ℕ → ℕ → Type 0
AllIdleBut g s ops only count =
    (i : ℕ) → i < count → i ≢ only → IfSome (slice_get ops i) (λ op. changes_nothing g s op ≡ true)
