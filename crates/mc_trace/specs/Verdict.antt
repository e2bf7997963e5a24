-- What a dump comes to, at one look: this project's own text (docs/FORMAT.md, "Inspection").
use Rattle.std.specs.Prelude.{Bool, true, List, None, Option, Some, [], codes, decimal, false, if◌then◌else◌, length, nat_lt, not, ℕ, ◌&&◌, ◌++◌, ◌==◌, ◌||◌}
use Rattle.std.specs.Str.{bytes_eq}
use Rattle.mc_boot.specs.{Outcome.{Report}, declared.outcome.BootResult.{BootResult}}
use Rattle.mc_boot.specs.declared.outcome.BootResult.TheVariants as results
use Rattle.mc_explore.specs.Right.{is_version}
use Rattle.mc_flash.specs.Geometry.{Geometry}
use Rattle.mc_image.specs.Valid.{Identity}
use Rattle.mc_trace.specs.declared.verdict.Fate.{Fate}
use Rattle.mc_trace.specs.declared.verdict.Fate.TheVariants as fates

-- Two images are one.
abbrev pub is_one : Identity → Identity → Bool
is_one a b = is_version a.version b.version && a.size == b.size && bytes_eq a.digest b.digest

-- A slot holds an image.
abbrev pub holds : Identity → Option Identity → Bool
holds image None = false
holds image (Some held) = is_one image held

abbrev pub is_boot : BootResult → Bool
is_boot results.Boot = true
is_boot _ = false

-- The primary held an image, and the boot runs none, or neither slot holds it then.
abbrev pub is_lost : Option Identity → Report → Bool
is_lost None o = false
is_lost (Some image) o = not (is_boot o.result && (holds image o.primary || holds image o.secondary))

abbrev pub end_of : BootResult → Fate
end_of results.Boot = fates.Boots
end_of results.None = fates.NoImage
end_of results.Panic = fates.Panics
end_of results.Fault = fates.Faults

-- The first of these that holds: the layout never swaps; something hints that it does not fit; the boot loses the primary's image; else
-- how the boot ends.
abbrev pub fate_of : Geometry → Bool → Option Identity → Report → Fate
fate_of g hinted image o =
    if nat_lt g.max_sectors g.primary then fates.NeedsSectors g.primary
    else if hinted then fates.NeedsOther
    else if is_lost image o then fates.Loses
    else end_of o.result

unfoldable pub fate_text : Fate → List ℕ
fate_text (fates.NeedsSectors n) = codes "needs --max-sectors " ++ decimal n
fate_text fates.NeedsOther = codes "needs another layout or another dump"
fate_text fates.Loses = codes "the next boot loses the image that the primary holds"
fate_text fates.Boots = codes "boots"
fate_text fates.NoImage = codes "no image"
fate_text fates.Panics = codes "panics"
fate_text fates.Faults = codes "faults"

-- The verdict on a flash of these hints, where the primary holds that image, if any, and the boot from there has that outcome.
abbrev pub verdict_text : Geometry → List ℕ → Option Identity → Option Report → List ℕ
verdict_text g hints image None = []
verdict_text g hints image (Some o) = codes "verdict " ++ (fate_text (fate_of g (not (length hints == 0)) image o) ++ codes "\n")
