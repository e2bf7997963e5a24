-- How a boot ends from a flash that power was lost on, and which ends are told apart (docs/FORMAT.md, "Torn operations"): this project's own.
use Rattle.std.specs.Prelude.{Bool, List, None, Option, Some, codes, false, length, not, true, ℕ, ◌&&◌, ◌++◌, ◌==◌}
use Rattle.std.specs.Bool.{beq}
use Rattle.std.specs.Str.{bytes_eq}
use Rattle.mc_boot.specs.{Life.{is_at_rest}, Outcome.{Report, is_faulted, left_by, ops_of, report, shown}, Plan.{PowerOn, number_of, plan}}
use Rattle.mc_boot.specs.declared.outcome.BootResult.{BootResult}
use Rattle.mc_explore.specs.{Boots.{content_or}, Right.{is_right, is_version}, Rows.{outcome_text, slots_text}, declared.expectation.Expectation.{Expectation}}
use Rattle.mc_flash.specs.{Flash.{Content}, Geometry.{Geometry}, declared.op.Slot.TheVariants.{Primary}}
use Rattle.mc_image.specs.Valid.{Identity}
use Rattle.mc_trailer.specs.Trailer.{trailer_of}
use Rattle.mc_tears.specs.declared.end.End.{End}
use Rattle.mc_boot.specs.declared.outcome.BootResult.TheVariants as results

-- How a boot ends: what is reported of it, and whether the flash that it leaves says that a swap is under way.
pub record Ending : Type 0 where
  pub report : Report
  pub busy : Bool

abbrev pub shown_end : End → Ending
shown_end e = record { report = shown e.outcome; busy = e.busy }

abbrev pub is_busy : Geometry → Content → Bool
is_busy g z = not (is_at_rest (trailer_of g z Primary))

-- What the boot leaves; and how it ends.
abbrev pub left_of : PowerOn → Content
left_of x = content_or x.content (left_by x)

unfoldable pub end_of : PowerOn → Ending
end_of x = record {
  report = report x.rules x.geometry (plan x).kind (length (ops_of x)) (is_faulted x) (left_of x);
  busy = is_busy x.geometry (left_of x);
}

-- Two ends are alike: by the result, the images, the next type, and whether a swap is under way.
abbrev pub result_number : BootResult → ℕ
result_number results.Boot = 0
result_number results.None = 1
result_number results.Panic = 2
result_number results.Fault = 3

abbrev pub is_one : Identity → Identity → Bool
is_one a b = is_version a.version b.version && a.size == b.size && bytes_eq a.digest b.digest

abbrev pub hold_one : Option Identity → Option Identity → Bool
hold_one None None = true
hold_one None (Some b) = false
hold_one (Some a) None = false
hold_one (Some a) (Some b) = is_one a b

abbrev pub are_alike : Ending → Ending → Bool
are_alike a b =
    (result_number a.report.result == result_number b.report.result && number_of a.report.next == number_of b.report.next)
    && (hold_one a.report.primary b.report.primary && hold_one a.report.secondary b.report.secondary)
    && beq a.busy b.busy

-- An end is right: what is expected is met, and no swap is under way.
abbrev pub ends_right : Expectation → Ending → Bool
ends_right e end = is_right e end.report && not end.busy

-- Whether a swap is under way, after the outcome.
abbrev pub busy_text : Bool → List ℕ
busy_text true = codes " busy"
busy_text false = codes " rest"

-- How an end is written: as an outcome is, and then that.
abbrev pub end_text : Ending → List ℕ
end_text end = outcome_text end.report ++ (codes " " ++ (slots_text end.report ++ busy_text end.busy))
