-- The boots of a schedule, a frame for each operation: this project's own text (docs/FORMAT.md, "Frames"), and the same as rows of a page.
use Rattle.std.specs.Prelude.{Bool, List, None, Option, Some, [], codes, decimal, false, if◌then◌else◌, suc, take, true, zero, ℕ, ◌++◌, ◌+◌, ◌/◌, ◌==◌, ◌∷◌}
use Rattle.hex.specs.Hex.{encode_lower}
use Rattle.mc_boot.specs.{Outcome.{Report, identity_text, ops_of, outcome_of}, Plan.{PowerOn, again}}
use Rattle.mc_explore.specs.{Boots.{at_cut}, Right.{is_right}, Rows.{outcome_text}, declared.expectation.Expectation.{Expectation}, declared.expectation.Wanted.{Wanted}}
use Rattle.mc_flash.specs.{Flash.{Content, grain_text, sectors_of, slot_text}, Geometry.{Geometry}, declared.op.Op.{Op}}
use Rattle.mc_flash.specs.{declared.op.Slot.{Slot}, declared.op.Slot.TheVariants.{Primary, Secondary}}
use Rattle.mc_image.specs.{Valid.{Identity}, VersionText.{version_line}}
use Rattle.mc_start.specs.Start.{Started, begun, schedule_text, start_digest}
use Rattle.mc_trace.specs.{Patch.{sector_text}, Runs.{run_of, run_word, runs_by}, Sectors.{cell_of, letter, sector_of}, Trace.{is_in, operation_text}, Verdict.{is_boot}, Wear.{is_erase}}
use Rattle.mc_trace.specs.{declared.cells.Cell.{Cell}, declared.frame.Form.{Form}, declared.frame.Look.{Look}, declared.frame.Sign.{Sign}, declared.header.TheConstants.{NAMES}}
use Rattle.mc_trace.specs.{declared.runs.Run.{Run}, declared.trace.Span.{Span}}
use Rattle.mc_tear.specs.declared.torn.Erasing.{Erasing}
use Rattle.mc_tears.specs.Tears.{number_text}
use Rattle.mc_trailer.specs.{Tables.{profile_text, type_text}, declared.tables.Rules.{Rules}}
use Rattle.mc_boot.specs.Outcome as outcomes
use Rattle.mc_explore.specs.Rows as rows
use Rattle.mc_explore.specs.declared.expectation.Wanted.TheVariants as wanted
use Rattle.mc_flash.specs.declared.op.Op.TheVariants as ops
use Rattle.mc_trace.specs.declared.cells.Cell.TheVariants as cells
use Rattle.mc_trace.specs.declared.frame.Form.TheVariants as forms
use Rattle.mc_trace.specs.declared.frame.Sign.TheVariants as signs

-- The sectors of a slot: words with a space between; or cells of a page, each as wide as its sectors and coloured by the first of them, the
-- one that an operation changes in a frame.

abbrev pub class_of : Cell → List ℕ
class_of cells.Blank = codes "n"
class_of (cells.Held slot i) = letter slot
class_of cells.Trailer = codes "t"
class_of (cells.Half slot i) = letter slot ++ codes " h"
class_of cells.Other = codes "o"

abbrev pub framed_text : Bool → List ℕ
framed_text framed = if framed then codes " x" else []

abbrev pub run_begin : Run → List ℕ
run_begin r = codes "<i class=\"" ++ (class_of r.first ++ (framed_text r.framed ++ (codes "\" style=\"flex:" ++ (decimal r.count ++ codes "\">"))))

abbrev pub run_text : Form → Run → List ℕ
run_text forms.Text r = run_word r
run_text forms.Page r = run_begin r ++ (run_word r ++ codes "</i>")

abbrev pub space_of : Form → List ℕ
space_of forms.Text = codes " "
space_of forms.Page = []

abbrev pub inner_run : Form → Run → List ℕ
inner_run form r = run_text form r ++ space_of form

abbrev pub is_target : Option ℕ → ℕ → Bool
is_target None i = false
is_target (Some target) i = target == i

-- The cell of a sector of a slot, and whether it stands in a frame; and those of n sectors from i on.
abbrev pub cell_at : Geometry → Content → Slot → List ℕ → Option ℕ → ℕ → Cell × Bool
cell_at g start slot bytes target i = (cell_of g start slot i (sector_of g bytes i), is_target target i)

abbrev pub cells_from : Geometry → Content → Slot → List ℕ → Option ℕ → ℕ → ℕ → List (Cell × Bool)
cells_from g start slot bytes target i zero = []
cells_from g start slot bytes target i (suc n) = cell_at g start slot bytes target i ∷ cells_from g start slot bytes target (i + 1) n

abbrev pub runs_text : Look → Run → List (Cell × Bool) → List ℕ
runs_text look = runs_by (inner_run look.form) (run_text look.form) look.merges

abbrev pub all_runs : Look → List (Cell × Bool) → List ℕ
all_runs look [] = []
all_runs look (first ∷ rest) = runs_text look (run_of first) rest

abbrev pub slot_cells : Look → Geometry → Content → Slot → List ℕ → Option ℕ → List ℕ
slot_cells look g start slot bytes target = all_runs look (cells_from g start slot bytes target 0 (sectors_of g slot))

-- A frame: an operation with its number in its boot, whether power fails before it, and what a cut there comes to; and the flash there.

pub record Shown : Type 0 where
  pub boot : ℕ
  pub number : ℕ
  pub is_cut : Bool
  pub op : Op
  pub report : Report

-- The sector that an operation changes. Only a page has it in a frame: the text names it.
abbrev pub target_of : Geometry → Op → Slot × ℕ
target_of g (ops.Erase slot sector) = (slot, sector)
target_of g (ops.Program slot start bytes) = (slot, start / g.sector)
target_of g (ops.Copy from start to offset len) = (to, offset / g.sector)

abbrev pub target_in : Slot → Slot × ℕ → Option ℕ
target_in Primary (Primary, i) = Some i
target_in Secondary (Secondary, i) = Some i
target_in _ _ = None

abbrev pub framed_in : Form → Slot → Slot × ℕ → Option ℕ
framed_in forms.Text slot target = None
framed_in forms.Page slot target = target_in slot target

abbrev pub between_slots : Form → List ℕ
between_slots forms.Text = codes "\t"
between_slots forms.Page = codes "<u></u>"

abbrev pub flash_cells : Look → Geometry → Content → Content → Slot × ℕ → List ℕ
flash_cells look g start s target =
    slot_cells look g start Primary s.primary (framed_in look.form Primary target)
    ++ (between_slots look.form ++ slot_cells look g start Secondary s.secondary (framed_in look.form Secondary target))

-- An outcome is right; or its boot runs an image, and not all is as expected; or it runs none.
abbrev pub sign_of : Expectation → Report → Sign
sign_of e o = if is_right e o then signs.Right else if is_boot o.result then signs.Wrong else signs.NoBoot

abbrev pub sign_text : Sign → List ℕ
sign_text signs.Right = codes "right"
sign_text signs.Wrong = codes "wrong"
sign_text signs.NoBoot = codes "no-boot"

abbrev pub sign_class : Sign → List ℕ
sign_class signs.Right = codes "y"
sign_class signs.Wrong = codes "w"
sign_class signs.NoBoot = codes "z"

abbrev pub report_text : Report → List ℕ
report_text o = outcome_text o ++ (codes " " ++ rows.slots_text o)

-- As text it has its fields in this order, with tabs between them; on a page the operation stands after the sectors.
abbrev pub cut_text : Bool → List ℕ
cut_text cut = if cut then codes "cut" else codes "-"

abbrev pub target_text : Slot × ℕ → List ℕ
target_text (slot, i) = sector_text slot i

abbrev pub first_fields : Shown → List ℕ
first_fields f = decimal f.boot ++ (codes "\t" ++ (decimal f.number ++ (codes "\t" ++ (cut_text f.is_cut ++ codes "\t"))))

abbrev pub fields_begin : Geometry → Shown → List ℕ
fields_begin g f = first_fields f ++ (operation_text g f.op ++ (codes "\t" ++ (target_text (target_of g f.op) ++ codes "\t")))

abbrev pub fields_end : Expectation → Report → List ℕ
fields_end e o = codes "\t" ++ (report_text o ++ (codes "\t" ++ (sign_text (sign_of e o) ++ codes "\n")))

abbrev pub erase_class : Bool → List ℕ
erase_class erase = if erase then codes " e" else []

abbrev pub cut_class : Bool → List ℕ
cut_class cut = if cut then codes " c" else []

abbrev pub row_begin : Shown → List ℕ
row_begin f = codes "<div class=\"r" ++ (erase_class (is_erase f.op) ++ (cut_class f.is_cut ++ (codes "\"><b>" ++ (decimal f.number ++ codes "</b>"))))

abbrev pub row_end : Geometry → Expectation → Shown → List ℕ
row_end g e f =
    codes "<span>" ++ (operation_text g f.op ++ (codes "</span><em class=\"" ++ (sign_class (sign_of e f.report) ++ (codes "\">" ++ (report_text f.report ++ codes "</em></div>\n")))))

abbrev pub frame_begin : Form → Geometry → Shown → List ℕ
frame_begin forms.Text g f = fields_begin g f
frame_begin forms.Page g f = row_begin f

abbrev pub frame_end : Form → Geometry → Expectation → Shown → List ℕ
frame_end forms.Text g e f = fields_end e f.report
frame_end forms.Page g e f = row_end g e f

abbrev pub frame_text : Look → Geometry → Content → Content → Shown → List ℕ
frame_text look g start s f = frame_begin look.form g f ++ (flash_cells look g start s (target_of g f.op) ++ frame_end look.form g look.expectation f)

-- Below it are the lines of its operation's torn cases, where there are some.
abbrev pub torn_row : List ℕ → List ℕ
torn_row [] = []
torn_row (c ∷ text) = codes "<pre class=\"t\">" ++ ((c ∷ text) ++ codes "</pre>\n")

-- Both are shown where its number lies in the span that is looked at.
abbrev pub text_seen : Look → Geometry → Content → Content → Shown → List ℕ → List ℕ
text_seen look g start s f torn = if is_in look.span f.number then frame_text look g start s f ++ torn_row torn else []

-- The boots of a schedule.

-- The operation of that number of the boot from x, and what the boot comes to that is cut there.
abbrev pub frame_of : ℕ → Option ℕ → ℕ → Op → Report → Shown
frame_of boot cut number op report = record { boot = boot; number = number; is_cut = is_target cut number; op = op; report = report }

-- The lines of the torn cases of operation n of the boot from x that end otherwise than a cut (docs/FORMAT.md, "Torn operations"), where
-- an erase fails so; none where torn operations are not asked for.
abbrev pub torn_lines : Option Erasing → Expectation → PowerOn → ℕ → List ℕ
torn_lines None e x n = []
torn_lines (Some erasing) e x n = number_text (record { erasing = erasing; all = false; expectation = e }) x n

abbrev pub boot_frame : Look → Content → ℕ → PowerOn → Option ℕ → ℕ → Op → Option Report → List ℕ
boot_frame look start boot x cut number op None = []
boot_frame look start boot x cut number op (Some report) =
    text_seen look x.geometry start (at_cut x number) (frame_of boot cut number op report) (torn_lines look.torn look.expectation x number)

abbrev pub frames_from : Look → Content → ℕ → PowerOn → Option ℕ → ℕ → List Op → List ℕ
frames_from look start boot x cut number [] = []
frames_from look start boot x cut number (op ∷ ops) =
    boot_frame look start boot x cut number op (outcome_of (again x (at_cut x number))) ++ frames_from look start boot x cut (number + 1) ops

-- The operations of a boot up to the one before which it is cut, that one too; or all of them.
abbrev pub up_to_cut : Option ℕ → List Op → List Op
up_to_cut None list = list
up_to_cut (Some cut) list = take (cut + 1) list

abbrev pub boot_frames : Look → Content → ℕ → PowerOn → Option ℕ → List ℕ
boot_frames look start boot x cut = frames_from look start boot x cut 0 (up_to_cut cut (ops_of x))

-- A boot has its number, counted from 0, its type, and how many operations it makes uncut; on a page the columns are named besides.
abbrev pub heading_text : ℕ → Report → List ℕ
heading_text boot o = codes "boot " ++ (decimal boot ++ (codes " " ++ (type_text o.kind ++ (codes " " ++ decimal o.ops))))

unfoldable pub column_text : Geometry → Slot → List ℕ
column_text g slot = codes "<i style=\"flex:" ++ (decimal (sectors_of g slot) ++ (codes "\">" ++ (slot_text slot ++ codes "</i>")))

unfoldable pub columns_text : Geometry → List ℕ
columns_text g = codes "<div class=\"r s\"><b></b>" ++ (column_text g Primary ++ (codes "<u></u>" ++ (column_text g Secondary ++ codes "</div>\n")))

abbrev pub heading : Form → Geometry → ℕ → Report → List ℕ
heading forms.Text g boot o = heading_text boot o ++ codes "\n"
heading forms.Page g boot o = codes "<h2>" ++ (heading_text boot o ++ (codes "</h2>\n" ++ columns_text g))

abbrev pub heading_of : Form → Geometry → ℕ → Option Report → List ℕ
heading_of form g boot None = []
heading_of form g boot (Some o) = heading form g boot o

abbrev pub boot_section : Look → Content → ℕ → PowerOn → Option ℕ → List ℕ
boot_section look start boot x cut = heading_of look.form x.geometry boot (outcome_of x) ++ boot_frames look start boot x cut

-- The outcome of the last boot, and the end.
abbrev pub end_text : Form → Expectation → Report → List ℕ
end_text forms.Text e o = outcomes.outcome_text o ++ (codes "ends " ++ (sign_text (sign_of e o) ++ codes "\n"))
end_text forms.Page e o =
    codes "<h2>outcome</h2>\n<pre class=\"" ++ (sign_class (sign_of e o) ++ (codes "\">" ++ (outcomes.outcome_text o ++ codes "</pre>\n</html>\n")))

abbrev pub end_of : Look → Option Report → List ℕ
end_of look None = []
end_of look (Some o) = end_text look.form look.expectation o

-- The boots of some cuts, each from what the one before it left, then the last boot, and the end.
abbrev pub sections_text : Look → Content → ℕ → PowerOn → List ℕ → List ℕ
sections_text look start boot x [] = boot_section look start boot x None ++ end_of look (outcome_of x)
sections_text look start boot x (cut ∷ cuts) = boot_section look start boot x (Some cut) ++ sections_text look start (boot + 1) (again x (at_cut x cut)) cuts

-- What they are of: the program's version, the layout and the rules; the images, or of a flash its digest, as cursors have it; what is
-- expected of the slots; and the schedule.

unfoldable pub sector_options : Geometry → List ℕ
sector_options g = codes "layout --sector " ++ (decimal g.sector ++ (codes " --unit " ++ (decimal g.unit ++ (codes " --max-sectors " ++ decimal g.max_sectors))))

unfoldable pub slot_options : Geometry → List ℕ
slot_options g = codes " --chunk " ++ (decimal g.chunk ++ (codes " --primary " ++ (decimal g.primary ++ (codes " --secondary " ++ (decimal g.secondary ++ codes "\n")))))

abbrev pub layout_options : Geometry → List ℕ
layout_options g = sector_options g ++ slot_options g

abbrev pub rules_options : Rules → List ℕ
rules_options r = codes "rules --grain " ++ (grain_text r.grain ++ (codes " --profile " ++ (profile_text r.profile ++ codes "\n")))

unfoldable pub board_text : List ℕ → Started → List ℕ
board_text version s = (codes "mcsim " ++ (version ++ codes "\n")) ++ (layout_options s.geometry ++ rules_options s.rules)

abbrev pub images_by : Option (Identity × Identity) → List ℕ → List ℕ
images_by None digest = codes "start " ++ (encode_lower digest ++ codes "\n")
images_by (Some (one, other)) digest = codes "named " ++ (identity_text one ++ (codes "\nother " ++ (identity_text other ++ codes "\n")))

abbrev pub images_text : Started → List ℕ
images_text s = images_by s.named (start_digest (begun s))

abbrev pub wanted_text : Wanted → List ℕ
wanted_text wanted.Anything = codes "any"
wanted_text wanted.Nothing = codes "none"
wanted_text (wanted.Version version) = version_line version
wanted_text (wanted.Digest digest) = encode_lower digest

abbrev pub expectation_text : Expectation → List ℕ
expectation_text e = codes "expect-primary " ++ (wanted_text e.primary ++ (codes "\nexpect-secondary " ++ (wanted_text e.secondary ++ codes "\n")))

abbrev pub schedule_line : List ℕ → List ℕ
schedule_line cuts = codes "schedule " ++ (schedule_text cuts ++ codes "\n")

abbrev pub header_text : List ℕ → Started → Expectation → List ℕ → List ℕ
header_text version s e cuts = board_text version s ++ (images_text s ++ (expectation_text e ++ schedule_line cuts))

-- The frames of a schedule as text, those of each boot whose numbers lie in a span. Sectors that go on with one another are one word.

abbrev pub text_look : Expectation → Span → Look
text_look e span = record { form = forms.Text; merges = true; expectation = e; span = span; torn = None }

abbrev pub frames_by : Look → List ℕ → Started → List ℕ → List ℕ
frames_by look version s cuts = header_text version s look.expectation cuts ++ (NAMES.now ++ sections_text look s.content 0 (begun s) cuts)

abbrev pub frames_text : List ℕ → Expectation → Span → Started → List ℕ → List ℕ
frames_text version e span s cuts = frames_by (text_look e span) version s cuts
