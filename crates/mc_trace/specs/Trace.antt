-- Operations as they are printed: this project's own texts.
use Rattle.std.specs.Prelude.{Bool, List, None, Option, Some, [], codes, decimal, if◌then◌else◌, nat_le, slice_get, take, ℕ, ⊤, ◌&&◌, ◌++◌, ◌+◌, ◌-◌, ◌/◌, ◌∷◌, ◌≡◌}
use Rattle.hex.specs.Hex.{encode_lower}
use Rattle.mc_boot.specs.{Outcome.{Report, outcome_of, outcome_text}, Plan.{PowerOn, plan, power_on}}
use Rattle.mc_explore.specs.{Schedules.{CannotOccurAt}, declared.replays.ReplayError.{ReplayError}}
use Rattle.mc_explore.specs.Boots.{at_cut}
use Rattle.mc_flash.specs.{Flash.{Content, apply, size_of, slot_text}, Geometry.{Geometry, trailer_bytes}, declared.op.Op.{Op}, declared.op.Slot.{Slot}}
use Rattle.mc_flash.specs.declared.op.Slot.TheVariants.{Primary, Secondary}
use Rattle.mc_trace.specs.{declared.error.TraceError.{TraceError}, declared.operation.Part.{Part}, declared.trace.Span.{Span}}
use Rattle.mc_trailer.specs.{Tables.{type_text}, declared.tables.Rules.{Rules}, declared.tables.SwapType.{SwapType}}
use Rattle.mc_trace.specs.declared.error.TraceError.TheVariants as errors
use Rattle.mc_trailer.specs.declared.places.Field.TheVariants as fields
use Rattle.mc_flash.specs.declared.op.Op.TheVariants as ops
use Rattle.mc_trace.specs.declared.operation.Part.TheVariants as parts
use Rattle.mc_explore.specs.declared.replays.ReplayError.TheVariants as replays

-- So many bytes before the end of the primary stands a status entry, or data before the first of them; a secondary has no entries.
abbrev before_fields : Geometry → Slot → ℕ → Part
before_fields g Primary left =
    if nat_le left (trailer_bytes g) then parts.Entry ((trailer_bytes g - left) / g.unit) else parts.Data
before_fields g Secondary left = parts.Data

-- What stands so many bytes before the end of a slot.
abbrev pub part_before_end : Geometry → Slot → ℕ → Part
part_before_end g slot left =
    if nat_le left 16 then parts.Field fields.Magic
    else if nat_le left 24 then parts.Field fields.ImageOk
    else if nat_le left 32 then parts.Field fields.CopyDone
    else if nat_le left 40 then parts.Field fields.SwapInfo
    else if nat_le left 48 then parts.Field fields.SwapSize
    else before_fields g slot left

-- What stands at an offset of a slot.
abbrev pub part_at : Geometry → Slot → ℕ → Part
part_at g slot start = part_before_end g slot (size_of g slot - start)

abbrev pub part_text : Part → List ℕ
part_text (parts.Field fields.Magic) = codes "magic"
part_text (parts.Field fields.ImageOk) = codes "image-ok"
part_text (parts.Field fields.CopyDone) = codes "copy-done"
part_text (parts.Field fields.SwapInfo) = codes "swap-info"
part_text (parts.Field fields.SwapSize) = codes "swap-size"
part_text (parts.Entry entry) = codes "entry " ++ decimal entry
part_text parts.Data = codes "data"

-- An erase has its slot and its sector; a write its slot, its offset, what stands there and its bytes in hexadecimal digits; a copy
-- the offsets from which and to which it goes, and how many bytes.
abbrev pub erase_text : Slot → ℕ → List ℕ
erase_text slot sector = codes "erase " ++ (slot_text slot ++ (codes " " ++ decimal sector))

abbrev pub write_text : Slot → ℕ → Part → List ℕ → List ℕ
write_text slot start part bytes = codes "write " ++ (slot_text slot ++ (codes " " ++ (decimal start ++ (codes " " ++ (part_text part ++ (codes " " ++ encode_lower bytes))))))

abbrev pub source_text : Slot → ℕ → List ℕ
source_text from start = codes "copy " ++ (slot_text from ++ (codes " " ++ (decimal start ++ codes " to ")))

abbrev pub target_text : Slot → ℕ → ℕ → List ℕ
target_text to offset len = slot_text to ++ (codes " " ++ (decimal offset ++ (codes " length " ++ decimal len)))

abbrev pub operation_text : Geometry → Op → List ℕ
operation_text g (ops.Erase slot sector) = erase_text slot sector
operation_text g (ops.Program slot start bytes) = write_text slot start (part_at g slot start) bytes
operation_text g (ops.Copy from start to offset len) = source_text from start ++ target_text to offset len

-- With its number in its boot.
abbrev pub numbered_text : Geometry → ℕ → Op → List ℕ
numbered_text g number op = decimal number ++ (codes " " ++ operation_text g op)

-- A schedule of power cuts, traced boot by boot: this project's own text.

-- A line is shown where the number of its operation lies in a span.
abbrev pub is_in : Span → ℕ → Bool
is_in span number = nat_le span.from number && nat_le number span.to

abbrev pub shown : Span → ℕ → List ℕ → List ℕ
shown span number line = if is_in span number then line else []

-- An operation that can be applied has its line, and what comes after it. One that can't is refused, and nothing comes after it.
abbrev pub first_operation_lines : Span → Geometry → ℕ → Op → (Content → List ℕ) → Option Content → List ℕ
first_operation_lines span g number op beyond (Some t) = shown span number (numbered_text g number op ++ codes "\n") ++ beyond t
first_operation_lines span g number op beyond None = shown span number (numbered_text g number op ++ codes " refused\n")

-- The lines of operations that are made one after another, from this number on.
abbrev pub operation_lines : Span → Geometry → ℕ → List Op → Content → List ℕ
operation_lines span g number [] s = []
operation_lines span g number (op ∷ ops) s =
    first_operation_lines span g number op (λ t. operation_lines span g (number + 1) ops t) (apply g op s)

-- Up to a number, where there is one.
abbrev pub up_to : Option ℕ → ℕ → List Op → List Op
up_to None number ops = ops
up_to (Some until) number ops = take (until - number) ops

-- A boot has its number, counted from 0, and its type.
abbrev pub head_line : ℕ → SwapType → List ℕ
head_line boot kind = (codes "boot " ++ (decimal boot ++ (codes " " ++ type_text kind))) ++ 10 ∷ []

-- The operation before which the power is cut.
abbrev pub cut_line : Geometry → ℕ → Option Op → List ℕ
cut_line g cut None = []
cut_line g cut (Some op) = (codes "cut before " ++ numbered_text g cut op) ++ 10 ∷ []

-- A boot that is cut: the operations of its plan before the cut, and the one there.
abbrev pub cut_text : Span → Rules → Geometry → ℕ → Content → ℕ → List ℕ
cut_text span r g boot s cut =
    let p = plan (power_on r g s) in
    head_line boot p.kind ++ (operation_lines span g 0 (take cut p.list) s ++ cut_line g cut (slice_get p.list cut))

-- The last boot: all operations of its plan.
abbrev pub last_text : Span → Rules → Geometry → ℕ → Content → List ℕ
last_text span r g boot s = let p = plan (power_on r g s) in head_line boot p.kind ++ operation_lines span g 0 p.list s

abbrev pub outcome_lines : Option Report → List ℕ
outcome_lines None = []
outcome_lines (Some outcome) = outcome_text outcome

-- The boots of some cuts, each from what the one before it left, then the last boot and its outcome.
abbrev pub boots_text : Span → Rules → Geometry → ℕ → Content → List ℕ → List ℕ
boots_text span r g boot s [] = last_text span r g boot s ++ outcome_lines (outcome_of (power_on r g s))
boots_text span r g boot s (cut ∷ cuts) = cut_text span r g boot s cut ++ boots_text span r g (boot + 1) (at_cut (power_on r g s) cut) cuts

-- With those operations of each boot whose number lies in a span.
abbrev pub trace_text : Span → PowerOn → List ℕ → List ℕ
trace_text span start cuts = boots_text span start.rules start.geometry 0 start.content cuts

-- What is refused of a schedule that is to be traced.

-- What a replay refuses.
abbrev pub of_replay : ReplayError → TraceError
of_replay (replays.CannotOccur index) = errors.CannotOccur index
of_replay replays.Memory = errors.Memory

-- The first cut that can't occur, and then nothing is written; unless memory or a write failed.
abbrev pub RefusesTrace : {W : Type 0} → PowerOn → List ℕ → W → W → TraceError → Type 0
RefusesTrace start cuts old new (errors.CannotOccur index) = CannotOccurAt start cuts index × (new ≡ old)
RefusesTrace start cuts old new errors.Memory = ⊤
RefusesTrace start cuts old new errors.Write = ⊤
