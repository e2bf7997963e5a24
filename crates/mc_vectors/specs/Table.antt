-- The cases as a table: this project's own text (docs/FORMAT.md, "Vectors").
use Rattle.std.specs.Prelude.{List, codes, decimal, flat_map, ℕ, ◌++◌}
use Rattle.hex.specs.Hex.{encode_lower}
use Rattle.mc_boot.specs.Outcome.{Report, result_text, shown, slot_text}
use Rattle.mc_start.specs.Start.{schedule_text}
use Rattle.mc_trailer.specs.Tables.{type_text}
use Rattle.mc_vectors.specs.declared.case.Case.{Case}

-- A field of a line, with the tab after it.
abbrev pub field : List ℕ → List ℕ
field text = text ++ codes "\t"

-- What names a case: its schedule, and the digest of the flash in lower-case hexadecimal digits.
abbrev pub named_text : Case → List ℕ
named_text c = field (schedule_text c.schedule) ++ field (encode_lower c.digest)

-- What the boot does: the result, the type, and how many operations happen.
abbrev pub boot_text : Report → List ℕ
boot_text o = field (result_text o.result) ++ (field (type_text o.kind) ++ field (decimal o.ops))

-- What the slots hold then, and the next type.
abbrev pub slots_text : Report → List ℕ
slots_text o = field (slot_text o.primary) ++ (field (slot_text o.secondary) ++ field (type_text o.next))

-- What becomes of a flash: what the boot does and what it leaves, the digest of the flash that it leaves, and a line feed.
abbrev pub ended_text : Report → List ℕ → List ℕ
ended_text o left = boot_text o ++ (slots_text o ++ (encode_lower left ++ codes "\n"))

-- A case: a line.
abbrev pub case_text : Case → List ℕ
case_text c = named_text c ++ ended_text (shown c.outcome) c.left

-- The names of the fields.
abbrev pub names_text : List ℕ
names_text = codes "schedule\tflash\tresult\ttype\tops\tprimary\tsecondary\tnext\tleft\n"

-- The names, and a line for each case.
abbrev pub cases_text : List Case → List ℕ
cases_text cases = names_text ++ flat_map case_text cases
