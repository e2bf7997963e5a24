-- What happens of a plan, the flash after power cuts, and the outcome of a boot with its text (docs/MODEL.md, "Boots").
use Rattle.std.specs.Prelude.{Bool, List, None, Option, Some, [], codes, decimal, false, if◌then◌else◌, length, nat_lt, option_and_then, option_map, take, true, ℕ, ◌++◌, ◌∷◌}
use Rattle.hex.specs.Hex.{encode_lower}
use Rattle.mc_boot.specs.{Plan.{PowerOn, again, identity_of, plan, power_on}, declared.outcome.BootResult.{BootResult}, declared.outcome.Outcome.{Outcome}}
use Rattle.mc_flash.specs.{Flash.{Content, apply}, Geometry.{Geometry}, declared.op.Op.{Op}}
use Rattle.mc_image.specs.{Valid.{Identity, id_of, is_valid}, VersionText.{version_line}}
use Rattle.mc_trailer.specs.{Tables.{type_text}, declared.tables.Rules.{Rules}, declared.tables.SwapType.{SwapType}}
use Rattle.mc_trailer.specs.declared.tables.SwapType.TheVariants as kinds
use Rattle.mc_boot.specs.declared.outcome.BootResult.TheVariants as results

-- What happens of a boot, and the flashes that power cuts leave.

-- Where a list of operations leads, if each can be applied.
abbrev pub applied : Geometry → List Op → Content → Option Content
applied g [] s = Some s
applied g (op ∷ ops) s = option_and_then (λ t. applied g ops t) (apply g op s)

-- An operation, and what happens after it; nothing where it can't be applied.
abbrev pub first_then : Op → (Content → List Op) → Option Content → List Op
first_then op rest None = []
first_then op rest (Some t) = op ∷ rest t

-- The longest prefix of a list that can be applied.
abbrev pub happening : Geometry → List Op → Content → List Op
happening g [] s = []
happening g (op ∷ ops) s = first_then op (λ t. happening g ops t) (apply g op s)

-- The operations of an uncut boot that happen.
unfoldable pub ops_of : PowerOn → List Op
ops_of x = happening x.geometry (plan x).list x.content

-- The flash after the first c of them.
unfoldable pub at : PowerOn → ℕ → Option Content
at x c = applied x.geometry (take c (ops_of x)) x.content

-- An operation is refused.
unfoldable pub is_faulted : PowerOn → Bool
is_faulted x = nat_lt (length (ops_of x)) (length (plan x).list)

-- What an uncut boot leaves.
unfoldable pub left_by : PowerOn → Option Content
left_by x = at x (length (ops_of x))

-- The flash that a boot leaves whose power is lost after c operations, where the uncut boot makes more than that.
abbrev pub cut_at : PowerOn → ℕ → Option Content
cut_at x c = if nat_lt c (length (ops_of x)) then at x c else None

-- The flash after a list of cuts, each of a boot from what the earlier ones left, where all of them can occur.
abbrev pub after : PowerOn → List ℕ → Option Content
after x [] = Some x.content
after x (c ∷ cuts) = option_and_then (λ t. after (again x t) cuts) (cut_at x c)

-- What a boot has done when it is at its end.

-- An outcome as callers see it.
pub record Report : Type 0 where
  pub result : BootResult
  pub kind : SwapType
  pub ops : ℕ
  pub primary : Option Identity
  pub secondary : Option Identity
  pub next : SwapType

abbrev pub shown : Outcome → Report
shown o = record {
  result = o.result;
  kind = o.kind;
  ops = o.ops;
  primary = option_map identity_of o.primary;
  secondary = option_map identity_of o.secondary;
  next = o.next;
}

abbrev pub is_panic : SwapType → Bool
is_panic kinds.None = false
is_panic kinds.Test = false
is_panic kinds.Perm = false
is_panic kinds.Revert = false
is_panic kinds.Fail = false
is_panic kinds.Panic = true

-- A panic; else a fault where an operation was refused; else whether the primary holds a valid image.
abbrev pub result_of : SwapType → Bool → Bool → BootResult
result_of kind faulted boots =
    if is_panic kind then results.Panic else if faulted then results.Fault else if boots then results.Boot else results.None

-- What is reported of a boot of that type, of which so many operations happened and one was refused or none, and which
-- left z: also the valid images of the slots, and the type that a boot from z would have.
unfoldable pub report : Rules → Geometry → SwapType → ℕ → Bool → Content → Report
report r g kind count faulted z = record {
  result = result_of kind faulted (is_valid z.primary);
  kind = kind;
  ops = count;
  primary = id_of z.primary;
  secondary = id_of z.secondary;
  next = (plan (power_on r g z)).kind;
}

-- The outcome of the uncut boot from s.
unfoldable pub outcome_of : PowerOn → Option Report
outcome_of x =
    option_map (λ z. report x.rules x.geometry (plan x).kind (length (ops_of x)) (is_faulted x) z) (left_by x)

-- How outcomes are printed: this project's own texts.

abbrev pub result_text : BootResult → List ℕ
result_text results.Boot = codes "boot"
result_text results.None = codes "none"
result_text results.Panic = codes "panic"
result_text results.Fault = codes "fault"

-- The version, the size and the digest in hexadecimal digits.
abbrev pub identity_text : Identity → List ℕ
identity_text id = version_line id.version ++ (codes " " ++ (decimal id.size ++ (codes " " ++ encode_lower id.digest)))

abbrev pub slot_text : Option Identity → List ℕ
slot_text None = codes "none"
slot_text (Some id) = identity_text id

-- What happened, and what the boot left: three lines each.
abbrev pub happened_text : Report → List ℕ
happened_text o = codes "result " ++ (result_text o.result ++ (codes "\ntype " ++ (type_text o.kind ++ (codes "\nops " ++ (decimal o.ops ++ codes "\n")))))

abbrev pub left_text : Report → List ℕ
left_text o = codes "primary " ++ (slot_text o.primary ++ (codes "\nsecondary " ++ (slot_text o.secondary ++ (codes "\nnext " ++ (type_text o.next ++ codes "\n")))))

-- Six lines.
abbrev pub outcome_text : Report → List ℕ
outcome_text o = happened_text o ++ left_text o
