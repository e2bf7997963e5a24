-- What a flash counts where torn bytes are put in it, and the operation that is torn.
use Rattle.std.specs.Prelude.{Bool, List, Some, length, true, ℕ, ◌+◌, ◌<◌, ◌≡◌}
use Rattle.mc_flash.specs.{Flash.{CanTry, Content, IsSized, apply, byte}, Geometry.{Geometry}, Usage.{Counts, Keeps, LeaveRoom, Seen, plus}, declared.op.Op.{Op}}
use Rattle.mc_tear.specs.{Cases.{is_case, put_in, slot_of, torn_bytes, written_from, written_len}, declared.reading.Reading.{Reading}, declared.torn.Erasing.{Erasing}}

-- Two operations at the most, and the bytes of a sector; one of them.
abbrev pub tear_counts : Geometry → Counts
tear_counts g = record { entries = 2; saved = g.sector }

abbrev pub one_more : Counts
one_more = record { entries = 1; saved = 0 }

-- The operation can be done where the flash stands.
pub record Applies (op : Op) (f : Seen) : Type 0 where
  pub can : CanTry f.geometry op
  pub whole : Content
  pub makes : apply f.geometry op f.content ≡ Some whole
  pub sized : IsSized f.geometry f.content

-- Each byte that it writes is 0xff now, and bytes can be put there as where the flash stood. There is room for one operation
-- more.
pub record IsReady (op : Op) (old new : Seen) : Type 0 where
  pub keeps : Keeps old new
  pub sized : IsSized old.geometry new.content
  pub blank : (i : ℕ) → i < written_len old.geometry op → byte new.content (slot_of op) (written_from old.geometry op + i) ≡ 255
  pub same : (bytes : List ℕ) → length bytes ≡ written_len old.geometry op
      → put_in old.geometry op new.content bytes ≡ put_in old.geometry op old.content bytes
  pub counts : LeaveRoom new.usage.counts one_more (plus old.usage.counts (tear_counts old.geometry))

-- That is whether a reading is a case of an operation before which the flash stands; if it is, these are the bytes that it makes
-- of those that the operation writes.
abbrev pub Judges : Erasing → Op → Seen → Reading → List ℕ → Bool → Type 0
Judges e op f r bytes is =
    (is ≡ is_case e f.geometry op f.content r) × (is ≡ true → bytes ≡ torn_bytes e f.geometry op f.content r)
