-- What goes out in blocks.
use Rattle.std.specs.{Prelude.{ℕ, List, Option, Some, None}, Io.KnownBytes.{Keeps, Appends}}

-- A text that is written after what a writer held is after it still, where each step keeps what is there.
pub appended : (a b c d : Option (List ℕ)) (text : List ℕ) → Keeps a b → Appends b c text → Keeps c d → Appends a d text
appended None b c d text before out beyond = tt {0}
appended (Some x) None c d text before out beyond = absurd before
appended (Some x) (Some y) None d text before out beyond = absurd out
appended (Some x) (Some y) (Some z) None text before out beyond = absurd beyond
appended (Some x) (Some y) (Some z) (Some w) text before out beyond = rw (beyond, out, before)
