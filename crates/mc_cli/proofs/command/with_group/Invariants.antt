use Rattle.std.specs.Prelude.{map, take}
use Rattle.mc_cli.specs.Program.{Words}
use Rattle.mc_cli.specs.inner.Tables.{IsCommand, entry_of_word, with_entries}
use Rattle.mc_cli.proofs.command.with_group.Given as goal

abbrev pub invariant-loop-word : goal.invariant-loop-word
invariant-loop-word l =
    (w : Words) → IsCommand w l.fn.command → IsCommand (with_entries w (map entry_of_word (take l.word-index l.word-items))) l.command
