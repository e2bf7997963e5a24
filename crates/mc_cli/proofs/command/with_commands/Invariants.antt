use Rattle.std.specs.Prelude.{List, map, take, ◌++◌}
use Rattle.mc_cli.specs.Program.{Words, command_words}
use Rattle.mc_cli.specs.inner.Tables.{IsProgram, line_of}
use Rattle.mc_cli.proofs.command.with_commands.Given as goal

abbrev pub invariant-loop-subcommand : goal.invariant-loop-subcommand
invariant-loop-subcommand l =
    (subs : List Words) → IsProgram subs l.fn.program → IsProgram (subs ++ map command_words (map line_of (take l.subcommand-index l.commands))) l.program
