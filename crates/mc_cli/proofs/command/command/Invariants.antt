use Rattle.std.specs.Prelude.{flat_map, take}
use Rattle.mc_cli.specs.Program.{command_words, words_of}
use Rattle.mc_cli.specs.inner.Tables.{IsCommand, bare_line, line_of, with_entries}
use Rattle.mc_cli.proofs.command.command.Given as goal

abbrev pub invariant-loop-group : goal.invariant-loop-group
invariant-loop-group l =
    IsCommand (with_entries (command_words (bare_line (line_of l.subcommand))) (flat_map words_of (take l.group-index l.subcommand.groups.now))) l.command
