use Rattle.std.proofs.Common.{take}
use Rattle.std.specs.Prelude.{flat_map}
use Rattle.mc_cli.specs.Program.{command_words, words_of}
use Rattle.mc_cli.specs.inner.Tables.{bare_line, line_of, with_entries}
use Rattle.mc_cli.proofs.Programs.{grouped}
use Rattle.mc_cli.proofs.command.command.Goals as goal

pub loop-group-init : goal.loop-group-init
loop-group-init c = c.with_texts-command.ensures _ c.in_ok-bare_command.ensures

pub loop-group-preserved : goal.loop-group-preserved
loop-group-preserved c =
    let w = command_words (bare_line (line_of c.args.subcommand.now)) in
    let gs = c.args.subcommand.now.groups.now in
    let i = c.loop-group.group-index in
    grouped w gs i _ c.in_ok-command.command c.loop-group-test.true (c.in_ok-command.ensures (with_entries w (flat_map words_of (take i gs))) c.loop-group.invariant)
