use Rattle.std.proofs.Common.{arith}
use Rattle.std.proofs.lemmas.List.{take_all}
use Rattle.mc_cli.proofs.Programs.{added_command, one_further}
use Rattle.mc_cli.proofs.command.with_commands.Goals as goal

pub loop-subcommand-preserved : goal.loop-subcommand-preserved
loop-subcommand-preserved c subs is =
    one_further _ _ _ _ _ c.loop-subcommand-test.true (added_command _ _ _ _ _ (c.loop-subcommand.invariant subs is) c.in_ok-command.ensures c.in_ok-program.ensures)

pub returns : goal.returns
returns c subs is =
    rw (← take_all c.loop-subcommand.subcommand-index c.args.commands.now (omega (arith, c.loop-subcommand-test.false))) (c.loop-subcommand.invariant subs is)
