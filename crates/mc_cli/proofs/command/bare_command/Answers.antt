use Rattle.std.proofs.Common.{Some, codes}
use Rattle.mc_cli.specs.Program.{flag}
use Rattle.mc_cli.proofs.Programs.{added_word, named}
use Rattle.mc_cli.proofs.command.bare_command.Goals as goal

pub returns : goal.returns
returns c =
    let names = c.in_ok-visible_aliases.ensures in
    let s = c.args.subcommand.now in
    let is = named c.new.result c.in_ok-visible_aliases.field-0 c.about.result s.name.now s.aliases.now (Some s.about) c.new.ensures.app c.new.ensures.local names.0 names.1 c.about.ensures in
    added_word _ c.about.result c.in_ok-command.command c.verbose.result (flag (codes "verbose")) is c.verbose.ensures c.in_ok-command.ensures
