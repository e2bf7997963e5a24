use Rattle.std.proofs.Common.{[]}
use Rattle.mc_cli.specs.Program.{boot_commands, exploration_commands, flash_commands, image_commands, lines, other_commands}
use Rattle.mc_cli.proofs.Programs.{parts}
use Rattle.mc_cli.proofs.command.whole_program.Goals as goal

pub returns : goal.returns
unfolding lines
returns c =
    let one = rw c.of_images.ensures at c.in_ok-program.ensures [] c.in_ok-bare_program.ensures in
    let two = rw c.of_boots.ensures at c.in_ok-program-2.ensures _ one in
    let three = rw c.of_flashes.ensures at c.in_ok-program-3.ensures _ two in
    let four = rw c.of_explorations.ensures at c.in_ok-program-4.ensures _ three in
    let five = rw c.of_others.ensures at c.in_ok-program-5.ensures _ four in
    rw (← parts image_commands boot_commands flash_commands exploration_commands other_commands) five
