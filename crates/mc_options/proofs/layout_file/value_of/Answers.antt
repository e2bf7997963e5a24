use Rattle.std.proofs.Common.{codes}
use Rattle.mc_options.proofs.Settings.{said_by, stripped}
use Rattle.mc_options.proofs.layout_file.value_of.Goals as goal

pub returns : goal.returns
returns c =
    let first = stripped (codes "--") _ _ c.in_ok-strip_prefix.ensures.cases in
    let second = stripped c.name.result.now _ _ c.in_ok-strip_prefix-2.ensures.cases in
    said_by c.args.said.now _ _ c.args.option c.value_in.result first (rw c.name.ensures at second) c.value_in.ensures
