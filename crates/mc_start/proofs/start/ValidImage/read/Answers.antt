use Rattle.mc_start.proofs.Starts.{read_size, read_prefix}
use Rattle.mc_start.proofs.start.ValidImage.read.Goals as goal

pub returns-clause-value : goal.returns-clause-value
returns-clause-value c =
    let e = c.in_ok-view.ensures in
    (e.exact.0, (read_prefix c.args.bytes.now c.in_ok-view.view c.size-size.result e.exact.0 e.exact.1 e.begins c.size-size.ensures).1, e.id)

pub returns-clause-len : goal.returns-clause-len
returns-clause-len c =
    let e = c.in_ok-view.ensures in
    (read_prefix c.args.bytes.now c.in_ok-view.view c.size-size.result e.exact.0 e.exact.1 e.begins c.size-size.ensures).0

pub returns-clause-size : goal.returns-clause-size
returns-clause-size c = let e = c.in_ok-view.ensures in read_size c.args.bytes.now c.in_ok-view.view e.exact.0 e.exact.1
