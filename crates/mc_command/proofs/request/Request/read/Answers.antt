use Rattle.mc_command.proofs.request.Request.read.Goals as goal

pub returns-in-Layout : goal.returns-in-Layout
returns-in-Layout g c = rw c.in-Layout.is (c.read_layout.ensures (g.F.KnownFiles.holds c.args.files.now))
