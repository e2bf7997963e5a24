use Rattle.std.proofs.Common.{Global, Vec, ap, subst, sym, ℕ}
use Rattle.mc_options.specs.Sources.{Reads}
use Rattle.mc_options.proofs.layout_file.read_text.Goals as goal

pub returns-clause-read : goal.returns-clause-read
returns-clause-read g c =
    subst (Reads (g.F.KnownFiles.holds c.args.files.now c.args.path.now) 65536) (sym (ap (λ (v : Vec ℕ Global). v.items) c.in-Ok.ensures.ok)) c.in_ok-bytes.ensures.bytes
