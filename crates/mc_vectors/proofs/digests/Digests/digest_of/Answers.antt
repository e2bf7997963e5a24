use Rattle.std.specs.{List.{concat}, Prelude.{[], ◌++◌}}
use Rattle.std.proofs.Common.{◌∙◌}
use Rattle.mc_vectors.proofs.Digested.{both}
use Rattle.mc_vectors.proofs.digests.Digests.digest_of.Goals as goal

pub returns-clause-digest : goal.returns-clause-digest
returns-clause-digest c =
    let one = c.renew.new.self in
    let two = c.renew-2.new.self in
    let first = c.add_to.ensures [] c.new-hasher.ensures in
    let all = c.add_to-2.ensures (concat one.digests.items) first in
    c.finalize.ensures (concat one.digests.items ++ concat two.digests.items) all
    ∙ both c.args.layout.now c.sector-size.result one two c.args.primary.now c.args.secondary.now c.sector-size.ensures.value
    c.in_ok-renew.ensures.kept c.in_ok-renew-2.ensures.kept c.in_ok-renew.ensures.bytes c.in_ok-renew-2.ensures.bytes
