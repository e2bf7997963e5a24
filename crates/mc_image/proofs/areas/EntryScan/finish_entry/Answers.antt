use Rattle.mc_image.proofs.Scans.{finished_value, finished_digest}
use Rattle.mc_image.proofs.areas.EntryScan.finish_entry.Goals as goal

pub returns-else-left-gt0 : goal.returns-else-left-gt0
returns-else-left-gt0 c = λ bytes r.
    let s = finished_value c.args.self c.in-Value.left bytes c.in-Value.is c.if-left-gt0.false r in
    c.between_entries.ensures bytes r s.0 s.1

pub returns-else-left-gt0-2 : goal.returns-else-left-gt0-2
returns-else-left-gt0-2 c = λ bytes r.
    let s = finished_digest c.args.self c.in-Digest.left c.in-Digest.value c.with.result bytes c.in-Digest.is c.if-left-gt0-2.false r c.with.ensures in
    c.between_entries-in-Digest.ensures bytes r s.0 s.1
