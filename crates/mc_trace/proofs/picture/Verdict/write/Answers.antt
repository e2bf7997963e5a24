use Rattle.std.proofs.lemmas.Result.{err_from_is_err_and}
use Rattle.mc_explore.specs.{Census.{census_text}, Rows.{subject}}
use Rattle.mc_trace.specs.Picture.{rights_begin}
use Rattle.mc_trace.proofs.Writing.{first_begun, written, writes_then}
use Rattle.mc_trace.proofs.picture.Verdict.write.Goals as goal

pub returns-in_err-write_line : goal.returns-in_err-write_line
returns-in_err-write_line g c =
    let v = c.args.self.now in
    let failed = err_from_is_err_and c.from_residual.result c.from_residual.ensures.1 in
    rw failed.1 (first_begun _ _ (rights_begin v.rights) (census_text subject v.census) (rw c.rights_text.ensures at c.in_err-write_line.ensures.prefix))

pub returns : goal.returns
returns g c =
    let v = c.args.self.now in
    let first = rw c.rights_text.ensures at c.in_ok-write_line.ensures.whole in
    let last = rw c.census_line.ensures at c.write_line-2.ensures in
    writes_then _ _ _ (rights_begin v.rights) (census_text subject v.census) c.write_line-2.result first (written c.write_line-2.result _ _ _ last.whole last.prefix)
