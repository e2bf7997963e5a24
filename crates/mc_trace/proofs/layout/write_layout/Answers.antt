use Rattle.std.specs.Prelude.{◌++◌}
use Rattle.std.proofs.{KnownBytes.{Appends-trans}, lemmas.Result.{err_from_is_err_and}}
use Rattle.mc_trace.specs.LayoutText.{boots_text, parts_text, sizes_text}
use Rattle.mc_trace.proofs.{Longest.{longest}, Writing.{first_begun, then_begun}}
use Rattle.mc_trace.proofs.layout.write_layout.Goals as goal

pub returns-in_err-write_line-clause-prefix : goal.returns-in_err-write_line-clause-prefix
returns-in_err-write_line-clause-prefix g c =
    let l = c.args.layout.now in
    let failed = err_from_is_err_and c.from_residual.result c.from_residual.ensures.1 in
    rw failed.1 (first_begun _ _ (sizes_text l) (parts_text l ++ boots_text l c.args.times) (rw c.sizes_line.ensures at c.in_err-write_line.ensures.prefix))

pub returns-in_err-write_line-2-clause-prefix : goal.returns-in_err-write_line-2-clause-prefix
returns-in_err-write_line-2-clause-prefix g c =
    let l = c.args.layout.now in
    let failed = err_from_is_err_and c.from_residual-in_err-write_line-2.result c.from_residual-in_err-write_line-2.ensures.1 in
    rw failed.1 (then_begun _ _ _ (sizes_text l) (parts_text l ++ boots_text l c.args.times) (rw c.sizes_line.ensures at c.in_ok-write_line.ensures.whole)
    (first_begun _ _ (parts_text l) (boots_text l c.args.times) (rw c.parts_line.ensures at c.in_err-write_line-2.ensures.prefix)))

pub returns-in_err-write_line-3-clause-prefix : goal.returns-in_err-write_line-3-clause-prefix
returns-in_err-write_line-3-clause-prefix g c =
    let l = c.args.layout.now in
    let failed = err_from_is_err_and c.from_residual-in_err-write_line-3.result c.from_residual-in_err-write_line-3.ensures.1 in
    rw failed.1 (then_begun _ _ _ (sizes_text l) (parts_text l ++ boots_text l c.args.times) (rw c.sizes_line.ensures at c.in_ok-write_line.ensures.whole)
    (then_begun _ _ _ (parts_text l) (boots_text l c.args.times) (rw c.parts_line.ensures at c.in_ok-write_line-2.ensures.whole)
    (rw c.boots_line.ensures at c.in_err-write_line-3.ensures.prefix)))

pub returns-clause-whole : goal.returns-clause-whole
returns-clause-whole g c =
    let l = c.args.layout.now in
    Appends-trans _ _ _ (sizes_text l) (parts_text l ++ boots_text l c.args.times) (rw c.sizes_line.ensures at c.in_ok-write_line.ensures.whole)
    (Appends-trans _ _ _ (parts_text l) (boots_text l c.args.times) (rw c.parts_line.ensures at c.in_ok-write_line-2.ensures.whole)
    (rw c.boots_line.ensures at c.in_ok-write_line-3.ensures.whole))

pub returns-in_err-write_line-clause-longest : goal.returns-in_err-write_line-clause-longest
returns-in_err-write_line-clause-longest g c = longest

pub returns-in_err-write_line-2-clause-longest : goal.returns-in_err-write_line-2-clause-longest
returns-in_err-write_line-2-clause-longest g c = longest

pub returns-in_err-write_line-3-clause-longest : goal.returns-in_err-write_line-3-clause-longest
returns-in_err-write_line-3-clause-longest g c = longest

pub returns-clause-longest : goal.returns-clause-longest
returns-clause-longest g c = longest
