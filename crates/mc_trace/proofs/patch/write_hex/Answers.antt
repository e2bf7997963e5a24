use Rattle.std.specs.Prelude.{drop, take}
use Rattle.std.proofs.{Common.{sym, subst, ◌∙◌}, lemmas.Bool.{eqb-true}, lemmas.Result.{err_from_is_err_and}}
use Rattle.hex.specs.Hex.{encode_lower}
use Rattle.mc_output.specs.facts.Prefixes.{IsOut, out_all, out_more, out_prefix}
use Rattle.mc_trace.proofs.PatchLines.{digits_next, digits_none}
use Rattle.mc_trace.proofs.patch.write_hex.Goals as goal

pub returns-in_err-write_line-clause-written : goal.returns-in_err-write_line-clause-written
returns-in_err-write_line-clause-written g c =
    let before = g.W.Write.contents c.args.writer.now in
    let mid = g.W.Write.contents c.pieces.writer in
    let whole = encode_lower c.args.bytes.now in
    let n = c.min.result in
    let rest = c.pieces.rest.now in
    let out = subst (IsOut before mid whole) (digits_next rest n) c.pieces.invariant.out in
    let failed = err_from_is_err_and c.from_residual.result c.from_residual.ensures.1 in
    rw failed.1 (out_prefix before mid (g.W.Write.contents c.write_line.new.writer) whole (encode_lower (take n rest)) (encode_lower (drop n rest)) out
    (rw (c.put_hex.ensures.text, c.new-digits.ensures, c.split_at.ensures.front) at c.in_err-write_line.ensures.prefix))

pub pieces-preserved : goal.pieces-preserved
pieces-preserved g c =
    let before = g.W.Write.contents c.args.writer.now in
    let mid = g.W.Write.contents c.pieces.writer in
    let whole = encode_lower c.args.bytes.now in
    let n = c.min.result in
    let rest = c.pieces.rest.now in
    let out = subst (IsOut before mid whole) (digits_next rest n) c.pieces.invariant.out in
    record {
      out = rw c.split_at.ensures.back (out_more before mid (g.W.Write.contents c.write_line.new.writer) whole (encode_lower (take n rest)) (encode_lower (drop n rest)) out
          (rw (c.put_hex.ensures.text, c.new-digits.ensures, c.split_at.ensures.front) at c.in_ok-write_line.ensures.whole));
    }

pub returns-clause-written : goal.returns-clause-written
returns-clause-written g c =
    let before = g.W.Write.contents c.args.writer.now in
    let now = g.W.Write.contents c.pieces.writer in
    let whole = encode_lower c.args.bytes.now in
    let none = digits_none c.pieces.rest.now (eqb-true _ 0 (sym c.is_empty.ensures ∙ c.pieces-test.false)) in
    out_all before now whole (subst (IsOut before now whole) none c.pieces.invariant.out)
