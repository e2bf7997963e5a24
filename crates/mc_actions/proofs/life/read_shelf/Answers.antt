use Rattle.std.proofs.{Common.{arith, inl, inr, refl}, lemmas.Result.{err_from_is_err_and}}
use Rattle.mc_actions.proofs.Shelving.{all_shelved, refused_at, shelved_more}
use Rattle.mc_actions.proofs.life.read_shelf.Goals as goal

pub returns-in_err-add_file-clause-refused : goal.returns-in_err-add_file-clause-refused
returns-in_err-add_file-clause-refused g c =
    let p = err_from_is_err_and c.from_residual-in_err-add_file.result c.from_residual-in_err-add_file.ensures.1 in
    rw (p.1, p.2) (refused_at _ _ _ _ _ _ _ _ c.in_ok-names.ensures c.deref-name-items.ensures.value c.names-test.true (inl c.in_err-add_file.ensures.refused))

pub returns-in-names-clause-refused : goal.returns-in-names-clause-refused
returns-in-names-clause-refused g c =
    let one = c.is_same_file.ensures.one_path c.if-is_same_file.true in
    rw c.in-Some.is (refused_at _ _ _ _ _ _ _ _ c.in_ok-names.ensures c.deref-name-items.ensures.value c.names-test.true (inr (refl, one)))

pub names-preserved : goal.names-preserved
names-preserved g c = record {
  read = c.in_ok-add_file.ensures.added.read c.names.invariant.read;
  shelved = shelved_more _ _ _ c.deref-name-items.result.now c.names.name-index _ c.names-test.true c.names.invariant.shelved c.in_ok-add_file.ensures.added;
}

pub returns-clause-shelf : goal.returns-clause-shelf
returns-clause-shelf g c = (
  c.names.invariant.read,
  _,
  c.in_ok-names.ensures,
  all_shelved (g.F.KnownFiles.holds c.args.files.now) c.names.shelf.items c.in_ok-names.names.items c.deref-name-items.result.now c.names.name-index
      c.deref-name-items.ensures.value (omega (arith, c.names-test.false)) c.names.invariant.shelved,
)
