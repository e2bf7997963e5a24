use Rattle.std.proofs.{Common.{inl, inr, refl}, lemmas.Result.{err_from_is_err_and}}
use Rattle.mc_options.proofs.GivenOptions.{names_none, no_version, not_ok}
use Rattle.clap.specs.Matches.{found_of}
use Rattle.mc_options.proofs.options.create_options.Goals as goal

pub returns-in_err-version-clause-taken : goal.returns-in_err-version-clause-taken
returns-in_err-version-clause-taken c = λ o given.
    no_version (found_of c.args.arguments.now) _ _ _ _ c.in_ok-required.ensures given.version_given given.version c.in_err-version.ensures.only

pub returns-in_err-read_required-clause-taken : goal.returns-in_err-read_required-clause-taken
returns-in_err-read_required-clause-taken c = λ o given. absurd (not_ok (c.in_err-read_required.ensures.taken o.header_size given.header_size))

pub returns-in_err-read-clause-taken : goal.returns-in_err-read-clause-taken
returns-in_err-read-clause-taken c = λ o given. absurd (c.in_err-read.ensures.1 o.slot_size given.slot_size)

pub returns-in_err-align-clause-taken : goal.returns-in_err-align-clause-taken
returns-in_err-align-clause-taken c = λ o given. absurd (not_ok (c.in_err-align.ensures.taken o.align given.align given.unit))

pub returns-in_err-read_required-2-clause-taken : goal.returns-in_err-read_required-2-clause-taken
returns-in_err-read_required-2-clause-taken c = λ o given. absurd (not_ok (c.in_err-read_required-2.ensures.taken o.max_sectors given.max_sectors))

pub returns-in_err-read-2-clause-taken : goal.returns-in_err-read-2-clause-taken
returns-in_err-read-2-clause-taken c = λ o given. absurd (c.in_err-read-2.ensures.1 o.security_counter given.security_counter)

pub returns-in_err-version-clause-refused : goal.returns-in_err-version-clause-refused
returns-in_err-version-clause-refused c =
    let p = err_from_is_err_and c.from_residual-in_err-version.result c.from_residual-in_err-version.ensures.1 in
    rw (p.1, p.2) (inl (inl ((c.in_err-version.field-0.0, refl), (_, c.in_ok-required.ensures, names_none _ _ c.in_err-version.ensures.only))))

pub returns-in_err-align-clause-refused : goal.returns-in_err-align-clause-refused
returns-in_err-align-clause-refused c =
    let p = err_from_is_err_and c.from_residual-in_err-align.result c.from_residual-in_err-align.ensures.1 in
    rw (p.1, p.2) (inr (inr (inl c.in_err-align.ensures.refused)))
