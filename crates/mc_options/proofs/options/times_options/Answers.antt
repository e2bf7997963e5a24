use Rattle.std.proofs.Common.{inl, inr}
use Rattle.clap.specs.Matches.{found_of}
use Rattle.mc_options.proofs.GivenOptions.{no_times}
use Rattle.mc_options.proofs.options.times_options.Goals as goal

pub returns-in_err-erase-clause-taken : goal.returns-in_err-erase-clause-taken
returns-in_err-erase-clause-taken c = λ times given. no_times (found_of c.args.arguments.now) times given (inl c.in_err-erase.ensures.1)

pub returns-in_err-write-clause-taken : goal.returns-in_err-write-clause-taken
returns-in_err-write-clause-taken c = λ times given. no_times (found_of c.args.arguments.now) times given (inr c.in_err-write.ensures.1)
