use Rattle.std.specs.Prelude.{Bool, Err, List, Ok, Option, ℕ}
use Rattle.std.proofs.Common.{inl, inr, subst}
use Rattle.clap.specs.{Simple.{subcommand_rows_of}, Values.{kind_of}, declared.error.Error.{Error}, declared.parser.matches.ArgMatches.{ArgMatches}}
use Rattle.mc_cli.specs.{Files.{Holds}, Program.{Parses}}
use Rattle.mc_command.specs.Commands.{AnswersClap, AnswersFound, RunsWords}
use Rattle.mc_command.proofs.run_words.Goals as goal

-- What clap found in the words is answered.
found : (words : List (List ℕ)) (m : ArgMatches) (holds : Holds) (input before after : Option (List ℕ)) (failed : Bool) (status : ℕ) → Parses words (Ok m)
    → AnswersFound (subcommand_rows_of m) holds input before after failed status → RunsWords words holds input before after failed status
found words m holds input before after failed status (a, is, by) answers =
    inl (a, is, by.0, subst (λ s. AnswersFound s holds input before after failed status) by.1 answers)

-- It refused them.
refused : (words : List (List ℕ)) (e : Error) (holds : Holds) (input before after : Option (List ℕ)) (failed : Bool) (status : ℕ) → Parses words (Err e)
    → AnswersClap (kind_of e) before after status → RunsWords words holds input before after failed status
refused words e holds input before after failed status (inl memory) answers = inr (inr (subst (λ k. AnswersClap k before after status) memory answers))
refused words e holds input before after failed status (inr (a, is, among)) answers = inr (inl (a, is, kind_of e, among, answers))

pub returns-in-Ok-clause-runs : goal.returns-in-Ok-clause-runs
returns-in-Ok-clause-runs g c = found _ _ _ _ _ _ _ _ c.in-Ok.ensures c.run_matches.ensures.runs

pub returns-in-Err-clause-runs : goal.returns-in-Err-clause-runs
returns-in-Err-clause-runs g c = refused _ c.in-Err.error _ _ _ _ _ _ c.in-Err.ensures c.answer_of_clap.ensures.answers
