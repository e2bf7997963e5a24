use Rattle.std.specs.{Prelude.{Bool, Box, Err, List, None, Ok, Option, Some, option_map, ℕ}}
use Rattle.std.specs.Box.{box_value}
use Rattle.std.proofs.Common.{◌≡◌, refl, subst, sym}
use Rattle.clap.specs.{Matches.{found_of}, Simple.{subcommand_rows}, Walk.{Row, rows_of}, declared.parser.matches.ArgMatches.{ArgMatches}, declared.parser.matches.SubCommand.{SubCommand}}
use Rattle.clap.specs.declared.parser.matches.ArgMatches.TheViews.{out-SubCommand}
use Rattle.mc_cli.specs.Files.{Holds}
use Rattle.mc_command.specs.Commands.{AnswersFound, RunsFound, RunsWhole, status_at}
use Rattle.mc_command.proofs.run_matches.Goals as goal
use Rattle.mc_options.specs.Requests.{End}

module _ {Z : Type 0} where
  -- What clap found is the command that is run, with its rows; or there is none.
  found : (s : Option (Box SubCommand Z)) (name : List ℕ) (rows : List Row) → Some name ≡ option_map (λ b. (out-SubCommand (box_value b)).name.now) s
      → Some rows ≡ option_map (λ p. p.1) (subcommand_rows s) → subcommand_rows s ≡ Some (name, rows)
  found None name rows name_is rows_are = absurd (cc)
  found (Some b) name rows name_is rows_are = cc

answered : (o : Option (List ℕ × List Row)) (name : List ℕ) (arguments : ArgMatches) (holds : Holds) (input before after : Option (List ℕ)) (failed : Bool) (end other : End) (status : ℕ)
    → o ≡ Some (name, rows_of (found_of arguments)) → RunsWhole name holds (found_of arguments) input before after failed end → end ≡ other → status ≡ status_at other
    → AnswersFound o holds input before after failed status
answered o name arguments holds input before after failed end other status is runs same is_status =
    let ran : RunsFound name (rows_of (found_of arguments)) holds input before after failed status =
    record { found = found_of arguments; found_is = refl; end = other; runs = rw (← same) runs; status_is = is_status } in
    subst (λ x. AnswersFound x holds input before after failed status) (sym is) ran

pub returns-in-Ok-clause-runs : goal.returns-in-Ok-clause-runs
returns-in-Ok-clause-runs g c =
    answered _ _ _ _ _ _ _ _ _ (Ok tt) 0 (found _ _ _ c.in-Some.ensures.name c.in-Some.ensures.rows) c.run_whole.ensures c.in-Ok.is refl

pub returns-in-Err-clause-runs : goal.returns-in-Err-clause-runs
returns-in-Err-clause-runs g c =
    answered _ _ _ _ _ _ _ _ _ (Err c.in-Err.refusal) _ (found _ _ _ c.in-Some.ensures.name c.in-Some.ensures.rows) c.run_whole.ensures c.in-Err.is c.report_whole.ensures.exact

pub returns-in-Err-2-clause-runs : goal.returns-in-Err-2-clause-runs
returns-in-Err-2-clause-runs g c =
    answered _ _ _ _ _ _ _ _ _ (Err c.in-Err.refusal) _ (found _ _ _ c.in-Some.ensures.name c.in-Some.ensures.rows) c.run_whole.ensures c.in-Err.is c.report-in-Err-2.ensures.exact
