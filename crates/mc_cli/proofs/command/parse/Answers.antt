use Rattle.std.proofs.Common.{◌≡◌, ◌∙◌, ap, false, refl, Err, IfOk, List, Ok, Result, inl, inr, map, true, ℕ}
use Rattle.clap.specs.Words.{App, FailsBy, HasMatchesOf, app_of, fault_of, is_simple_and_free}
use Rattle.clap.specs.{declared.error.Error.{Error}, declared.parser.matches.ArgMatches.{ArgMatches}}
use Rattle.clap.specs.Walk.{is_empty}
use Rattle.clap.specs.declared.builder.command.Command.{Command}
use Rattle.mc_cli.specs.Program.{IsMcsim, Parses, boot_commands, command_words, exploration_commands, flash_commands, image_commands, lines, other_commands, program_words}
use Rattle.mc_cli.specs.inner.Tables.{IsProgram}
use Rattle.mc_cli.proofs.Simple.{first_of, mcsim_is_simple}
use Rattle.mc_cli.proofs.command.parse.Goals as goal

parsed : (a : App) (words : List (List ℕ)) (result : Result ArgMatches Error) → IsMcsim a → IfOk result (HasMatchesOf a words)
    → (is_simple_and_free a ≡ true → FailsBy (fault_of a words) result) → Parses words result
parsed a words (Ok m) is matches kinds =
    let simple = mcsim_is_simple a is in
    let rows = matches (first_of _ _ simple) in
    (a, is, (kinds simple, rows.1, rows.0))
parsed a words (Err e) is matches kinds =
    let simple = mcsim_is_simple a is in
    elim (kinds simple) [
      | inl memory ↦ inl memory
      | inr kind ↦ inr (a, is, kind)
    ]

has_commands : is_empty (map command_words lines) ≡ false
unfolding lines image_commands boot_commands flash_commands exploration_commands other_commands
has_commands = refl

whole : (c : Command) → IsProgram (map command_words lines) c → IsMcsim (app_of c)
whole c is = record {
  top = is.words_are ∙ ap (λ leaf. (record program_words.0 { is_leaf = leaf }, program_words.1)) has_commands;
  commands = is.commands_are;
}

pub returns : goal.returns
returns c = parsed _ _ _ (whole c.in_ok-program.program c.in_ok-program.ensures) c.try_get_matches_from.ensures.matches c.try_get_matches_from.ensures.kinds
