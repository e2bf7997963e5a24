-- What the table of commands says of words and commands, and what is made of it.
use Rattle.std.specs.{Option.{option_map_or}, Prelude.{List, [], ◌++◌, ◌∷◌, ◌≡◌, false, map, ℕ}}
use Rattle.clap.specs.{Simple.{app_of}, Walk.{is_empty, rule_of}}
use Rattle.clap.specs.declared.builder.{arg.Arg.{Arg}, command.Command.{Command}}
use Rattle.clap.specs.declared.builder.command.Command.TheViews.{out-Command as fields_of}
use Rattle.mc_cli.specs.Program.{Entry, Line, Words, entry_of, flag, one_of, option, options, place, program_words, words_read}
use Rattle.mc_cli.specs.declared.command.table.{Subcommand.{Subcommand}, Takes.{Takes}, Word.{Word}}
use Rattle.mc_cli.specs.declared.command.table.Takes.TheVariants as takes

-- A word by what it takes, and by the rest.
abbrev pub taking : Takes → List ℕ → Entry
taking takes.Nothing = flag
taking takes.Itself = place
taking (takes.Value shown) = option
taking (takes.Values shown) = options
taking (takes.OneOf shown values) = one_of (map (λ value. value.now) values.now)

abbrev pub with_rest : Word → Entry → Entry
with_rest w e = (
  record e.0 { short = w.short; required = w.required; defaults = option_map_or (λ value. value.now ∷ []) w.default [] },
  e.1,
)

abbrev pub entry_of_word : Word → Entry
entry_of_word w = with_rest w (taking w.takes w.name.now)

abbrev pub line_of : Subcommand → Line
line_of c = (c.name.now, map (λ alias. alias.now) c.aliases.now, c.groups.now)

-- An argument is that word, and not one that all commands take.
abbrev pub IsArg : Entry → Arg → Type 0
IsArg e a = (entry_of (rule_of a) ≡ e) × (a.global ≡ false)

-- A command has these words, no commands of its own, and no word that all commands take; and the program has these commands.
pub record IsCommand (words : Words) (c : Command) : Type 0 where
  pub words_are : words_read (app_of c).top ≡ words
  pub alone : (app_of c).subs ≡ []
  pub local : (fields_of c).has_globals ≡ false

abbrev pub program_words_at : List Words → Words
program_words_at commands = (record program_words.0 { is_leaf = is_empty commands }, program_words.1)

pub record IsProgram (commands : List Words) (c : Command) : Type 0 where
  pub words_are : words_read (app_of c).top ≡ program_words_at commands
  pub commands_are : map words_read (app_of c).subs ≡ commands
  pub local : (fields_of c).has_globals ≡ false

abbrev pub with_entries : Words → List Entry → Words
with_entries w entries = (w.0, w.1 ++ entries)

abbrev pub bare_line : Line → Line
bare_line line = (line.0, line.1, [])
