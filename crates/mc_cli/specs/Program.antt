-- The commands and their words (docs/FORMAT.md), as the crate clap reads them (`clap/specs/Simple.antt`).
use Rattle.std.specs.Prelude.{Err, List, None, Ok, Option, Result, Some, [], ◌++◌, ◌∷◌, ◌≡◌, ◌⊎◌, codes, false, flat_map, map, true, ℕ}
use Rattle.clap.specs.{Matches.{found_of}, Values.{kind_of}, Simple.{App, Shape, matches_of, new_rule, new_shape, subcommand_of, subcommand_rows_of}, Walk.{Rule, rows_of}}
use Rattle.clap.specs.Words.{IsAmong, fault_of}
use Rattle.clap.specs.{declared.error.Error.{Error}, declared.parser.matches.ArgMatches.{ArgMatches}}
use Rattle.clap.specs.declared.builder.value_parser.ValueParser.{ValueParser}
use Rattle.clap.specs.declared.error.kind.ErrorKind.TheVariants as kinds
use Rattle.clap.specs.declared.builder.action.ArgAction.TheVariants as actions
use Rattle.clap.specs.declared.builder.value_parser.ValueParser.TheVariants as parsers
use Rattle.mc_cli.specs.declared.command.table.{Group.{Group}}
use Rattle.mc_cli.specs.declared.command.table.Group.TheVariants as groups

-- A word as clap reads it, and the values that it may have, where it is not any text. Where these texts lie in memory is left out.
abbrev pub Entry : Type 0
Entry = Rule × Option (List (List ℕ))

-- A word that is known by its place; an option that is given or not, that has a value, that has one each time that it is given, or one of these.
abbrev pub place : List ℕ → Entry
place name = (new_rule name, None)

abbrev pub flag : List ℕ → Entry
flag name = (record (new_rule name) { long = Some name; action = Some actions.SetTrue }, None)

abbrev pub option : List ℕ → Entry
option name = (record (new_rule name) { long = Some name; value_names = 1 }, None)

abbrev pub options : List ℕ → Entry
options name = (record (new_rule name) { long = Some name; value_names = 1; action = Some actions.Append }, None)

abbrev pub one_of : List (List ℕ) → List ℕ → Entry
one_of values name = ((option name).0, Some values)

-- It has a letter too; it must be given; or it has a value where it is not.
abbrev pub with_letter : ℕ → Entry → Entry
with_letter letter e = (record e.0 { short = Some letter }, e.1)

abbrev pub required : Entry → Entry
required e = (record e.0 { required = true }, e.1)

abbrev pub with_default : List ℕ → Entry → Entry
with_default value e = (record e.0 { defaults = value ∷ [] }, e.1)

-- The words of each group.
unfoldable pub words_of : Group → List Entry
words_of groups.Image = place (codes "INFILE") ∷ []
words_of groups.Creation =
    required (place (codes "INFILE")) ∷ required (place (codes "OUTFILE")) ∷ required (with_letter 118 (option (codes "version"))) ∷
    required (with_letter 72 (option (codes "header-size"))) ∷ flag (codes "pad-header") ∷ flag (codes "keep") ∷
    with_letter 115 (option (codes "security-counter")) ∷ one_of (codes "256" ∷ codes "auto" ∷ []) (codes "sha") ∷ []
words_of groups.Slot =
    with_letter 83 (option (codes "slot-size")) ∷ with_default (codes "8") (option (codes "align")) ∷
    with_default (codes "128") (with_letter 77 (option (codes "max-sectors"))) ∷ flag (codes "pad") ∷ flag (codes "confirm") ∷
    with_letter 82 (one_of (codes "0xff" ∷ codes "0xFF" ∷ codes "255" ∷ []) (codes "erased-val")) ∷
    with_letter 101 (one_of (codes "little" ∷ []) (codes "endian")) ∷ []
words_of groups.Layout =
    required (option (codes "sector")) ∷ required (option (codes "unit")) ∷ required (option (codes "max-sectors")) ∷
    required (option (codes "chunk")) ∷ required (option (codes "primary")) ∷ required (option (codes "secondary")) ∷
    options (codes "layout") ∷ []
words_of groups.Times = option (codes "erase-us") ∷ option (codes "write-us") ∷ []
words_of groups.Source =
    option (codes "flash") ∷ one_of (codes "none" ∷ codes "test" ∷ codes "perm" ∷ codes "revert" ∷ []) (codes "kind") ∷
    option (codes "image-a") ∷ option (codes "image-b") ∷ []
words_of groups.Tables = with_default (codes "1") (one_of (codes "1" ∷ codes "2" ∷ codes "3" ∷ []) (codes "profile")) ∷ []
words_of groups.Rules =
    with_default (codes "call") (one_of (codes "call" ∷ codes "unit" ∷ []) (codes "grain")) ∷
    with_default (codes "1") (one_of (codes "1" ∷ codes "2" ∷ codes "3" ∷ []) (codes "profile")) ∷ []
words_of groups.Output = option (codes "out") ∷ []
words_of groups.Replay = required (option (codes "schedule")) ∷ option (codes "at-cut") ∷ option (codes "out") ∷ []
words_of groups.Trace = with_default (codes "-") (option (codes "schedule")) ∷ option (codes "from") ∷ option (codes "to") ∷ []
words_of groups.Sectors =
    with_default (codes "-") (option (codes "schedule")) ∷ flag (codes "end") ∷
    with_default (codes "plain") (one_of (codes "plain" ∷ codes "all" ∷ []) (codes "words")) ∷ []
words_of groups.Picture =
    with_default (codes "-") (option (codes "schedule")) ∷ option (codes "from") ∷ option (codes "to") ∷ option (codes "expect-primary") ∷
    option (codes "expect-secondary") ∷ []
words_of groups.Torn = flag (codes "torn") ∷ one_of (codes "gentle" ∷ codes "rough" ∷ []) (codes "erase") ∷ []
words_of groups.Tears =
    with_default (codes "-") (option (codes "schedule")) ∷
    with_default (codes "gentle") (one_of (codes "gentle" ∷ codes "rough" ∷ []) (codes "erase")) ∷ flag (codes "all") ∷
    flag (codes "all-right") ∷ option (codes "expect-primary") ∷ option (codes "expect-secondary") ∷ option (codes "at") ∷
    option (codes "reading") ∷ option (codes "out") ∷ []
words_of groups.Vectors =
    required (option (codes "cuts")) ∷ flag (codes "torn") ∷ one_of (codes "gentle" ∷ codes "rough" ∷ []) (codes "erase") ∷
    option (codes "dir") ∷ flag (codes "patches") ∷ []
words_of groups.Dump = required (option (codes "flash")) ∷ option (codes "known-a") ∷ option (codes "known-b") ∷ []
words_of groups.Exploration =
    required (option (codes "cuts")) ∷ with_default (codes "1000") (option (codes "limit")) ∷ flag (codes "all") ∷ option (codes "cursor") ∷
    option (codes "after") ∷ option (codes "from") ∷ option (codes "until") ∷ []
words_of groups.Rounds = with_default (codes "1") (one_of (codes "1" ∷ codes "2" ∷ []) (codes "rounds")) ∷ flag (codes "confirm") ∷ []
words_of groups.Verdict =
    flag (codes "all-boot") ∷ flag (codes "all-right") ∷ option (codes "expect-primary") ∷ option (codes "expect-secondary") ∷ []
words_of groups.Census = required (option (codes "cuts")) ∷ []
words_of groups.Campaign =
    required (option (codes "cuts")) ∷ with_default (codes "1000") (option (codes "limit")) ∷ flag (codes "all") ∷ option (codes "cursor") ∷
    option (codes "after") ∷ option (codes "from") ∷ option (codes "until") ∷ flag (codes "confirm") ∷ []
words_of groups.Delivery = option (codes "flash") ∷ option (codes "image") ∷ []
words_of groups.Life = place (codes "SCRIPT") ∷ flag (codes "wear") ∷ option (codes "out") ∷ []
words_of groups.Refusal = place (codes "NUMBER") ∷ []

-- Each command: its name, other names of it, and the groups of its words.
abbrev pub Line : Type 0
Line = List ℕ × List (List ℕ) × List Group

unfoldable pub image_commands : List Line
image_commands =
    (codes "create", codes "sign" ∷ [], groups.Creation ∷ groups.Slot ∷ []) ∷
    (codes "verify", [], groups.Image ∷ []) ∷
    (codes "dumpinfo", [], groups.Image ∷ []) ∷ []

unfoldable pub boot_commands : List Line
boot_commands =
    (codes "layout", [], groups.Layout ∷ groups.Times ∷ []) ∷
    (codes "type", [], groups.Layout ∷ groups.Source ∷ groups.Tables ∷ []) ∷
    (codes "boot", [], groups.Layout ∷ groups.Source ∷ groups.Rules ∷ groups.Output ∷ []) ∷
    (codes "replay", [], groups.Layout ∷ groups.Source ∷ groups.Rules ∷ groups.Replay ∷ groups.Rounds ∷ []) ∷
    (codes "trace", [], groups.Layout ∷ groups.Source ∷ groups.Rules ∷ groups.Trace ∷ groups.Rounds ∷ []) ∷ []

unfoldable pub flash_commands : List Line
flash_commands =
    (codes "sectors", [], groups.Layout ∷ groups.Source ∷ groups.Rules ∷ groups.Sectors ∷ groups.Rounds ∷ []) ∷
    (codes "frames", [], groups.Layout ∷ groups.Source ∷ groups.Rules ∷ groups.Picture ∷ []) ∷
    (codes "picture", [], groups.Layout ∷ groups.Source ∷ groups.Rules ∷ groups.Picture ∷ groups.Torn ∷ []) ∷
    (codes "tears", [], groups.Layout ∷ groups.Source ∷ groups.Rules ∷ groups.Tears ∷ []) ∷
    (codes "vectors", [], groups.Layout ∷ groups.Source ∷ groups.Rules ∷ groups.Vectors ∷ []) ∷
    (codes "inspect", [], groups.Layout ∷ groups.Dump ∷ groups.Rules ∷ groups.Verdict ∷ []) ∷
    (codes "locate", [], groups.Layout ∷ groups.Dump ∷ groups.Rules ∷ []) ∷ []

unfoldable pub exploration_commands : List Line
exploration_commands =
    (codes "explore", [], groups.Layout ∷ groups.Source ∷ groups.Rules ∷ groups.Exploration ∷ groups.Verdict ∷ []) ∷
    (codes "survey", [], groups.Layout ∷ groups.Source ∷ groups.Rules ∷ groups.Exploration ∷ groups.Rounds ∷ groups.Verdict ∷ []) ∷
    (codes "census", [], groups.Layout ∷ groups.Source ∷ groups.Rules ∷ groups.Census ∷ groups.Rounds ∷ groups.Verdict ∷ []) ∷
    (codes "campaign", [], groups.Layout ∷ groups.Source ∷ groups.Rules ∷ groups.Campaign ∷ groups.Verdict ∷ []) ∷ []

unfoldable pub other_commands : List Line
other_commands =
    (codes "life", [], groups.Layout ∷ groups.Delivery ∷ groups.Rules ∷ groups.Life ∷ []) ∷
    (codes "explain", [], groups.Refusal ∷ []) ∷ []

unfoldable pub lines : List Line
lines = image_commands ++ (boot_commands ++ (flash_commands ++ (exploration_commands ++ other_commands)))

-- A command, or the program, without its words; and with them. Each takes `--verbose` too.
abbrev pub Words : Type 0
Words = Shape × List Entry

abbrev pub command_words : Line → Words
command_words line = (record (new_shape line.0) { aliases = line.1 }, flag (codes "verbose") ∷ flat_map words_of line.2)

abbrev pub program_words : Words
program_words = (
  record (new_shape (codes "mcsim")) { has_version = true; subcommand_required = true; arg_required_else_help = true; is_leaf = false },
  flag (codes "verbose") ∷ [],
)

-- What clap reads of an argument and of a command, in these terms.
abbrev pub values_of : Option ValueParser → Option (List (List ℕ))
values_of None = None
values_of (Some (parsers.Names names)) = Some (map (λ name. name.now) names.now)
values_of (Some _) = Some []

abbrev pub entry_of : Rule → Entry
entry_of r = (record r { parser = None }, values_of r.parser)

abbrev pub words_read : Shape → Words
words_read s = (record s { rules = [] }, map entry_of s.rules)

-- That is the program: clap reads these commands and words of it.
pub record IsMcsim (a : App) : Type 0 where
  pub top : words_read a.top ≡ program_words
  pub commands : map words_read a.subs ≡ map command_words lines

-- What clap makes of words, by its own definitions: what they give to the program and to the command that they name; or why it refuses them, or that
-- an allocation failed.
abbrev pub ParsesBy : App → List (List ℕ) → ArgMatches → Type 0
ParsesBy a words m = (fault_of a words ≡ []) × (subcommand_rows_of m ≡ subcommand_of a words) × (rows_of (found_of m) ≡ matches_of a words)

abbrev pub Parses : List (List ℕ) → Result ArgMatches Error → Type 0
Parses words (Ok m) = (a : App) × IsMcsim a × ParsesBy a words m
Parses words (Err e) = (kind_of e ≡ kinds.OutOfMemory) ⊎ ((a : App) × IsMcsim a × IsAmong (kind_of e) (fault_of a words))
