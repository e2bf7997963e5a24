-- The text of a script: a line for each event, and the files that it names (docs/FORMAT.md, "A device's life").
use Rattle.std.specs.Prelude.{Bool, Err, IfSome, IsSomeAnd, List, None, Ok, Option, Result, Some, [], bytes_eq, codes, decimal, false, if◌then◌else◌, length, map, not, option_and_then, true, ℕ, ⊤, ◌&&◌, ◌++◌, ◌+◌, ◌<◌, ◌==◌, ◌^◌, ◌∷◌, ◌≡◌, ◌≢◌, ◌≤◌, ◌⊎◌}
use Rattle.std.specs.{Str.{IsUtf8}, Str.Parse.{IsNumeral, digits_value}}
use Rattle.hex.specs.Hex.{IsBytes, encode_lower}
use Rattle.mc_imgtool.specs.Engines.{RefusesReading}
use Rattle.mc_life.specs.{declared.error.ScriptError.{ScriptError}, declared.event.Event.{Event}, declared.request.Request.{Request}}
use Rattle.mc_output.specs.facts.Parting.{Lacks}
use Rattle.mc_start.specs.Start.{IsSchedule, schedule_text}
use Rattle.mc_tear.specs.{Readings.{reading_of, reading_text}, declared.reading.Reading.{Reading}}
use Rattle.mc_life.specs.declared.error.ScriptError.TheVariants as refusals
use Rattle.mc_life.specs.declared.event.Event.TheVariants as events
use Rattle.mc_life.specs.declared.request.Request.TheVariants as requests

-- What a line says.

-- A text without a carriage return at its end.
abbrev pub without_return : List ℕ → List ℕ
without_return [] = []
without_return (c ∷ []) = if c == 13 then [] else c ∷ []
without_return (c ∷ d ∷ cs) = c ∷ without_return (d ∷ cs)

-- What stands before a comment, which a `#` begins at the text's start or behind a space, outside of double quotes. Whether one may
-- begin here, and whether this stands in double quotes.
abbrev pub before_comment : Bool → Bool → List ℕ → List ℕ
before_comment here quoted [] = []
before_comment here quoted (c ∷ cs) =
    if (c == 35) && (here && not quoted) then [] else c ∷ before_comment (c == 32) (if c == 34 then not quoted else quoted) cs

-- A byte before others, left out where it is a space and the last.
abbrev pub unless_last : ℕ → List ℕ → List ℕ
unless_last c [] = if c == 32 then [] else c ∷ []
unless_last c (d ∷ ds) = c ∷ d ∷ ds

-- A text without the spaces at its end.
abbrev pub without_spaces : List ℕ → List ℕ
without_spaces [] = []
without_spaces (c ∷ cs) = unless_last c (without_spaces cs)

-- What a line says: it has no carriage return at its end, then no comment, and then no spaces at its end.
unfoldable pub said : List ℕ → List ℕ
said line = without_spaces (before_comment true false (without_return line))

-- The text of an event.

abbrev pub request_text : Request → List ℕ
request_text requests.Test = codes "test"
request_text requests.Perm = codes "perm"

-- Its first word.
abbrev pub name_of : Event → List ℕ
name_of (events.Download file bytes) = codes "download"
name_of (events.Request request) = codes "request"
name_of (events.Store file) = codes "store"
name_of (events.Write file from count) = codes "write"
name_of (events.Erase sector) = codes "erase"
name_of events.Confirm = codes "confirm"
name_of (events.Mark bytes) = codes "mark"
name_of (events.Boot cuts) = codes "boot"
name_of (events.Cut count) = codes "cut"
name_of (events.Tear count reading) = codes "tear"

-- Words, one space between them: the first, and what stands after it, if something does.
abbrev pub line_of : List ℕ → Option (List ℕ) → List ℕ
line_of name None = name
line_of name (Some rest) = name ++ 32 ∷ rest

-- A number in hexadecimal: `0x` and one to eight digits of either case.
pub record IsHexadecimal (n : ℕ) (text : List ℕ) : Type 0 where
  pub digits : List ℕ
  pub text_is : text ≡ codes "0x" ++ digits
  pub are_digits : IsNumeral 16 digits
  pub at_most : length digits ≤ 8
  pub value : digits_value 16 digits ≡ n

-- A text writes a number: in decimal, without leading zeros, or in hexadecimal.
abbrev pub Writes : ℕ → List ℕ → Type 0
Writes n text = (n < 2 ^ 32) × ((text ≡ decimal n) ⊎ IsHexadecimal n text)

-- Two numbers, with a space between them.
pub record WritesBoth (m n : ℕ) (text : List ℕ) : Type 0 where
  pub first : List ℕ
  pub second : List ℕ
  pub text_is : text ≡ first ++ 32 ∷ second
  pub first_is : Writes m first
  pub second_is : Writes n second

-- A number, and a reading of a torn operation.
pub record WritesTear (n : ℕ) (r : Reading) (text : List ℕ) : Type 0 where
  pub first : List ℕ
  pub text_is : text ≡ first ++ 32 ∷ reading_text r
  pub first_is : Writes n first
  pub number : ℕ
  pub few : number < 192
  pub reading_is : r ≡ reading_of number

-- A name that needs no double quotes: it holds no space, and begins with none of them.
abbrev pub IsBare : List ℕ → Type 0
IsBare [] = ⊤
IsBare (c ∷ cs) = (c ≢ 34) × Lacks 32 (c ∷ cs)

-- A text writes the name of a file: the name itself, or the name in double quotes, where it holds none.
abbrev pub Spells : List ℕ → List ℕ → Type 0
Spells name text = (IsBare name × (text ≡ name)) ⊎ (Lacks 34 name × (text ≡ 34 ∷ name ++ 34 ∷ []))

-- A text begins with the name of a file, and this stands after it, if something does.
pub record BeginsWith (text name : List ℕ) (more : Option (List ℕ)) : Type 0 where
  pub spelled : List ℕ
  pub spells : Spells name spelled
  pub text_is : text ≡ line_of spelled more

-- It does, and that holds of what stands after it.
abbrev pub NamesThen : List ℕ → (Option (List ℕ) → Type 0) → List ℕ → Type 0
NamesThen name P text = (more : Option (List ℕ)) × BeginsWith text name more × P more

-- A number, or nothing.
abbrev pub WritesMaybe : Option ℕ → Option (List ℕ) → Type 0
WritesMaybe None more = more ≡ None
WritesMaybe (Some n) more = IsSomeAnd more (Writes n)

abbrev pub cuts_text : List ℕ → Option (List ℕ)
cuts_text [] = None
cuts_text (c ∷ cuts) = Some (schedule_text (c ∷ cuts))

-- What may stand after the first word of its text, if something does.
abbrev pub Follows : Event → Option (List ℕ) → Type 0
Follows (events.Download file bytes) rest = IsSomeAnd rest (NamesThen file.now (WritesMaybe bytes))
Follows (events.Request request) rest = rest ≡ Some (request_text request)
Follows (events.Store file) rest = IsSomeAnd rest (NamesThen file.now (λ more. more ≡ None))
Follows (events.Write file from count) rest = IsSomeAnd rest (NamesThen file.now (λ more. IsSomeAnd more (WritesBoth from count)))
Follows (events.Erase sector) rest = IsSomeAnd rest (Writes sector)
Follows events.Confirm rest = rest ≡ None
Follows (events.Mark bytes) rest = (length bytes ≤ 8) × IsBytes bytes × (rest ≡ Some (encode_lower bytes))
Follows (events.Boot cuts) rest = IsSchedule cuts × (rest ≡ cuts_text cuts)
Follows (events.Cut count) rest = IsSomeAnd rest (Writes count)
Follows (events.Tear count reading) rest = IsSomeAnd rest (WritesTear count reading)

-- A text states an event: its first word, and what may stand after that.
pub record States (text : List ℕ) (e : Event) : Type 0 where
  pub rest : Option (List ℕ)
  pub text_is : text ≡ line_of (name_of e) rest
  pub follows : Follows e rest

-- What a first word and what comes after it state.
pub record Says (name : List ℕ) (rest : Option (List ℕ)) (e : Event) : Type 0 where
  pub name_is : name ≡ name_of e
  pub follows : Follows e rest

abbrev pub SaysNone : List ℕ → Option (List ℕ) → Type 0
SaysNone name rest = (e : Event) → Says name rest e → ⊥

-- An event that a text states, or none where it states none.
abbrev pub ReadsEvent : List ℕ → Option Event → Type 0
ReadsEvent text None = (e : Event) → States text e → ⊥
ReadsEvent text (Some e) = States text e

-- What is read of a reader of these bytes, where they are known: their text; or that they are too many, or, where they are not, that they are no text. A
-- read or an allocation may fail whatever they are.
abbrev pub Reads : Option (List ℕ) → Result (List ℕ) ScriptError → Type 0
Reads known (Ok text) = (length text ≤ 2 ^ 24) × IsUtf8 text × IfSome known (λ xs. text ≡ xs)
Reads known (Err (refusals.Input e)) = RefusesReading known (2 ^ 24) e
Reads known (Err refusals.NotText) = IfSome known (λ xs. (length xs ≤ 2 ^ 24) × (IsUtf8 xs → ⊥))

-- The files that a script names.

-- The one that an event names, if it names one.
abbrev pub file_named : Event → Option (List ℕ)
file_named (events.Download file bytes) = Some file.now
file_named (events.Store file) = Some file.now
file_named (events.Write file from count) = Some file.now
file_named _ = None

abbrev pub before : Option (List ℕ) → List (List ℕ) → List (List ℕ)
before None names = names
before (Some name) names = name ∷ names

-- What the events that these texts state name, in their order and as often as they do.
abbrev pub Names : List (List ℕ) → List (List ℕ) → Type 0
Names [] names = names ≡ []
Names (line ∷ lines) names =
    (e : Option Event) × (others : List (List ℕ)) × ReadsEvent line e × Names lines others × (names ≡ before (option_and_then file_named e) others)

-- A file by its name: what it holds.
pub record Named : Type 0 where
  pub name : List ℕ
  pub bytes : List ℕ

-- The first of that name.
abbrev pub file_of : List Named → List ℕ → Option (List ℕ)
file_of [] name = None
file_of (f ∷ files) name = if bytes_eq f.name name then Some f.bytes else file_of files name

-- What it holds.
abbrev pub held : Option (List ℕ) → List ℕ
held None = []
held (Some bytes) = bytes

-- The lines of a script.

abbrev pub onto : ℕ → List (List ℕ) → List (List ℕ)
onto c [] = (c ∷ []) ∷ []
onto c (line ∷ lines) = (c ∷ line) ∷ lines

-- What stands between line feeds: the last line has none.
abbrev pub lines_of : List ℕ → List (List ℕ)
lines_of [] = [] ∷ []
lines_of (c ∷ cs) = if c == 10 then [] ∷ lines_of cs else onto c (lines_of cs)

-- What the lines of a script say.
abbrev pub sayings : List ℕ → List (List ℕ)
sayings script = map said (lines_of script)

-- What the lines of what is left say, if something is.
abbrev pub sayings_left : Option (List ℕ) → List (List ℕ)
sayings_left None = []
sayings_left (Some text) = sayings text

-- How many bytes are left, with a line feed before them.
abbrev pub size_left : Option (List ℕ) → ℕ
size_left None = 0
size_left (Some text) = length text + 1

-- A line that says nothing states nothing.
abbrev pub is_skipped : List ℕ → Bool
is_skipped [] = true
is_skipped (c ∷ cs) = false

-- One of two facts.
abbrev pub Either : Bool → Type 0 → Type 0 → Type 0
Either true A B = A
Either false A B = B
