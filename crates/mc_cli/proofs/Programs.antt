-- A command with one more word, and a program with one more command.
use Rattle.std.proofs.Common.{◌≡◌, ◌∙◌, ◌++◌, ◌∷◌, ◌||◌, List, [], length, ◌+◌, ◌<◌, map, take, get_or, ℕ, ap, append_assoc, refl, sym, Option, Bor, false, true}
use Rattle.std.proofs.lemmas.List.{append-nil, map-append, take_more}
use Rattle.std.proofs.lemmas.Grind.{flat_map-append}
use Rattle.std.specs.Prelude.{Bool, flat_map}
use Rattle.clap.proofs.SimpleLemmas.{not_empty}
use Rattle.clap.specs.Built.{AddsArg, AddsSubcommand}
use Rattle.clap.specs.{Simple.{app_of, new_app, new_shape, shape_of, shape_of_fields}, Walk.{rule_of}}
use Rattle.clap.specs.declared.builder.{arg.Arg.{Arg}, command.Command.{Command}}
use Rattle.clap.specs.declared.builder.command.Command.TheViews.{out-Command as fields_of}
use Rattle.mc_cli.specs.declared.command.table.{Group.{Group}, Subcommand.{Subcommand}, Word.{Word}}
use Rattle.mc_cli.specs.Program.{Entry, Line, Words, command_words, entry_of, program_words, words_of, words_read}
use Rattle.mc_cli.specs.inner.Tables.{IsArg, IsCommand, IsProgram, entry_of_word, line_of, with_entries}

pub added_word : (w : Words) (old new : Command) (a : Arg) (e : Entry) → IsCommand w old → IsArg e a → AddsArg old a new → IsCommand (with_entries w (e ∷ [])) new
added_word w old new a e is arg adds =
    let shape = adds.shape arg.1 in
    let before = words_read (app_of old).top in
    let here : words_read (app_of new).top ≡ (before.0, before.1 ++ entry_of (rule_of a) ∷ []) =
    ap (λ x. words_read x.top) shape ∙ ap (λ es. (before.0, es)) (map-append entry_of (app_of old).top.rules (rule_of a ∷ [])) in
    record {
      words_are = here ∙ (ap (λ v. (v.0, v.1 ++ entry_of (rule_of a) ∷ [])) is.words_are ∙ ap (λ x. (w.0, w.1 ++ x ∷ [])) arg.0);
      alone = ap (λ x. x.subs) shape ∙ is.alone;
      local = adds.globals ∙ (ap (λ b. b || a.global) is.local ∙ arg.1);
    }

-- After one more of the words of a group its entry follows the others.
pub further : (w : Words) (xs : List Word) (i : ℕ) (d : Word) (c : Command) → i < length xs
    → IsCommand (with_entries (with_entries w (map entry_of_word (take i xs))) (entry_of_word (get_or xs i d) ∷ [])) c
    → IsCommand (with_entries w (map entry_of_word (take (i + 1) xs))) c
further w xs i d c inside is =
    let entries : map entry_of_word (take (i + 1) xs) ≡ map entry_of_word (take i xs) ++ entry_of_word (get_or xs i d) ∷ [] =
    ap (map entry_of_word) (take_more xs i d inside) ∙ map-append entry_of_word (take i xs) (get_or xs i d ∷ []) in
    rw (entries, ← append_assoc w.1 (map entry_of_word (take i xs)) (entry_of_word (get_or xs i d) ∷ [])) is

-- The names of a list of texts that help shows.
shown_names : (names : List (Bor (List ℕ))) → map (λ (alias : Bor (List ℕ) × Bool). alias.0.now) (map (λ (name : Bor (List ℕ)). (name, true)) names) ≡ map (λ (name : Bor (List ℕ)). name.now) names
shown_names [] = refl
shown_names (name ∷ names) = ap (λ rest. name.now ∷ rest) (shown_names names)

-- A new command with other names and a text.
pub named : (start aliased shown : Command) (name : List ℕ) (names : List (Bor (List ℕ))) (about : Option (Bor (List ℕ))) → app_of start ≡ new_app name
    → (fields_of start).has_globals ≡ false → fields_of aliased ≡ record (fields_of start) { aliases = (fields_of aliased).aliases }
    → (fields_of aliased).aliases.items ≡ (fields_of start).aliases.items ++ map (λ (n : Bor (List ℕ)). (n, true)) names
    → fields_of shown ≡ record (fields_of aliased) { about = about } → IsCommand (record (new_shape name) { aliases = map (λ (n : Bor (List ℕ)). n.now) names }, []) shown
named start aliased shown name names about app local others added texts =
    let a = (fields_of aliased).aliases in
    let aliases : map (λ (alias : Bor (List ℕ) × Bool). alias.0.now) a.items ≡ map (λ (n : Bor (List ℕ)). n.now) names =
    ap (map (λ (alias : Bor (List ℕ) × Bool). alias.0.now)) added
    ∙ (map-append (λ (alias : Bor (List ℕ) × Bool). alias.0.now) (fields_of start).aliases.items (map (λ (n : Bor (List ℕ)). (n, true)) names)
    ∙ (ap (λ xs. xs ++ map (λ (alias : Bor (List ℕ) × Bool). alias.0.now) (map (λ (n : Bor (List ℕ)). (n, true)) names)) (ap (λ x. x.top.aliases) app) ∙ shown_names names)) in
    record {
      words_are =
          ap (λ f. words_read (shape_of_fields f)) texts
          ∙ (ap (λ f. words_read (shape_of_fields f)) others
          ∙ (ap (λ x. (record x.top { rules = []; aliases = map (λ (alias : Bor (List ℕ) × Bool). alias.0.now) a.items }, map entry_of x.top.rules)) app
          ∙ ap (λ al. (record (new_shape name) { aliases = al }, [])) aliases));
      alone = ap (λ f. map shape_of f.subcommands.items) texts ∙ (ap (λ f. map shape_of f.subcommands.items) others ∙ ap (λ x. x.subs) app);
      local = ap (λ f. f.has_globals) texts ∙ (ap (λ f. f.has_globals) others ∙ local);
    }

pub added_command : (subs : List Words) (old sub new : Command) (w : Words) → IsProgram subs old → IsCommand w sub → AddsSubcommand old sub new → IsProgram (subs ++ w ∷ []) new
added_command subs old sub new w is one adds =
    let shape = adds.shape one.local in
    let before = (app_of old).subs in
    record {
      words_are =
          ap (λ x. words_read x.top) shape
          ∙ (ap (λ v. (record v.0 { is_leaf = false }, v.1)) is.words_are
          ∙ ap (λ leaf. (record program_words.0 { is_leaf = leaf }, program_words.1)) (sym (not_empty subs w)));
      commands_are =
          ap (λ x. map words_read x.subs) shape
          ∙ (map-append words_read before (shape_of sub ∷ []) ∙ (ap (λ xs. xs ++ words_read (shape_of sub) ∷ []) is.commands_are ∙ ap (λ x. subs ++ x ∷ []) one.words_are));
      local = adds.globals ∙ (ap (λ b. b || (fields_of sub).has_globals) is.local ∙ one.local);
    }

-- After one more of the commands of a part it follows the others.
pub one_further : (subs : List Words) (xs : List Subcommand) (i : ℕ) (d : Subcommand) (c : Command) → i < length xs
    → IsProgram ((subs ++ map command_words (map line_of (take i xs))) ++ command_words (line_of (get_or xs i d)) ∷ []) c
    → IsProgram (subs ++ map command_words (map line_of (take (i + 1) xs))) c
one_further subs xs i d c inside is =
    let more : map command_words (map line_of (take (i + 1) xs)) ≡ map command_words (map line_of (take i xs)) ++ command_words (line_of (get_or xs i d)) ∷ [] =
    ap (λ l. map command_words (map line_of l)) (take_more xs i d inside)
    ∙ (ap (map command_words) (map-append line_of (take i xs) (get_or xs i d ∷ []))
    ∙ map-append command_words (map line_of (take i xs)) (line_of (get_or xs i d) ∷ [])) in
    rw (more, ← append_assoc subs (map command_words (map line_of (take i xs))) (command_words (line_of (get_or xs i d)) ∷ [])) is

-- After one more of the groups of a command its words stand behind those before it.
pub grouped : (w : Words) (gs : List Group) (i : ℕ) (d : Group) (c : Command) → i < length gs
    → IsCommand (with_entries (with_entries w (flat_map words_of (take i gs))) (words_of (get_or gs i d))) c
    → IsCommand (with_entries w (flat_map words_of (take (i + 1) gs))) c
grouped w gs i d c inside is =
    let more : flat_map words_of (take (i + 1) gs) ≡ flat_map words_of (take i gs) ++ words_of (get_or gs i d) =
    ap (flat_map words_of) (take_more gs i d inside)
    ∙ (flat_map-append words_of (take i gs) (get_or gs i d ∷ []) ∙ ap (λ xs. flat_map words_of (take i gs) ++ xs) (append-nil (words_of (get_or gs i d)))) in
    rw (more, ← append_assoc w.1 (flat_map words_of (take i gs)) (words_of (get_or gs i d))) is

-- The commands of five parts, one part after the other.
pub parts : (a b c d e : List Line)
    → ((((map command_words a ++ map command_words b) ++ map command_words c) ++ map command_words d) ++ map command_words e) ≡ map command_words (a ++ (b ++ (c ++ (d ++ e))))
parts a b c d e =
    let f = command_words in
    append_assoc ((map f a ++ map f b) ++ map f c) (map f d) (map f e)
    ∙ (append_assoc (map f a ++ map f b) (map f c) (map f d ++ map f e)
    ∙ (append_assoc (map f a) (map f b) (map f c ++ (map f d ++ map f e))
    ∙ sym (map-append f a (b ++ (c ++ (d ++ e)))
    ∙ ap (λ xs. map f a ++ xs) (map-append f b (c ++ (d ++ e))
    ∙ ap (λ xs. map f b ++ xs) (map-append f c (d ++ e) ∙ ap (λ xs. map f c ++ xs) (map-append f d e))))))
