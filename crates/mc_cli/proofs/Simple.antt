-- A program of the table is one of which clap's definitions say all.
use Rattle.std.proofs.Common.{◌≡◌, ◌∙◌, ◌++◌, ◌∷◌, ◌&&◌, ◌||◌, ◌==◌, List, [], Bool, true, false, not, map, ap, refl, sym, arith, Option, Some, None, ℕ, zero, suc, count_by, drop, get_or, subst}
use Rattle.std.specs.Prelude.{is_some}
use Rattle.std.specs.List.{list_all, list_any}
use Rattle.std.proofs.lemmas.Bool.Decides.{nat_tests}
use Rattle.std.proofs.lemmas.List.Folds.{list_all-append, list_all-map}
use Rattle.clap.specs.Simple.{App, Shape, built_leaf, filled, filled_from, help_rule, help_shape, index_after, inherited, is_in_order, is_ready_leaf, is_simple_leaf, marked_built, version_rule, with_index, with_leaf_noted}
use Rattle.clap.specs.Faults.{has_free_rules, is_simple_and_free}
use Rattle.clap.specs.Walk.{Rule, Text, is_early_multiple}
use Rattle.clap.specs.declared.builder.{action.ArgAction.{ArgAction}, range.ValueRange.{ValueRange}}
use Rattle.mc_cli.specs.Program.{Entry, IsMcsim, Line, Words, command_words, entry_of, boot_commands, exploration_commands, flash_commands, image_commands, lines, other_commands, program_words, words_of, words_read}

-- What a conjunction is made of.
both : (a b : Bool) → a ≡ true → b ≡ true → (a && b) ≡ true
both a b first second = ap (λ x. x && b) first ∙ second

pub first_of : (a b : Bool) → (a && b) ≡ true → a ≡ true
first_of true b h = refl
first_of false b h = h

second_of : (a b : Bool) → (a && b) ≡ true → b ≡ true
second_of true b h = h
second_of false b h = absurd (cc)

-- A word has its place where it is built, and only options take more than one value; it uses none of the settings that change how words are read.
abbrev is_placed : Rule → Bool
is_placed r =
    not (is_some r.index)
    && (not (is_some r.range)
    && (is_some r.long || (not (is_some r.short) && (not (is_some r.action) && (r.value_names == 0)))))

abbrev pub is_tame : Rule → Bool
is_tame r = r.is_simple && (r.is_free && is_placed r)

abbrev goes_well : ℕ → Rule → Bool
goes_well n r = r.is_simple && (r.is_free && not (is_early_multiple n r))

abbrev shaped : Rule → Option ℕ → Option ValueRange → Option Text → Option ℕ → Option ArgAction → ℕ → Rule
shaped q index range long short action names =
    record q { index = index; range = range; long = long; short = short; action = action; value_names = names }

late : (n i : ℕ) (q : Rule) (index : Option ℕ) (range : Option ValueRange) (long : Option Text) (short : Option ℕ) (action : Option ArgAction) (names : ℕ)
    → is_placed (shaped q index range long short action names) ≡ true
    → not (is_early_multiple n (with_index i (filled (shaped q index range long short action names)))) ≡ true
late n i q None None (Some l) short action names placed = refl
late n i q None None None None None zero placed = refl
late n i q None None None None None (suc k) placed = let other : (suc k == 0) ≡ false = grind (arith, nat_tests) in absurd (cc)
late n i q None None None None (Some a) names placed = absurd (cc)
late n i q None None None (Some s) action names placed = absurd (cc)
late n i q None (Some r) long short action names placed = absurd (cc)
late n i q (Some x) range long short action names placed = absurd (cc)

tame_filled : (n i : ℕ) (r : Rule) → is_tame r ≡ true → goes_well n (with_index i (filled r)) ≡ true
tame_filled n i r tame =
    let rest = second_of r.is_simple (r.is_free && is_placed r) tame in
    let is_late = late n i r r.index r.range r.long r.short r.action r.value_names (second_of r.is_free (is_placed r) rest) in
    both _ _ (first_of r.is_simple (r.is_free && is_placed r) tame) (both _ _ (first_of r.is_free (is_placed r) rest) is_late)

all_filled : (n i : ℕ) (rules : List Rule) → list_all is_tame rules ≡ true → list_all (goes_well n) (filled_from i rules) ≡ true
all_filled n i [] tame = refl
all_filled n i (r ∷ rs) tame =
    both (goes_well n (with_index i (filled r))) (list_all (goes_well n) (filled_from (index_after i r) rs)) (tame_filled n i r (first_of (is_tame r) (list_all is_tame rs) tame))
    (all_filled n (index_after i r) rs (second_of (is_tame r) (list_all is_tame rs) tame))

-- The same in three lists.
step : (s f e : Bool) (simple free early : Bool) → (s && (f && not e)) ≡ true → simple ≡ true → free ≡ true → not early ≡ true
    → ((s && simple) ≡ true) × ((f && free) ≡ true) × (not (e || early) ≡ true)
step true true false simple free early h a b c = (a, b, c)
step true true true simple free early h a b c = absurd (cc)
step true false e simple free early h a b c = absurd (cc)
step false f e simple free early h a b c = absurd (cc)

three : (n : ℕ) (xs : List Rule) → list_all (goes_well n) xs ≡ true
    → (list_all (λ a. a.is_simple) xs ≡ true) × (list_all (λ a. a.is_free) xs ≡ true) × (not (list_any (is_early_multiple n) xs) ≡ true)
three n [] h = (refl, refl, refl)
three n (x ∷ xs) h =
    let rest = three n xs (second_of (goes_well n x) (list_all (goes_well n) xs) h) in
    step x.is_simple x.is_free (is_early_multiple n x) (list_all (λ a. a.is_simple) xs) (list_all (λ a. a.is_free) xs) (list_any (is_early_multiple n) xs)
    (first_of (goes_well n x) (list_all (goes_well n) xs) h) rest.0 rest.1 rest.2

all_simple : (rules : List Rule) → list_all is_tame rules ≡ true → list_all (λ a. a.is_simple) rules ≡ true
all_simple [] h = refl
all_simple (r ∷ rs) h =
    both r.is_simple (list_all (λ a. a.is_simple) rs) (first_of r.is_simple _ (first_of (is_tame r) (list_all is_tame rs) h)) (all_simple rs (second_of (is_tame r) (list_all is_tame rs) h))

-- What building makes of tame words is in order.
abbrev in_order : List Rule → Bool
in_order rules = list_all (λ a. a.is_simple) rules && (list_all (λ a. a.is_free) rules && is_in_order rules)

ordered : (rules : List Rule) → list_all is_tame rules ≡ true → in_order (filled_from 1 rules) ≡ true
ordered rules tame =
    let n = count_by (λ (a : Rule). is_some a.index) (filled_from 1 rules) in
    let all = three n (filled_from 1 rules) (all_filled n 1 rules tame) in
    both _ _ all.0 (both _ _ all.1 all.2)

more_tame : (rules : List Rule) (r : Rule) → list_all is_tame rules ≡ true → is_tame r ≡ true → list_all is_tame (rules ++ r ∷ []) ≡ true
more_tame rules r tame one = list_all-append is_tame rules (r ∷ []) ∙ both _ _ tame (both _ _ one refl)

-- The commands.
abbrev above : List Rule → Shape
above rules = with_leaf_noted (marked_built (record program_words.0 { rules = rules }))

abbrev is_good : List Rule → Shape → Bool
is_good rules s =
    is_simple_leaf s && (is_ready_leaf (built_leaf (inherited (above rules) s)) && has_free_rules (built_leaf (inherited (above rules) s)))

and_middle : (simple free order : Bool) → (simple && (free && order)) ≡ true → (simple && order) ≡ true
and_middle true true order h = h
and_middle true false order h = absurd (cc)
and_middle false free order h = absurd (cc)

and_free : (simple free order : Bool) → (simple && (free && order)) ≡ true → free ≡ true
and_free true true order h = refl
and_free true false order h = absurd (cc)
and_free false free order h = absurd (cc)

one_good : (top : List Rule) (l : Line) (rules : List Rule) → list_all is_tame rules ≡ true → is_good top (record (command_words l).0 { rules = rules }) ≡ true
one_good top l rules tame =
    let built_rules = filled_from 1 (rules ++ help_rule ∷ []) in
    let order = ordered (rules ++ help_rule ∷ []) (more_tame rules help_rule tame refl) in
    both _ _ (all_simple rules tame)
    (both _ _ (and_middle (list_all (λ a. a.is_simple) built_rules) (list_all (λ a. a.is_free) built_rules) (is_in_order built_rules) order)
    (and_free (list_all (λ a. a.is_simple) built_rules) (list_all (λ a. a.is_free) built_rules) (is_in_order built_rules) order))

abbrev are_tame : List Entry → Bool
are_tame = list_all (λ e. is_tame e.0)

tame_rules : (rules : List Rule) (entries : List Entry) → map entry_of rules ≡ entries → are_tame entries ≡ true → list_all is_tame rules ≡ true
tame_rules rules entries is tame = sym (list_all-map (λ (e : Entry). is_tame e.0) entry_of rules) ∙ (ap are_tame is ∙ tame)

same_shape : (s : Shape) (w : Words) → words_read s ≡ w → s ≡ record w.0 { rules = s.rules }
same_shape s w is = ap (λ (v : Words). record v.0 { rules = s.rules }) is

all_good : (top : List Rule) (subs : List Shape) (ls : List Line) → map words_read subs ≡ map command_words ls → list_all (λ l. are_tame (command_words l).1) ls ≡ true
    → list_all (is_good top) subs ≡ true
all_good top [] ls same tame = refl
all_good top (s ∷ subs) [] same tame = absurd (cc)
all_good top (s ∷ subs) (l ∷ ls) same tame =
    let head : words_read s ≡ command_words l = ap (λ ws. get_or ws 0 (words_read s)) same in
    let tail : map words_read subs ≡ map command_words ls = ap (drop 1) same in
    let rules = tame_rules s.rules (command_words l).1 (ap (λ w. w.1) head) (first_of _ _ tame) in
    both _ _ (subst (λ x. is_good top x ≡ true) (sym (same_shape s (command_words l) head)) (one_good top l s.rules rules)) (all_good top subs ls tail (second_of _ _ tame))

split : (top : List Rule) (subs : List Shape) → list_all (is_good top) subs ≡ true
    → (list_all is_simple_leaf subs ≡ true)
    × (list_all (λ s. is_ready_leaf (built_leaf (inherited (above top) s))) subs ≡ true)
    × (list_all (λ s. has_free_rules (built_leaf (inherited (above top) s))) subs ≡ true)
split top [] h = (refl, refl, refl)
split top (s ∷ subs) h =
    let built_s = built_leaf (inherited (above top) s) in
    let here = first_of (is_good top s) (list_all (is_good top) subs) h in
    let rest = split top subs (second_of (is_good top s) (list_all (is_good top) subs) h) in
    let later = second_of (is_simple_leaf s) (is_ready_leaf built_s && has_free_rules built_s) here in (
      both _ _ (first_of (is_simple_leaf s) (is_ready_leaf built_s && has_free_rules built_s) here) rest.0,
      both _ _ (first_of (is_ready_leaf built_s) (has_free_rules built_s) later) rest.1,
      both _ _ (second_of (is_ready_leaf built_s) (has_free_rules built_s) later) rest.2,
    )

table_is_tame : list_all (λ l. are_tame (command_words l).1) lines ≡ true
unfolding lines image_commands boot_commands flash_commands exploration_commands other_commands words_of
table_is_tame = refl

-- Those of the built program.
over : (q : Shape → Bool) (top : List Rule) (subs : List Shape) → list_all (λ s. q (built_leaf (inherited (above top) s))) subs ≡ true → q (built_leaf help_shape) ≡ true
    → list_all q (map built_leaf (map (inherited (above top)) subs ++ help_shape ∷ [])) ≡ true
over q top subs each help =
    list_all-map q built_leaf (map (inherited (above top)) subs ++ help_shape ∷ [])
    ∙ (list_all-append (λ s. q (built_leaf s)) (map (inherited (above top)) subs) (help_shape ∷ [])
    ∙ both _ _ (list_all-map (λ s. q (built_leaf s)) (inherited (above top)) subs ∙ each) (both _ _ help refl))

whole_is_simple : (top : List Rule) (subs : List Shape) → list_all is_tame top ≡ true → list_all (is_good top) subs ≡ true
    → is_simple_and_free (record { top = record program_words.0 { rules = top }; subs = subs }) ≡ true
whole_is_simple top subs tame good =
    let parts = split top subs good in
    let rules = (top ++ help_rule ∷ []) ++ version_rule ∷ [] in
    let order = ordered rules (more_tame (top ++ help_rule ∷ []) version_rule (more_tame top help_rule tame refl) refl) in
    let filled_rules = filled_from 1 rules in
    both _ _
    (both _ _ (both _ _ (all_simple top tame) parts.0)
    (both _ _ (and_middle (list_all (λ a. a.is_simple) filled_rules) (list_all (λ a. a.is_free) filled_rules) (is_in_order filled_rules) order) (over is_ready_leaf top subs parts.1 refl)))
    (both _ _ (and_free (list_all (λ a. a.is_simple) filled_rules) (list_all (λ a. a.is_free) filled_rules) (is_in_order filled_rules) order) (over has_free_rules top subs parts.2 refl))

pub mcsim_is_simple : (a : App) → IsMcsim a → is_simple_and_free a ≡ true
mcsim_is_simple a is =
    let top = tame_rules a.top.rules program_words.1 (ap (λ w. w.1) is.top) refl in
    let same : a ≡ record { top = record program_words.0 { rules = a.top.rules }; subs = a.subs } = ap (λ t. record a { top = t }) (same_shape a.top program_words is.top) in
    subst (λ x. is_simple_and_free x ≡ true) (sym same) (whole_is_simple a.top.rules a.subs top (all_good a.top.rules a.subs lines is.commands table_is_tame))
