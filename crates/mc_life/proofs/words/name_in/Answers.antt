use Rattle.std.proofs.{Common.{◌≡◌, ◌∷◌, arith}, lemmas.Str.Pattern.{strip_prefix_char}}
use Rattle.mc_life.proofs.words.name_in.Goals as goal

pub bare_name-requires : goal.bare_name-requires
bare_name-requires c = rw c.in-None.is at (strip_prefix_char 34 c.args.text.now c.strip_prefix.result c.strip_prefix.ensures.cases (omega arith))

pub returns-in-Some : goal.returns-in-Some
returns-in-Some c =
    let is : c.args.text.now ≡ 34 ∷ c.in-Some.quoted.now =
    rw c.in-Some.is at (strip_prefix_char 34 c.args.text.now c.strip_prefix.result c.strip_prefix.ensures.cases (omega arith)) in
    rw is c.quoted_name.ensures
