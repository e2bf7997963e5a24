use Rattle.std.proofs.{Common.{arith}, lemmas.Str.Pattern.{strip_prefix_char}}
use Rattle.mc_output.specs.facts.Parting.{one_piece, parted}
use Rattle.mc_life.proofs.Spelling.{empty_by, no_quote, quoted_alone, quoted_more, quoted_none, some_by}
use Rattle.mc_life.proofs.words.quoted_name.Goals as goal

pub returns-in_default : goal.returns-in_default
returns-in_default c = no_quote _ (one_piece 34 (omega arith) c.args.text.now c.split_once.result c.split_once.ensures.cases c.in_default.is)

pub returns-in-Some-strip_prefix : goal.returns-in-Some-strip_prefix
returns-in-Some-strip_prefix c =
    let p = parted 34 (omega arith) c.args.text.now c.split_once.result c.split_once.ensures.cases c.in-Some.name c.in-Some.after c.in-Some.is in
    quoted_more _ _ _ p _ (rw c.in-Some-strip_prefix.is at (strip_prefix_char 32 c.in-Some.after.now c.strip_prefix.result c.strip_prefix.ensures.cases (omega arith)))

pub returns-in-None : goal.returns-in-None
returns-in-None c =
    let p = parted 34 (omega arith) c.args.text.now c.split_once.result c.split_once.ensures.cases c.in-Some.name c.in-Some.after c.in-Some.is in
    quoted_alone _ _ _ p (empty_by _ _ c.is_empty.ensures c.if-is_empty.true)

pub returns-in-None-2 : goal.returns-in-None-2
returns-in-None-2 c =
    let p = parted 34 (omega arith) c.args.text.now c.split_once.result c.split_once.ensures.cases c.in-Some.name c.in-Some.after c.in-Some.is in
    quoted_none _ _ _ p (rw c.in-None-2.is at (strip_prefix_char 32 c.in-Some.after.now c.strip_prefix.result c.strip_prefix.ensures.cases (omega arith)))
    (some_by _ _ c.is_empty.ensures c.if-is_empty.false)
