use Rattle.std.proofs.Common.{◌≡◌, ◌∙◌, ap, arith, map, take}
use Rattle.std.proofs.lemmas.List.{take_all}
use Rattle.mc_cli.specs.Program.{words_of}
use Rattle.mc_cli.specs.inner.Tables.{entry_of_word}
use Rattle.mc_cli.proofs.Programs.{added_word, further}
use Rattle.mc_cli.proofs.command.with_group.Goals as goal

pub loop-word-preserved : goal.loop-word-preserved
loop-word-preserved c w is =
    further _ _ _ _ _ c.loop-word-test.true (added_word _ _ _ _ _ (c.loop-word.invariant w is) c.argument.ensures c.in_ok-command.ensures)

pub returns : goal.returns
returns c w is =
    let all : map entry_of_word (take c.loop-word.word-index c.words-word-items.result.now) ≡ words_of c.args.group =
    ap (map entry_of_word) (take_all c.loop-word.word-index c.words-word-items.result.now (omega (arith, c.loop-word-test.false))) ∙ c.words-word-items.ensures in
    rw (← all) (c.loop-word.invariant w is)
