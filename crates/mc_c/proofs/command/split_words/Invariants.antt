use Rattle.std.specs.Borrow.{Bor}
use Rattle.std.specs.Prelude.{List, map, string_bytes, take, ◌≡◌, ℕ}
use Rattle.mc_c.proofs.command.split_words.Given as goal

abbrev pub invariant-loop-word : goal.invariant-loop-word
invariant-loop-word l = map string_bytes l.words.items ≡ map (λ (word : Bor (List ℕ)). word.now) (take l.word-index l.word-items)
