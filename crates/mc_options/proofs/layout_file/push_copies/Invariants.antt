use Rattle.std.proofs.Common.{map, string_bytes, take, ◌++◌, ◌≡◌}
use Rattle.mc_options.proofs.layout_file.push_copies.Given as goal

abbrev pub invariant-loop-word : goal.invariant-loop-word
invariant-loop-word l = map string_bytes l.words.items ≡ map string_bytes l.initial.words.items ++ map string_bytes (take l.word-index l.more)
