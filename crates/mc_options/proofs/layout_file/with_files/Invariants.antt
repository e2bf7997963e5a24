use Rattle.std.proofs.Common.{List, length, map, string_bytes, ℕ, ◌++◌}
use Rattle.mc_options.specs.LayoutFiles.{Follow, StandsFor}
use Rattle.mc_options.proofs.layout_file.with_files.Given as goal

abbrev pub invariant-words : goal.invariant-words
invariant-words g l = record {
  follow : Follow (map string_bytes l.words) (map string_bytes l.rest);
  stands : (later : List (List ℕ)) → StandsFor (g.F.KnownFiles.holds l.files) (map string_bytes l.rest) later
      → StandsFor (g.F.KnownFiles.holds l.files) (map string_bytes l.words) (map string_bytes l.whole.items ++ later);
}

abbrev pub decreases-words : goal.decreases-words
decreases-words g l = length l.rest
