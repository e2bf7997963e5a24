use Rattle.std.proofs.Common.{length, map, string_bytes, take}
use Rattle.std.specs.Str.Lines.{lines}
use Rattle.mc_options.specs.LayoutFiles.{AddsWords}
use Rattle.mc_options.proofs.layout_file.add_settings.Given as goal

abbrev pub invariant-loop-line : goal.invariant-loop-line
invariant-loop-line l = AddsWords (take (length l.yielded) (lines l.text)) (map string_bytes l.initial.words.items) (map string_bytes l.words.items)
