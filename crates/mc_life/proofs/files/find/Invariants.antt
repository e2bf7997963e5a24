use Rattle.std.proofs.Common.{◌≡◌, drop}
use Rattle.mc_life.specs.Script.{file_of}
use Rattle.mc_life.proofs.files.find.Given as goal

abbrev pub invariant-loop-file : goal.invariant-loop-file
invariant-loop-file l = file_of (drop l.file-index l.files) l.name ≡ file_of l.files l.name
