use Rattle.std.proofs.Common.{◌≡◌, ◌++◌, drop, false, take, true}
use Rattle.mc_life.specs.Script.{before_comment}
use Rattle.mc_life.proofs.line.comment_at.Given as goal

abbrev pub invariant-bytes : goal.invariant-bytes
invariant-bytes l = record {
  at : l.at ≡ l.byte-index;
  items : l.byte-items ≡ l.text;
  so_far : take l.at l.text ++ before_comment l.here l.quoted (drop l.at l.text) ≡ before_comment true false l.text;
}
