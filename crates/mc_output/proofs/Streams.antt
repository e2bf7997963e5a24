-- What two writes in turn do to known bytes.
use Rattle.std.proofs.{Common.{ℕ, ◌+◌, List, Option, take, drop, sym, subst}, KnownBytes.{Appends-trans}, Math.Seq.{take-add}}
use Rattle.std.specs.Io.KnownBytes.{Appends}

-- A prefix of a text, and then the prefix of what is left.
pub Appends_more : (a b c : Option (List ℕ)) (text : List ℕ) (i n : ℕ) → Appends a b (take i text) → Appends b c (take n (drop i text)) → Appends a c (take (i + n) text)
Appends_more a b c text i n p q = subst (Appends a c) (sym (take-add i n text)) (Appends-trans a b c _ _ p q)
