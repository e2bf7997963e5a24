-- What is written in parts.
use Rattle.std.specs.{Prelude.{ℕ, List, [], ◌++◌, Option, Result, Ok, Err, OnErr}, Io.KnownBytes.{Appends}}
use Rattle.std.proofs.Common.{append-nil}
use Rattle.mc_output.specs.{Text.{AppendsPrefix}, facts.Prefixes.{out_begun, out_more, out_prefix}}

-- What holds whatever happened.
pub any_err : {A E : Type 0} {Q : Type 0} (r : Result A E) → Q → OnErr r Q
any_err (Ok a) q = tt
any_err (Err e) q = q

-- A beginning of the first is one of both.
pub first_begun : (before new : Option (List ℕ)) (a b : List ℕ) → AppendsPrefix before new a → AppendsPrefix before new (a ++ b)
first_begun before new a b p = out_prefix before before new (a ++ b) a b (out_begun before (a ++ b)) p

-- The first is out, and a beginning of the second.
pub then_begun : (before mid new : Option (List ℕ)) (a b : List ℕ) → Appends before mid a → AppendsPrefix mid new b → AppendsPrefix before new (a ++ b)
then_begun before mid new a b p q =
    let o = out_more before before mid (a ++ b) a b (out_begun before (a ++ b)) p in
    out_prefix before mid new (a ++ b) b [] (rw (append-nil b) o) q
