-- Texts that are written one after another.
use Rattle.std.specs.{Prelude.{ℕ, List, [], ◌++◌, OnErr, OnOk, Option, Result, Ok, Err}, Io.KnownBytes.{Appends}}
use Rattle.std.proofs.{Common.{append-nil}, KnownBytes.{Appends-trans}}
use Rattle.mc_output.specs.{Text.{AppendsPrefix}, facts.Prefixes.{out_begun, out_more, out_prefix}}
use Rattle.mc_trace.specs.inner.Boots.{WritesText}

-- What a writer says by two clauses.
pub written : {A E : Type 0} (r : Result A E) (before new : Option (List ℕ)) (text : List ℕ) → OnOk r (Appends before new text) → OnErr r (AppendsPrefix before new text)
    → WritesText r before new text
written (Ok _) before new text whole prefix = whole
written (Err _) before new text whole prefix = prefix

-- A beginning of the first is one of both.
pub first_begun : (before new : Option (List ℕ)) (a b : List ℕ) → AppendsPrefix before new a → AppendsPrefix before new (a ++ b)
first_begun before new a b p = out_prefix before before new (a ++ b) a b (out_begun before (a ++ b)) p

module _ (before mid new : Option (List ℕ)) (a b : List ℕ) where
  -- The first is out, and a beginning of the second.
  pub then_begun : Appends before mid a → AppendsPrefix mid new b → AppendsPrefix before new (a ++ b)
  then_begun p q =
      let o = out_more before before mid (a ++ b) a b (out_begun before (a ++ b)) p in
      out_prefix before mid new (a ++ b) b [] (rw (append-nil b) o) q

  -- Both are out, or a beginning.
  pub writes_then : {A E : Type 0} (r : Result A E) → Appends before mid a → WritesText r mid new b → WritesText r before new (a ++ b)
  writes_then (Ok _) p q = Appends-trans before mid new a b p q
  writes_then (Err _) p q = then_begun p q
