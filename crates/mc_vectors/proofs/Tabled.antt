-- Texts that are written one after another.
use Rattle.std.specs.{Prelude.{◌≡◌, ℕ, ◌+◌, ◌<◌, ◌≤◌, suc, List, [], ◌++◌, drop, flat_map, get_or, length, Option}, Io.KnownBytes.{Appends}}
use Rattle.std.proofs.Common.{add-one, ap, append-nil, drop-cons, drop_of_length-le, subst, sym}
use Rattle.mc_output.specs.{Text.{AppendsPrefix}, facts.Prefixes.{IsOut, out_all, out_begun, out_more, out_prefix}}

-- A beginning of the first is one of both.
pub first_begun : (before new : Option (List ℕ)) (a b : List ℕ) → AppendsPrefix before new a → AppendsPrefix before new (a ++ b)
first_begun before new a b p = out_prefix before before new (a ++ b) a b (out_begun before (a ++ b)) p

-- The first is out, and a beginning of the second.
pub then_begun : (before mid new : Option (List ℕ)) (a b : List ℕ) → Appends before mid a → AppendsPrefix mid new b → AppendsPrefix before new (a ++ b)
then_begun before mid new a b p q =
    let o = out_more before before mid (a ++ b) a b (out_begun before (a ++ b)) p in
    out_prefix before mid new (a ++ b) b [] (rw (append-nil b) o) q

module _ {A : Type 0} (line_of : A → List ℕ) where
  -- The lines of the items from i on.
  abbrev pub left : List A → ℕ → List ℕ
  left items i = flat_map line_of (drop i items)

  module _ (text : List ℕ) (before mid : Option (List ℕ)) (items : List A) (i : ℕ) (o : IsOut before mid text (left items i)) where
    -- None is left.
    pub none_left : length items ≤ i → Appends before mid text
    none_left end = out_all before mid text (rw (drop_of_length-le items end) at o)

    module _ (new : Option (List ℕ)) (x d : A) (inside : i < length items) (is : x ≡ get_or items i d) where
      next_is : left items i ≡ line_of x ++ left items (i + 1)
      next_is = rw (add-one, drop-cons items i d inside) (ap (λ (y : A). line_of y ++ left items (suc i)) (sym is))

      next_out : IsOut before mid text (line_of x ++ left items (i + 1))
      next_out = subst (IsOut before mid text) next_is o

      -- The line of the next item comes out, or a beginning of it.
      pub line_out : Appends mid new (line_of x) → IsOut before new text (left items (i + 1))
      line_out p = out_more before mid new text (line_of x) (left items (i + 1)) next_out p

      pub line_begun : AppendsPrefix mid new (line_of x) → AppendsPrefix before new text
      line_begun p = out_prefix before mid new text (line_of x) (left items (i + 1)) next_out p
