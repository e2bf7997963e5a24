-- What goes through readers and writers, and each end of an engine.
use Rattle.std.proofs.Common.{Err, List, None, Ok, Option, Result, Some, [], ap, append-nil, arith, inl, inr, length, length-append, length-take, min, subst, sym, take, ℕ, ◌++◌, ◌+◌, ◌-◌, ◌<◌, ◌^◌, ◌∙◌, ◌≡◌, ◌≤◌}
use Rattle.std.proofs.KnownBytes.{Consumes-trans, Keeps-refl}
use Rattle.std.specs.{Io.KnownBytes.{Consumes}, Prelude.{IfSome, ◌⊎◌}}
use Rattle.mc_imgtool.specs.{Engines.{Refuses, RefusesReading}, declared.error.ToolError.{ToolError}}
use Rattle.mc_imgtool.specs.declared.error.ToolError.TheVariants.{Image, InputTooLong, Memory, NeedsSlotSize, NotZeros, Read, SlotTooSmall, Write}
use Rattle.mc_output.specs.Text.{AppendsPrefix}

-- What two transfers in turn do to known bytes.

-- a read has room
pub has_room : (most taken room : ℕ) (buffer piece : List ℕ) → taken < most → room ≡ min (most - taken) 4096 → length buffer ≡ 4096 → length piece ≡ length (take room buffer) → 0 < length piece
has_room most taken room buffer piece below is all e = omega (arith, length-take room buffer, is, e, all, below)

-- a read stays within the limit
pub within : (most taken room count : ℕ) (buffer piece : List ℕ) → room ≤ most - taken → taken ≤ most → length piece ≡ length (take room buffer) → count ≤ length piece → taken + count ≤ most
within most taken room count buffer piece fits below e at_most = omega (arith, length-take room buffer, fits, e, at_most, below)

-- what was read goes on within the limit
pub fits_with_more : (most len room count : ℕ) (had buffer piece : List ℕ) → room ≡ min (most - len) 4096 → len ≡ length had → length had ≤ most → length piece ≡ length (take room buffer)
    → (count ≤ length piece) × (count ≡ length (take count piece)) → length (had ++ take count piece) ≤ most
fits_with_more most len room count had buffer piece is all below e at_most = grind (arith, within, length-append)

-- a read that gave nothing took nothing
pub nothing : (old mid new : Option (List ℕ)) (bytes buf : List ℕ) (count : ℕ) → Consumes old mid bytes → Consumes mid new (take count buf) → count ≡ 0 → Consumes old new bytes
nothing old mid new bytes buf count p q e = rw append-nil at (Consumes-trans old mid new bytes [] p (rw e at q))

-- more than the limit was read
pub longer : (old new : Option (List ℕ)) (bytes : List ℕ) (n : ℕ) → Consumes old new bytes → n + 1 ≤ length bytes → IfSome old (λ xs. n < length xs)
longer None new bytes n taken h = tt
longer (Some xs) (Some ys) bytes n taken h = let e = ap length taken in omega (arith, e, length-append bytes ys, h)
longer (Some xs) None bytes n taken h = absurd taken

-- An engine's answer at each of its ends.

-- too long an input is refused as that, and no other refusal is wanted that a writer gives
pub record IsWanted (wanted : List ℕ → Result (List ℕ) ToolError) : Type 0 where
  pub long : (xs : List ℕ) → 2 ^ 24 < length xs → wanted xs ≡ Err InputTooLong
  pub no_write : (xs : List ℕ) → wanted xs ≡ Err Write → ⊥

long_known : (wanted : List ℕ → Result (List ℕ) ToolError) → IsWanted wanted → (known : Option (List ℕ)) → IfSome known (λ xs. 2 ^ 24 < length xs) → IfSome known (λ xs. wanted xs ≡ Err InputTooLong)
long_known wanted is None h = tt
long_known wanted is (Some xs) h = is.long xs h

pub refused_reading : (wanted : List ℕ → Result (List ℕ) ToolError) → IsWanted wanted → (known w : Option (List ℕ)) (e : ToolError) → RefusesReading known (2 ^ 24) e → Refuses wanted known w w e
refused_reading wanted is known w InputTooLong h = (long_known wanted is known h, Keeps-refl w)
refused_reading wanted is known w Read h = Keeps-refl w
refused_reading wanted is known w Memory h = Keeps-refl w
refused_reading wanted is known w (Image e) h = absurd h
refused_reading wanted is known w NotZeros h = absurd h
refused_reading wanted is known w SlotTooSmall h = absurd h
refused_reading wanted is known w NeedsSlotSize h = absurd h
refused_reading wanted is known w Write h = absurd h

known_refusal : (wanted : List ℕ → Result (List ℕ) ToolError) (known : Option (List ℕ)) (xs : List ℕ) (e : ToolError) → IfSome known (λ ys. xs ≡ ys) → wanted xs ≡ Err e
    → IfSome known (λ ys. wanted ys ≡ Err e)
known_refusal wanted None xs e same h = tt
known_refusal wanted (Some ys) xs e same h = ap wanted (sym same) ∙ h

is_memory : (e : ToolError) → e ≡ Memory → (wanted : List ℕ → Result (List ℕ) ToolError) (known w : Option (List ℕ)) → Refuses wanted known w w e
is_memory e h wanted known w = let P : ToolError → Type 0 = λ x. Refuses wanted known w w x in subst P (sym h) (Keeps-refl w)

pub refused_making : (wanted : List ℕ → Result (List ℕ) ToolError) → IsWanted wanted → (known w : Option (List ℕ)) (xs : List ℕ) (e : ToolError) → IfSome known (λ ys. xs ≡ ys)
    → (e ≡ Memory) ⊎ (wanted xs ≡ Err e) → Refuses wanted known w w e
refused_making wanted is known w xs e same (inl h) = is_memory e h wanted known w
refused_making wanted is known w xs Read same (inr h) = Keeps-refl w
refused_making wanted is known w xs Memory same (inr h) = Keeps-refl w
refused_making wanted is known w xs Write same (inr h) = absurd (is.no_write xs h)
refused_making wanted is known w xs (Image e) same (inr h) = (known_refusal wanted known xs (Image e) same h, Keeps-refl w)
refused_making wanted is known w xs NotZeros same (inr h) = (known_refusal wanted known xs NotZeros same h, Keeps-refl w)
refused_making wanted is known w xs SlotTooSmall same (inr h) = (known_refusal wanted known xs SlotTooSmall same h, Keeps-refl w)
refused_making wanted is known w xs NeedsSlotSize same (inr h) = (known_refusal wanted known xs NeedsSlotSize same h, Keeps-refl w)
refused_making wanted is known w xs InputTooLong same (inr h) = (known_refusal wanted known xs InputTooLong same h, Keeps-refl w)

-- a fact of the text that is wanted
known_text : (wanted : List ℕ → Result (List ℕ) ToolError) (known : Option (List ℕ)) (xs text : List ℕ) (P : List ℕ → Type 0) → IfSome known (λ ys. xs ≡ ys) → wanted xs ≡ Ok text → P text
    → IfSome known (λ ys. (t : List ℕ) × (wanted ys ≡ Ok t) × P t)
known_text wanted None xs text P same h p = tt
known_text wanted (Some ys) xs text P same h p = (text, ap wanted (sym same) ∙ h, p)

at_write : (wanted : List ℕ → Result (List ℕ) ToolError) (known old new : Option (List ℕ)) (e : ToolError) → e ≡ Write
    → IfSome known (λ xs. (text : List ℕ) × (wanted xs ≡ Ok text) × AppendsPrefix old new text) → Refuses wanted known old new e
at_write wanted known old new e h prefix = let P : ToolError → Type 0 = λ x. Refuses wanted known old new x in subst P (sym h) prefix

known_all : (wanted : List ℕ → Result (List ℕ) ToolError) (known : Option (List ℕ)) (e : ToolError) → ((xs : List ℕ) → wanted xs ≡ Err e) → IfSome known (λ xs. wanted xs ≡ Err e)
known_all wanted None e h = tt
known_all wanted (Some xs) e h = h xs

-- a slot's size is missing, whatever the input
pub refused_unread : (wanted : List ℕ → Result (List ℕ) ToolError) (known w : Option (List ℕ)) → ((xs : List ℕ) → wanted xs ≡ Err NeedsSlotSize) → Refuses wanted known w w NeedsSlotSize
refused_unread wanted known w h = (known_all wanted known NeedsSlotSize h, Keeps-refl w)
