-- What a device is delivered with, the files of its script as they are added, and the end of its life.
use Rattle.std.specs.{List.{All}, Prelude.{Bool, Contains, Err, IfErr, List, None, OnOk, Ok, Option, Result, Some, [], bytes_eq, false, if◌then◌else◌, is_some, length, map, replicate, true, ℕ, ◌++◌, ◌-◌, ◌<◌, ◌∷◌, ◌≡◌, ◌≢◌, ◌≤◌, ◌⊎◌, ◌^◌}}
use Rattle.std.proofs.{Common.{arith, get_or, inl, inr, refl, subst, take, ◌+◌, ◌∙◌}, lemmas.List.{get_or-map, length-map, take_all}, lemmas.List.Elements.{All-map, All-more, All-push, All-weaker, Contains-get_or}, lemmas.Slice.Eq.{bytes_eq-Decides}}
use Rattle.std.specs.Borrow.{Bor}
use Rattle.mc_actions.specs.{Lives.{AddsFile, FailsFile, FailsShelf, IsLifeWritten, IsOutfile, IsShelved, with_blank}, Schedules.{IsFlashUnwritten}, declared.life.Life.{Life}}
use Rattle.mc_cli.specs.Files.{Holds}
use Rattle.mc_life.specs.Script.{Named, Names, file_of, sayings}
use Rattle.mc_flash.specs.{Flash.{size_of}, Geometry.{Geometry}, declared.op.Slot.TheVariants.{Secondary}}
use Rattle.mc_options.specs.{Requests.{End}, Sources.{Reads, RefusesFile}, declared.refusal.Refusal.{Refusal}}
use Rattle.mc_options.specs.declared.refusal.Refusal.TheVariants as refusals
use Rattle.mc_start.specs.Start.{Started}

-- An image, and blank bytes behind it.
padded : (primary sized : List ℕ) (n len size : ℕ) → sized ≡ take n primary ++ replicate (n - len) 255 → len ≡ length primary → n ≡ length primary + size
    → sized ≡ primary ++ replicate size 255
padded primary sized n len size is len_is n_is =
    let all : take n primary ≡ primary = take_all n primary (omega arith) in
    let rest : n - len ≡ size = omega arith in
    rw (is, all, rest) refl

pub bytes_alone : (g : Geometry) (images : Started) (primary none held sized read : List ℕ) (n len size : ℕ) → primary ≡ images.content.primary → none ≡ [] → held ≡ none ++ primary
    → sized ≡ take n held ++ replicate (n - len) 255 → len ≡ length held → n ≡ length primary + size → size ≡ size_of g Secondary → read ≡ sized → read ≡ with_blank g images
bytes_alone g images primary none held sized read n len size is_primary is_none is_held is_sized is_len is_n is_size is_read =
    let is : held ≡ primary = rw (is_held, is_none) refl in
    let bytes = padded primary sized n len size (rw is at is_sized) (rw is at is_len) is_n in
    rw (is_read, bytes, is_primary, is_size) refl

-- One of them is refused, by its place.
pub refused_at : (holds : Holds) (script : List ℕ) (out : Option (List ℕ)) (e : Refusal) (names items : List (Bor (List ℕ))) (i : ℕ) (d : Bor (List ℕ))
    → Names (sayings script) (map (λ (t : Bor (List ℕ)). t.now) names) → items ≡ names → i < length items
    → FailsFile holds (get_or items i d).now e ⊎ IsOutfile holds (get_or items i d).now out e → FailsShelf holds script out e
refused_at holds script out e names items i d named is within refused =
    let now : Bor (List ℕ) → List ℕ = λ t. t.now in
    let inside : i < length (map now items) = omega (arith, within, length-map items now) in
    let among : Contains (map now items) (get_or items i d).now =
    rw (← get_or-map now items i d d.now within) (Contains-get_or (map now items) i d.now inside) in
    inl (record { names = _; named = named; name = _; among = subst (λ (l : List (Bor (List ℕ))). Contains (map now l) (get_or items i d).now) is among; refused = refused })

-- All of them.
pub all_shelved : (holds : Holds) (shelf : List Named) (names items : List (Bor (List ℕ))) (n : ℕ) → items ≡ names → length items ≤ n
    → All (λ (t : Bor (List ℕ)). IsShelved holds shelf t.now) (take n items) → All (IsShelved holds shelf) (map (λ (t : Bor (List ℕ)). t.now) names)
all_shelved holds shelf names items n is within all =
    let e : take n items ≡ names = take_all n items within ∙ is in
    All-map (IsShelved holds shelf) (λ (t : Bor (List ℕ)). t.now) names (rw e at all)

-- A flash at the end is written, or not.
pub life_written : (l : Life) (end : End) → is_some l.out ≡ true → IfErr end IsFlashUnwritten → IsLifeWritten l end
life_written l (Ok done) some unwritten = inl refl
life_written l (Err e) some unwritten = inr (e, refl, some, unwritten)

none_of : (b : Bool) (x : List ℕ) (r : Option (List ℕ)) → (if b then Some x else r) ≡ None → (b ≡ false) × (r ≡ None)
none_of true x r e = absurd (cc)
none_of false x r e = (refl, e)

-- What is not found with one file more was not found before, and is not that file.
found_before : (shelf : List Named) (f : Named) (name : List ℕ) → file_of (shelf ++ f ∷ []) name ≡ None → (file_of shelf name ≡ None) × (bytes_eq f.name name ≡ false)
found_before [] f name e = (refl, (none_of (bytes_eq f.name name) f.bytes None e).0)
found_before (x ∷ xs) f name e =
    let p = none_of (bytes_eq x.name name) x.bytes (file_of (xs ++ f ∷ []) name) e in
    let q = found_before xs f name p.1 in
    (rw p.0 q.0, q.1)

pub added : (holds : Holds) (shelf new : List Named) (name bytes : List ℕ) → new ≡ shelf ++ record { name = name; bytes = bytes } ∷ [] → Reads (holds name) (2 ^ 24) bytes
    → AddsFile holds name shelf new
added holds shelf new name bytes is reads = record {
  read = λ all. rw is (All-push (λ (f : Named). Reads (holds f.name) (2 ^ 24) f.bytes) shelf (record { name = name; bytes = bytes }) all reads);
  kept = λ other shelved none.
      let at_end : file_of (shelf ++ record { name = name; bytes = bytes } ∷ []) other ≡ None = rw (← is) none in
      shelved (found_before shelf (record { name = name; bytes = bytes }) other at_end).0;
  shelved = λ none.
      let at_end : file_of (shelf ++ record { name = name; bytes = bytes } ∷ []) name ≡ None = rw (← is) none in
      let differs : bytes_eq name name ≡ false = (found_before shelf (record { name = name; bytes = bytes }) name at_end).1 in
      let same : bytes_eq name name ≡ true = (bytes_eq-Decides name name).1 refl in
      absurd (cc);
}

-- No file is added.
pub left : (holds : Holds) (shelf : List Named) (name : List ℕ) → IsShelved holds shelf name → AddsFile holds name shelf shelf
left holds shelf name is = record { read = λ all. all; kept = λ other shelved. shelved; shelved = is }

-- A file that cannot be opened is left out, and any other refusal is told.
pub unadded : (holds : Holds) (shelf : List Named) (name : List ℕ) (r : Result (Unit {0}) Refusal) (e : Refusal) → RefusesFile (holds name) (2 ^ 24) e
    → OnOk r (e ≡ refusals.Open) → IfErr r (λ d. (d ≡ e) × (d ≢ refusals.Open)) → OnOk r (AddsFile holds name shelf shelf) × IfErr r (FailsFile holds name)
unadded holds shelf name (Ok done) e fails unopened told = (left holds shelf name (λ none. rw unopened at fails), tt)
unadded holds shelf name (Err d) e fails unopened told = (tt, inl (rw told.0 fails, told.1))

-- The names up to one, and that one too.
pub shelved_more : (holds : Holds) (old new : List Named) (names : List (Bor (List ℕ))) (i : ℕ) (d : Bor (List ℕ)) → i < length names
    → All (λ (t : Bor (List ℕ)). IsShelved holds old t.now) (take i names) → AddsFile holds (get_or names i d).now old new
    → All (λ (t : Bor (List ℕ)). IsShelved holds new t.now) (take (i + 1) names)
shelved_more holds old new names i d within before adds =
    let Is : Bor (List ℕ) → Type 0 = λ t. IsShelved holds new t.now in
    All-more Is names i d within (All-weaker (λ (t : Bor (List ℕ)). IsShelved holds old t.now) Is (λ t is. adds.kept t.now is) (take i names) before) adds.shelved
