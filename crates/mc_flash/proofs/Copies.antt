-- What calls of a flash of copies do.
use Rattle.std.proofs.Common.{◌≡◌, ℕ, ◌≤◌, Bool, true, false, List, [], ◌∷◌, ◌++◌, length, map, take, get_or, refl, sym, ap, ◌∙◌, inr, arith}
use Rattle.std.proofs.lemmas.List.{map-append, length-map, take-map}
use Rattle.std.specs.Prelude.{Option, Some, None, Result, Ok, Err, zero, suc, ◌<◌}
use Rattle.mc_flash.specs.{Flash.{Becomes, apply, Content}, Geometry.{Geometry}}
use Rattle.mc_flash.specs.{Usage.{Counts, Checkpoint, Seen, Does, GivesUp, Loads, Marks, no_checkpoint, went_back}, inner.Snap.{ample, copies_seen, copy_seen}}
use Rattle.mc_flash.specs.{facts.Done.{done_as, done_not}, declared.flash.FlashError.{FlashError}}
use Rattle.mc_flash.specs.declared.flash.FlashError.TheVariants as errors
use Rattle.mc_flash.specs.{declared.flash.Grain.{Grain}, declared.op.Op.{Op}}
use Rattle.mc_flash.proofs.Limits.{ample_allows}

counts_nothing : (g : Geometry) → (ample g).counted ≡ true → ⊥
unfolding ample
counts_nothing g is = let no : false ≡ true = is in absurd cc

same_seen : (g h : Geometry) (s t : Content) (ms : List Checkpoint) (b : Bool) → g ≡ h → s ≡ t → copies_seen g s ms b ≡ copies_seen h t ms b
same_seen g h s t ms b p q = cc

module _ (op : Op) (g h : Geometry) (s t : Content) (checkpoints : List Checkpoint) (failed : Bool) (same : h ≡ g) where
  pub copies_do : apply g op s ≡ Some t → Does op (copies_seen g s checkpoints failed) (Ok tt) (copies_seen h t checkpoints failed)
  unfolding ample
  copies_do is = (
    done_as (copies_seen g s checkpoints failed) op t is ∙ ap (λ (z : Seen). Some z) (same_seen g h t t checkpoints failed (sym same) refl),
    λ counted full. counts_nothing g counted,
  )

  pub copies_become : (result : Result (Unit {0}) FlashError) → Becomes (apply g op s) result s t → Does op (copies_seen g s checkpoints failed) result (copies_seen h t checkpoints failed)
  copies_become result becomes = by (apply g op s) refl result becomes
    where
      by : (o : Option Content) → apply g op s ≡ o → (x : Result (Unit {0}) FlashError) → Becomes o x s t → Does op (copies_seen g s checkpoints failed) x (copies_seen h t checkpoints failed)
      by (Some given) is (Ok tt) d = copies_do (is ∙ ap (λ (z : Content). Some z) (sym d))
      by (Some given) is (Err errors.NotErased) d = absurd d
      by (Some given) is (Err errors.Memory) d = absurd d
      by None is (Ok tt) d = absurd d
      by None is (Err errors.NotErased) d = (done_not (copies_seen g s checkpoints failed) op is, same_seen h g t s checkpoints failed same d)
      by None is (Err errors.Memory) d = absurd d

pub copies_fail : (full : Type 0) (g : Geometry) (s : Content) (checkpoints more : List Checkpoint) (failed : Bool) → more ≡ checkpoints
    → GivesUp full (copies_seen g s checkpoints failed) (copies_seen g s more true)
unfolding ample
copies_fail full g s checkpoints more failed same = inr (refl, ap (λ (ms : List Checkpoint). copies_seen g s ms true) same)

pub copies_load : (g h : Geometry) (p q : List ℕ) (s : Content) (checkpoints : List Content) (grain : Grain) (boots : ℕ) → h ≡ g → s ≡ record { primary = p; secondary = q } → checkpoints ≡ []
    → boots ≤ 32
    → Loads false g p q grain boots (copies_seen h s (map copy_seen checkpoints) false)
unfolding ample
copies_load g h p q s checkpoints grain boots is content none at_most = grind (arith, ample_allows)

pub copies_mark : (g : Geometry) (s : Content) (items more : List Content) (copy : Content) (failed : Bool) (number : ℕ) → more ≡ items ++ copy ∷ [] → copy ≡ s → number ≡ length items
    → Marks (copies_seen g s (map copy_seen items) failed) (Ok number) (copies_seen g s (map copy_seen more) failed)
copies_mark g s items more copy failed number is same at = grind (arith, length-map, map-append, counts_nothing)

at_number : (items : List Content) (number : ℕ) (copy : Content) → number < length items → copy ≡ get_or items number copy → get_or (map copy_seen items) number no_checkpoint ≡ copy_seen copy
at_number [] number copy below is = absurd (omega (arith, below))
at_number (m ∷ ms) zero copy below is = ap copy_seen (sym is)
at_number (m ∷ ms) (suc number) copy below is = at_number ms number copy (omega (arith, below)) is

back_parts : (g h : Geometry) (s t : Content) (ms ns : List Checkpoint) (b : Bool) → h ≡ g → s ≡ t → ms ≡ ns → copies_seen h s ms b ≡ copies_seen g t ns b
back_parts g h s t ms ns b p q r = cc

pub copies_back : (g h : Geometry) (s t : Content) (items left : List Content) (copy : Content) (failed : Bool) (number : ℕ) → h ≡ g → number < length items → copy ≡ get_or items number copy
    → left ≡ take number items → t ≡ copy
    → copies_seen h t (map copy_seen left) failed ≡ went_back number (copies_seen g s (map copy_seen items) failed)
unfolding went_back
copies_back g h s t items left copy failed number same below is rest bytes =
    let checkpoint = at_number items number copy below is in
    back_parts g h t _ (map copy_seen left) _ failed same (bytes ∙ sym (ap (λ (x : Checkpoint). x.content) checkpoint)) (ap (map copy_seen) rest ∙ sym (take-map copy_seen number items))
    ∙ ap (λ (counts : Counts). back_with g (get_or (map copy_seen items) number no_checkpoint).content (take number (map copy_seen items)) failed counts) (sym (ap (λ (x : Checkpoint). x.counts)
    checkpoint))
  where
    back_with : Geometry → Content → List Checkpoint → Bool → Counts → Seen
    back_with g t ms b counts = record { geometry = g; content = t; checkpoints = ms; usage = record { counts = counts; limits = ample g; applied = 0; failed = b } }
