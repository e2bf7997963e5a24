-- A journal: taking one entry back, and what a new entry and an old one leave of the checkpoints.
use Rattle.std.proofs.Common.{Bool, List, [], ap, arith, drop, false, get_or, inl, inr, length, length-append, map, refl, subst, sym, take, true, ℕ, ◌++◌, ◌+◌, ◌-◌, ◌<◌, ◌∙◌, ◌∷◌, ◌≡◌, ◌≤◌}
use Rattle.std.proofs.{Math.Seq.{drop-append-add, drop-append_seam, take-append_seam}, lemmas.Bool.Decides.{nat_tests}}
use Rattle.std.proofs.lemmas.List.{drop-append-le, drop_all, length-drop, length-map, length-take-le, map-append, take-append-drop, take-append-le, take-map, take_all}
use Rattle.std.proofs.{lemmas.List.Edits.{length-between, split_between}, lemmas.Option.{slice_get-get_or, slice_get-map}}
use Rattle.std.specs.List.{AllByRecursion, between}
use Rattle.std.specs.Prelude.{Err, IsSome, None, Ok, Some, if◌then◌else◌, min, option_map, replicate, slice_get, suc, zero, ◌&&◌, ◌==◌, ◌^◌}
use Rattle.mc_flash.specs.{Flash.{Content, apply, bytes_of, erased, in_slot, is_blank, put, with_bytes}, Geometry.{Geometry}}
use Rattle.mc_flash.specs.Usage.{Checkpoint, Does, IsFull, IsWithin, Limits, Seen, Usage, marked, no_checkpoint, saves, went_back}
use Rattle.mc_flash.specs.{declared.entry.Entry.{Entry}, declared.entry.Entry.TheVariants.{Erased, Written}, declared.op.Op.{Op}, declared.op.Slot.{Slot}}
use Rattle.mc_flash.specs.{declared.op.Slot.TheVariants.{Primary, Secondary}, declared.reserve.Reserve.{Reserve}, facts.Changes.{and_true}}
use Rattle.mc_flash.specs.facts.Done.{done_as, done_not}
use Rattle.mc_flash.specs.inner.Journal.{Ascend, Change, IsInside, IsJournal, IsSound, IsUndoneTo, Journal, all_saved, all_taken_back, changes, checkpoint_after, journal_with, limits_of, saved_by, seen_of, taken_back}
use Rattle.mc_flash.specs.declared.flash.FlashError.TheVariants as errors
use Rattle.mc_flash.specs.declared.op.Op.TheVariants as ops

-- What a journal takes back.

-- blank bytes are all 0xff
blank_head : (x : ℕ) (rest : Bool) → ((x == 255) && rest) ≡ true → (x ≡ 255)
blank_head x rest h = grind (arith, nat_tests)

pub blank_is : (xs : List ℕ) → is_blank xs ≡ true → xs ≡ replicate (length xs) 255
blank_is [] h = refl
blank_is (x ∷ xs) h =
    let first = blank_head x (is_blank xs) h in
    let rest = blank_is xs (and_true (x == 255) (is_blank xs) h) in
    ap (λ (n : ℕ). n ∷ xs) first ∙ ap (λ (l : List ℕ). 255 ∷ l) rest

-- bytes that are put back where they were
pub put_again : (xs new : List ℕ) (at : ℕ) → at + length new ≤ length xs → put (put xs at new) at (between at (at + length new) xs) ≡ xs
put_again xs new at fits =
    let n = length new in
    let prefix : length (take at xs) ≡ at = length-take-le at xs (omega (arith, fits)) in
    let old : List ℕ = between at (at + n) xs in
    let len : length old ≡ n = omega (arith, length-between xs at (at + n) fits) in
    let head : take at (put xs at new) ≡ take at xs = ap (λ k. take k (put xs at new)) (sym prefix) ∙ take-append_seam (take at xs) (new ++ drop (at + n) xs) in
    let tail : drop (at + length old) (put xs at new) ≡ drop (at + n) xs =
    ap (λ k. drop k (put xs at new)) (let e : at + length old ≡ length (take at xs) + n = omega (arith, len, prefix) in e)
    ∙ drop-append-add (take at xs) (new ++ drop (at + n) xs) n
    ∙ drop-append_seam new (drop (at + n) xs) in
    ap (λ (l : List ℕ). l ++ (old ++ drop (at + length old) (put xs at new))) head
    ∙ ap (λ (l : List ℕ). take at xs ++ (old ++ l)) tail
    ∙ sym (split_between xs at (at + n) (omega arith))

-- one change, taken back
pub again : (s : Content) (slot : Slot) (at : ℕ) (new : List ℕ) → at + length new ≤ length (bytes_of s slot)
    → taken_back (record { slot = slot; at = at; old = between at (at + length new) (bytes_of s slot) }) (with_bytes s slot (put (bytes_of s slot) at new)) ≡ s
again s Primary at new fits = ap (λ (l : List ℕ). with_bytes s Primary l) (put_again s.primary new at fits)
again s Secondary at new fits = ap (λ (l : List ℕ). with_bytes s Secondary l) (put_again s.secondary new at fits)

pub erase_back : (s t : Content) (slot : Slot) (at len : ℕ) (new : List ℕ) → t ≡ with_bytes s slot (put (bytes_of s slot) at new) → length new ≡ len → at + len ≤ length (bytes_of s slot)
    → taken_back (record { slot = slot; at = at; old = between at (at + len) (bytes_of s slot) }) t ≡ s
erase_back s t slot at len new is same fits = grind (arith, again)

pub write_back : (s t : Content) (slot : Slot) (at len : ℕ) (new : List ℕ) → t ≡ with_bytes s slot (put (bytes_of s slot) at new) → length new ≡ len → at + len ≤ length (bytes_of s slot)
    → is_blank (between at (at + len) (bytes_of s slot)) ≡ true
    → taken_back (record { slot = slot; at = at; old = replicate len 255 }) t ≡ s
write_back s t slot at len new is same fits blank =
    let long : length (between at (at + len) (bytes_of s slot)) ≡ len = omega (arith, length-between (bytes_of s slot) at (at + len) fits) in
    let old : between at (at + len) (bytes_of s slot) ≡ replicate len 255 = blank_is (between at (at + len) (bytes_of s slot)) blank ∙ ap (λ (k : ℕ). replicate k 255) long in
    ap (λ (l : List ℕ). taken_back (record { slot = slot; at = at; old = l }) t) (sym old) ∙ erase_back s t slot at len new is same fits

-- one entry more
length-changes : (es : List Entry) (saved : List ℕ) → length (changes es saved) ≡ length es
length-changes [] saved = refl
length-changes (Written slot at len ∷ es) saved = ap suc (length-changes es saved)
length-changes (Erased slot at len ∷ es) saved = ap suc (length-changes es (drop len saved))

push_written : (es : List Entry) (saved : List ℕ) (slot : Slot) (at len : ℕ)
    → changes (es ++ Written slot at len ∷ []) saved ≡ changes es saved ++ record { slot = slot; at = at; old = replicate len 255 } ∷ []
push_written [] saved slot at len = refl
push_written (Written o a l ∷ es) saved slot at len = ap (λ (cs : List Change). record { slot = o; at = a; old = replicate l 255 } ∷ cs) (push_written es saved slot at len)
push_written (Erased o a l ∷ es) saved slot at len = ap (λ (cs : List Change). record { slot = o; at = a; old = take l saved } ∷ cs) (push_written es (drop l saved) slot at len)

push_erased : (es : List Entry) (saved old : List ℕ) (slot : Slot) (at len : ℕ) → length saved ≡ all_saved es → length old ≡ len
    → changes (es ++ Erased slot at len ∷ []) (saved ++ old) ≡ changes es saved ++ record { slot = slot; at = at; old = old } ∷ []
push_erased [] [] old slot at len e l = ap (λ (z : List ℕ). record { slot = slot; at = at; old = z } ∷ []) (take_all len old (omega (arith, l)))
push_erased [] (x ∷ xs) old slot at len e l = absurd (omega (arith, e))
push_erased (Written o a k ∷ es) saved old slot at len e l = ap (λ (cs : List Change). record { slot = o; at = a; old = replicate k 255 } ∷ cs)
    (push_erased es saved old slot at len (omega (arith, e)) l)
push_erased (Erased o a k ∷ es) saved old slot at len e l =
    let enough : k ≤ length saved = omega (arith, e) in
    ap (λ (z : List ℕ). record { slot = o; at = a; old = z } ∷ changes (es ++ Erased slot at len ∷ []) (drop k (saved ++ old))) (take-append-le k saved old enough)
    ∙ ap (λ (z : List ℕ). record { slot = o; at = a; old = take k saved } ∷ changes (es ++ Erased slot at len ∷ []) z) (drop-append-le k saved old enough)
    ∙ ap (λ (cs : List Change). record { slot = o; at = a; old = take k saved } ∷ cs) (push_erased es (drop k saved) old slot at len (omega (arith, length-drop k saved, e)) l)

pub saves_push : (es : List Entry) (e : Entry) → all_saved (es ++ e ∷ []) ≡ all_saved es + saved_by e
saves_push [] e = omega arith
saves_push (x ∷ es) e = omega (arith, saves_push es e)

back_push : (cs : List Change) (c : Change) (s : Content) → all_taken_back (cs ++ c ∷ []) s ≡ all_taken_back cs (taken_back c s)
back_push [] c s = refl
back_push (x ∷ cs) c s = ap (taken_back x) (back_push cs c s)

-- A journal with one entry more, and the change that this stands for.
pub record Grown (j j' : Journal) (e : Entry) (c : Change) : Type 0 where
  pub entries : j'.entries ≡ j.entries ++ e ∷ []
  pub saved : length j'.saved ≡ length j.saved + saved_by e
  pub change : changes j'.entries j'.saved ≡ changes j.entries j.saved ++ c ∷ []

module _ (j j' : Journal) (slot : Slot) (at len : ℕ) where
  pub by_write : j'.entries ≡ j.entries ++ Written slot at len ∷ [] → j'.saved ≡ j.saved
      → Grown j j' (Written slot at len) (record { slot = slot; at = at; old = replicate len 255 })
  by_write more same = record {
    entries = more;
    saved = omega (arith, ap length same);
    change = ap (λ (z : List ℕ). changes j'.entries z) same
        ∙ ap (λ (z : List Entry). changes z j.saved) more ∙ push_written j.entries j.saved slot at len;
  }

  pub by_erase : (old : List ℕ) → j'.entries ≡ j.entries ++ Erased slot at len ∷ [] → j'.saved ≡ j.saved ++ old → length j.saved ≡ all_saved j.entries → length old ≡ len
      → Grown j j' (Erased slot at len) (record { slot = slot; at = at; old = old })
  by_erase old more kept whole long = record {
    entries = more;
    saved = omega (arith, ap length kept, length-append j.saved old, long);
    change = ap (λ (z : List ℕ). changes j'.entries z) kept
        ∙ ap (λ (z : List Entry). changes z (j.saved ++ old)) more ∙ push_erased j.entries j.saved old slot at len whole long;
  }

-- What the flash held earlier is the same where the newest entry is taken back.
module _ (j j' : Journal) (e : Entry) (c : Change) (grown : Grown j j' e c) where
  pub one_more : length j'.entries ≡ length j.entries + 1
  one_more = ap length grown.entries ∙ length-append j.entries (e ∷ [])

  pub same_earlier : (s t : Content) (n : ℕ) → taken_back c t ≡ s → n ≤ length j.entries → checkpoint_after j' t n ≡ checkpoint_after j s n
  same_earlier s t n back early =
      let content : all_taken_back (drop n (changes j'.entries j'.saved)) t ≡ all_taken_back (drop n (changes j.entries j.saved)) s =
      ap (λ (cs : List Change). all_taken_back (drop n cs) t) grown.change
      ∙ ap (λ (cs : List Change). all_taken_back cs t) (drop-append-le n (changes j.entries j.saved) (c ∷ []) (omega (arith, early, length-changes j.entries j.saved)))
      ∙ back_push (drop n (changes j.entries j.saved)) c t
      ∙ ap (all_taken_back (drop n (changes j.entries j.saved))) back in
      let saves : all_saved (take n j'.entries) ≡ all_saved (take n j.entries) =
      ap (λ (xs : List Entry). all_saved (take n xs)) grown.entries ∙ ap all_saved (take-append-le n j.entries (e ∷ []) early) in
      ap (λ (x : Content). record { content = x; counts = record { entries = n; saved = all_saved (take n j'.entries) } }) content
      ∙ ap (λ (k : ℕ). record { content = all_taken_back (drop n (changes j.entries j.saved)) s; counts = record { entries = n; saved = k } }) saves

-- after all entries it holds what it holds now
pub checkpoint_now : (j : Journal) (s : Content) → length j.saved ≡ all_saved j.entries
    → checkpoint_after j s (length j.entries) ≡ record { content = s; counts = record { entries = length j.entries; saved = length j.saved } }
checkpoint_now j s whole =
    ap (λ (cs : List Change). record { content = all_taken_back cs s; counts = record { entries = length j.entries; saved = all_saved (take (length j.entries) j.entries) } })
    (drop_all (length j.entries) (changes j.entries j.saved) (omega (arith, length-changes j.entries j.saved)))
    ∙ ap (λ (k : ℕ). record { content = s; counts = record { entries = length j.entries; saved = k } }) (ap all_saved (take_all (length j.entries) j.entries (omega arith)) ∙ sym whole)

-- the checkpoints' numbers
ascend_top : (low : ℕ) (ns : List ℕ) (top : ℕ) → Ascend low ns top → low ≤ top
ascend_top low [] top a = a
ascend_top low (n ∷ ns) top a = omega (arith, a.0, ascend_top n ns top a.1)

pub ascend_grow : (low : ℕ) (ns : List ℕ) (top more : ℕ) → Ascend low ns top → top ≤ more → Ascend low ns more
ascend_grow low [] top more a h = omega (arith, a, h)
ascend_grow low (n ∷ ns) top more a h = (a.0, ascend_grow n ns top more a.1 h)

pub ascend_push : (low : ℕ) (ns : List ℕ) (top : ℕ) → Ascend low ns top → Ascend low (ns ++ top ∷ []) top
ascend_push low [] top a = (a, omega arith)
ascend_push low (n ∷ ns) top a = (a.0, ascend_push n ns top a.1)

pub ascend_take : (low : ℕ) (ns : List ℕ) (top i d : ℕ) → Ascend low ns top → i < length ns → Ascend low (take i ns) (get_or ns i d) × (get_or ns i d ≤ top)
ascend_take low [] top i d a h = absurd (omega arith)
ascend_take low (n ∷ ns) top zero d a h = (a.0, ascend_top n ns top a.1)
ascend_take low (n ∷ ns) top (suc i) d a h = let r = ascend_take n ns top i d a.1 (omega arith) in ((a.0, r.0), r.1)

pub same_checkpoints : (f g : ℕ → Checkpoint) (low : ℕ) (ns : List ℕ) (top : ℕ) → Ascend low ns top → ((n : ℕ) → n ≤ top → f n ≡ g n) → map f ns ≡ map g ns
same_checkpoints f g low [] top a h = refl
same_checkpoints f g low (n ∷ ns) top a h =
    let e : f n ≡ g n = h n (ascend_top n ns top a.1) in
    let r : map f ns ≡ map g ns = same_checkpoints f g n ns top a.1 h in
    cc

-- What a journal keeps: its room, the order of its checkpoints, and the marked contents.

inside_push : (g : Geometry) (es : List Entry) (e : Entry) → AllByRecursion (IsInside g) es → IsInside g e → AllByRecursion (IsInside g) (es ++ e ∷ [])
inside_push g [] e all one = (one, tt)
inside_push g (x ∷ es) e all one = (all.0, inside_push g es e all.1 one)

pub inside_prefix : (g : Geometry) (es : List Entry) (n : ℕ) → AllByRecursion (IsInside g) es → AllByRecursion (IsInside g) (take n es)
inside_prefix g [] zero all = tt
inside_prefix g [] (suc n) all = tt
inside_prefix g (x ∷ es) zero all = tt
inside_prefix g (x ∷ es) (suc n) all = (all.0, inside_prefix g es n all.1)

pub inside_pop : (g : Geometry) (es : List Entry) (e : Entry) → AllByRecursion (IsInside g) (es ++ e ∷ []) → AllByRecursion (IsInside g) es × IsInside g e
inside_pop g [] e all = (tt, all.0)
inside_pop g (x ∷ es) e all = let rest = inside_pop g es e all.1 in ((all.0, rest.0), rest.1)

-- The entries of a checkpoint are among all.
pub checkpoint_below : (es : List Entry) (checkpoints : List ℕ) (number count : ℕ) → Ascend 0 checkpoints (length es) → count ≡ get_or checkpoints number count → number < length checkpoints
    → count ≤ length es
checkpoint_below es checkpoints number count order is below = omega (arith, (ascend_take 0 checkpoints (length es) number count order below).1, is)

fewer_saved : (n : ℕ) (es : List Entry) → all_saved (take n es) ≤ all_saved es
fewer_saved zero es = omega arith
fewer_saved (suc n) [] = omega arith
fewer_saved (suc n) (e ∷ es) = omega (arith, fewer_saved n es)

-- A sound journal stays sound.
module _ (g : Geometry) (limits taken : Limits) (j : Journal) (checkpoints : List ℕ) (sound : IsSound g limits taken j checkpoints) where
  within : (taken' : Limits) → IsWithin taken taken' → IsWithin limits taken'
  within taken' more = grind arith

  -- with one entry more
  pub sound_grown : (g' : Geometry) (taken' : Limits) (j' : Journal) (e : Entry) (c : Change) → Grown j j' e c → g' ≡ g → IsWithin taken taken' → length j.entries < limits.entries
      → length j.saved + saved_by e ≤ limits.saved → IsInside g e → IsSound g' limits taken' j' checkpoints
  sound_grown g' taken' j' e c grown same more below little fits =
      let n = one_more j j' e c grown in
      subst (λ (x : Geometry). IsSound x limits taken' j' checkpoints) (sym same) (record {
        layout = sound.layout;
        room = within taken' more;
        at_most = record { entries = omega (arith, n, below); saved = omega (arith, grown.saved, little); checkpoints = sound.at_most.checkpoints };
        journal = record {
          saved_for = omega (arith, grown.saved, sound.journal.saved_for, ap all_saved grown.entries, saves_push j.entries e);
          inside = subst (AllByRecursion (IsInside g)) (sym grown.entries) (inside_push g j.entries e sound.journal.inside fits);
        };
        ascend = ascend_grow 0 checkpoints (length j.entries) (length j'.entries) sound.ascend (omega (arith, n));
      })

  -- with one checkpoint more
  pub sound_marked : (taken' : Limits) (checkpoints' : List ℕ) → checkpoints' ≡ checkpoints ++ length j.entries ∷ [] → IsWithin taken taken' → length checkpoints < limits.checkpoints
      → IsSound g limits taken' j checkpoints'
  sound_marked taken' checkpoints' more wider below =
      let n : length checkpoints' ≡ length checkpoints + 1 = ap length more ∙ length-append checkpoints (length j.entries ∷ []) in
      record {
        layout = sound.layout;
        room = within taken' wider;
        at_most = record { entries = sound.at_most.entries; saved = sound.at_most.saved; checkpoints = omega (arith, n, below) };
        journal = sound.journal;
        ascend = subst (λ z. Ascend 0 z (length j.entries)) (sym more) (ascend_push 0 checkpoints (length j.entries) sound.ascend);
      }

  -- back at a checkpoint
  pub sound_back : (g' : Geometry) (taken' : Limits) (s t : Content) (j' : Journal) (checkpoints' : List ℕ) (number count : ℕ) → IsUndoneTo count j s j' t → checkpoints' ≡ take number checkpoints
      → count ≡ get_or checkpoints number count → number < length checkpoints → g' ≡ g → IsWithin taken taken' → IsSound g' limits taken' j' checkpoints'
  sound_back g' taken' s t j' checkpoints' number count undone prefix is below same wider =
      let order = ascend_take 0 checkpoints (length j.entries) number count sound.ascend below in
      let early = checkpoint_below j.entries checkpoints number count sound.ascend is below in
      let n : length j'.entries ≡ count = ap length undone.left ∙ length-take-le count j.entries early in
      let m : length checkpoints' ≡ number = ap length prefix ∙ length-take-le number checkpoints (omega (arith, below)) in
      let at_most = sound.at_most in
      subst (λ (x : Geometry). IsSound x limits taken' j' checkpoints') (sym same) (record {
        layout = sound.layout;
        room = within taken' wider;
        at_most = record {
          entries = omega (arith, n, early, at_most.entries);
          saved = omega (arith, at_most.saved, sound.journal.saved_for, undone.saved_for, ap all_saved undone.left, fewer_saved count j.entries);
          checkpoints = omega (arith, m, below, at_most.checkpoints);
        };
        journal = record { saved_for = undone.saved_for; inside = subst (AllByRecursion (IsInside g)) (sym undone.left) (inside_prefix g j.entries count sound.journal.inside) };
        ascend = subst (λ z. Ascend 0 z (length j'.entries)) (sym prefix) (subst (Ascend 0 (take number checkpoints)) (sym (n ∙ is)) order.0);
      })

-- a copy, by whether its target is blank
copy_is : (g : Geometry) (s : Content) (from to : Slot) (at offset len : ℕ) → at + len ≤ length (bytes_of s from)
    → apply g (ops.Copy from at to offset len) s ≡ in_slot s to (if is_blank (between offset (offset + len) (bytes_of s to)) then Some
    (put (bytes_of s to) offset (between at (at + len) (bytes_of s from))) else None)
unfolding apply
copy_is g s from to at offset len fits = grind (arith, length-between)

module _ (g : Geometry) (s t : Content) (from to : Slot) (at offset len : ℕ) (fits : at + len ≤ length (bytes_of s from)) where
  pub copy_done : is_blank (between offset (offset + len) (bytes_of s to)) ≡ true → t ≡ with_bytes s to (put (bytes_of s to) offset (between at (at + len) (bytes_of s from)))
      → apply g (ops.Copy from at to offset len) s ≡ Some t
  copy_done blank is = copy_is g s from to at offset len fits ∙ rw (blank, is) refl

  pub copy_refused : is_blank (between offset (offset + len) (bytes_of s to)) ≡ false → apply g (ops.Copy from at to offset len) s ≡ None
  copy_refused other = copy_is g s from to at offset len fits ∙ rw other refl

at_number : (checkpoints : List Checkpoint) (number : ℕ) (checkpoint : Checkpoint) → slice_get checkpoints number ≡ Some checkpoint → get_or checkpoints number no_checkpoint ≡ checkpoint
at_number [] number checkpoint is = absurd cc
at_number (m ∷ ms) zero checkpoint is = cc
at_number (m ∷ ms) (suc number) checkpoint is = at_number ms number checkpoint is

abbrev seen_with : Geometry → Content → List Checkpoint → Usage → Seen
seen_with g t checkpoints usage = record { geometry = g; content = t; checkpoints = checkpoints; usage = usage }

seen_is : (g : Geometry) (s t : Content) (ms ns : List Checkpoint) (k l : Usage) → s ≡ t → ms ≡ ns → k ≡ l → seen_with g s ms k ≡ seen_with g t ns l
seen_is g s t ms ns k l p q r = cc

abbrev counted_at : Limits → ℕ → ℕ → ℕ → Usage
counted_at limits e s a = record { counts = record { entries = e; saved = s }; limits = limits; applied = a; failed = false }

usage_is : (limits : Limits) (e e' s s' a a' : ℕ) → e ≡ e' → s ≡ s' → a ≡ a' → counted_at limits e s a ≡ counted_at limits e' s' a'
usage_is limits e e' s s' a a' p q r = cc

-- What a call does to a journal that is seen so, by its answer.
module _ (g : Geometry) (s : Content) (r : Reserve) (j : Journal) (checkpoints : List ℕ) (applied : ℕ) (old : Seen) (seen : seen_of g s (limits_of r) j checkpoints applied ≡ old) where
  abbrev before : Seen
  before = seen_of g s (limits_of r) j checkpoints applied

  module _ (op : Op) where
    pub refuses : apply g op s ≡ None → Does op old (Err errors.NotErased) old
    refuses undefined = subst (λ (f : Seen). Does op f (Err errors.NotErased) f) seen (done_not before op undefined, refl)

    pub is_full : (t : Content) → apply g op s ≡ Some t → IsFull g op before.usage → Does op old (Err errors.Memory) old
    is_full t is full = subst (λ (f : Seen). Does op f (Err errors.Memory) f) seen (subst IsSome (sym (done_as before op t is)) refl, inl (refl, full, refl))

    pub does : (g' : Geometry) (t : Content) (j' : Journal) (applied' : ℕ) (e : Entry) (c : Change) → Grown j j' e c → saved_by e ≡ saves g op → taken_back c t ≡ s
        → apply g op s ≡ Some t → g' ≡ g → Ascend 0 checkpoints (length j.entries) → applied' ≡ min (applied + 1) (2 ^ 64 - 1) → length j.entries < r.entries
        → length j.saved + saves g op ≤ r.saved → Does op old (Ok tt) (seen_of g' t (limits_of r) j' checkpoints applied')
    does g' t j' applied' e c grown entry back is same order on at_most little =
        let kept : map (checkpoint_after j s) checkpoints ≡ map (checkpoint_after j' t) checkpoints =
        sym (same_checkpoints (checkpoint_after j' t) (checkpoint_after j s) 0 checkpoints (length j.entries) order (λ n early. same_earlier j j' e c grown s t n back early)) in
        let usage = usage_is (limits_of r) (length j.entries + 1) (length j'.entries) (length j.saved + saves g op) (length j'.saved) (min (applied + 1) (2 ^ 64 - 1)) applied'
        (sym (one_more j j' e c grown)) (omega (arith, grown.saved, entry)) (sym on) in
        subst (λ (f : Seen). Does op f (Ok tt) (seen_of g' t (limits_of r) j' checkpoints applied')) seen
        (subst (λ (x : Geometry). Does op before (Ok tt) (seen_of x t (limits_of r) j' checkpoints applied')) (sym same) (
          done_as before op t is ∙ ap (λ (z : Seen). Some z) (seen_is g t t _ _ _ _ refl kept usage),
          λ _ full. elim full [ inl x ↦ omega (arith, x, at_most) | inr x ↦ omega (arith, x, little) ],
        ))

  pub marks_more : (checkpoints' : List ℕ) → length j.saved ≡ all_saved j.entries → checkpoints' ≡ checkpoints ++ length j.entries ∷ []
      → seen_of g s (limits_of r) j checkpoints' applied ≡ marked before
  marks_more checkpoints' whole more =
      seen_is g s s _ _ _ _ refl (ap (map (checkpoint_after j s)) more
      ∙ map-append (checkpoint_after j s) checkpoints (length j.entries ∷ [])
      ∙ ap (λ (z : Checkpoint). map (checkpoint_after j s) checkpoints ++ z ∷ []) (checkpoint_now j s whole)) refl

  pub mark_fits : (number : ℕ) → number < length old.checkpoints → number < length checkpoints
  mark_fits number below = omega (arith, below, ap (λ (f : Seen). length f.checkpoints) seen, length-map checkpoints (checkpoint_after j s))

  -- Back at a checkpoint it is as it was marked there, and the earlier checkpoints are left.
  pub back : (g' : Geometry) (t : Content) (j' : Journal) (checkpoints' : List ℕ) (number count : ℕ) → IsUndoneTo count j s j' t → checkpoints' ≡ take number checkpoints
      → count ≡ get_or checkpoints number count → number < length checkpoints → Ascend 0 checkpoints (length j.entries) → g' ≡ g
      → seen_of g' t (limits_of r) j' checkpoints' applied ≡ went_back number old
  unfolding went_back
  back g' t j' checkpoints' number count undone prefix is below order same =
      let first = ascend_take 0 checkpoints (length j.entries) number count order below in
      let n = ap length undone.left ∙ length-take-le count j.entries (checkpoint_below j.entries checkpoints number count order is below) in
      let there : slice_get (map (checkpoint_after j s) checkpoints) number ≡ Some (record { content = t; counts = record { entries = length j'.entries; saved = length j'.saved } }) =
      slice_get-map (checkpoint_after j s) checkpoints number
      ∙ ap (option_map (checkpoint_after j s)) (slice_get-get_or checkpoints number count below)
      ∙ ap (λ (k : ℕ). Some (checkpoint_after j s k)) (sym is)
      ∙ ap (λ (x : Checkpoint). Some x) (sym (undone.same count (omega arith)))
      ∙ ap (λ (k : ℕ). Some (checkpoint_after j' t k)) (sym n)
      ∙ ap (λ (x : Checkpoint). Some x) (checkpoint_now j' t undone.saved_for) in
      let earlier : map (checkpoint_after j' t) checkpoints' ≡ take number (map (checkpoint_after j s) checkpoints) =
      ap (map (checkpoint_after j' t)) prefix
      ∙ same_checkpoints (checkpoint_after j' t) (checkpoint_after j s) 0 (take number checkpoints) (get_or checkpoints number count) first.0 (λ k h. undone.same k (omega (arith, h, is)))
      ∙ sym (take-map (checkpoint_after j s) number checkpoints) in
      let checkpoint = at_number (map (checkpoint_after j s) checkpoints) number _ there in
      let usage : Checkpoint → Usage = λ x. record { counts = x.counts; limits = limits_of r; applied = applied; failed = false } in
      subst (λ (x : Geometry). seen_of x t (limits_of r) j' checkpoints' applied ≡ went_back number old) (sym same)
      (seen_is g t _ (map (checkpoint_after j' t) checkpoints') _ _ _ (sym (ap (λ (x : Checkpoint). x.content) checkpoint)) earlier (sym (ap usage checkpoint))
      ∙ ap (went_back number) seen)

module _ (g : Geometry) (s t : Content) (slot : Slot) (at : ℕ) (new : List ℕ) where
  pub program_done : is_blank (between at (at + length new) (bytes_of s slot)) ≡ true → t ≡ with_bytes s slot (put (bytes_of s slot) at new)
      → apply g (ops.Program slot at new) s ≡ Some t
  unfolding apply
  program_done blank is = rw (blank, is) refl

  pub program_refused : is_blank (between at (at + length new) (bytes_of s slot)) ≡ false → apply g (ops.Program slot at new) s ≡ None
  unfolding apply
  program_refused other = rw other refl

pub erase_done : (g : Geometry) (s t : Content) (slot : Slot) (sector : ℕ) → t ≡ with_bytes s slot (erased g.sector sector (bytes_of s slot)) → apply g (ops.Erase slot sector) s ≡ Some t
unfolding apply
erase_done g s t slot sector is = ap (λ (z : Content). Some z) (sym is)

-- Taking back the newest entry.

-- The newest entry of a journal, and those before it.
pub record Newest (g : Geometry) (j : Journal) (before : List Entry) (e : Entry) : Type 0 where
  pub entries : j.entries ≡ before ++ e ∷ []
  pub fewer : length j.entries ≡ length before + 1
  pub saves : length j.saved ≡ all_saved before + saved_by e
  pub inside_before : AllByRecursion (IsInside g) before
  pub inside : IsInside g e

pub newest : (g : Geometry) (j : Journal) (before : List Entry) (x e : Entry) → IsJournal g j → j.entries ≡ before ++ x ∷ [] → x ≡ e → Newest g j before e
newest g j before x e whole popped is =
    let all : j.entries ≡ before ++ e ∷ [] = popped ∙ ap (λ (z : Entry). before ++ z ∷ []) is in
    let inside = inside_pop g before e (subst (AllByRecursion (IsInside g)) all whole.inside) in
    record {
      entries = all;
      fewer = ap length all ∙ length-append before (e ∷ []);
      saves = whole.saved_for ∙ ap all_saved all ∙ saves_push before e;
      inside_before = inside.0;
      inside = inside.1;
    }

module _ (g : Geometry) (j : Journal) (before : List Entry) (e : Entry) (top : Newest g j before e) where
  pub same_prefix : (n : ℕ) → n ≤ length before → take n before ≡ take n j.entries
  same_prefix n early = sym (ap (take n) top.entries ∙ take-append-le n before (e ∷ []) early)

  -- the bytes that were saved last
  pub saved_last : (k : ℕ) (bytes : List ℕ) → bytes ≡ j.saved → k + saved_by e ≡ length j.saved
      → (take (length bytes - k) (drop k bytes) ≡ drop k j.saved) × (length (drop k j.saved) ≡ saved_by e)
  saved_last k bytes same whole =
      let n : length (drop k j.saved) ≡ saved_by e = omega (arith, length-drop k j.saved, whole) in
      (ap (λ (z : List ℕ). take (length z - k) (drop k z)) same ∙ take_all (length j.saved - k) (drop k j.saved) (omega (arith, n, whole)), n)

pub erase_undone : (g : Geometry) (j : Journal) (before : List Entry) (slot : Slot) (at len k : ℕ) (saved' : List ℕ) → Newest g j before (Erased slot at len)
    → k + len ≡ length j.saved → saved' ≡ take k j.saved
    → (length saved' ≡ k) × Grown (journal_with before saved') j (Erased slot at len) (record { slot = slot; at = at; old = drop k j.saved })
erase_undone g j before slot at len k saved' top whole left =
    let prefix : length saved' ≡ k = ap length left ∙ length-take-le k j.saved (omega (arith, whole)) in
    let split : j.saved ≡ saved' ++ drop k j.saved = sym (ap (λ (z : List ℕ). z ++ drop k j.saved) left ∙ take-append-drop k j.saved) in
    (prefix, by_erase (journal_with before saved') j slot at len (drop k j.saved) top.entries split (omega (arith, prefix, whole, top.saves)) (omega (arith, length-drop k j.saved, whole)))
