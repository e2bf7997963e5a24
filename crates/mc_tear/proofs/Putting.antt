-- Bytes that are put where an operation writes.
use Rattle.std.proofs.{Common.{ap, arith, inl, inr, subst, sym, ◌∙◌}, lemmas.Bool.{cases_lt}, lemmas.List.{get_or-replicate, length-replicate}, lemmas.List.Edits.{get_or-between}}
use Rattle.std.specs.List.{between}
use Rattle.std.specs.Prelude.{Bool, Err, List, None, Ok, Result, Some, false, if◌then◌else◌, length, refl, replicate, slice_index, true, ℕ, ◌*◌, ◌+◌, ◌-◌, ◌<◌, ◌≡◌, ◌≢◌, ◌≤◌}
use Rattle.mc_boot.proofs.{Meets.{same_bytes, same_content, which_slot}, TornSwaps.{erase_is}}
use Rattle.mc_flash.specs.{Flash.{CanTry, Content, apply, byte, bytes_of, in_slot, is_blank, put, with_bytes}, Geometry.{Geometry, IsLayout}}
use Rattle.mc_flash.specs.Usage.{Allows, Does, IsFull, LeaveRoom, Seen, Spends, done, no_counts, noted, plus, with_content}
use Rattle.mc_flash.specs.{declared.flash.FlashError.{FlashError}, declared.op.Op.{Op}, declared.op.Op.TheVariants.{Copy, Erase, Program}, declared.op.Slot.{Slot}}
use Rattle.mc_flash.specs.declared.op.Slot.TheVariants.{Primary, Secondary}
use Rattle.mc_flash.specs.facts.{Changes.{Changed, changed, changed_sized, copied, length-copied, program_changes, program_was_blank, sized_is}, Done.{did, does_keep, done_as}}
use Rattle.mc_flash.specs.facts.Spends.{done_notes, gave_up}
use Rattle.mc_tear.proofs.Ranges.{range_of}
use Rattle.mc_tear.specs.{Cases.{put_in, slot_of, written_from, written_len}, inner.Room.{Applies, IsReady, tear_counts}}
use Rattle.mc_flash.specs.declared.flash.FlashError.TheVariants as errors

-- What stands where bytes are put does not matter.
module _ (s t : Content) (slot : Slot) (at : ℕ) (a b : List ℕ) (fits : at + length b ≤ length (bytes_of s slot)) (long : length a ≡ length b) (ch : Changed s t slot at a) where
  abbrev u : Content
  u = with_bytes t slot (put (bytes_of t slot) at b)

  abbrev v : Content
  v = with_bytes s slot (put (bytes_of s slot) at b)

  of_u : Changed t u slot at b
  of_u = changed t slot at b (omega (arith, fits, ch.sizes slot))

  of_v : Changed s v slot at b
  of_v = changed s slot at b fits

  inner : (i k : ℕ) → at + k ≡ i → k < length b → byte u slot i ≡ byte v slot i
  inner i k is short = subst (λ n. byte u slot n ≡ byte v slot n) is (of_u.inside k short ∙ sym (of_v.inside k short))

  here : (i : ℕ) → byte u slot i ≡ byte v slot i
  here i = elim (cases_lt i at) [
    | inl low ↦ of_u.before i low ∙ ch.before i low ∙ sym (of_v.before i low)
    | inr high ↦ elim (cases_lt i (at + length b)) [
      | inl low ↦ inner i (i - at) (omega (arith, high)) (omega (arith, low, high))
      | inr beyond ↦ of_u.beyond i beyond ∙ ch.beyond i (omega (arith, beyond, long)) ∙ sym (of_v.beyond i beyond)
    ]
  ]

  each : (o : Slot) (i : ℕ) → byte u o i ≡ byte v o i
  each o i = elim (which_slot o slot) [
    | inl is ↦ rw is (here i)
    | inr other ↦ of_u.other o i other ∙ ch.other o i other ∙ sym (of_v.other o i other)
  ]

  sizes : (o : Slot) → length (bytes_of u o) ≡ length (bytes_of v o)
  sizes o = of_u.sizes o ∙ ch.sizes o ∙ sym (of_v.sizes o)

  pub put_twice : with_bytes t slot (put (bytes_of t slot) at b) ≡ with_bytes s slot (put (bytes_of s slot) at b)
  put_twice = same_content v u (same_bytes v u Primary (sizes Primary) (each Primary)) (same_bytes v u Secondary (sizes Secondary) (each Secondary))

-- Bytes that stand there already change nothing.
module _ (s : Content) (slot : Slot) (at : ℕ) (b : List ℕ) (fits : at + length b ≤ length (bytes_of s slot)) (own : b ≡ between at (at + length b) (bytes_of s slot)) where
  abbrev w : Content
  w = with_bytes s slot (put (bytes_of s slot) at b)

  of_w : Changed s w slot at b
  of_w = changed s slot at b fits

  own_byte : (k : ℕ) → k < length b → byte w slot (at + k) ≡ byte s slot (at + k)
  own_byte k short =
      of_w.inside k short ∙ ap (λ (l : List ℕ). slice_index l k) own
      ∙ get_or-between (bytes_of s slot) at (at + length b) k 0 (omega (arith, short))

  own_inner : (i k : ℕ) → at + k ≡ i → k < length b → byte w slot i ≡ byte s slot i
  own_inner i k is short = subst (λ n. byte w slot n ≡ byte s slot n) is (own_byte k short)

  own_here : (i : ℕ) → byte w slot i ≡ byte s slot i
  own_here i = elim (cases_lt i at) [
    | inl low ↦ of_w.before i low
    | inr high ↦ elim (cases_lt i (at + length b)) [
      | inl low ↦ own_inner i (i - at) (omega (arith, high)) (omega (arith, low, high))
      | inr beyond ↦ of_w.beyond i beyond
    ]
  ]

  own_each : (o : Slot) (i : ℕ) → byte w o i ≡ byte s o i
  own_each o i = elim (which_slot o slot) [ inl is ↦ rw is (own_here i) | inr other ↦ of_w.other o i other ]

  pub put_own : with_bytes s slot (put (bytes_of s slot) at b) ≡ s
  put_own = same_content s w (same_bytes s w Primary (of_w.sizes Primary) (own_each Primary)) (same_bytes s w Secondary (of_w.sizes Secondary) (own_each Secondary))

-- The bytes that an operation writes are as many as its slot has there.
pub fits_there : (g : Geometry) (op : Op) (f : Seen) → f.geometry ≡ g → IsLayout g → Applies op f → written_from g op + written_len g op ≤ length (bytes_of f.content (slot_of op))
fits_there g op f is ok applies = rw (← is) (
    let range = range_of f.geometry op (rw is ok) applies.can in
    omega (arith, range.inside, sized_is f.geometry f.content (slot_of op) applies.sized))

-- An erase leaves its sector ready.
pub ready_erase : (slot : Slot) (sector : ℕ) (f h : Seen) → IsLayout f.geometry → Applies (Erase slot sector) f → Does (Erase slot sector) f (Ok tt) h → IsReady (Erase slot sector) f h
ready_erase slot sector f h ok applies does = record {
  keeps = does_keep (Erase slot sector) f h (Ok tt) does;
  sized = changed_sized f.geometry f.content h.content slot (sector * f.geometry.sector) (replicate f.geometry.sector 255) ch applies.sized;
  blank = λ i short. ch.inside i (omega (arith, short, wide)) ∙ get_or-replicate f.geometry.sector i 255 0 short;
  same = λ bytes long. put_twice f.content h.content slot (sector * f.geometry.sector) (replicate f.geometry.sector 255) bytes
      (omega (arith, long, fits_there f.geometry (Erase slot sector) f refl ok applies)) (wide ∙ sym long) ch;
  counts = let notes = done_notes (Erase slot sector) f h does.0 in record { entries = omega (arith, notes.entries); saved = omega (arith, notes.saved) };
}
  where
    wide : length {A = ℕ} (replicate f.geometry.sector 255) ≡ f.geometry.sector
    wide = length-replicate {A = ℕ} f.geometry.sector 255

    ch : Changed f.content h.content slot (sector * f.geometry.sector) (replicate f.geometry.sector 255)
    ch = erase_is f.geometry f.content h.content slot sector applies.sized (range_of f.geometry (Erase slot sector) ok applies.can).inside (did (Erase slot sector) f h does.0).applied

-- Elsewhere all is ready where the operation can be done.
blank_before : (op : Op) (f : Seen) → ((slot : Slot) (sector : ℕ) → op ≡ Erase slot sector → ⊥) → IsLayout f.geometry → Applies op f → (i : ℕ) → i < written_len f.geometry op
    → byte f.content (slot_of op) (written_from f.geometry op + i) ≡ 255
unfolding apply
blank_before (Erase slot sector) f other ok applies i short = absurd (other slot sector refl)
blank_before (Program slot at bytes) f other ok applies i short =
    program_was_blank f.geometry f.content applies.whole slot at bytes (fits_there f.geometry (Program slot at bytes) f refl ok applies) applies.makes i short
blank_before (Copy from at to offset len) f other ok applies i short =
    let source : at + len ≤ length (bytes_of f.content from) = omega (arith, applies.can.0.inside, sized_is f.geometry f.content from applies.sized) in
    let long = length-copied f.content from at len source in
    program_was_blank f.geometry f.content applies.whole to offset (copied f.content from at len)
    (omega (arith, long, fits_there f.geometry (Copy from at to offset len) f refl ok applies)) applies.makes i (omega (arith, long, short))

pub ready_else : (op : Op) (f : Seen) → ((slot : Slot) (sector : ℕ) → op ≡ Erase slot sector → ⊥) → IsLayout f.geometry → Applies op f → IsReady op f f
ready_else op f other ok applies = record {
  keeps = record { geometry = refl; checkpoints = refl };
  sized = applies.sized;
  blank = blank_before op f other ok applies;
  same = λ bytes long. refl;
  counts = record { entries = omega arith; saved = omega arith };
}

-- A call that is not refused and for which there is room spends one operation.
pub does_spend : (op : Op) (old new : Seen) (result : Result (Unit {0}) FlashError) → (IsFull old.geometry op old.usage → ⊥) → (result ≢ Err errors.NotErased) → Does op old result new
    → Spends 1 old result new
does_spend op old new (Ok v) room taken does = let notes = done_notes op old new does.0 in record { applied = notes.applied; limits = notes.limits; failed = notes.failed }
does_spend op old new (Err errors.NotErased) room taken does = absurd (taken refl)
does_spend op old new (Err errors.Memory) room taken does = gave_up (IsFull old.geometry op old.usage) old new room does.1

-- A program leaves its bytes where it puts them.
pub program_is_put : (g : Geometry) (s t : Content) (slot : Slot) (at : ℕ) (new : List ℕ) → apply g (Program slot at new) s ≡ Some t → t ≡ with_bytes s slot (put (bytes_of s slot) at new)
unfolding apply
program_is_put g s t slot at new is = by (is_blank (between at (at + length new) (bytes_of s slot))) is
  where
    by : (b : Bool) → in_slot s slot (if b then Some (put (bytes_of s slot) at new) else None) ≡ Some t → t ≡ with_bytes s slot (put (bytes_of s slot) at new)
    by true e = cc
    by false e = absurd cc

-- An operation that can be done is not refused.
pub is_taken : (op : Op) (f n : Seen) (u : Content) → apply f.geometry op f.content ≡ Some u → (result : Result (Unit {0}) FlashError) → Does op f result n → result ≢ Err errors.NotErased
is_taken op f n u makes (Ok x) does = λ e. absurd cc
is_taken op f n u makes (Err errors.Memory) does = λ e. absurd cc
is_taken op f n u makes (Err errors.NotErased) does = λ e. none (with_content f u (noted f.geometry op f.usage)) (sym (done_as f op u makes) ∙ does.0)
  where
    none : (s : Seen) → Some s ≡ None → ⊥
    none s e = absurd cc

-- There is room for it.
pub room_first : (op : Op) (f : Seen) → Allows (tear_counts f.geometry) f → IsFull f.geometry op f.usage → ⊥
room_first op f room full = grind arith

-- Bytes can be put where all is ready.
module _ (op : Op) (f m : Seen) (bytes : List ℕ) (ok : IsLayout f.geometry) (applies : Applies op f) (ready : IsReady op f m) (long : length bytes ≡ written_len f.geometry op) where
  abbrev pub program : Op
  program = Program (slot_of op) (written_from f.geometry op) bytes

  made : (t : Content) × (apply m.geometry program m.content ≡ Some t) × Changed m.content t (slot_of op) (written_from f.geometry op) bytes
  made =
      program_changes m.geometry m.content (slot_of op) (written_from f.geometry op) bytes
      (let range = range_of f.geometry op ok applies.can in omega (arith, long, range.inside, sized_is f.geometry m.content (slot_of op) ready.sized))
      (λ i short. ready.blank i (omega (arith, short, long)))

  pub can_put : CanTry m.geometry program
  can_put = rw (ready.keeps.geometry, long) (range_of f.geometry op ok applies.can)

  pub put_taken : (n : Seen) (result : Result (Unit {0}) FlashError) → Does program m result n → result ≢ Err errors.NotErased
  put_taken n result does = is_taken program m n made.0 made.1 result does

  pub put_room : Allows (tear_counts f.geometry) f → m.usage.limits ≡ f.usage.limits → IsFull m.geometry program m.usage → ⊥
  put_room room limits full = let counts = ready.counts in grind arith

  pub put_counts : (n : Seen) → done program m ≡ Some n → LeaveRoom n.usage.counts no_counts (plus f.usage.counts (tear_counts f.geometry))
  put_counts n is =
      let notes = done_notes program m n is in
      let counts = ready.counts in
      record { entries = omega (arith, notes.entries, counts.entries); saved = omega (arith, notes.saved, counts.saved) }

  pub put_made : (n : Seen) → done program m ≡ Some n → n.content ≡ put_in f.geometry op f.content bytes
  put_made n is = program_is_put m.geometry m.content n.content (slot_of op) (written_from f.geometry op) bytes (did program m n is).applied ∙ ready.same bytes long
