-- A copy in two parts, and what it leaves of the lengths. Proved here, so that the crates above can cite it.
use Rattle.std.proofs.{Common.{ap, arith, drop-drop, inl, inr, length-append, subst, sym, take-add, ◌∙◌}, lemmas.Bool.{cases_lt}, Math.Nat.{add-sub_cancel_left}}
use Rattle.std.proofs.lemmas.List.{get_or-append-add, get_or_append_left, get_or_default, same_lists}
use Rattle.std.proofs.lemmas.List.Edits.{get_or-between}
use Rattle.std.specs.Prelude.{List, Some, drop, length, refl, slice_index, take, ℕ, ◌++◌, ◌+◌, ◌-◌, ◌<◌, ◌≡◌, ◌≢◌, ◌≤◌, ◌⊎◌}
use Rattle.mc_flash.specs.{Flash.{AreApart, Content, apply, byte, bytes_of}, Geometry.{Geometry}}
use Rattle.mc_flash.specs.{declared.op.Op.TheVariants.{Copy, Program}, declared.op.Slot.{Slot}, declared.op.Slot.TheVariants.{Primary, Secondary}}
use Rattle.mc_flash.specs.facts.Changes.{Changed, copied, copy_is_program, length-copied, program_changes, program_was_blank, same_content}

-- Two lists of one length that have the same byte at each place are one list.
same_bytes : (xs ys : List ℕ) → length xs ≡ length ys → ((i : ℕ) → i < length xs → slice_index xs i ≡ slice_index ys i) → xs ≡ ys
same_bytes xs ys len each = same_lists xs ys len (λ k d h. get_or_default xs k d 0 h ∙ each k h ∙ sym (get_or_default ys k d 0 (omega (arith, h, len))))

both_slots : (s t : Content) → t.primary ≡ s.primary → t.secondary ≡ s.secondary → t ≡ s
both_slots s t p q = grind arith

which_slot : (a b : Slot) → (a ≡ b) ⊎ (a ≢ b)
which_slot a b = grind arith

-- What two programs change, one after the other, is what the program of both changes.
changed_both : (s u t v : Content) (slot : Slot) (at : ℕ) (m n : List ℕ) → Changed s u slot at m → Changed u v slot (at + length m) n → Changed s t slot at (m ++ n) → v ≡ t
changed_both s u t v slot at m n one two whole = both_slots t v (bytes Primary) (bytes Secondary)
  where
    wide : length (m ++ n) ≡ length m + length n
    wide = length-append m n

    of_one : (k : ℕ) → k < length m → byte v slot (at + k) ≡ byte t slot (at + k)
    of_one k short = two.before (at + k) (omega (arith, short)) ∙ one.inside k short ∙ sym (whole.inside k (omega (arith, short, wide)) ∙ get_or_append_left m n 0 k short)

    of_two : (k : ℕ) → k < length n → byte v slot (at + length m + k) ≡ byte t slot (at + length m + k)
    of_two k short = two.inside k short ∙ sym (subst (λ (i : ℕ). byte t slot i ≡ slice_index n k) (omega arith) (whole.inside (length m + k) (omega (arith, short, wide)) ∙ get_or-append-add m n k 0))

    here : (i : ℕ) → byte v slot i ≡ byte t slot i
    here i = elim (cases_lt i at) [
      | inl low ↦ two.before i (omega (arith, low)) ∙ one.before i low ∙ sym (whole.before i low)
      | inr high ↦ elim (cases_lt i (at + length m)) [
        | inl low ↦ subst (λ (k : ℕ). byte v slot k ≡ byte t slot k) (omega (arith, high)) (of_one (i - at) (omega (arith, low, high)))
        | inr above ↦ elim (cases_lt i (at + length m + length n)) [
          | inl low ↦ subst (λ (k : ℕ). byte v slot k ≡ byte t slot k) (omega (arith, above)) (of_two (i - (at + length m)) (omega (arith, low, above)))
          | inr beyond ↦ two.beyond i beyond ∙ one.beyond i above ∙ sym (whole.beyond i (omega (arith, wide, beyond)))
        ]
      ]
    ]

    each : (o : Slot) (i : ℕ) → byte v o i ≡ byte t o i
    each o i = elim (which_slot o slot) [
      | inl is ↦ rw is (here i)
      | inr no_ ↦ two.other o i no_ ∙ one.other o i no_ ∙ sym (whole.other o i no_)
    ]

    bytes : (o : Slot) → bytes_of v o ≡ bytes_of t o
    bytes o = same_bytes (bytes_of v o) (bytes_of t o) (two.sizes o ∙ one.sizes o ∙ sym (whole.sizes o)) (λ i _. each o i)

-- A program that is defined is two programs, one after the other.
program_parts : (g : Geometry) (s t : Content) (slot : Slot) (at : ℕ) (m n : List ℕ) → at + (length m + length n) ≤ length (bytes_of s slot) → apply g (Program slot at (m ++ n)) s ≡ Some t
    → (u : Content) × (apply g (Program slot at m) s ≡ Some u) × Changed s u slot at m × (apply g (Program slot (at + length m) n) u ≡ Some t)
program_parts g s t slot at m n fits is = (u, first.1, one, second.1 ∙ rw same refl)
  where
    wide : length (m ++ n) ≡ length m + length n
    wide = length-append m n

    blank : (i : ℕ) → i < length m + length n → byte s slot (at + i) ≡ 255
    blank i short = program_was_blank g s t slot at (m ++ n) (omega (arith, fits, wide)) is i (omega (arith, short, wide))

    first : (u : Content) × (apply g (Program slot at m) s ≡ Some u) × Changed s u slot at m
    first = program_changes g s slot at m (omega (arith, fits)) (λ i short. blank i (omega (arith, short)))

    u : Content
    u = first.0

    one : Changed s u slot at m
    one = first.2

    still : (i : ℕ) → i < length n → byte u slot (at + length m + i) ≡ 255
    still i short = one.beyond (at + length m + i) (omega arith) ∙ subst (λ (k : ℕ). byte s slot k ≡ 255) (omega arith) (blank (length m + i) (omega (arith, short)))

    second : (v : Content) × (apply g (Program slot (at + length m) n) u ≡ Some v) × Changed u v slot (at + length m) n
    second = program_changes g u slot (at + length m) n (omega (arith, fits, one.sizes slot)) still

    whole : (w : Content) × (apply g (Program slot at (m ++ n)) s ≡ Some w) × Changed s w slot at (m ++ n)
    whole = program_changes g s slot at (m ++ n) (omega (arith, fits, wide)) (λ i short. blank i (omega (arith, short, wide)))

    same : second.0 ≡ t
    same = changed_both s u whole.0 second.0 slot at m n one second.2 whole.2 ∙ same_content whole.0 t (sym whole.1 ∙ is)

-- A copy leaves the slots as long as they were.
pub copy_lengths : (g : Geometry) (s u : Content) (from to : Slot) (at offset len : ℕ) → at + len ≤ length (bytes_of s from) → offset + len ≤ length (bytes_of s to)
    → apply g (Copy from at to offset len) s ≡ Some u → (o : Slot) → length (bytes_of u o) ≡ length (bytes_of s o)
copy_lengths g s u from to at offset len source target is o = rw (← same_content whole.0 u (sym whole.1 ∙ program)) (whole.2.sizes o)
  where
    new : List ℕ
    new = copied s from at len

    wide : length new ≡ len
    wide = length-copied s from at len source

    program : apply g (Program to offset new) s ≡ Some u
    program = sym (copy_is_program g s from to at offset len) ∙ is

    whole : (w : Content) × (apply g (Program to offset new) s ≡ Some w) × Changed s w to offset new
    whole = program_changes g s to offset new (omega (arith, target, wide)) (program_was_blank g s u to offset new (omega (arith, target, wide)) program)

-- The bytes of a copy are those of its two parts.
copied_is : (s : Content) (from : Slot) (at len : ℕ) → copied s from at len ≡ take len (drop at (bytes_of s from))
copied_is s from at len = ap (λ (n : ℕ). take n (drop at (bytes_of s from))) (add-sub_cancel_left at len)

copied_both : (s : Content) (from : Slot) (at a b : ℕ) → copied s from at (a + b) ≡ copied s from at a ++ copied s from (at + a) b
copied_both s from at a b =
    let l = drop at (bytes_of s from) in
    let whole = copied_is s from at (a + b) ∙ take-add a b l in
    let one = copied_is s from at a in
    let two = copied_is s from (at + a) b ∙ ap (λ (x : List ℕ). take b x) (sym (drop-drop a at (bytes_of s from))) in
    whole ∙ ap (λ (x : List ℕ). x ++ take b (drop a l)) (sym one) ∙ ap (λ (x : List ℕ). copied s from at a ++ x) (sym two)

-- Bytes that another copy kept.
copied_same : (s u : Content) (from : Slot) (at len : ℕ) → length (bytes_of u from) ≡ length (bytes_of s from) → at + len ≤ length (bytes_of s from)
    → ((i : ℕ) → i < len → byte u from (at + i) ≡ byte s from (at + i)) → copied u from at len ≡ copied s from at len
copied_same s u from at len sizes fits kept = same_bytes _ _ (new ∙ sym old) (λ i short. each i (omega (arith, short, new)))
  where
    new : length (copied u from at len) ≡ len
    new = length-copied u from at len (omega (arith, fits, sizes))

    old : length (copied s from at len) ≡ len
    old = length-copied s from at len fits

    byte_at : (x : Content) (i : ℕ) → i < len → slice_index (copied x from at len) i ≡ byte x from (at + i)
    byte_at x i short = get_or-between (bytes_of x from) at (at + len) i 0 (omega (arith, short))

    each : (i : ℕ) → i < len → slice_index (copied u from at len) i ≡ slice_index (copied s from at len) i
    each i short = byte_at u i short ∙ kept i short ∙ sym (byte_at s i short)

-- A copy that is defined is two copies, one after the other.
pub copy_parts : (g : Geometry) (s t : Content) (from to : Slot) (at offset a b : ℕ) → at + (a + b) ≤ length (bytes_of s from) → offset + (a + b) ≤ length (bytes_of s to)
    → AreApart from at to offset (a + b) → apply g (Copy from at to offset (a + b)) s ≡ Some t
    → (u : Content) × (apply g (Copy from at to offset a) s ≡ Some u) × (apply g (Copy from (at + a) to (offset + a) b) u ≡ Some t)
copy_parts g s t from to at offset a b source target apart is = (u, copy_is_program g s from to at offset a ∙ parts.1, copy_is_program g u from to (at + a) (offset + a) b ∙ second)
  where
    m : List ℕ
    m = copied s from at a

    n : List ℕ
    n = copied s from (at + a) b

    one : length m ≡ a
    one = length-copied s from at a (omega (arith, source))

    two : length n ≡ b
    two = length-copied s from (at + a) b (omega (arith, source))

    program : apply g (Program to offset (m ++ n)) s ≡ Some t
    program = rw (← copied_both s from at a b) (sym (copy_is_program g s from to at offset (a + b)) ∙ is)

    parts : (u : Content) × (apply g (Program to offset m) s ≡ Some u) × Changed s u to offset m × (apply g (Program to (offset + length m) n) u ≡ Some t)
    parts = program_parts g s t to offset m n (omega (arith, target, one, two)) program

    u : Content
    u = parts.0

    first : Changed s u to offset m
    first = parts.2

    beside : (i : ℕ) → (i < offset) ⊎ (offset + length m ≤ i) → byte u to i ≡ byte s to i
    beside i (inl below) = first.before i below
    beside i (inr above) = first.beyond i above

    kept : (i : ℕ) → i < b → byte u from (at + a + i) ≡ byte s from (at + a + i)
    kept i short = elim (which_slot from to) [
      | inl same ↦ subst (λ (o : Slot). byte u o (at + a + i) ≡ byte s o (at + a + i)) (sym same) (beside (at + a + i) (elim (apart same) [
        | inl below ↦ inl (omega (arith, below, short))
        | inr above ↦ inr (omega (arith, above, one))
      ]))
      | inr no_ ↦ first.other from (at + a + i) no_
    ]

    second : apply g (Program to (offset + a) (copied u from (at + a) b)) u ≡ Some t
    second = rw (copied_same s u from (at + a) b (first.sizes from) (omega (arith, source)) kept) (subst (λ (k : ℕ). apply g (Program to (offset + k) n) u ≡ Some t) one parts.3)
