-- Copies that are made as one. Proved here, so that the crates above can cite it.
use Rattle.std.proofs.{Common.{ap, arith, inl, inr, subst, sym, zero-add, ◌∙◌}, Math.Nat.{mul-le-mul_right}}
use Rattle.std.proofs.lemmas.List.{length-drop}
use Rattle.std.specs.Prelude.{Err, List, Ok, Some, [], drop, length, slice_get, suc, true, zero, ℕ, ◌*◌, ◌+◌, ◌-◌, ◌<◌, ◌∷◌, ◌≡◌, ◌≤◌}
use Rattle.mc_boot.specs.{Boot.{CountsOn, HasCome, Leaps, Progress, all_saves, leapt, left_of, stepped}, Copies.{AreCopies, copy_at, whole_copy}}
use Rattle.mc_boot.specs.{Plan.{PowerOn}, declared.transfer.Copies.{Copies}, facts.Run.{come_next}, facts.Steps.{Comes}}
use Rattle.mc_flash.specs.{Flash.{AreApart, CanTry, Content, IsSized, apply, bytes_of}, Geometry.{Geometry}, Usage.{Allows, IsFull, RanOut, Seen, Spent}}
use Rattle.mc_flash.specs.{declared.op.Op.{Op}, declared.op.Op.TheVariants.{Copy}, facts.Changes.{sized_is}, facts.Copies.{copy_lengths, copy_parts}, facts.Done.{did}}
use Rattle.mc_flash.specs.{facts.Spends.{Notes, done_notes, gave_up}, declared.flash.FlashError.{FlashError}, declared.op.Slot.{Slot}}
use Rattle.mc_flash.specs.declared.flash.FlashError.TheVariants as errors

-- The first of some operations, where they have one.
begins_with : (ops : List Op) (op : Op) → slice_get ops 0 ≡ Some op → (rest : List Op) × (ops ≡ op ∷ rest)
begins_with [] op is = absurd cc
begins_with (x ∷ ops) op is = (ops, cc)

-- Operations that are left save no more than all.
saves_left : (g : Geometry) (ops : List Op) (k : ℕ) → all_saves g (drop k ops) ≤ all_saves g ops
saves_left g ops zero = omega arith
saves_left g [] (suc k) = omega arith
saves_left g (op ∷ ops) (suc k) = omega (arith, saves_left g ops k)

some_left : (ops : List Op) (k : ℕ) (op : Op) → slice_get ops k ≡ Some op → k < length ops
some_left [] k op is = absurd cc
some_left (x ∷ ops) zero op is = omega arith
some_left (x ∷ ops) (suc k) op is = omega (arith, some_left ops k op is)

-- Copies that are at most so many are as many as they are.
pub all_copies : (ops : List Op) (most : ℕ) (c : Copies) → AreCopies ops 0 most c → AreCopies ops 0 c.count c
all_copies ops most c are = record { each = are.each; some = are.some; at_most = omega arith }

each_next : (ops : List Op) (most : ℕ) (c : Copies) → AreCopies ops 0 most c → (j : ℕ) → j < c.count → slice_get ops j ≡ Some (copy_at c j)
each_next ops most c are j lt = subst (λ n. slice_get ops n ≡ Some (copy_at c j)) (zero-add j) (are.each j lt)

-- A boot makes copies one after another, where one copy of all their bytes is defined.
module _ (x : PowerOn) (from to : Slot) (len : ℕ) where
  -- So many copies are next, and the bytes are there.
  record AreNext (k source target : ℕ) (p : Progress) (s : Content) : Type 0 where
    pub each : (j : ℕ) → j < k → slice_get p.to_come j ≡ Some (Copy from (source + j * len) to (target + j * len) len)
    pub from_there : source + k * len ≤ length (bytes_of s from)
    pub to_there : target + k * len ≤ length (bytes_of s to)
    pub apart : AreApart from source to target (k * len)

  first_next : (k source target : ℕ) (p : Progress) (s : Content) → AreNext (suc k) source target p s → (rest : List Op) × (p.to_come ≡ Copy from source to target len ∷ rest)
  first_next k source target p s next =
      let source_is : source + 0 * len ≡ source = omega arith in
      let target_is : target + 0 * len ≡ target = omega arith in
      begins_with p.to_come (Copy from source to target len)
      (next.each 0 (omega arith) ∙ ap (λ n. Some (Copy from n to (target + 0 * len) len)) source_is ∙ ap (λ n. Some (Copy from source to n len)) target_is)

  one_more : (k : ℕ) (p : Progress) (rest : List Op) (op : Op) → p.to_come ≡ op ∷ rest → leapt k (stepped p rest) ≡ leapt (suc k) p
  one_more k p rest op is =
      let count : p.count + 1 + k ≡ p.count + suc k = omega arith in
      ap (λ n. record { rules = p.rules; kind = p.kind; to_come = drop k rest; count = n; faulted = p.faulted }) count
      ∙ ap (λ (l : List Op). record { rules = p.rules; kind = p.kind; to_come = drop (suc k) l; count = p.count + suc k; faulted = p.faulted }) (sym is)

  first_one : (p : Progress) (rest : List Op) (op : Op) → p.to_come ≡ op ∷ rest → stepped p rest ≡ leapt 1 p
  first_one p rest op is = ap (λ (l : List Op). record { rules = p.rules; kind = p.kind; to_come = drop 1 l; count = p.count + 1; faulted = p.faulted }) (sym is)

  come_copies : (k source target : ℕ) (p : Progress) (s t : Content) → HasCome x p s → AreNext (suc k) source target p s → apply x.geometry (Copy from source to target (suc k * len)) s ≡ Some t
      → HasCome x (leapt (suc k) p) t
  come_copies zero source target p s t come next is =
      let op : Op = Copy from source to target len in
      let rest = first_next 0 source target p s next in
      let one : 1 * len ≡ len = omega arith in
      subst (λ q. HasCome x q t) (first_one p rest.0 op rest.1)
      (come_next x p s t op rest.0 come rest.1 (subst (λ n. apply x.geometry (Copy from source to target n) s ≡ Some t) one is))
  come_copies (suc k) source target p s t come next is =
      let op : Op = Copy from source to target len in
      let rest = first_next (suc k) source target p s next in
      let split : suc (suc k) * len ≡ len + suc k * len = omega arith in
      let parts = copy_parts x.geometry s t from to source target len (suc k * len) (omega (arith, next.from_there, split)) (omega (arith, next.to_there, split))
      (subst (AreApart from source to target) split next.apart) (subst (λ n. apply x.geometry (Copy from source to target n) s ≡ Some t) split is) in
      let u = parts.0 in
      let lengths = copy_lengths x.geometry s u from to source target len (omega (arith, next.from_there)) (omega (arith, next.to_there)) parts.1 in
      let here = come_next x p s u op rest.0 come rest.1 parts.1 in
      let later : AreNext (suc k) (source + len) (target + len) (stepped p rest.0) u = record {
        each = λ j lt.
            let there = ap (λ (l : List Op). slice_get l (suc j)) (sym rest.1) ∙ next.each (suc j) (omega (arith, lt)) in
            let source_is : source + suc j * len ≡ source + len + j * len = omega arith in
            let target_is : target + suc j * len ≡ target + len + j * len = omega arith in
            there ∙ ap (λ n. Some (Copy from n to (target + suc j * len) len)) source_is ∙ ap (λ n. Some (Copy from (source + len + j * len) to n len)) target_is;
        from_there = omega (arith, next.from_there, lengths from);
        to_there = omega (arith, next.to_there, lengths to);
        apart = λ same. elim (next.apart same) [ inl below ↦ inl (omega (arith, below)) | inr above ↦ inr (omega (arith, above)) ];
      } in
      subst (λ q. HasCome x q t) (one_more (suc k) p rest.0 op rest.1) (come_copies k (source + len) (target + len) (stepped p rest.0) u t here later parts.2)

-- The first so many of some copies.
module _ (x : PowerOn) (c : Copies) (p : Progress) (s t : Content) (sized : IsSized x.geometry s) (can : CanTry x.geometry (whole_copy c c.count)) (are : AreCopies p.to_come 0 c.count c)
    (is : apply x.geometry (whole_copy c c.count) s ≡ Some t) (come : HasCome x p s) where
  abbrev all : ℕ
  all = c.count * c.len

  source : c.at + all ≤ length (bytes_of s c.from)
  source = omega (arith, can.0.inside, sized_is x.geometry s c.from sized)

  target : c.offset + all ≤ length (bytes_of s c.to)
  target = omega (arith, can.1.inside, sized_is x.geometry s c.to sized)

  pub part_is : (j : ℕ) → j ≤ c.count → (u : Content) × (apply x.geometry (whole_copy c j) s ≡ Some u)
  part_is j le =
      let rest : c.count * c.len ≡ j * c.len + (c.count - j) * c.len = omega (arith, ap (λ n. n * c.len) (part j le)) in
      let whole = subst (λ n. apply x.geometry (Copy c.from c.at c.to c.offset n) s ≡ Some t) rest is in
      let parts = copy_parts x.geometry s t c.from c.to c.at c.offset (j * c.len) ((c.count - j) * c.len) (omega (arith, source, rest)) (omega (arith, target, rest))
      (subst (λ n. AreApart c.from c.at c.to c.offset n) rest can.2) whole in
      (parts.0, parts.1)
    where
      part : (j : ℕ) → j ≤ c.count → c.count ≡ j + (c.count - j)
      part j le = omega (arith, le)

  pub come_part : (j : ℕ) (u : Content) → 0 < j → j ≤ c.count → apply x.geometry (whole_copy c j) s ≡ Some u → HasCome x (leapt j p) u
  come_part zero u some le part = absurd (omega (arith, some))
  come_part (suc j) u some le part = come_copies x c.from c.to c.len j c.at c.offset p s u come next part
    where
      less : suc j * c.len ≤ c.count * c.len
      less = mul-le-mul_right c.len le

      next : AreNext x c.from c.to c.len (suc j) c.at c.offset p s
      next = record {
        each = λ i lt. each_next p.to_come c.count c are i (omega (arith, lt, le));
        from_there = omega (arith, source, less);
        to_there = omega (arith, target, less);
        apart = λ same. elim (can.2 same) [ inl below ↦ inl (omega (arith, below, less)) | inr above ↦ inr (omega (arith, above, less)) ];
      }

-- What a leap spends.
module _ (c : Copies) (p q : Progress) (old new : Seen) (are : AreCopies p.to_come 0 c.count c) where
  many : c.count ≤ length p.to_come
  many = omega (arith, some_left p.to_come (c.count - 1) (copy_at c (c.count - 1)) (each_next p.to_come c.count c are (c.count - 1) (omega (arith, are.some))), are.some)

  -- Memory fails it only where it fails a flash that does not count.
  pub leap_out : (e : FlashError) → Leaps c p old (Err e) q new → Allows (left_of old.geometry p) old → (e ≡ errors.Memory) × RanOut old new
  leap_out e leaps room = (leaps.0, gave_up (IsFull old.geometry (whole_copy c c.count) old.usage) old new not_full (rw leaps.0 at leaps.2).1)
    where
      not_full : IsFull old.geometry (whole_copy c c.count) old.usage → ⊥
      not_full (inl full) = omega (arith, full, room.entries, many, are.some)
      not_full (inr full) = omega (arith, full, room.saved)

  module _ (leaps : Leaps c p old (Ok true) q new) where
    fewer : length q.to_come + c.count ≡ length p.to_come
    fewer = omega (arith, ap (λ (z : Progress). length z.to_come) leaps.0, length-drop c.count p.to_come, many)

    noted_so : Notes old.geometry (whole_copy c c.count) old.usage new.usage
    noted_so = done_notes (whole_copy c c.count) old new leaps.1.0

    pub leap_counts : CountsOn p q old new
    leap_counts =
        let n = noted_so in
        let left = ap (λ (z : Progress). all_saves old.geometry z.to_come) leaps.0 in
        record {
          entries = omega (arith, n.entries, fewer, are.some);
          saved = omega (arith, n.saved, saves_left old.geometry p.to_come c.count, left);
        }

    pub leap_less : Comes p q old new
    leap_less =
        let n = noted_so in
        record {
          spends = record { applied = omega (arith, n.applied, fewer, are.some); limits = n.limits; failed = n.failed };
          less = λ _. omega (arith, fewer, are.some);
        }

    pub leap_spent : Spent c.count old new
    leap_spent = let n = noted_so in record { applied = omega (arith, n.applied, are.some); limits = n.limits; failed = n.failed }

    -- The boot is on its way.
    pub leap_comes : (x : PowerOn) → x.geometry ≡ old.geometry → HasCome x p old.content → HasCome x q new.content
    leap_comes x same come =
        let made = (did (whole_copy c c.count) old new leaps.1.0).applied in
        let is = subst (λ (g : Geometry). apply g (whole_copy c c.count) old.content ≡ Some new.content) (sym same) made in
        let sized = subst (λ (g : Geometry). IsSized g old.content) (sym same) leaps.2 in
        let can = subst (λ (g : Geometry). CanTry g (whole_copy c c.count)) (sym same) leaps.3 in
        subst (λ z. HasCome x z new.content) (sym leaps.0) (come_part x c p old.content new.content sized can are is come c.count new.content are.some (omega arith) is)

-- A leap that changed nothing, and what was done then.
module _ (p q r : Progress) (old mid new : Seen) (still : (q ≡ p) × (mid ≡ old)) where
  pub then_counts : CountsOn q r mid new → CountsOn p r old new
  then_counts on = rw (sym still.0, sym still.1) on

  pub then_comes : Comes q r mid new → Comes p r old new
  then_comes on = rw (sym still.0, sym still.1) on
