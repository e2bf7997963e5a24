-- Losses of power, one after another, and the flashes that they leave.
use Rattle.std.proofs.{Common.{ap, append-nil, append_assoc, arith, drop-cons, inl, inr, length-append, subst, sym, ◌∙◌}, lemmas.Bool.Decides.{nat_tests}, lemmas.List.{map-append, take_all}, lemmas.Option.{slice_get_past, slice_get_within}}
use Rattle.std.proofs.lemmas.List.Elements.{All-contains}
use Rattle.std.specs.Prelude.{All, Bool, Contains, List, None, Option, Some, [], drop, false, get_or, if◌then◌else◌, length, nat_lt, option_and_then, option_map, refl, slice_get, suc, true, zero, ℕ, ◌*◌, ◌++◌, ◌+◌, ◌/◌, ◌%◌, ◌<◌, ◌∷◌, ◌≡◌, ◌≤◌, ◌⊎◌}
use Rattle.mc_boot.specs.{Outcome.{at, left_by, ops_of, outcome_of}, Plan.{PowerOn, again}}
use Rattle.mc_explore.specs.{Boots.{at_cut, content_or}, facts.Occurring.{at_is}, inner.OneRound.{most_of}}
use Rattle.mc_flash.specs.{Flash.{Content}, Geometry.{Geometry}, Usage.{Counts, HasRoom, Keeps, Limits, Seen, marked, went_back}, declared.op.Op.{Op}, facts.Spends.{keeps_both}}
use Rattle.mc_tear.specs.{Cases.{is_case, torn}, Laws.{CasesLeave, EachChainEnds, LeavesCase}, Readings.{entry_of, flag_of, magic_of, reading_of}}
use Rattle.mc_tear.specs.{declared.reading.Entry.{Entry}, declared.reading.Reading.{Reading}, declared.torn.Erasing.{Erasing}}
use Rattle.mc_tear.specs.declared.reading.Entry.TheVariants as entries
use Rattle.mc_tears.specs.Losses.{AnyLosses, AreLostCases, AtMost, Covers, EndsAsOne, HasNoCollision, IsLostCase, after_losses, entry_digit, flag_digit, loss_number, lost, lost_at, magic_digit, numbers_of, reading_number, within_number}
use Rattle.mc_tears.specs.{Tears.{op_flash}, declared.loss.Loss.{Loss}, declared.losses.LostCase.{LostCase}}
use Rattle.mc_tears.specs.inner.Losing.{Expands, IsCaseHere, IsFrom, Leaves, StandsAt, searched}
use Rattle.mc_tears.specs.inner.Standing.{CanMark, IsBack, Puts, Stands}
use Rattle.mc_tear.specs.inner.Room.{Applies}
use Rattle.mc_boot.specs.declared.boot.Boot.{Boot}
use Rattle.mc_tears.proofs.Standing.{applies_back, back_is, marks_after}
use Rattle.mc_trailer.specs.{declared.trailer.Flag.{Flag}, declared.trailer.Magic.{Magic}}
use Rattle.mc_trailer.specs.declared.trailer.Flag.TheVariants as flags
use Rattle.mc_trailer.specs.declared.trailer.Magic.TheVariants as magics
use Rattle.mc_vectors.specs.{Cases.{IsNoLater, flash_digest}, inner.Searches.{IsDone, IsExpanding, IsSearch}}
use Rattle.mc_vectors.proofs.Orders.{no_later_on, no_later_trans, no_longer}
use Rattle.mc_vectors.proofs.Searches.{fresh, known, none_left}

-- ---- the number of a loss tells which it is

magic_back : (m : Option Magic) → magic_of (magic_digit m) ≡ m
magic_back None = refl
magic_back (Some magics.Good) = refl
magic_back (Some magics.Unset) = refl
magic_back (Some magics.Bad) = refl

flag_back : (f : Option Flag) → flag_of (flag_digit f) ≡ f
flag_back None = refl
flag_back (Some flags.Set) = refl
flag_back (Some flags.Unset) = refl
flag_back (Some flags.Bad) = refl

entry_back : (e : Option Entry) → entry_of (entry_digit e) ≡ e
entry_back None = refl
entry_back (Some entries.Unset) = refl
entry_back (Some entries.Written) = refl

few_magics : (m : Option Magic) → magic_digit m ≤ 3
few_magics None = omega arith
few_magics (Some magics.Good) = omega arith
few_magics (Some magics.Unset) = omega arith
few_magics (Some magics.Bad) = omega arith

few_flags : (f : Option Flag) → flag_digit f ≤ 3
few_flags None = omega arith
few_flags (Some flags.Set) = omega arith
few_flags (Some flags.Unset) = omega arith
few_flags (Some flags.Bad) = omega arith

few_entries : (e : Option Entry) → entry_digit e ≤ 2
few_entries None = omega arith
few_entries (Some entries.Unset) = omega arith
few_entries (Some entries.Written) = omega arith

few_readings : (r : Reading) → reading_number r < 192
few_readings r = omega (arith, few_magics r.magic, few_flags r.image_ok, few_flags r.copy_done, few_entries r.entry)

same_reading : (r q : Reading) → reading_number r ≡ reading_number q → r ≡ q
same_reading r q same =
    let rm = few_magics r.magic in
    let ri = few_flags r.image_ok in
    let rc = few_flags r.copy_done in
    let re = few_entries r.entry in
    let qm = few_magics q.magic in
    let qi = few_flags q.image_ok in
    let qc = few_flags q.copy_done in
    let qe = few_entries q.entry in
    let m : magic_digit r.magic ≡ magic_digit q.magic = omega (arith, same, rm, ri, rc, re, qm, qi, qc, qe) in
    let i : flag_digit r.image_ok ≡ flag_digit q.image_ok = omega (arith, same, m, ri, rc, re, qi, qc, qe) in
    let c : flag_digit r.copy_done ≡ flag_digit q.copy_done = omega (arith, same, m, i, rc, re, qc, qe) in
    let e : entry_digit r.entry ≡ entry_digit q.entry = omega (arith, same, m, i, c) in
    let magic : r.magic ≡ q.magic = sym (magic_back r.magic) ∙ ap magic_of m ∙ magic_back q.magic in
    let image_ok : r.image_ok ≡ q.image_ok = sym (flag_back r.image_ok) ∙ ap flag_of i ∙ flag_back q.image_ok in
    let copy_done : r.copy_done ≡ q.copy_done = sym (flag_back r.copy_done) ∙ ap flag_of c ∙ flag_back q.copy_done in
    let entry : r.entry ≡ q.entry = sym (entry_back r.entry) ∙ ap entry_of e ∙ entry_back q.entry in
    ap (λ (x : Option Magic). record { magic = x; image_ok = r.image_ok; copy_done = r.copy_done; entry = r.entry }) magic
    ∙ ap (λ (x : Option Flag). record { magic = q.magic; image_ok = x; copy_done = r.copy_done; entry = r.entry }) image_ok
    ∙ ap (λ (x : Option Flag). record { magic = q.magic; image_ok = q.image_ok; copy_done = x; entry = r.entry }) copy_done
    ∙ ap (λ (x : Option Entry). record { magic = q.magic; image_ok = q.image_ok; copy_done = q.copy_done; entry = x }) entry

few_within : (w : Option Reading) → within_number w ≤ 192
few_within None = omega arith
few_within (Some r) = omega (arith, few_readings r)

same_within : (w v : Option Reading) → within_number w ≡ within_number v → w ≡ v
same_within None None same = refl
same_within None (Some r) same = absurd (omega (arith, same))
same_within (Some r) None same = absurd (omega (arith, same))
same_within (Some r) (Some q) same = ap (λ (x : Reading). Some x) (same_reading r q (omega (arith, same)))

same_loss : (l m : Loss) → loss_number l ≡ loss_number m → l ≡ m
same_loss l m same =
    let lw = few_within l.within in
    let mw = few_within m.within in
    let operation : l.operation ≡ m.operation = omega (arith, same, lw, mw) in
    let within : l.within ≡ m.within = same_within l.within m.within (omega (arith, same, operation)) in
    ap (λ (n : ℕ). record { operation = n; within = l.within }) operation ∙ ap (λ (w : Option Reading). record { operation = m.operation; within = w }) within

digit_magic : (d : ℕ) → d < 4 → magic_digit (magic_of d) ≡ d
digit_magic zero lt = refl
digit_magic (suc zero) lt = refl
digit_magic (suc (suc zero)) lt = refl
digit_magic (suc (suc (suc zero))) lt = refl
digit_magic (suc (suc (suc (suc d)))) lt = absurd (omega (arith, lt))

digit_flag : (d : ℕ) → d < 4 → flag_digit (flag_of d) ≡ d
digit_flag zero lt = refl
digit_flag (suc zero) lt = refl
digit_flag (suc (suc zero)) lt = refl
digit_flag (suc (suc (suc zero))) lt = refl
digit_flag (suc (suc (suc (suc d)))) lt = absurd (omega (arith, lt))

digit_entry : (d : ℕ) → d < 3 → entry_digit (entry_of d) ≡ d
digit_entry zero lt = refl
digit_entry (suc zero) lt = refl
digit_entry (suc (suc zero)) lt = refl
digit_entry (suc (suc (suc d))) lt = absurd (omega (arith, lt))

pub number_of_reading : (k : ℕ) → k < 192 → reading_number (reading_of k) ≡ k
number_of_reading k lt =
    let m = digit_magic (k / 48) (omega (arith, lt)) in
    let i = digit_flag (k / 12 % 4) (omega arith) in
    let c = digit_flag (k / 3 % 4) (omega arith) in
    let e = digit_entry (k % 3) (omega arith) in
    omega (arith, m, i, c, e)

-- ---- what a loss leaves

-- A cut before an operation that the boot makes.
pub cut_lost : (e : Erasing) (y : PowerOn) (n : ℕ) → n < length (ops_of y) → lost_at e y n None ≡ Some (at_cut y n)
cut_lost e y n lt = grind (arith, nat_tests, at_is)

-- And none beyond.
pub lost_past : (e : Erasing) (y : PowerOn) (n : ℕ) (w : Option Reading) → length (ops_of y) ≤ n → lost_at e y n w ≡ None
lost_past e y n None late =
    let no_ : nat_lt n (length (ops_of y)) ≡ false = grind (arith, nat_tests) in
    ap (λ b. if b then at y n else None) no_
lost_past e y n (Some r) late = ap (op_flash e y n r) (slice_get_past (ops_of y) n late)

-- A tear of that operation.
module _ (e : Erasing) (y : PowerOn) (n : ℕ) (op : Op) (next : slice_get (ops_of y) n ≡ Some op) (r : Reading) where
  pub tear_lost : is_case e y.geometry op (at_cut y n) r ≡ true → lost_at e y n (Some r) ≡ Some (torn e y.geometry op (at_cut y n) r)
  tear_lost is =
      ap (op_flash e y n r) next
      ∙ ap (λ (b : Bool). if b then Some (torn e y.geometry op (at_cut y n) r) else None) is

  pub tear_none : is_case e y.geometry op (at_cut y n) r ≡ false → lost_at e y n (Some r) ≡ None
  tear_none is =
      ap (op_flash e y n r) next
      ∙ ap (λ (b : Bool). if b then Some (torn e y.geometry op (at_cut y n) r) else None) is

-- It was put in the flash, which was marked, where it is a case.
module _ (e : Erasing) (y : PowerOn) (n : ℕ) (op : Op) (r : Reading) (f m k : Seen) (stands : StandsAt y n op f) (marked_is : m ≡ marked f) (is : Bool) (p : Puts e op r m k is) where
  mark_layout : m.geometry ≡ y.geometry
  mark_layout = ap (λ (s : Seen). s.geometry) marked_is ∙ stands.layout

  mark_content : m.content ≡ at_cut y n
  mark_content = ap (λ (s : Seen). s.content) marked_is ∙ stands.content

  case_is : is ≡ is_case e y.geometry op (at_cut y n) r
  case_is = rw (mark_layout, mark_content) at p.case

  pub none_lost : is ≡ false → lost_at e y n (Some r) ≡ None
  none_lost same = tear_none e y n op stands.op_is r (sym case_is ∙ same)

  mark_keeps : Keeps (marked f) k
  mark_keeps = rw marked_is at p.keeps

  limits_are : k.usage.limits ≡ f.usage.limits
  limits_are = p.limits ∙ ap (λ (s : Seen). s.usage.limits) marked_is

  pub put_room : CanMark 2 f → HasRoom (most_of y) k
  put_room marks =
      let counts = ap (λ (s : Seen). s.usage.counts) marked_is in
      let entries = ap (λ (c : Counts). c.entries) counts in
      let saved = ap (λ (c : Counts). c.saved) counts in
      let most = ap (λ (l : Limits). l.entries) limits_are in
      let most_saved = ap (λ (l : Limits). l.saved) limits_are in
      let sector = ap (λ (g : Geometry). g.sector) mark_layout in
      let room = stands.room in
      let more = p.counts in
      let one = marks_after 1 f k mark_keeps limits_are marks in
      record {
        allows = record { entries = omega (arith, entries, most, room.entries, more.entries); saved = omega (arith, saved, most_saved, sector, room.saved, more.saved) };
        mark = omega (arith, one);
      }

  -- The flash goes back.
  pub put_back : (h : Seen) → Keeps k h → h.usage.limits ≡ k.usage.limits → IsBack f (went_back (length f.checkpoints) h)
  put_back h keeps limits = back_is f m h marked_is (keeps_both m k h p.keeps keeps) (limits ∙ p.limits)

-- The flash is back where it stood.
pub stands_there : (y : PowerOn) (n : ℕ) (op : Op) (f h : Seen) → IsBack f h → StandsAt y n op f → StandsAt y n op h
stands_there y n op f h back s = record {
  layout = back.stays.geometry ∙ s.layout;
  content = back.stays.content ∙ s.content;
  op_is = s.op_is;
  applies = applies_back f h back op s.applies;
  room = let room = s.room in rw (back.stays.counts, back.limits) room;
}

pub marks_there : (n : ℕ) (f h : Seen) → IsBack f h → CanMark n f → CanMark n h
marks_there n f h back marks = rw (back.stays.checkpoints, back.limits) marks

-- A boot that has come to that operation.
module _ (y : PowerOn) (at : Boot) (n : ℕ) (f : Seen) (s : Stands y at f) (number : at.done ≡ n) where
  there : f.content ≡ at_cut y n
  there = s.at_is.content_is ∙ ap (at_cut y) number

  pub cut_there : (e : Erasing) → n < length (ops_of y) → lost_at e y n None ≡ Some f.content
  cut_there e early = cut_lost e y n early ∙ ap (λ (t : Content). Some t) (sym there)

  pub op_there : (op : Op) → slice_get (ops_of y) at.done ≡ Some op → Applies op f → StandsAt y n op f
  op_there op next applies = record {
    layout = s.at_is.layout_is;
    content = there;
    op_is = subst (λ m. slice_get (ops_of y) m ≡ Some op) number next;
    applies = applies;
    room = let room = s.allows in record { entries = omega (arith, room.entries); saved = omega (arith, room.saved) };
  }

-- Some steps, and more.
pub expands_on : (e d : Erasing) (y : PowerOn) (losses : List Loss) (old now new : List LostCase) (a b b' c c' : ℕ) → d ≡ e → Expands e y losses old a now b → b ≡ b'
    → Expands d y losses now b' new c' → c' ≡ c → Expands e y losses old a new c
expands_on e d y losses old now new a b b' c c' same first one more two x bound index p from exp =
    let next : Expands e y losses now b new c =
    subst (λ z. Expands e y losses now z new c) (sym one) (subst (λ z. Expands e y losses now b' new z) two (subst (λ z. Expands z y losses now b' new c') same more)) in
    next x bound index p from (first x bound index p from exp)

-- What a cut leaves, and a case.
leaves_lost : (e : Erasing) (y : PowerOn) (n : ℕ) (w : Option Reading) (t : Content) → LeavesCase e y n w t → lost_at e y n w ≡ Some t
unfolding at_cut
leaves_lost e y n None t is = ap (λ b. if b then at y n else None) (early is.0) ∙ is.1
  where
    early : n < length (ops_of y) → nat_lt n (length (ops_of y)) ≡ true
    early lt = grind (arith, nat_tests)
leaves_lost e y n (Some r) t (op, s, next, reached, case, made) =
    let there : at_cut y n ≡ s = ap (content_or y.content) reached in
    tear_lost e y n op next r (ap (λ (z : Content). is_case e y.geometry op z r) there ∙ case)
    ∙ ap (λ (z : Content). Some (torn e y.geometry op z r)) there ∙ ap (λ (z : Content). Some z) (sym made)

all_lost : (e : Erasing) (y : PowerOn) (losses : List (ℕ × Option Reading)) (u : Content) → CasesLeave e y losses u
    → (l : List Loss) × (length l ≡ length losses) × (after_losses e y l ≡ Some u)
all_lost e y [] u is = ([], refl, ap (λ (z : Content). Some z) (sym is))
all_lost e y (one ∷ losses) u (t, first, more) =
    let rest = all_lost e (again y t) losses u more in (
      record { operation = one.0; within = one.1 } ∷ rest.0,
      ap (λ (n : ℕ). suc n) rest.1,
      ap (option_and_then (λ z. after_losses e (again y z) rest.0)) (leaves_lost e y one.0 one.1 t first) ∙ rest.2,
    )

-- So where the flash of such losses is that of a case, each end is.
ends_as_one : EachChainEnds → (e : Erasing) (x : PowerOn) (IsAsked : List Loss → Type 0) (cases : List LostCase) → Covers e x IsAsked cases → EndsAsOne e x IsAsked cases
ends_as_one law e x IsAsked cases covers cuts v z asked ok sized tears left apart =
    let chain = law e x cuts v z ok sized tears left apart in
    let lost_so = all_lost e x chain.0 chain.1 chain.3 in
    let case = covers lost_so.0 chain.1 (asked lost_so.0 (lost_so.1 ∙ chain.2)) lost_so.2 in
    (case.0, chain.1, case.1, case.2, chain.4)

-- There is no loss in an operation that the boot does not make.
lost_early : (e : Erasing) (y : PowerOn) (n : ℕ) (w : Option Reading) (u : Content) → lost_at e y n w ≡ Some u → n < length (ops_of y)
lost_early e y n None u is = by (nat_lt n (length (ops_of y))) refl is
  where
    by : (b : Bool) → nat_lt n (length (ops_of y)) ≡ b → (if b then at y n else None) ≡ Some u → n < length (ops_of y)
    by true lt some = grind (arith, nat_tests)
    by false lt some = absurd cc
lost_early e y n (Some r) u is = by (slice_get (ops_of y) n) refl is
  where
    by : (o : Option Op) → slice_get (ops_of y) n ≡ o → op_flash e y n r o ≡ Some u → n < length (ops_of y)
    by None there some = absurd cc
    by (Some op) there some = slice_get_within (ops_of y) n op there

-- ---- losses one after another

pub after_push : (e : Erasing) (x : PowerOn) (l : List Loss) (i : Loss) (u z : Content) → after_losses e x l ≡ Some u → lost e (again x u) i ≡ Some z
    → after_losses e x (l ++ i ∷ []) ≡ Some z
after_push e x [] i u z is one =
    let same : x.content ≡ u = cc in
    let f : Content → Option Content = λ t. Some t in
    subst (λ (s : Content). option_and_then f (lost e (again x s) i) ≡ Some z) (sym same) (ap (option_and_then f) one)
after_push e x (j ∷ l) i u z is one = by (lost e x j) (λ t rest. after_push e (again x t) l i u z rest one) is
  where
    by : (o : Option Content) → ((t : Content) → after_losses e (again x t) l ≡ Some u → after_losses e (again x t) (l ++ i ∷ []) ≡ Some z)
        → option_and_then (λ t. after_losses e (again x t) l) o ≡ Some u → option_and_then (λ t. after_losses e (again x t) (l ++ i ∷ [])) o ≡ Some z
    by None beyond is = absurd cc
    by (Some t) beyond is = beyond t is

pub numbers_push : (l : List Loss) (i : Loss) → numbers_of (l ++ i ∷ []) ≡ numbers_of l ++ loss_number i ∷ []
numbers_push l i = map-append loss_number l (i ∷ [])

as_long : (l : List Loss) → length (numbers_of l) ≡ length l
as_long [] = refl
as_long (i ∷ l) = ap (λ n. suc n) (as_long l)

-- ---- the steps of a case

module _ (e : Erasing) (x : PowerOn) (losses : List Loss) (y : PowerOn) (p : LostCase) (from : IsFrom e x losses y p) where
  pub from_layout : y.geometry ≡ x.geometry
  from_layout = ap (λ (z : PowerOn). z.geometry) from.begins_is

  at_case : (s : Content) → after_losses e x p.losses.items ≡ Some s → y ≡ again x s
  at_case s is =
      let both : Some s ≡ Some from.at = sym is ∙ ap (after_losses e x) from.losses_is ∙ from.leaves in
      let same : from.at ≡ s = cc in
      from.begins_is ∙ ap (again x) same

  step_is : (l : Loss) (u : Content) → Leaves e x p (loss_number l) u → lost e y l ≡ Some u
  step_is l u (m, s, leaves, number, is) =
      subst (λ (z : PowerOn). lost e z l ≡ Some u) (sym (at_case s leaves)) (subst (λ (k : Loss). lost e (again x s) k ≡ Some u) (same_loss m l number) is)

  pub ends_before : (i : ℕ) (u : Content) → Leaves e x p i u → i < 193 * length (ops_of y)
  ends_before i u (m, s, leaves, number, is) =
      let early = lost_early e (again x s) m.operation m.within u is in
      let same = ap (λ (z : PowerOn). length (ops_of z)) (at_case s leaves) in
      omega (arith, early, same, few_within m.within, number)

  module _ (bound index : ℕ) (cases : List LostCase) (l : Loss) (exp : IsExpanding (searched e x bound) cases index (loss_number l) p) where
    pub no_loss : lost e y l ≡ None → IsExpanding (searched e x bound) cases index (loss_number l + 1) p
    no_loss none =
        none_left (searched e x bound) cases index (loss_number l) p exp (λ u leaves.
        let some : None ≡ Some u = sym none ∙ step_is l u leaves in absurd cc)

    module _ (u : Content) (is : lost e y l ≡ Some u) where
      next_is : (digest : List ℕ) → digest ≡ flash_digest x.geometry u → (v : Content) → Leaves e x p (loss_number l) v → digest ≡ flash_digest x.geometry v
      next_is digest here v leaves =
          let both : Some u ≡ Some v = sym is ∙ step_is l v leaves in
          let same : u ≡ v = cc in
          here ∙ ap (flash_digest x.geometry) same

      pub known_loss : (v : LostCase) → Contains cases v → v.digest ≡ flash_digest x.geometry u → IsExpanding (searched e x bound) cases index (loss_number l + 1) p
      known_loss v inside digest = known (searched e x bound) cases index (loss_number l) p exp v inside (next_is v.digest digest)

      pub new_loss : (n : LostCase) → IsCaseHere (again y u) (losses ++ l ∷ []) n.digest n → n.digest ≡ flash_digest x.geometry u
          → ((c : LostCase) → Contains cases c → c.digest ≡ n.digest → ⊥) → IsExpanding (searched e x bound) (cases ++ n ∷ []) index (loss_number l + 1) p
      new_loss n here digest new =
          let begins : again y u ≡ again x u = ap (λ (z : PowerOn). again z u) from.begins_is in
          let there : after_losses e x (losses ++ l ∷ []) ≡ Some u =
          after_push e x losses l from.at u from.leaves (subst (λ (z : PowerOn). lost e z l ≡ Some u) from.begins_is is) in
          let good : IsLostCase e x n = record {
            flash = u;
            left = here.left;
            leaves = ap (after_losses e x) here.losses_is ∙ there;
            digest_is = digest;
            outcome_is = ap outcome_of (sym begins) ∙ here.outcome_is;
            left_is = ap left_by (sym begins) ∙ here.left_is;
            left_digest_is = here.left_digest_is ∙ ap (λ (z : PowerOn). flash_digest z.geometry here.left) begins;
          } in
          let long : length n.losses.items ≤ bound =
          let one = ap (λ (z : List Loss). length z) here.losses_is ∙ length-append losses (l ∷ []) in
          let same = ap (λ (z : List Loss). length z) from.losses_is in
          let asked : length p.losses.items < bound = exp.asked in
          omega (arith, one, same, asked) in
          let path : numbers_of n.losses.items ≡ numbers_of p.losses.items ++ loss_number l ∷ [] =
          ap numbers_of here.losses_is ∙ numbers_push losses l ∙ ap (λ (z : List Loss). numbers_of z ++ loss_number l ∷ []) (sym from.losses_is) in
          fresh (searched e x bound) cases index (loss_number l) p exp n (good, long) path (next_is n.digest digest) new

none_there : (l : List Loss) → length l ≡ 0 → l ≡ []
none_there [] is = refl
none_there (i ∷ l) is = absurd (omega (arith, is))

-- ---- where each case is done, all flashes are found

module _ (e : Erasing) (x : PowerOn) (bound : ℕ) (cases : List LostCase) (index : ℕ) (s : IsSearch (searched e x bound) cases index) (all : length cases ≤ index) where
  done_all : (c : LostCase) → Contains cases c → IsDone (searched e x bound) cases c
  done_all c inside =
      All-contains (IsDone (searched e x bound) cases) cases c (subst (All (IsDone (searched e x bound) cases)) (take_all index cases all) s.done) inside

  -- No case has too many losses to be gone through.
  abbrev IsWhole : Type 0
  IsWhole = (c : LostCase) → Contains cases c → length c.losses.items < bound

  module _ (safe : HasNoCollision e x) where
    child : (c : LostCase) → Contains cases c → length c.losses.items < bound → (u : Content) → after_losses e x c.losses.items ≡ Some u
        → (l : Loss) (z : Content) → lost e (again x u) l ≡ Some z
        → (v : LostCase) × Contains cases v × (after_losses e x v.losses.items ≡ Some z) × IsNoLater (numbers_of v.losses.items) (numbers_of c.losses.items ++ loss_number l ∷ [])
    child c inside few u is l z leaves =
        let v = done_all c inside few (loss_number l + 1) (loss_number l) z (omega arith) (l, u, is, refl, leaves) in
        let has = (s.each v.0 v.1).0 in
        let same : has.flash ≡ z =
        safe v.0.losses.items (c.losses.items ++ l ∷ []) has.flash z has.leaves (after_push e x c.losses.items l u z is leaves) (sym has.digest_is ∙ v.2) in
        (v.0, v.1, has.leaves ∙ ap (λ (t : Content). Some t) same, v.3)

    reach : (l : List Loss) (c : LostCase) → Contains cases c → (length c.losses.items + length l ≤ bound) ⊎ IsWhole → (u : Content) → after_losses e x c.losses.items ≡ Some u
        → (z : Content) → after_losses e (again x u) l ≡ Some z
        → (w : LostCase) × Contains cases w × (after_losses e x w.losses.items ≡ Some z) × IsNoLater (numbers_of w.losses.items) (numbers_of c.losses.items ++ numbers_of l)
    reach [] c inside few u is z leaves = (c, inside, is ∙ leaves, inl (sym (append-nil (numbers_of c.losses.items))))
    reach (i ∷ l) c inside few u is z leaves = by (lost e (again x u) i) refl leaves (λ t one rest.
        let v = child c inside (elim few [
          | inl le ↦ omega (arith, le)
          | inr whole ↦ whole c inside
        ]) u is i t one in
        let short = no_longer (numbers_of v.0.losses.items) (numbers_of c.losses.items ++ loss_number i ∷ []) v.3 in
        let lengths = length-append (numbers_of c.losses.items) (loss_number i ∷ []) in
        let vs = as_long v.0.losses.items in
        let cs = as_long c.losses.items in
        let w = reach l v.0 v.1 (elim few [
          | inl le ↦ inl (omega (arith, le, short, lengths, vs, cs))
          | inr whole ↦ inr whole
        ]) t v.2 z rest in
        let on : IsNoLater (numbers_of v.0.losses.items ++ numbers_of l) ((numbers_of c.losses.items ++ loss_number i ∷ []) ++ numbers_of l) =
        no_later_on (numbers_of v.0.losses.items) (numbers_of c.losses.items ++ loss_number i ∷ []) (numbers_of l) v.3 in
        let regroup = append_assoc (numbers_of c.losses.items) (loss_number i ∷ []) (numbers_of l) in (
          w.0,
          w.1,
          w.2,
          no_later_trans (numbers_of w.0.losses.items) (numbers_of v.0.losses.items ++ numbers_of l) (numbers_of c.losses.items ++ loss_number i ∷ numbers_of l) w.3
              (subst (IsNoLater (numbers_of v.0.losses.items ++ numbers_of l)) regroup on),
        ))
      where
        by : {A : Type 0} (o : Option Content) → lost e (again x u) i ≡ o → option_and_then (λ t. after_losses e (again (again x u) t) l) o ≡ Some z
            → ((t : Content) → lost e (again x u) i ≡ Some t → after_losses e (again (again x u) t) l ≡ Some z → A) → A
        by None one rest found = absurd cc
        by (Some t) one rest found = found t one rest

    from_root : (l : List Loss) (u : Content) → (length l ≤ bound) ⊎ IsWhole → after_losses e x l ≡ Some u
        → (c : LostCase) × Contains cases c × (after_losses e x c.losses.items ≡ Some u) × IsNoLater (numbers_of c.losses.items) (numbers_of l)
    from_root l u few is =
        let root = s.root in
        let none : length root.0.losses.items ≡ 0 = sym (as_long root.0.losses.items) ∙ ap (λ (z : List ℕ). length z) root.2 in
        let begins : after_losses e x root.0.losses.items ≡ Some x.content = ap (after_losses e x) (none_there root.0.losses.items none) in
        let w = reach l root.0 root.1 (elim few [
          | inl le ↦ inl (omega (arith, le, none))
          | inr whole ↦ inr whole
        ]) x.content begins u is in
        (w.0, w.1, w.2, subst (λ (k : List ℕ). IsNoLater (numbers_of w.0.losses.items) (k ++ numbers_of l)) root.2 w.3)

  pub are_cases : EachChainEnds → AreLostCases e x (AtMost bound) cases
  are_cases law = record {
    each = s.each;
    sorted = s.sorted;
    distinct = s.distinct;
    all = λ safe l u few is. from_root safe l u (inl few) is;
    ends = λ safe. ends_as_one law e x (AtMost bound) cases (λ l u few is. from_root safe l u (inl few) is);
  }

  pub are_all : EachChainEnds → IsWhole → AreLostCases e x AnyLosses cases
  are_all law whole = record {
    each = λ c inside. ((s.each c inside).0, tt);
    sorted = s.sorted;
    distinct = s.distinct;
    all = λ safe l u few is. from_root safe l u (inr whole) is;
    ends = λ safe. ends_as_one law e x AnyLosses cases (λ l u few is. from_root safe l u (inr whole) is);
  }

-- ---- from start to start

-- One loss more.
module _ (e : Erasing) (y : PowerOn) (l : Loss) (more : List Loss) where
  pub went_on : (u : Content) → lost e y l ≡ Some u → option_map (again y) (after_losses e y (l ∷ more)) ≡ option_map (again (again y u)) (after_losses e (again y u) more)
  went_on u is = ap (λ (o : Option Content). option_map (again y) (option_and_then (λ t. after_losses e (again y t) more) o)) is

-- The case of a start.
pub first_case : (e : Erasing) (x : PowerOn) (digest : List ℕ) (n : LostCase) → IsCaseHere x [] digest n → digest ≡ flash_digest x.geometry x.content → IsLostCase e x n
first_case e x digest n here is = record {
  flash = x.content;
  left = here.left;
  leaves = ap (after_losses e x) here.losses_is;
  digest_is = here.digest_is ∙ is;
  outcome_is = here.outcome_is;
  left_is = here.left_is;
  left_digest_is = here.left_digest_is;
}

pub next_loss : (losses : List Loss) (k : ℕ) (d : Loss) → k < length losses → drop k losses ≡ get_or losses k d ∷ drop (k + 1) losses
next_loss losses k d lt = let one : suc k ≡ k + 1 = omega arith in drop-cons losses k d lt ∙ ap (λ n. get_or losses k d ∷ drop n losses) one

-- The start that losses leave, where they can occur.
pub begins_there : (y : PowerOn) (o : Option Content) (z : PowerOn) → Some z ≡ option_map (again y) o → (u : Content) × (o ≡ Some u) × (z ≡ again y u)
begins_there y None z is = absurd cc
begins_there y (Some u) z is = (u, refl, cc)
