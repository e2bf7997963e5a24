-- A walk along entries that are cut anywhere finds what is in them.
use Rattle.std.proofs.Common.{Bool, List, None, Option, Some, [], ap, append_assoc, arith, cond, drop, eq-eqb, false, is_some, length, min, refl, subst, suc, sym, take, true, zero, ℕ, ◌++◌, ◌+◌, ◌-◌, ◌<◌, ◌∙◌, ◌∷◌, ◌≡◌, ◌≢◌, ◌≤◌}
use Rattle.std.proofs.lemmas.Bool.{eqb-true, le-ltb, lt-ltb, ltb-false, ne_eqb}
use Rattle.std.proofs.lemmas.List.{append-nil, drop-append-le, drop_all, drop_at, length-append, length-drop, length-take, nil_from_length, take-append-drop, take-append-le, take-take, take_all, take_at, take_rest}
use Rattle.std.specs.{Option.{option_map}, Prelude.{is_none, nat_lt, not, unwrap_or, ◌==◌, ◌||◌}}
use Rattle.byteorder.specs.{Endian.{little_number}, Numbers.{little_from-append}}
use Rattle.mc_image.proofs.{ByteNumbers.{take_split}, EntryLaws.{entries-first, entries-nil, entries-stuck, first-shorter, is_some-map, map_some}}
use Rattle.mc_image.proofs.{ImageLaws.{in_is, not_some, u16_at-take}, Written.{appended}}
use Rattle.mc_image.specs.Image.{Entry, after_body, area_in, digests, entries_in, entries_of, entries_within, first_entry, u16_at, u32_at}
use Rattle.mc_image.specs.Valid.{body_fault, digest_fault, fault_if, first_fault, header_fault, is_bad_area, plain_fault, protected_fault, ◌<+>◌}
use Rattle.mc_image.specs.{declared.areas.DigestValue.{DigestValue}, declared.areas.Found.{Found}, declared.areas.EntryPart.{EntryPart}}
use Rattle.mc_image.specs.{declared.areas.ProtectedArea.{ProtectedArea}, declared.areas.EntryScan.{EntryScan}, declared.error.ImageError.{ImageError}}
use Rattle.mc_image.specs.declared.error.ImageError.TheVariants.{BadTlvLength, BadTlvMagic, DigestLength, ManyDigests, NoDigest}
use Rattle.mc_image.specs.declared.gather.Gather.{Gather}
use Rattle.mc_image.specs.inner.Reading.{Finds, Follows, Goes, IsAt, IsEntered, IsInValue, IsKept, IsOne, IsOpen, Reaches, Scans, entries_fault, head_fault, held}
use Rattle.mc_image.specs.declared.areas.Found.TheVariants as found
use Rattle.mc_image.specs.declared.areas.EntryPart.TheVariants as parts_of

-- Whole entries and the one that is begun after them: what a piece more makes of them, and what is found in them.

-- ---- a number that stands in some bytes stands there whatever follows

pub u16_more : (i : ℕ) (b c : List ℕ) → i + 2 ≤ length b → u16_at i (b ++ c) ≡ u16_at i b
unfolding u16_at
u16_more i b c le = ap (little_number 2) (drop-append-le i b c (omega arith)) ∙ little_from-append 2 (drop i b) c (omega (arith, length-drop i b))

pub u32_more : (i : ℕ) (b c : List ℕ) → i + 4 ≤ length b → u32_at i (b ++ c) ≡ u32_at i b
unfolding u32_at
u32_more i b c le = ap (little_number 4) (drop-append-le i b c (omega arith)) ∙ little_from-append 4 (drop i b) c (omega (arith, length-drop i b))

-- ---- entries

-- the first entry stays the first, whatever follows
first_more : (a b : List ℕ) (x : Entry × List ℕ) → first_entry a ≡ Some x → first_entry (a ++ b) ≡ Some (x.0, x.1 ++ b)
unfolding first_entry
first_more a b x e = grind (arith, ltb-false, length-append, u16_more, le-ltb, drop-append-le, take-append-le, length-drop)

map_cons : (x : Entry) (ys : List Entry) (o : Option (List Entry)) → option_map (λ es. x ∷ es) (option_map (λ fs. ys ++ fs) o) ≡ option_map (λ fs. (x ∷ ys) ++ fs) o
map_cons x ys it = grind arith

joined_within : (n : ℕ) (a b : List ℕ) (es : List Entry) → length a ≤ n → entries_of a ≡ Some es → entries_of (a ++ b) ≡ option_map (λ fs. es ++ fs) (entries_of b)
joined_within n [] b es le e =
    let is : [] ≡ es = let f = entries-nil in cc in
    grind arith
joined_within zero (c ∷ cs) b es le e = absurd (omega arith)
joined_within (suc n) (c ∷ cs) b es le e =
    elim (first_entry (c ∷ cs)) as (λ o. first_entry (c ∷ cs) ≡ o → entries_of ((c ∷ cs) ++ b) ≡ option_map (λ fs. es ++ fs) (entries_of b)) [
      | None ↦ λ f. let s = entries-stuck (c ∷ cs) (omega arith) f in absurd cc
      | Some x ↦ λ f.
          let s = first-shorter (c ∷ cs) x f in
          let m = map_some (λ ys. x.0 ∷ ys) (entries_of x.1) es (sym (entries-first (c ∷ cs) x f) ∙ e) in
          let r = joined_within n x.1 b m.0 (omega arith) m.1 in
          let P : List Entry → Type 0 = λ ys. entries_of ((c ∷ cs) ++ b) ≡ option_map (λ fs. ys ++ fs) (entries_of b) in
          subst P m.2 (entries-first ((c ∷ cs) ++ b) (x.0, x.1 ++ b) (first_more (c ∷ cs) b x f) ∙ ap (λ o. option_map (λ ys. x.0 ∷ ys) o) r ∙ map_cons x.0 m.0 (entries_of b))
    ] refl

-- entries after entries
pub joined : (a b : List ℕ) → is_some (entries_of a) ≡ true → entries_of (a ++ b) ≡ option_map (λ fs. entries_in a ++ fs) (entries_of b)
joined a b h = joined_within (length a) a b (entries_in a) (omega arith) (in_is a h)

-- an entry that is complete
pub first_whole : (begun : List ℕ) → 4 ≤ length begun → length begun ≡ 4 + u16_at 2 begun → first_entry begun ≡ Some (record { kind = u16_at 0 begun; value = drop 4 begun }, [])
unfolding first_entry
first_whole begun four all = grind (arith, take_all, length-drop, drop_all)

one_whole : (begun : List ℕ) → 4 ≤ length begun → length begun ≡ 4 + u16_at 2 begun → entries_of begun ≡ Some (record { kind = u16_at 0 begun; value = drop 4 begun } ∷ [])
one_whole begun four all = entries-first begun _ (first_whole begun four all) ∙ ap (λ o. option_map (λ (es : List Entry). record { kind = u16_at 0 begun; value = drop 4 begun } ∷ es) o) entries-nil

-- an entry that is not, is none
pub stuck_short : (begun : List ℕ) → length begun < 4 → first_entry begun ≡ None
unfolding first_entry
stuck_short begun lt = let p : nat_lt (length begun) 4 ≡ true = lt-ltb _ _ lt in rw p refl

pub stuck_value : (begun : List ℕ) → 4 ≤ length begun → length begun < 4 + u16_at 2 begun → first_entry begun ≡ None
unfolding first_entry
stuck_value begun four lt = grind arith

module _ (whole : List ℕ) (begun : List ℕ) (filled : is_some (entries_of whole) ≡ true) where
  -- whole entries and one that is begun are not filled
  pub not_filled : 0 < length begun → first_entry begun ≡ None → is_some (entries_of (whole ++ begun)) ≡ false
  not_filled lt stuck = ap is_some (joined whole begun filled) ∙ is_some-map _ (entries_of begun) ∙ ap is_some (entries-stuck begun lt stuck)

  pub passed_filled : 4 ≤ length begun → length begun ≡ 4 + u16_at 2 begun → is_some (entries_of (whole ++ begun)) ≡ true
  passed_filled four all = ap is_some (joined whole begun filled) ∙ is_some-map _ (entries_of begun) ∙ ap is_some (one_whole begun four all)

  passed_in : 4 ≤ length begun → length begun ≡ 4 + u16_at 2 begun → entries_in (whole ++ begun) ≡ entries_in whole ++ (record { kind = u16_at 0 begun; value = drop 4 begun } ∷ [])
  unfolding entries_in
  passed_in four all = ap (λ o. unwrap_or o []) (joined whole begun filled ∙ ap (λ o. option_map (λ fs. unwrap_or (entries_of whole) [] ++ fs) o) (one_whole begun four all))

digests_beyond : (es : List Entry) (e : Entry) → digests (es ++ (e ∷ [])) ≡ digests es ++ cond (e.kind == 0x10) (e.value ∷ []) []
digests_beyond [] e = refl
digests_beyond (x ∷ es) e =
    elim (x.kind == 0x10) as (λ t. cond t (x.value ∷ digests (es ++ (e ∷ []))) (digests (es ++ (e ∷ []))) ≡ cond t (x.value ∷ digests es) (digests es) ++ cond (e.kind == 0x10) (e.value ∷ []) []) [
      | true ↦ ap (λ (l : List (List ℕ)). x.value ∷ l) (digests_beyond es e)
      | false ↦ digests_beyond es e
    ]

module _ (whole : List ℕ) (begun : List ℕ) (filled : is_some (entries_of whole) ≡ true) (four : 4 ≤ length begun) (all : length begun ≡ 4 + u16_at 2 begun) where
  -- an entry of another type is no digest
  pub passed_other : u16_at 0 begun ≢ 0x10 → digests (entries_in (whole ++ begun)) ≡ digests (entries_in whole)
  passed_other ne = grind (arith, passed_in, whole, digests_beyond, ne_eqb, append-nil)

  pub passed_digest : u16_at 0 begun ≡ 0x10 → digests (entries_in (whole ++ begun)) ≡ digests (entries_in whole) ++ (drop 4 begun ∷ [])
  passed_digest is = grind (arith, passed_in, whole, digests_beyond, eq-eqb)

-- what is said of more than one digest
pub many_fault : (ds : List (List ℕ)) → 2 ≤ length ds → digest_fault ds ≡ Some ManyDigests
many_fault it le = grind arith

-- The steps of a walk along entries.

at_place : {w : EntryScan} {bytes : List ℕ} (p : EntryPart) (r : Reaches w bytes) → w.part ≡ p → IsAt p (length r.whole) r.begun
at_place p r e = subst (λ (x : EntryPart). IsAt x (length r.whole) r.begun) e r.at

open_part : {w : EntryScan} {bytes : List ℕ} (p : EntryPart) (h : Scans w bytes) → w.part ≡ p → IsOpen p
open_part p h e = subst (λ (x : EntryPart). IsOpen x) e h.more

-- bytes of the entry that is begun
goes_on : (w : EntryScan) (old new : EntryPart) (scanned : ℕ) (piece taken rest : List ℕ) → w.part ≡ old → piece ≡ taken ++ rest → 0 < length taken → scanned ≡ w.scanned + length taken
    → ((before : ℕ) (begun : List ℕ) → w.scanned ≡ before + length begun → IsAt old before begun → IsAt new before (begun ++ taken))
    → Goes (Scans w) (Reaches (record { scanned = scanned; part = new; found = w.found })) piece rest
goes_on w old new scanned piece taken rest e split some is step = record {
  taken = taken;
  split = split;
  some = some;
  holds = λ bytes h.
      let r = h.reaches in
      record {
        whole = r.whole;
        begun = r.begun ++ taken;
        split = appended r.whole bytes _ r.begun taken r.split refl;
        filled = r.filled;
        scanned = omega (arith, length-append bytes taken, r.scanned, is);
        at = step (length r.whole) r.begun (r.scanned ∙ ap length r.split ∙ length-append r.whole r.begun) (at_place old r e);
        found = r.found;
      };
}

-- in a head
pub head_goes : (w : EntryScan) (head more : Gather 4) (part : EntryPart) (scanned : ℕ) (piece rest some : List ℕ) → w.part ≡ parts_of.Head head → 0 < length piece → Scans w some
    → held more ≡ take 4 (held head ++ piece) → rest ≡ drop (4 - length (held head)) piece → scanned ≡ w.scanned + (length piece - length rest)
    → ((before : ℕ) (begun : List ℕ) → length begun ≤ 4 → held more ≡ begun → scanned ≡ before + length begun → IsAt part before begun)
    → Goes (Scans w) (Reaches (record { scanned = scanned; part = part; found = w.found })) piece rest
head_goes w head more part scanned piece rest some e lt known is_more is_rest is_scanned after =
    let n : ℕ = 4 - length (held head) in
    let taken : List ℕ = take n piece in
    let now = at_place (parts_of.Head head) known.reaches e in
    let short : length (held head) < 4 = omega (arith, now.0, ap length now.1) in
    let l : length taken ≡ min n (length piece) = length-take n piece in
    let m : length rest ≡ length piece - n = ap length is_rest ∙ length-drop n piece in
    goes_on w (parts_of.Head head) part scanned piece taken rest e (cc (take-append-drop n piece)) (omega (arith, l, short, lt)) (omega (arith, is_scanned, l, m)) (λ before begun k at.
    let b = ap length at.1 in
    let t = length-append begun taken in
    let is : held more ≡ begun ++ taken = is_more ∙ take_split 4 (held head) piece ∙ ap (λ (x : List ℕ). x ++ taken) (take_all 4 (held head) (omega (arith, short)) ∙ at.1) in
    after before (begun ++ taken) (omega (arith, t, l, b, short)) is (omega (arith, is_scanned, l, m, k, t)))

-- in a value
in_value_more : (begun taken : List ℕ) (left t : ℕ) → IsInValue begun left → length taken ≡ t → t ≤ left → IsInValue (begun ++ taken) (left - t)
in_value_more begun taken left t at len le = grind (arith, length-append, u16_more)

kind_more : (begun taken : List ℕ) (left : ℕ) → IsInValue begun left → u16_at 0 (begun ++ taken) ≡ u16_at 0 begun
kind_more begun taken left at = u16_more 0 begun taken (omega (arith, at.head))

rest_of : (t : ℕ) (piece : List ℕ) → piece ≡ take t piece ++ take (length piece - t) (drop t piece)
rest_of t piece = cc (take-append-drop t piece, take_rest piece t)

pub value_goes : (w : EntryScan) (left t : ℕ) (piece some : List ℕ) → w.part ≡ parts_of.Value left → 0 < length piece → Scans w some → t ≡ min left (length piece)
    → Goes (Scans w) (Reaches (record { scanned = w.scanned + t; part = parts_of.Value (left - t); found = w.found })) piece (take (length piece - t) (drop t piece))
value_goes w left t piece some e lt known is =
    let open_now : 0 < left = open_part (parts_of.Value left) known e in
    let l : length (take t piece) ≡ t = omega (arith, length-take t piece, is) in
    goes_on w (parts_of.Value left) _ (w.scanned + t) piece (take t piece) _ e (rest_of t piece) (omega (arith, l, is, open_now, lt)) (omega (arith, l))
    (λ before begun _ at. (in_value_more begun (take t piece) left t at.0 l (omega (arith, is)), λ k. at.1 (sym (kind_more begun (take t piece) left at.0) ∙ k)))

pub take_again : (n : ℕ) (xs ys : List ℕ) → take n (take n xs ++ ys) ≡ take n (xs ++ ys)
take_again n xs ys = grind (arith, take_split, take-take, length-take)

kept_more : (v : DigestValue) (bytes : Gather 33) (before : ℕ) (begun taken : List ℕ) → IsKept v before begun → 4 ≤ length begun → held bytes ≡ take 33 (held v.bytes ++ taken)
    → IsKept (record { start = v.start; bytes = bytes }) before (begun ++ taken)
kept_more v bytes before begun taken k le is =
    record {
      start = k.start;
      bytes = is ∙ ap (λ (x : List ℕ). take 33 (x ++ taken)) k.bytes ∙ take_again 33 (drop 4 begun) taken ∙ ap (take 33) (sym (drop-append-le 4 begun taken le));
    }

pub digest_goes : (w : EntryScan) (left t : ℕ) (v : DigestValue) (bytes : Gather 33) (piece some : List ℕ) → w.part ≡ parts_of.Digest left v → 0 < length piece → Scans w some
    → t ≡ min left (length piece)
    → held bytes ≡ take 33 (held v.bytes ++ take t piece)
    → Goes (Scans w) (Reaches (record { scanned = w.scanned + t; part = parts_of.Digest (left - t) (record { start = v.start; bytes = bytes }); found = w.found }))
    piece (take (length piece - t) (drop t piece))
digest_goes w left t v bytes piece some e lt known is is_bytes =
    let open_now : 0 < left = open_part (parts_of.Digest left v) known e in
    let l : length (take t piece) ≡ t = omega (arith, length-take t piece, is) in
    goes_on w (parts_of.Digest left v) _ (w.scanned + t) piece (take t piece) _ e (rest_of t piece) (omega (arith, l, is, open_now, lt)) (omega (arith, l)) (λ before begun _ at.
    (in_value_more begun (take t piece) left t at.0 l (omega (arith, is)), kind_more begun (take t piece) left at.0 ∙ at.1, kept_more v bytes before begun (take t piece) at.2 at.0.head is_bytes))

-- ---- an entry is complete

complete : (begun : List ℕ) → IsInValue begun 0 → length begun ≡ 4 + u16_at 2 begun
complete begun at = let r = at.rest in omega (arith, r)

one_more : (v : DigestValue) (whole begun : List ℕ) → IsOne v whole → digests (entries_in (whole ++ begun)) ≡ digests (entries_in whole) → IsOne v (whole ++ begun)
one_more v whole begun one same = grind (arith, append_assoc)

finds_more : (f : Found) (whole begun : List ℕ) → Finds f whole → digests (entries_in (whole ++ begun)) ≡ digests (entries_in whole) → Finds f (whole ++ begun)
finds_more it whole begun h same = grind (arith, whole, one_more)

-- the first digest
pub found_first : (v : DigestValue) (whole begun : List ℕ) → digests (entries_in whole) ≡ [] → is_some (entries_of whole) ≡ true → IsEntered v (length whole) begun → IsOne v (whole ++ begun)
found_first v whole begun none filled is =
    let l : length (take 4 begun) ≡ 4 = omega (arith, length-take 4 begun, is.value.head) in
    record {
      value = drop 4 begun;
      one = passed_digest whole begun filled is.value.head (complete begun is.value) is.kind ∙ ap (λ (ds : List (List ℕ)). ds ++ (drop 4 begun ∷ [])) none;
      bytes = is.kept.bytes;
      prefix = whole ++ take 4 begun;
      back = [];
      stands = ap (λ (x : List ℕ). whole ++ x) (sym (take-append-drop 4 begun)) ∙ sym (append_assoc whole (take 4 begun) (drop 4 begun))
          ∙ ap (λ (x : List ℕ). (whole ++ take 4 begun) ++ x) (sym (append-nil (drop 4 begun)));
      start = let s = is.kept.start in omega (arith, s, l, length-append whole (take 4 begun));
    }

-- a further one
pub found_further : (v : DigestValue) (whole begun : List ℕ) → 0 < length (digests (entries_in whole)) → is_some (entries_of whole)
    ≡ true → IsEntered v (length whole) begun → 2 ≤ length (digests (entries_in (whole ++ begun)))
found_further v whole begun lt filled is = grind (arith, passed_digest, complete, length-append)

filled_is : (bytes whole begun : List ℕ) → bytes ≡ whole ++ begun → is_some (entries_of whole) ≡ true → IsInValue begun 0 → is_some (entries_of bytes) ≡ true
filled_is bytes whole begun split filled at = ap (λ (x : List ℕ). is_some (entries_of x)) split ∙ passed_filled whole begun filled at.head (complete begun at)

zero_left : (left : ℕ) (begun : List ℕ) → left ≤ 0 → IsInValue begun left → IsInValue begun 0
zero_left left begun le at = let e : left ≡ 0 = omega (arith, le) in subst (λ (n : ℕ). IsInValue begun n) e at

pub finished_value : (w : EntryScan) (left : ℕ) (bytes : List ℕ) → w.part ≡ parts_of.Value left → left ≤ 0 → Reaches w bytes → (is_some (entries_of bytes) ≡ true) × Finds w.found bytes
finished_value w left bytes e le r =
    let at = at_place (parts_of.Value left) r e in
    let done = zero_left left r.begun le at.0 in
    let same = passed_other r.whole r.begun r.filled done.head (complete r.begun done) at.1 in
    (filled_is bytes r.whole r.begun r.split r.filled done, subst (λ (x : List ℕ). Finds w.found x) (sym r.split) (finds_more w.found r.whole r.begun r.found same))

pub finished_digest : (w : EntryScan) (left : ℕ) (v : DigestValue) (f : Found) (bytes : List ℕ) → w.part ≡ parts_of.Digest left v → left ≤ 0 → Reaches w bytes
    → ((whole begun : List ℕ) → Finds w.found whole → is_some (entries_of whole) ≡ true → IsEntered v (length whole) begun → Finds f (whole ++ begun))
    → (is_some (entries_of bytes) ≡ true) × Finds f bytes
finished_digest w left v f bytes e le r with_it =
    let at = at_place (parts_of.Digest left v) r e in
    let done = zero_left left r.begun le at.0 in
    let P : List ℕ → Type 0 = λ x. Finds f x in
    (filled_is bytes r.whole r.begun r.split r.filled done, subst P (sym r.split) (with_it r.whole r.begun r.found r.filled (record { value = done; kind = at.1; kept = at.2 })))

-- ---- at the end

between_cases : (n : ℕ) (whole begun : List ℕ) → length begun ≡ n → n < 4 → is_some (entries_of whole) ≡ true → (n == 0) ≡ is_some (entries_of (whole ++ begun))
between_cases it whole begun e lt filled = grind (arith, whole, nil_from_length, append-nil, ne_eqb, not_filled, stuck_short)

pub between_head : (w : EntryScan) (head : Gather 4) (bytes : List ℕ) → w.part ≡ parts_of.Head head → Scans w bytes → (length (held head) == 0) ≡ is_some (entries_of bytes)
between_head w head bytes e h =
    let r = h.reaches in
    let at = at_place (parts_of.Head head) r e in
    between_cases (length (held head)) r.whole r.begun (sym (ap length at.1)) (let l = ap length at.1 in let s = at.0 in omega (arith, l, s)) r.filled
    ∙ ap (λ (x : List ℕ). is_some (entries_of x)) (sym r.split)

not_between : (w : EntryScan) (left : ℕ) (bytes : List ℕ) (r : Reaches w bytes) → IsInValue r.begun left → 0 < left → false ≡ is_some (entries_of bytes)
not_between w left bytes r at lt =
    sym (ap (λ (x : List ℕ). is_some (entries_of x)) r.split ∙ not_filled r.whole r.begun r.filled (omega (arith, at.head)) (stuck_value r.begun at.head (omega (arith, at.rest, lt))))

pub between_value : (w : EntryScan) (left : ℕ) (bytes : List ℕ) → w.part ≡ parts_of.Value left → Scans w bytes → false ≡ is_some (entries_of bytes)
between_value w left bytes e h = not_between w left bytes h.reaches (at_place (parts_of.Value left) h.reaches e).0 (open_part (parts_of.Value left) h e)

pub between_digest : (w : EntryScan) (left : ℕ) (v : DigestValue) (bytes : List ℕ) → w.part ≡ parts_of.Digest left v → Scans w bytes → false ≡ is_some (entries_of bytes)
between_digest w left v bytes e h = not_between w left bytes h.reaches (at_place (parts_of.Digest left v) h.reaches e).0 (open_part (parts_of.Digest left v) h e)

-- where entries fill the bytes, all of them were found
found_at : (w : EntryScan) (bytes : List ℕ) → Scans w bytes → is_some (entries_of bytes) ≡ true → Finds w.found bytes
found_at w bytes h filled = at_cases w.part refl
  where
    no : false ≡ is_some (entries_of bytes) → Finds w.found bytes
    no e = absurd (let q : false ≡ true = e ∙ filled in cc)

    in_head : (n : ℕ) → length h.reaches.begun ≡ n → n < 4 → Finds w.found bytes
    in_head zero e lt =
        let r = h.reaches in
        subst (λ (x : List ℕ). Finds w.found x) (sym (r.split ∙ ap (λ (x : List ℕ). r.whole ++ x) (nil_from_length r.begun e) ∙ append-nil r.whole)) r.found
    in_head (suc n) e lt =
        let r = h.reaches in
        no (sym (ap (λ (x : List ℕ). is_some (entries_of x)) r.split ∙ not_filled r.whole r.begun r.filled (omega (arith, e)) (stuck_short r.begun (omega (arith, e, lt)))))

    at_cases : (p : EntryPart) → w.part ≡ p → Finds w.found bytes
    at_cases (parts_of.Head head) e = in_head (length h.reaches.begun) refl (at_place (parts_of.Head head) h.reaches e).0
    at_cases (parts_of.Value left) e = no (between_value w left bytes e h)
    at_cases (parts_of.Digest left v) e = no (between_digest w left v bytes e h)

module _ (w : EntryScan) (bytes : List ℕ) (h : Scans w bytes) (filled : is_some (entries_of bytes) ≡ true) where
  at_found : (f : Found) → w.found ≡ f → Finds f bytes
  at_found f e = subst (λ (x : Found). Finds x bytes) e (found_at w bytes h filled)

  pub digest_none : w.found ≡ found.Nothing → digest_fault (digests (entries_in bytes)) ≡ Some NoDigest
  digest_none e = ap digest_fault (at_found found.Nothing e)

  pub digest_many : w.found ≡ found.Many → digest_fault (digests (entries_in bytes)) ≡ Some ManyDigests
  digest_many e = many_fault (digests (entries_in bytes)) (at_found found.Many e)

  pub digest_one : (v : DigestValue) → w.found ≡ found.One v → IsOne v bytes
  digest_one v e = at_found (found.One v) e

  pub digest_length : (v : DigestValue) → w.found ≡ found.One v → length (held v.bytes) ≢ 32 → digest_fault (digests (entries_in bytes)) ≡ Some DigestLength
  digest_length v e ne =
      let one = at_found (found.One v) e in
      let l = ap length one.bytes ∙ length-take 33 one.value in
      let t : (length one.value == 32) ≡ false = ne_eqb _ _ (λ (q : length one.value ≡ 32). ne (let m : length (held v.bytes) ≡ 32 = omega (arith, l, q) in m)) in
      ap digest_fault one.one ∙ rw t refl

-- before the first byte
pub scan_new : (head : Gather 4) → held head ≡ [] → Scans (record { scanned = 0; part = parts_of.Head head; found = found.Nothing }) []
unfolding entries_in entries_of entries_within
scan_new head none = grind arith

-- a step, and what it settles
pub stepped : {w mid new : EntryScan} {piece rest : List ℕ} → Goes (Scans w) (Reaches mid) piece rest → ((bytes : List ℕ) → Reaches mid bytes → Scans new bytes) → Goes (Scans w) (Scans new) piece rest
stepped g settles = record { taken = g.taken; split = g.split; some = g.some; holds = λ bytes h. settles (bytes ++ g.taken) (g.holds bytes h) }

-- a piece in turn
pub gone_on : {old new : List ℕ → Type 0} (piece rest : List ℕ) → Goes old new piece rest → (all seen : List ℕ) → seen ++ piece ≡ all → old seen → (more : List ℕ) × (more ++ rest ≡ all) × new more
gone_on piece rest g all seen e h = (seen ++ g.taken, append_assoc seen g.taken rest ∙ ap (λ (x : List ℕ). seen ++ x) (sym g.split) ∙ e, g.holds seen h)

pub gone_all : (p : List ℕ → Type 0) (all rest seen : List ℕ) → length rest ≡ 0 → seen ++ rest ≡ all → p seen → p all
gone_all p all rest seen none e h = subst p (sym (append-nil seen) ∙ ap (λ (x : List ℕ). seen ++ x) (sym (nil_from_length rest none)) ∙ e) h

-- something was found before
pub some_one : (f : Found) (v : DigestValue) (whole : List ℕ) → f ≡ found.One v → Finds f whole → 0 < length (digests (entries_in whole))
some_one f v whole e h = grind arith

pub some_many : (f : Found) (whole : List ℕ) → f ≡ found.Many → Finds f whole → 0 < length (digests (entries_in whole))
some_many f whole e h = grind arith

-- Areas that come in pieces.

-- a piece more of an area
module _ (a : ProtectedArea) (head : Gather 4) (scan : EntryScan) (piece entries : List ℕ) (is_head : held head ≡ take 4 (held a.head ++ piece))
    (is_entries : entries ≡ drop (4 - length (held a.head)) piece) where
  pub follows_more : ((bytes : List ℕ) → Scans a.scan bytes → Scans scan (bytes ++ entries)) → (bytes : List ℕ) → Follows a bytes → Follows (record { head = head; scan = scan }) (bytes ++ piece)
  follows_more goes bytes f = grind arith

none_some : {A : Type 0} (o : Option A) → not (is_some o) ≡ is_none o
none_some it = grind arith

pub bad_short : (a : ProtectedArea) (bytes : List ℕ) → Follows a bytes → (length (held a.head) == 4) ≡ false → true ≡ is_bad_area 0x6908 bytes
unfolding is_bad_area
bad_short a bytes f e = grind arith

module _ (a : ProtectedArea) (total : ℕ) (bytes : List ℕ) (f : Follows a bytes) (full : (length (held a.head) == 4) ≡ true) (is_total : total ≡ length bytes) where
  -- the parts of the test
  whole : (m n : Bool) → (not (u16_at 0 (held a.head) == 0x6908)) ≡ m → (not (u16_at 2 (held a.head) == total)) ≡ n → is_bad_area 0x6908 bytes ≡ (m || (n || is_none (entries_of (drop 4 bytes))))
  unfolding is_bad_area
  whole m n e g =
      let four : length (held a.head) ≡ 4 = eqb-true _ _ full in
      let le : 4 ≤ length bytes = omega (arith, length-take 4 bytes, ap length f.head, four) in
      let t : nat_lt (length bytes) 4 ≡ false = le-ltb _ _ le in
      let e0 : u16_at 0 bytes ≡ u16_at 0 (held a.head) = sym (ap (u16_at 0) f.head ∙ u16_at-take bytes 0 4 (omega arith)) in
      let e2 : u16_at 2 bytes ≡ u16_at 2 (held a.head) = sym (ap (u16_at 2) f.head ∙ u16_at-take bytes 2 4 (omega arith)) in
      rw (t, e0, e2, ← is_total, e, g) refl

  pub bad_head : (not (u16_at 0 (held a.head) == 0x6908) || not (u16_at 2 (held a.head) == total)) ≡ true → true ≡ is_bad_area 0x6908 bytes
  bad_head e = either (not (u16_at 0 (held a.head) == 0x6908)) (not (u16_at 2 (held a.head) == total)) (is_none (entries_of (drop 4 bytes))) e ∙ sym (whole _ _ refl refl)
    where
      either : (m n o : Bool) → (m || n) ≡ true → true ≡ (m || (n || o))
      either true n o e = refl
      either false true o e = refl
      either false false o e = absurd (cc)

  pub bad_entries : (between : Bool) → (not (u16_at 0 (held a.head) == 0x6908) || not (u16_at 2 (held a.head) == total))
      ≡ false → between ≡ is_some (entries_of (drop 4 bytes)) → not between ≡ is_bad_area 0x6908 bytes
  bad_entries between e is = ap not is ∙ none_some (entries_of (drop 4 bytes))
      ∙ neither (not (u16_at 0 (held a.head) == 0x6908)) (not (u16_at 2 (held a.head) == total)) (is_none (entries_of (drop 4 bytes))) e ∙ sym (whole _ _ refl refl)
    where
      neither : (m n o : Bool) → (m || n) ≡ false → o ≡ (m || (n || o))
      neither true n o e = absurd (cc)
      neither false true o e = absurd (cc)
      neither false false o e = refl

-- The faults of a plain area by its head, and by the entries after it.

earlier : (a b c : Bool) (e : ImageError) → (fault_if a BadTlvMagic <+> fault_if b BadTlvLength) ≡ Some e → (fault_if a BadTlvMagic <+> fault_if (b || c) BadTlvLength) ≡ Some e
earlier it b c e h = grind arith

-- what is wrong by the head is wrong
pub head_first : (x : List ℕ) (e : ImageError) → head_fault x ≡ Some e → plain_fault x ≡ Some e
unfolding head_fault plain_fault
head_first x e h = earlier (nat_lt (length x) 4 || not (u16_at 0 x == 0x6907)) (nat_lt (u16_at 2 x) 4) (nat_lt (length x) (u16_at 2 x) || is_none (entries_of (drop 4 (area_in x)))) e h

later : (a b c : Bool) → (fault_if a BadTlvMagic <+> fault_if b BadTlvLength) ≡ None → (fault_if a BadTlvMagic <+> fault_if (b || c) BadTlvLength) ≡ fault_if c BadTlvLength
later it b c h = grind arith

beyond_head : (x : List ℕ) → head_fault x ≡ None → plain_fault x ≡ fault_if (nat_lt (length x) (u16_at 2 x) || is_none (entries_of (drop 4 (area_in x)))) BadTlvLength
unfolding head_fault plain_fault
beyond_head x h = later (nat_lt (length x) 4 || not (u16_at 0 x == 0x6907)) (nat_lt (u16_at 2 x) 4) (nat_lt (length x) (u16_at 2 x) || is_none (entries_of (drop 4 (area_in x)))) h

pub plain_short : (x : List ℕ) → head_fault x ≡ None → length x < u16_at 2 x → plain_fault x ≡ Some BadTlvLength
plain_short x h lt = grind (arith, beyond_head)

plain_whole : (x : List ℕ) → head_fault x ≡ None → u16_at 2 x ≤ length x → plain_fault x ≡ fault_if (is_none (entries_of (drop 4 (area_in x)))) BadTlvLength
plain_whole x h le = grind (arith, beyond_head)

-- the fault of a plain area that is whole is that of its entries
pub plain_entries : (x y : List ℕ) → head_fault x ≡ None → u16_at 2 x ≤ length x → y ≡ drop 4 (area_in x)
    → (plain_fault x <+> digest_fault (digests (entries_in (drop 4 (area_in x))))) ≡ entries_fault y
unfolding entries_fault
plain_entries x y h le is = grind (arith, plain_whole)

pub plain_none : (x y : List ℕ) → head_fault x ≡ None → u16_at 2 x ≤ length x → y ≡ drop 4 (area_in x) → is_some (entries_of y) ≡ true → plain_fault x ≡ None
plain_none x y h le is filled = grind (arith, plain_whole, not_some)

-- the digest of 32 bytes, as it stands among the entries
pub digest_stands : (v : DigestValue) (y : List ℕ) → IsOne v y → length (held v.bytes) ≡ 32 → (take 32 (drop v.start y) ≡ held v.bytes)
    × (digests (entries_in y) ≡ held v.bytes ∷ []) × (v.start + 32 ≤ length y)
digest_stands v y one len =
    let size : length one.value ≡ 32 = omega (arith, ap length one.bytes ∙ length-take 33 one.value, len) in
    let value : held v.bytes ≡ one.value = one.bytes ∙ take_all 33 one.value (omega (arith, size)) in
    let at : drop v.start y ≡ one.value ++ one.back = ap (drop v.start) one.stands ∙ drop_at one.prefix (one.value ++ one.back) v.start (sym one.start) in
    let n = length-append one.value one.back in (
      ap (take 32) at ∙ take_at one.value one.back 32 size ∙ sym value,
      one.one ∙ ap (λ (d : List ℕ). d ∷ []) (sym value),
      omega (arith, one.start, ap length one.stands ∙ length-append one.prefix (one.value ++ one.back), n, size),
    )

pub digest_good : (ds : List (List ℕ)) (d : List ℕ) → ds ≡ d ∷ [] → length d ≡ 32 → digest_fault ds ≡ None
digest_good ds d e len = grind arith

-- the first fault where header, body and protected area have none
pub late_fault : (b : List ℕ) → header_fault b ≡ None → body_fault b ≡ None → protected_fault b ≡ None
    → first_fault b ≡ (plain_fault (after_body b) <+> digest_fault (digests (entries_in (drop 4 (area_in (after_body b))))))
unfolding first_fault
late_fault b h1 h2 h3 = rw (h1, h2, h3) refl

pub beyond_error : (o p : Option ImageError) (e : ImageError) → o ≡ Some e → (o <+> p) ≡ Some e
beyond_error o p e h = ap (λ x. x <+> p) h
