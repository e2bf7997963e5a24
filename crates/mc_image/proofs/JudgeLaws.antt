-- What the first bytes of an image say stays said; a judge's answers and steps.
use Rattle.std.proofs.Common.{Bool, Err, List, None, Ok, Some, [], ap, append_assoc, arith, drop, false, inl, inr, is_some, length, length-append, min, refl, subst, sym, take, true, ℕ, ◌++◌, ◌+◌, ◌-◌, ◌<◌, ◌∙◌, ◌∷◌, ◌≡◌, ◌≢◌, ◌≤◌}
use Rattle.std.proofs.lemmas.Bool.{cases_lt, le-ltb, lt-ltb}
use Rattle.std.proofs.lemmas.List.{append-nil, append_cancel_right, drop-append-le, drop_at, get_or-append_right, get_or_append_left, length-drop, length-take, take-append-drop, take-append-le, take_all, take_at, take_min}
use Rattle.std.specs.Prelude.{Result, is_none, nat_lt, not, ◌&&◌, ◌==◌}
use Rattle.mc_image.proofs.{ByteNumbers.{IsBytes-take, take_split}, ImageLaws.{cut_is, not_some, reading, size_is}, Views.{fault_read, from_parts}}
use Rattle.mc_image.proofs.{Scans.{beyond_error, digest_good, late_fault, plain_entries, plain_short, u16_more, u32_more}, Written.{appended}}
use Rattle.mc_image.specs.Image.{IsBytes, after_body, area_in, covered_text, digest_of, digests, entries_in, entries_of, header_end, header_in, image_in, image_text, payload_end, payload_in, protected_end, protected_in, protected_text, u16_at, version_in}
use Rattle.mc_image.specs.Valid.{body_fault, digest_fault, fault_if, first_fault, header_fault, is_bad_area, plain_fault, protected_fault, ◌<+>◌}
use Rattle.mc_image.specs.{declared.areas.ProtectedArea.{ProtectedArea}, declared.areas.EntryScan.{EntryScan}, declared.error.ImageError.{ImageError}}
use Rattle.mc_image.specs.declared.error.ImageError.TheVariants.{BadProtected, BadTlvLength, BadTlvMagic, Truncated, TruncatedBody, WrongDigest}
use Rattle.mc_image.specs.{declared.gather.Gather.{Gather}, declared.header.Header.{Header}, declared.judge.Judge.{Judge}, declared.judge.Judged.{Judged}}
use Rattle.mc_image.specs.{declared.judge.Sealed.{Sealed}, declared.judge.Stage.{Stage}, facts.Valid.{good_false, good_true}}
use Rattle.mc_image.specs.inner.Judging.{HasHeader, IsBeyond, IsInStage, IsPlain, IsProtected, IsSealed}
use Rattle.mc_image.specs.Judging.{Judges}
use Rattle.mc_image.specs.Verdict.{judged_or_fault, verdict}
use Rattle.mc_image.specs.inner.Reading.{Follows, Goes, IsHeader, Scans, entries_fault, head_fault, held}
use Rattle.sha2.specs.{Hashers.{Holds256}, declared.Sha256.{Sha256}}
use Rattle.mc_image.specs.declared.judge.Stage.TheVariants as stages

-- What the first bytes of an image say stays said, whatever follows.

-- a fault is the answer
pub fault_verdict : (b : List ℕ) (e : ImageError) → first_fault b ≡ Some e → verdict b ≡ Err e
unfolding verdict
fault_verdict b e h = ap (judged_or_fault _) (fault_read b e h)

-- ---- the header's fields

module _ (b c : List ℕ) (long : 32 ≤ length b) where
  longer : 32 ≤ length (b ++ c)
  longer = omega (arith, length-append b c, long)

  pub header_fault_more : header_fault (b ++ c) ≡ header_fault b
  unfolding header_fault
  header_fault_more = grind (arith, longer, long, u32_more, u16_more)

  pub payload_end_more : payload_end (b ++ c) ≡ payload_end b
  unfolding payload_end header_end
  payload_end_more = omega (arith, u16_more 8 b c (omega (arith, long)), u32_more 12 b c (omega (arith, long)))

  pub protected_end_more : protected_end (b ++ c) ≡ protected_end b
  unfolding protected_end
  protected_end_more = omega (arith, payload_end_more, u16_more 10 b c (omega (arith, long)))

  pub version_more : version_in (b ++ c) ≡ version_in b
  unfolding version_in
  version_more = grind (arith, get_or_append_left, long, u16_more, u32_more)

pub has_header_more : (h : Header) (b c : List ℕ) → HasHeader h b → HasHeader h (b ++ c)
has_header_more h b c has =
    let long = has.long in
    record {
      none = header_fault_more b c long ∙ has.none;
      long = omega (arith, length-append b c, long);
      size = has.size;
      fields = record {
        size = has.fields.size ∙ sym (u16_more 8 b c (omega (arith, long)));
        protected = has.fields.protected ∙ sym (u16_more 10 b c (omega (arith, long)));
        payload = has.fields.payload ∙ sym (u32_more 12 b c (omega (arith, long)));
        version = has.fields.version ∙ sym (version_more b c long);
      };
    }

pub header_ends : (h : Header) (b : List ℕ) → IsHeader h b → (payload_end b ≡ h.size + h.payload) × (protected_end b ≡ h.size + h.payload + h.protected)
unfolding payload_end header_end protected_end
header_ends h b f = (omega (arith, f.size, f.payload), omega (arith, f.size, f.payload, f.protected))

fault_header : (b : List ℕ) (e : ImageError) → header_fault b ≡ Some e → first_fault b ≡ Some e
unfolding first_fault
fault_header b e h = beyond_error (header_fault b) _ e h

pub header_error : (b c : List ℕ) (e : ImageError) → 32 ≤ length b → header_fault b ≡ Some e → verdict (b ++ c) ≡ Err e
header_error b c e long h = fault_verdict (b ++ c) e (fault_header (b ++ c) e (header_fault_more b c long ∙ h))

pub fields_short : (b : List ℕ) → length b < 32 → verdict b ≡ Err Truncated
unfolding header_fault
fields_short b lt = let t : nat_lt (length b) 32 ≡ true = lt-ltb _ _ lt in fault_verdict b Truncated (fault_header b Truncated (rw t refl))

second_fault : (b : List ℕ) (e : ImageError) → header_fault b ≡ None → body_fault b ≡ Some e → first_fault b ≡ Some e
unfolding first_fault
second_fault b e h1 h2 = rw (h1, h2) refl

pub body_short : (b : List ℕ) → header_fault b ≡ None → length b < protected_end b → verdict b ≡ Err TruncatedBody
unfolding body_fault
body_short b none lt = let t : nat_lt (length b) (protected_end b) ≡ true = lt-ltb _ _ lt in fault_verdict b TruncatedBody (second_fault b TruncatedBody none (rw t refl))

pub body_whole : (b : List ℕ) → protected_end b ≤ length b → body_fault b ≡ None
unfolding body_fault
body_whole b le = let t : nat_lt (length b) (protected_end b) ≡ false = le-ltb _ _ le in rw t refl

third_fault : (b : List ℕ) (e : ImageError) → header_fault b ≡ None → body_fault b ≡ None → protected_fault b ≡ Some e → first_fault b ≡ Some e
unfolding first_fault
third_fault b e h1 h2 h3 = rw (h1, h2, h3) refl

-- ---- header, payload and protected area

-- the protected area of a body that ends with it
pub protected_is : (prefix rest : List ℕ) → 32 ≤ length prefix → length prefix ≡ payload_end prefix → length rest ≡ u16_at 10 prefix → (more : List ℕ) → protected_in (prefix ++ (rest ++ more)) ≡ rest
unfolding protected_in
protected_is prefix rest long len size more = grind (arith, payload_end_more, u16_more, drop_at, take_at)

pub protected_none : (b : List ℕ) → u16_at 10 b ≡ 0 → protected_fault b ≡ None
unfolding protected_fault
protected_none b e = rw e refl

by_area : (b : List ℕ) (t : Bool) → u16_at 10 b ≢ 0 → is_bad_area 0x6908 (protected_in b) ≡ t → protected_fault b ≡ fault_if t BadProtected
unfolding protected_fault
by_area b t ne is = grind arith

-- by the test of the area
module _ (h : Header) (prefix rest : List ℕ) (has : HasHeader h prefix) (len : length prefix ≡ payload_end prefix) (size : length rest ≡ h.protected) (ne : h.protected ≢ 0) where
  pub protected_tested : (more : List ℕ) (t : Bool) → t ≡ is_bad_area 0x6908 rest → protected_fault (prefix ++ (rest ++ more)) ≡ fault_if t BadProtected
  protected_tested more t is =
      let long = has.long in
      let q = has.fields.protected in
      let m = u16_more 10 prefix (rest ++ more) (omega (arith, long)) in
      by_area (prefix ++ (rest ++ more)) t (λ (z : u16_at 10 (prefix ++ (rest ++ more)) ≡ 0). ne (q ∙ sym m ∙ z)) (ap (is_bad_area 0x6908) (protected_is prefix rest long len (size ∙ q) more) ∙ sym is)

  pub body_ends : length (prefix ++ rest) ≡ protected_end (prefix ++ rest)
  body_ends =
      let e = (header_ends h prefix has.fields) in
      omega (arith, length-append prefix rest, len, size, e.0, e.1, protected_end_more prefix rest has.long)

  pub protected_bad : (more : List ℕ) → true ≡ is_bad_area 0x6908 rest → verdict ((prefix ++ rest) ++ more) ≡ Err BadProtected
  protected_bad more is =
      let b : List ℕ = prefix ++ (rest ++ more) in
      let p = protected_end_more (prefix ++ rest) more (omega (arith, length-append prefix rest, has.long)) in
      let same = append_assoc prefix rest more in
      let whole : protected_end b ≤ length b = subst (λ (x : List ℕ). protected_end x ≤ length x) same (omega (arith, body_ends, length-append (prefix ++ rest) more, p)) in
      ap verdict same ∙ fault_verdict b BadProtected (third_fault b BadProtected (header_fault_more prefix (rest ++ more) has.long ∙ has.none) (body_whole b whole) (protected_tested more true is))

-- ---- after header, payload and protected area
module _ (s : Sealed) (body : List ℕ) (is : IsSealed s body) (rest : List ℕ) where
  long : 32 ≤ length body
  long = is.header.long

  ends : protected_end (body ++ rest) ≡ length body
  ends = protected_end_more body rest long ∙ sym is.whole

  pub after_is : after_body (body ++ rest) ≡ rest
  unfolding after_body
  after_is = drop_at body rest (protected_end (body ++ rest)) (sym ends)

  same_protected : protected_in (body ++ rest) ≡ protected_in body
  unfolding protected_in protected_end
  same_protected =
      let p = payload_end_more body rest long in
      let q = u16_more 10 body rest (omega (arith, long)) in
      ap (λ (n : ℕ). take n (drop (payload_end (body ++ rest)) (body ++ rest))) q
      ∙ ap (λ (n : ℕ). take (u16_at 10 body) (drop n (body ++ rest))) p
      ∙ ap (take (u16_at 10 body)) (drop-append-le (payload_end body) body rest (omega (arith, is.whole)))
      ∙ take-append-le (u16_at 10 body) (drop (payload_end body) body) rest (omega (arith, is.whole, length-drop (payload_end body) body))

  same_fault : protected_fault (body ++ rest) ≡ protected_fault body
  unfolding protected_fault
  same_fault =
      let q = u16_more 10 body rest (omega (arith, long)) in
      ap (λ (n : ℕ). fault_if (not (n == 0) && is_bad_area 0x6908 (protected_in (body ++ rest))) BadProtected) q
      ∙ ap (λ (x : List ℕ). fault_if (not (u16_at 10 body == 0) && is_bad_area 0x6908 x) BadProtected) same_protected

  -- the first fault is that of what follows
  pub fault_beyond : first_fault (body ++ rest) ≡ (plain_fault rest <+> digest_fault (digests (entries_in (drop 4 (area_in rest)))))
  fault_beyond = grind (arith, late_fault, header_fault_more, long, body_whole, ends, length-append, same_fault, after_is)

  pub plain_error : (e : ImageError) → plain_fault rest ≡ Some e → verdict (body ++ rest) ≡ Err e
  plain_error e h = fault_verdict (body ++ rest) e (fault_beyond ∙ beyond_error (plain_fault rest) _ e h)

-- The answer for a plain area that is whole.

-- a head stays without a fault, whatever follows
pub head_fault_more : (a more : List ℕ) → 4 ≤ length a → head_fault (a ++ more) ≡ head_fault a
unfolding head_fault
head_fault_more a more four = grind (arith, length-append, u16_more)

module _ (s : Sealed) (body : List ℕ) (is : IsSealed s body) (t : ℕ) (scan : EntryScan) (area : List ℕ) (plain : IsPlain t 0 scan area) (more : List ℕ) where
  total : u16_at 2 (area ++ more) ≡ length area
  total = omega (arith, plain.total, plain.left, u16_more 2 area more (omega (arith, plain.head)))

  area_is : area_in (area ++ more) ≡ area
  unfolding area_in
  area_is = take_at area more (u16_at 2 (area ++ more)) (sym total)

  first_is : first_fault (body ++ (area ++ more)) ≡ entries_fault (drop 4 area)
  first_is =
      fault_beyond s body is (area ++ more)
      ∙ plain_entries (area ++ more) (drop 4 area) (head_fault_more area more plain.head ∙ plain.none) (omega (arith, total, length-append area more)) (ap (drop 4) (sym area_is))

  -- a fault of the entries
  pub entries_error : (e : ImageError) → entries_fault (drop 4 area) ≡ Some e → verdict (body ++ (area ++ more)) ≡ Err e
  entries_error e h = fault_verdict (body ++ (area ++ more)) e (first_is ∙ h)

  none_is : (d : List ℕ) → is_some (entries_of (drop 4 area)) ≡ true → digests (entries_in (drop 4 area)) ≡ d ∷ [] → length d ≡ 32 → first_fault (body ++ (area ++ more)) ≡ None
  unfolding entries_fault
  none_is d filled one len = first_is ∙ (let t : is_none (entries_of (drop 4 area)) ≡ false = not_some _ filled in rw t (digest_good (digests (entries_in (drop 4 area))) d one len))

  after : after_body (body ++ (area ++ more)) ≡ area ++ more
  after = after_is s body is (area ++ more)

  digest_is : (d : List ℕ) → digests (entries_in (drop 4 area)) ≡ d ∷ [] → digest_of (image_in (body ++ (area ++ more))) ≡ d
  unfolding digest_of image_in
  digest_is d one = grind (arith, after, area_is)

  version_is : (image_in (body ++ (area ++ more))).version ≡ s.header.version
  unfolding image_in
  version_is = version_more body (area ++ more) is.header.long ∙ sym is.header.fields.version

  module _ (h : IsBytes (body ++ (area ++ more))) (d : List ℕ) (filled : is_some (entries_of (drop 4 area)) ≡ true) (one : digests (entries_in (drop 4 area)) ≡ d ∷ []) (len : length d ≡ 32) where
    whole : protected_end (body ++ (area ++ more)) ≤ length (body ++ (area ++ more))
    whole = omega (arith, is.whole, protected_end_more body (area ++ more) is.header.long, length-append body (area ++ more))

    covered : covered_text (image_in (body ++ (area ++ more))) ≡ body
    unfolding covered_text
    covered =
        let b : List ℕ = body ++ (area ++ more) in
        let r = reading b h (none_is d filled one len) in
        let cut = (cut_is b whole).whole in
        let split : (header_in b ++ (payload_in b ++ protected_in b)) ++ (area ++ more) ≡ b =
        append_assoc (header_in b) (payload_in b ++ protected_in b) (area ++ more)
        ∙ ap (λ (x : List ℕ). header_in b ++ x) (append_assoc (payload_in b) (protected_in b) (area ++ more))
        ∙ ap (λ (x : List ℕ). header_in b ++ (payload_in b ++ (protected_in b ++ x))) (sym after) ∙ sym cut in
        ap (λ (x : List ℕ). x ++ ((image_in b).payload ++ protected_text (image_in b))) r.header
        ∙ ap (λ (x : List ℕ). header_in b ++ (x ++ protected_text (image_in b))) r.payload
        ∙ ap (λ (x : List ℕ). header_in b ++ (payload_in b ++ x)) r.protected
        ∙ append_cancel_right (header_in b ++ (payload_in b ++ protected_in b)) body (area ++ more) split

    size : length (image_text (image_in (body ++ (area ++ more)))) ≡ length body + length area
    unfolding covered_text
    size = grind (arith, reading, none_is, after, area_is, size_is, covered, length-append)

    -- another digest
    pub digest_wrong : (s.digest ≡ d → ⊥) → verdict (body ++ (area ++ more)) ≡ Err WrongDigest
    unfolding verdict
    digest_wrong ne = grind (arith, from_parts, none_is, good_false, covered, digest_is)

    pub digest_right : (n : ℕ) → s.digest ≡ d → n ≡ length body + length area → verdict (body ++ (area ++ more)) ≡ Ok (record { version = s.header.version; size = n; digest = d })
    unfolding verdict
    digest_right n same is_size = grind (arith, digest_is, covered, from_parts, none_is, good_true, version_is, size)

-- the length of a body
pub sealed_len : (s : Sealed) (body : List ℕ) → IsSealed s body → length body ≡ s.header.size + s.header.payload + s.header.protected
sealed_len s body is = is.whole ∙ (header_ends s.header body is.header.fields).1

-- a plain area that is not whole
pub no_magic : (rest : List ℕ) → length rest < 4 → plain_fault rest ≡ Some BadTlvMagic
unfolding plain_fault
no_magic rest lt = let t : nat_lt (length rest) 4 ≡ true = lt-ltb _ _ lt in rw t refl

pub no_room : (t n : ℕ) (scan : EntryScan) (rest : List ℕ) → IsPlain t n scan rest → 0 < n → plain_fault rest ≡ Some BadTlvLength
no_room t n scan rest p lt = let a = p.total in let b = p.left in plain_short rest p.none (omega (arith, a, b, lt))

-- The steps of a judge.

-- the stage of a judge, by its name
pub at_stage : {j : Judge} {bytes : List ℕ} (s : Stage) → j.stage ≡ s → Judges j bytes → IsInStage s j.hasher bytes
at_stage {j} {bytes} s e h = subst (λ (x : Stage). IsInStage x j.hasher bytes) e h.stage

-- bytes of a piece are taken
takes_bytes : (j k : Judge) (piece taken rest : List ℕ) → piece ≡ taken ++ rest → 0 < length taken → IsBytes piece
    → ((bytes : List ℕ) → Judges j bytes → IsBytes (bytes ++ taken) → Judges k (bytes ++ taken)) → Goes (Judges j) (Judges k) piece rest
takes_bytes j k piece taken rest split some are goes = record {
  taken = taken;
  split = split;
  some = some;
  holds = λ bytes h. goes bytes h (λ i. elim (cases_lt i (length bytes)) [
    | inl lt ↦ rw (get_or_append_left bytes taken 0 i lt) (h.bytes i)
    | inr le ↦
        rw (get_or-append_right bytes taken (length bytes) i 0 refl le, ← take_at taken rest (length taken) refl, ← split) (IsBytes-take (length taken) piece are (i - length bytes))
  ]);
}

-- the answer stays, whatever follows
pub over_goes : (j : Judge) (piece : List ℕ) (answer : Result Judged ImageError) → j.stage ≡ stages.Over answer → 0 < length piece → IsBytes piece → Goes (Judges j) (Judges j) piece []
over_goes j piece answer e lt are = takes_bytes j j piece piece [] (sym (append-nil piece)) lt are (λ bytes h all. record {
  bytes = all;
  stage = subst (λ (x : Stage). IsInStage x j.hasher (bytes ++ piece)) (sym e) (λ more both.
      let same = append_assoc bytes piece more in
      ap verdict same ∙ at_stage (stages.Over answer) e h (piece ++ more) (subst (λ (x : List ℕ). IsBytes x) same both));
})

-- what stands after a body grows
beyond_more : {k : Judge} {P : List ℕ → Type 0} (s : Sealed) (bytes more : List ℕ) → IsBeyond s bytes P → IsBytes (bytes ++ more)
    → ((body rest : List ℕ) → IsBytes (body ++ (rest ++ more)) → IsSealed s body → P rest → Judges k (body ++ (rest ++ more))) → Judges k (bytes ++ more)
beyond_more {k} s bytes more b all goes = grind (arith, append_assoc)

module _ (j k : Judge) (piece rest : List ℕ) (fed : (bytes : List ℕ) × Judges j bytes) (some : 0 < length piece) (are : IsBytes piece) where
  -- a room of n bytes takes what it can
  takes_room : (n : ℕ) (old new : List ℕ) → length old < n → new ≡ take n (old ++ piece) → rest ≡ drop (n - length old) piece
      → ((bytes taken : List ℕ) → Judges j bytes → IsBytes (bytes ++ taken) → new ≡ old ++ taken → length new ≤ n → take (length piece - length rest) piece ≡ taken → Judges k (bytes ++ taken))
      → Goes (Judges j) (Judges k) piece rest
  takes_room n old new lt is_new is_rest goes =
      let t : ℕ = n - length old in
      let len : length piece - length rest ≡ min t (length piece) = omega (arith, ap length is_rest, length-drop t piece) in
      takes_bytes j k piece (take t piece) rest (cc (take-append-drop t piece)) (omega (arith, length-take t piece, lt, some)) are (λ bytes h all. goes bytes (take t piece) h all
      (is_new ∙ take_split n old piece ∙ ap (λ (x : List ℕ). x ++ take t piece) (take_all n old (omega (arith, lt))))
      (omega (arith, ap length is_new, length-take n (old ++ piece))) (ap (λ (m : ℕ). take m piece) len ∙ take_min t piece))

  -- of the header's fields
  pub fields_taken : (hasher : Sha256) (old new : Gather 32) → j.stage ≡ stages.Fields old → held new ≡ take 32 (held old ++ piece) → rest ≡ drop (32 - length (held old)) piece
      → ((bytes : List ℕ) → Holds256 j.hasher bytes → Holds256 hasher (bytes ++ take (length piece - length rest) piece))
      → ((bytes : List ℕ) → IsBytes bytes → Holds256 hasher bytes → held new ≡ bytes → length bytes ≤ 32 → Judges k bytes) → Goes (Judges j) (Judges k) piece rest
  fields_taken hasher old new is is_new is_rest hashed goes =
      let known = at_stage _ is fed.1 in
      takes_room 32 (held old) (held new) (let e = ap length known.2 in let lt = known.1 in omega (arith, e, lt)) is_new is_rest (λ bytes taken h all more le count.
      let s = at_stage _ is h in
      let same = more ∙ ap (λ (x : List ℕ). x ++ taken) s.2 in
      goes (bytes ++ taken) all (subst (λ (x : List ℕ). Holds256 hasher (bytes ++ x)) count (hashed bytes s.0)) same (omega (arith, ap length same, le)))

  -- of the head of the plain area
  pub head_taken : (s : Sealed) (old new : Gather 4) → j.stage ≡ stages.PlainHead s old → held new ≡ take 4 (held old ++ piece) → rest ≡ drop (4 - length (held old)) piece
      → ((body seen : List ℕ) → IsBytes (body ++ seen) → IsSealed s body → held new ≡ seen → length seen ≤ 4 → Judges k (body ++ seen)) → Goes (Judges j) (Judges k) piece rest
  head_taken s old new is is_new is_rest goes =
      let known = (at_stage _ is fed.1).stands in
      takes_room 4 (held old) (held new) (let e = ap length known.1 in let lt = known.0 in omega (arith, e, lt)) is_new is_rest (λ bytes taken h all more le _.
      beyond_more s bytes taken (at_stage _ is h) all (λ body seen both sealed stands.
      let same = more ∙ ap (λ (x : List ℕ). x ++ taken) stands.1 in
      goes body (seen ++ taken) both sealed same (omega (arith, ap length same, le))))

-- a part of a piece, which may be all that is left of a stage
module _ (j k : Judge) (piece inside rest : List ℕ) (fed : (bytes : List ℕ) × Judges j bytes) (some : 0 < length piece) (are : IsBytes piece) (split : piece ≡ inside ++ rest)
    (left : ℕ) (len : length inside ≡ min left (length piece)) where
  -- of a payload
  pub payload_taken : (hasher : Sha256) (h : Header) → j.stage ≡ stages.Payload h left → ((bytes : List ℕ) → Holds256 j.hasher bytes → Holds256 hasher (bytes ++ inside))
      → ((bytes : List ℕ) → IsBytes bytes → Holds256 hasher bytes → HasHeader h bytes → length bytes + (left - length inside) ≡ payload_end bytes → Judges k bytes)
      → Goes (Judges j) (Judges k) piece rest
  payload_taken hasher h is hashed goes =
      takes_bytes j k piece inside rest split (omega (arith, len, (at_stage _ is fed.1).3, some)) are (λ bytes judged all.
      let s = at_stage _ is judged in
      goes (bytes ++ inside) all (hashed bytes s.0) (has_header_more h bytes inside s.1) (omega (arith, payload_end_more bytes inside s.1.long, length-append bytes inside, s.2, len)))

  -- of a protected area
  pub protected_taken : (hasher : Sha256) (h : Header) (old new : ProtectedArea) → j.stage ≡ stages.Protected h left old
      → ((bytes : List ℕ) → Holds256 j.hasher bytes → Holds256 hasher (bytes ++ inside)) → ((seen : List ℕ) → Follows old seen → Follows new (seen ++ inside))
      → ((bytes : List ℕ) → IsBytes bytes → Holds256 hasher bytes → h.protected ≢ 0 → IsProtected h (left - length inside) new bytes → Judges k bytes) → Goes (Judges j) (Judges k) piece rest
  protected_taken hasher h old new is hashed feed goes =
      let more = (at_stage _ is fed.1).1 in
      takes_bytes j k piece inside rest split (omega (arith, len, more, some)) are (λ bytes judged all.
      let s = at_stage _ is judged in
      let p = s.2 in
      goes (bytes ++ inside) all (hashed bytes s.0) (λ z. absurd (omega (arith, z, p.left, more))) (record {
        prefix = p.prefix;
        rest = p.rest ++ inside;
        split = appended p.prefix bytes _ p.rest inside p.split refl;
        header = p.header;
        len = p.len;
        left = omega (arith, length-append p.rest inside, p.left, len);
        area = feed p.rest p.area;
      }))

  -- of a plain area
  pub plain_taken : (s : Sealed) (t : ℕ) (old new : EntryScan) → j.stage ≡ stages.Plain s t left old → ((seen : List ℕ) → Scans old seen → Scans new (seen ++ inside))
      → ((body area : List ℕ) → IsBytes (body ++ area) → IsSealed s body → IsPlain t (left - length inside) new area → Judges k (body ++ area)) → Goes (Judges j) (Judges k) piece rest
  plain_taken s t old new is feed goes =
      takes_bytes j k piece inside rest split (omega (arith, len, (at_stage _ is fed.1).0, some)) are (λ bytes judged all.
      beyond_more s bytes inside (at_stage _ is judged).1 all (λ body area both sealed p.
      let l = length-append area inside in
      goes body (area ++ inside) both sealed (record {
        none = head_fault_more area inside p.head ∙ p.none;
        head = omega (arith, l, p.head);
        total = p.total ∙ sym (u16_more 2 area inside (omega (arith, p.head)));
        left = omega (arith, l, p.left, len);
        scan = subst (λ (x : List ℕ). Scans new x) (sym (drop-append-le 4 area inside p.head)) (feed (drop 4 area) p.scan);
      })))
