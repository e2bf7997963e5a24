-- What is wanted of each engine, and what is made.
use Rattle.std.proofs.Common.{Bool, Err, List, None, Ok, Option, Result, Some, [], ap, append_assoc, arith, cond, drop, false, inl, inr, length, length-drop, refl, replicate, subst, sym, true, ℕ, ◌++◌, ◌<◌, ◌^◌, ◌∙◌, ◌≡◌, ◌≤◌}
use Rattle.std.proofs.lemmas.Bool.{le-ltb, lt-ltb}
use Rattle.std.specs.Prelude.{IfOk, nat_lt, ◌-◌, ◌⊎◌}
use Rattle.mc_image.specs.{Image.{Entry, Image, image_in, image_text}, Valid.{IsValid, first_fault, image_fault}}
use Rattle.mc_image.specs.{Writing.{area_of, image_of, undigested, views, with_digest}, declared.error.ImageError.{ImageError}}
use Rattle.mc_image.specs.{declared.version.Version.{Version}, declared.writing.ImageParts.{ImageParts}}
use Rattle.mc_imgtool.proofs.Answering.{IsWanted}
use Rattle.mc_imgtool.specs.Created.{bare_image, counter_area, created, filled_slot, fills_slot, in_slot, is_too_small, lacks_zeros, needs_slot_size, payload_in, slotted}
use Rattle.mc_imgtool.specs.{Engines.{Gives}, Lines.{dumped, line_or_fault, report, report_or_fault, verified}, declared.creation.CreateOptions.{CreateOptions}}
use Rattle.mc_imgtool.specs.declared.error.ToolError.{ToolError}
use Rattle.mc_imgtool.specs.declared.error.ToolError.TheVariants.{Image as image_error, InputTooLong, Memory, NeedsSlotSize, NotZeros, SlotTooSmall, Write}

-- The image of the parts that `create` hands on is the created one.

abbrev plain_image : ℕ → Version → ℕ → List ℕ → List ℕ → Option (List Entry) → List Entry → Image
plain_image load version padding rest payload protected plain = record { load = load; version = version; padding = padding; rest = rest; payload = payload; protected = protected; plain = plain }

same_image : {l l' p p' : ℕ} {v v' : Version} {r r' x x' : List ℕ} {q q' : Option (List Entry)} {e e' : List Entry} → l ≡ l' → v ≡ v' → p ≡ p' → r ≡ r' → x ≡ x' → q ≡ q' → e ≡ e'
    → plain_image l v p r x q e ≡ plain_image l' v' p' r' x' q' e'
same_image e1 e2 e3 e4 e5 e6 e7 = cc

pub bare_parts : (p : ImageParts) (o : CreateOptions) (payload : List ℕ) → p.load ≡ 0 → p.version ≡ o.version → p.padding ≡ 0 → p.header_rest.now ≡ replicate (o.header_size - 32) 0
    → p.payload.now ≡ payload → area_of (views p.protected.now) ≡ counter_area o.security_counter → p.plain.now ≡ []
    → undigested p ≡ bare_image o payload
unfolding undigested bare_image
bare_parts p o payload e1 e2 e3 e4 e5 e6 e7 = same_image e1 e2 e3 e4 e5 e6 (ap views e7)

pub parts_are : (p : ImageParts) (v : Image) → undigested p ≡ v → image_of p ≡ with_digest v
unfolding image_of
parts_are p v e = ap with_digest e

pub written_is : (p : ImageParts) (v : Image) (start out : List ℕ) → undigested p ≡ v → start ≡ [] → out ≡ start ++ image_text (image_of p) → out ≡ image_text (with_digest v)
written_is p v start out bare none e = e ∙ ap (λ (l : List ℕ). l ++ image_text (image_of p)) none ∙ ap image_text (parts_are p v bare)

-- bytes after a valid image leave it valid
pub IsValid-more : (b x : List ℕ) → IsValid b → IsValid (b ++ x)
IsValid-more b x h = grind (arith, append_assoc)

in_slot_valid : (o : CreateOptions) (image : List ℕ) (slot : Option ℕ) → IsValid image → IsValid (in_slot o image slot)
in_slot_valid o image None h = h
in_slot_valid o image (Some slot) h =
    elim (fills_slot o) as (λ b. IsValid (cond b (filled_slot slot o.confirm image) image)) [
      | true ↦ IsValid-more image _ h
      | false ↦ h
    ]

either_valid : (b : Bool) (text : List ℕ) → IsValid text → IfOk (cond b (Err SlotTooSmall) (Ok text)) IsValid
either_valid true text h = tt
either_valid false text h = h

pub slotted_valid : (o : CreateOptions) (image : List ℕ) → IsValid image → IfOk (slotted o image) IsValid
unfolding slotted
slotted_valid o image h = either_valid (is_too_small o (length image) o.slot_size) _ (in_slot_valid o image o.slot_size h)

-- what is made of a valid image is valid
pub made_valid : {A : Type 0} (view : A → List ℕ) (o : CreateOptions) (image : List ℕ) (r : Result A ToolError) → IsValid image → Gives view r (slotted o image) → IfOk r (λ x. IsValid (view x))
made_valid view o image (Err e) h gives = tt
made_valid view o image (Ok x) h gives = let P : Result (List ℕ) ToolError → Type 0 = λ w. IfOk w IsValid in subst P gives (slotted_valid o image h)

-- no image error is wanted
slot_no_image : (b : Bool) (text : List ℕ) (e : ImageError) → cond b (Err SlotTooSmall) (Ok text) ≡ Err (image_error e) → ⊥
slot_no_image true text e h = cc
slot_no_image false text e h = cc

slotted_no_image : (o : CreateOptions) (image : List ℕ) (e : ImageError) → slotted o image ≡ Err (image_error e) → ⊥
unfolding slotted
slotted_no_image o image e h = slot_no_image (is_too_small o (length image) o.slot_size) _ e h

three_no_image : (a b c : Bool) (r : Result (List ℕ) ToolError) (e : ImageError) → (r ≡ Err (image_error e) → ⊥)
    → cond a (Err NeedsSlotSize) (cond b (Err InputTooLong) (cond c (Err NotZeros) r)) ≡ Err (image_error e) → ⊥
three_no_image true b c r e h q = cc
three_no_image false true c r e h q = cc
three_no_image false false true r e h q = cc
three_no_image false false false r e h q = h q

no_image : (o : CreateOptions) (xs : List ℕ) (e : ImageError) → created o xs ≡ Err (image_error e) → ⊥
unfolding created
no_image o xs e h = three_no_image (needs_slot_size o) (nat_lt (2 ^ 24) (length xs)) (lacks_zeros o xs) _ e (slotted_no_image o _ e) h

not_memory : (e : ImageError) → image_error e ≡ Memory → ⊥
not_memory e h = cc

never_image : (o : CreateOptions) (xs : List ℕ) (e : ImageError) → (image_error e ≡ Memory) ⊎ (created o xs ≡ Err (image_error e)) → ⊥
never_image o xs e (inl h) = not_memory e h
never_image o xs e (inr h) = no_image o xs e h

abbrev failed : ToolError → Result (Unit {0}) ToolError
failed e = Err e

same_error : (x y : ToolError) → failed x ≡ failed y → x ≡ y
same_error x y h = cc

-- an error that is made is no image error
pub never_error : (o : CreateOptions) (xs : List ℕ) (d : ToolError) → (d ≡ Memory) ⊎ (created o xs ≡ Err d) → (e : ImageError) → failed d ≡ failed (image_error e) → ⊥
never_error o xs d made e h = let P : ToolError → Type 0 = λ x. (x ≡ Memory) ⊎ (created o xs ≡ Err x) in never_image o xs e (subst P (same_error d (image_error e) h) made)

-- once its size is given no slot size is missing
needs_no_more : (a b c : Bool) (r : Result (List ℕ) ToolError) → a ≡ false → (r ≡ Err NeedsSlotSize → ⊥)
    → cond a (Err NeedsSlotSize) (cond b (Err InputTooLong) (cond c (Err NotZeros) r)) ≡ Err NeedsSlotSize → ⊥
needs_no_more true b c r e h q = absurd cc
needs_no_more false true c r e h q = cc
needs_no_more false false true r e h q = cc
needs_no_more false false false r e h q = h q

slot_no_needs : (b : Bool) (text : List ℕ) → cond b (Err SlotTooSmall) (Ok text) ≡ Err NeedsSlotSize → ⊥
slot_no_needs true text h = cc
slot_no_needs false text h = cc

slotted_no_needs : (o : CreateOptions) (image : List ℕ) → slotted o image ≡ Err NeedsSlotSize → ⊥
unfolding slotted
slotted_no_needs o image h = slot_no_needs (is_too_small o (length image) o.slot_size) _ h

created_no_needs : (o : CreateOptions) (xs : List ℕ) → needs_slot_size o ≡ false → created o xs ≡ Err NeedsSlotSize → ⊥
unfolding created
created_no_needs o xs given h = needs_no_more (needs_slot_size o) (nat_lt (2 ^ 24) (length xs)) (lacks_zeros o xs) _ given (slotted_no_needs o _) h

not_memory_needs : NeedsSlotSize ≡ Memory → ⊥
not_memory_needs h = cc

given_made : (o : CreateOptions) (xs : List ℕ) → needs_slot_size o ≡ false → (NeedsSlotSize ≡ Memory) ⊎ (created o xs ≡ Err NeedsSlotSize) → ⊥
given_made o xs given (inl h) = not_memory_needs h
given_made o xs given (inr h) = created_no_needs o xs given h

-- an error that is made says nothing of a slot's size once that is given
pub given_error : (o : CreateOptions) (xs : List ℕ) (d : ToolError) → needs_slot_size o ≡ false → (d ≡ Memory) ⊎ (created o xs ≡ Err d) → failed d ≡ failed NeedsSlotSize → ⊥
given_error o xs d given made h = let P : ToolError → Type 0 = λ x. (x ≡ Memory) ⊎ (created o xs ≡ Err x) in given_made o xs given (subst P (same_error d NeedsSlotSize h) made)

-- what is made for its slot is what is wanted
pub made_slotted : {A : Type 0} (view : A → List ℕ) (o : CreateOptions) (r : Result A ToolError) (wanted : Result (List ℕ) ToolError) (image : List ℕ) → wanted ≡ slotted o image
    → Gives view r (slotted o image) → Gives view r wanted
made_slotted view o r wanted image e gives = let P : Result (List ℕ) ToolError → Type 0 = λ w. Gives view r w in subst P (sym e) gives

pub false_true : {b : Bool} → b ≡ false → b ≡ true → ⊥
false_true e h = cc

taken_short : (b : Bool) (n m : ℕ) (xs : List ℕ) → length xs ≤ m → length (cond b xs (drop n xs)) ≤ m
taken_short true n m xs h = h
taken_short false n m xs h = omega (arith, length-drop n xs)

-- the payload is no longer than the input
pub payload_short : (o : CreateOptions) (xs payload : List ℕ) → payload ≡ payload_in o xs → length xs ≤ 2 ^ 24 → length payload ≤ 2 ^ 24
unfolding payload_in
payload_short o xs payload e h = let P : List ℕ → Type 0 = λ l. length l ≤ 2 ^ 24 in subst P (sym e) (taken_short o.pad_header o.header_size (2 ^ 24) xs h)

-- What is wanted of each engine.

line_no_write : (v : Image) (o : Option ImageError) → line_or_fault v o ≡ Err Write → ⊥
line_no_write v None e = cc
line_no_write v (Some x) e = cc

-- ---- verify

verified_long : (xs : List ℕ) → 2 ^ 24 < length xs → verified xs ≡ Err InputTooLong
unfolding verified
verified_long xs h = let t : nat_lt (2 ^ 24) (length xs) ≡ true = lt-ltb _ _ h in rw t refl

either_no_write : (b : Bool) (r : Result (List ℕ) ToolError) → (r ≡ Err Write → ⊥) → cond b (Err InputTooLong) r ≡ Err Write → ⊥
either_no_write true r h e = cc
either_no_write false r h e = h e

pub verified_wanted : IsWanted verified
unfolding verified
verified_wanted = record { long = verified_long; no_write = λ xs e. either_no_write (nat_lt (2 ^ 24) (length xs)) _ (line_no_write (image_in xs) (image_fault xs)) e }

pub verified_short : (xs : List ℕ) → length xs ≤ 2 ^ 24 → verified xs ≡ line_or_fault (image_in xs) (image_fault xs)
unfolding verified
verified_short xs h = let t : nat_lt (2 ^ 24) (length xs) ≡ false = le-ltb _ _ h in rw t refl

-- ---- dumpinfo

report_no_write : (xs : List ℕ) (o : Option ImageError) → report_or_fault xs o ≡ Err Write → ⊥
report_no_write xs None e = cc
report_no_write xs (Some x) e = cc

dumped_long : (xs : List ℕ) → 2 ^ 24 < length xs → dumped xs ≡ Err InputTooLong
unfolding dumped
dumped_long xs h = let t : nat_lt (2 ^ 24) (length xs) ≡ true = lt-ltb _ _ h in rw t refl

pub dumped_wanted : IsWanted dumped
unfolding dumped
dumped_wanted = record { long = dumped_long; no_write = λ xs e. either_no_write (nat_lt (2 ^ 24) (length xs)) _ (report_no_write xs (first_fault xs)) e }

dumped_short : (xs : List ℕ) → length xs ≤ 2 ^ 24 → dumped xs ≡ report_or_fault xs (first_fault xs)
unfolding dumped
dumped_short xs h = let t : nat_lt (2 ^ 24) (length xs) ≡ false = le-ltb _ _ h in rw t refl

pub dumped_bad : (xs : List ℕ) (e : ImageError) → length xs ≤ 2 ^ 24 → first_fault xs ≡ Some e → dumped xs ≡ Err (image_error e)
dumped_bad xs e h some = dumped_short xs h ∙ ap (report_or_fault xs) some

pub dumped_good : (xs text : List ℕ) (v : Image) (size rest : ℕ) → length xs ≤ 2 ^ 24 → first_fault xs ≡ None → v ≡ image_in xs → size ≡ length (image_text v) → rest ≡ length xs - size
    → text ≡ report v rest → dumped xs ≡ Ok text
dumped_good xs text v size rest h none is total beyond line = grind (arith, dumped_short)

-- ---- create

created_long : (o : CreateOptions) (xs : List ℕ) → needs_slot_size o ≡ false → 2 ^ 24 < length xs → created o xs ≡ Err InputTooLong
unfolding created
created_long o xs given h = let t : nat_lt (2 ^ 24) (length xs) ≡ true = lt-ltb _ _ h in rw (given, t) refl

slotted_no_write : (o : CreateOptions) (image : List ℕ) → slotted o image ≡ Err Write → ⊥
unfolding slotted
slotted_no_write o image e = small_no_write (is_too_small o (length image) o.slot_size) _ e
  where
    small_no_write : (b : Bool) (text : List ℕ) → cond b (Err SlotTooSmall) (Ok text) ≡ Err Write → ⊥
    small_no_write true text h = cc
    small_no_write false text h = cc

three_no_write : (a b c : Bool) (r : Result (List ℕ) ToolError) → (r ≡ Err Write → ⊥) → cond a (Err NeedsSlotSize) (cond b (Err InputTooLong) (cond c (Err NotZeros) r)) ≡ Err Write → ⊥
three_no_write true b c r h e = cc
three_no_write false true c r h e = cc
three_no_write false false true r h e = cc
three_no_write false false false r h e = h e

created_no_write : (o : CreateOptions) (xs : List ℕ) → created o xs ≡ Err Write → ⊥
unfolding created
created_no_write o xs e = three_no_write (needs_slot_size o) (nat_lt (2 ^ 24) (length xs)) (lacks_zeros o xs) _ (slotted_no_write o _) e

pub created_wanted : (o : CreateOptions) → needs_slot_size o ≡ false → IsWanted (created o)
created_wanted o given = record { long = λ xs h. created_long o xs given h; no_write = created_no_write o }

pub created_needs : (o : CreateOptions) (xs : List ℕ) → needs_slot_size o ≡ true → created o xs ≡ Err NeedsSlotSize
unfolding created
created_needs o xs e = rw e refl

pub created_refused : (o : CreateOptions) (xs : List ℕ) → needs_slot_size o ≡ false → length xs ≤ 2 ^ 24 → lacks_zeros o xs ≡ true → created o xs ≡ Err NotZeros
unfolding created
created_refused o xs given h lacks = let t : nat_lt (2 ^ 24) (length xs) ≡ false = le-ltb _ _ h in rw (given, t, lacks) refl

pub created_made : (o : CreateOptions) (xs payload : List ℕ) → needs_slot_size o ≡ false → length xs ≤ 2 ^ 24 → lacks_zeros o xs ≡ false → payload ≡ payload_in o xs
    → created o xs ≡ slotted o (image_text (with_digest (bare_image o payload)))
unfolding created
created_made o xs payload given h lacks is = grind arith
