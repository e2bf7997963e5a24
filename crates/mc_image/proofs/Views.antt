-- The tests of a valid image decide, and what a view shows.
use Rattle.std.proofs.Common.{Bool, List, None, Option, Some, [], ap, arith, cond, drop, false, is_some, length, refl, subst, sym, take, true, ℕ, ◌++◌, ◌<◌, ◌∙◌, ◌∷◌, ◌≡◌, ◌≤◌}
use Rattle.std.proofs.{lemmas.Bool.{and_parts}, lemmas.List.{append-nil, take-append-drop, take_at}, lemmas.Option.{cond_some}}
use Rattle.std.specs.{Cmp.Derive.{both_true}, Prelude.{IfSome, is_none, not, unwrap_or}}
use Rattle.mc_image.proofs.EntryLaws.{entries-again, entries-nil, in-first, in-none}
use Rattle.mc_image.proofs.ImageLaws.{begins_is, begins_none, begins_one, both_none, header_len, header_reads, version_again}
use Rattle.mc_image.specs.Image.{Begins, EntriesFit, Entry, Image, IsBytes, IsGood, IsImage, IsView, Listed, entries_in, entries_of, first_entry, header_text, image_in, image_text, left_of, listed, listing, plain_text, protected_area, protected_text, u32_at, version_in}
use Rattle.mc_image.specs.Valid.{Identity, IsValid, fault_if, first_fault, id_of, identity, image_fault, is_good, is_valid}
use Rattle.mc_image.specs.{declared.entries.Area.TheVariants.{Plain, Protected}, declared.error.ImageError.{ImageError}}
use Rattle.mc_image.specs.{declared.error.ImageError.TheVariants.{WrongDigest}, declared.version.Version.{Version}}
use Rattle.mc_image.specs.facts.Valid.{good_false, good_true, test_good}

-- The tests of a valid image decide, and images go along with the prefix of the bytes.

none_true : {A : Type 0} (o : Option A) → is_none o ≡ true → o ≡ None
none_true it e = grind arith

pub valid_true : (b : List ℕ) → IsBytes b → is_valid b ≡ true → IsValid b
unfolding is_valid
valid_true b h e =
    let p = and_parts (is_none (first_fault b)) (is_good (image_in b)) e in
    record { image = image_in b; begins = begins_is b h (none_true _ p.0); good = test_good _ p.1 }

-- the image of a valid prefix is the one that is read there
image_is : (b : List ℕ) (h : IsValid b) → image_in b ≡ h.image
image_is b h = begins_one b h.image h.begins

good_in : (b : List ℕ) → IsValid b → is_good (image_in b) ≡ true
good_in b h = ap is_good (image_is b h) ∙ good_true h.image h.good

pub true_valid : (b : List ℕ) → IsValid b → is_valid b ≡ true
unfolding is_valid
true_valid b h = both_true (ap (λ x. is_none x) (begins_none b h.image h.begins)) (good_in b h)

pub id_valid : (b : List ℕ) (h : IsValid b) → id_of b ≡ Some (identity h.image)
unfolding id_of
id_valid b h = ap (λ t. cond t (Some (identity (image_in b))) None) (true_valid b h) ∙ ap (λ (v : Image). Some (identity v)) (image_is b h)

pub id_none : (b : List ℕ) → (IsValid b → ⊥) → IsBytes b → id_of b ≡ None
unfolding id_of
id_none b h bytes = grind (arith, valid_true)

not_faulty : (t : Bool) → fault_if (not t) WrongDigest ≡ None → t ≡ true
not_faulty it e = grind arith

pub fault_valid : (b : List ℕ) → IsBytes b → image_fault b ≡ None → IsValid b
unfolding image_fault
fault_valid b h e = grind (arith, begins_is, test_good, not_faulty)

pub valid_fault : (b : List ℕ) → IsValid b → image_fault b ≡ None
unfolding image_fault
valid_fault b h = both_none (first_fault b) _ (begins_none b h.image h.begins) (ap (λ t. fault_if (not t) WrongDigest) (good_in b h))

-- ---- the same prefix

pub begins_same : (b c : List ℕ) (v : Image) → Begins b v → take (length (image_text v)) c ≡ take (length (image_text v)) b → Begins c v
begins_same b c v begins same =
    let n : ℕ = length (image_text v) in
    let prefix : take n b ≡ image_text v = ap (λ (l : List ℕ). take n l) begins.prefix.1 ∙ take_at (image_text v) begins.prefix.0 n refl in
    record { fits = begins.fits; prefix = (drop n c, sym (take-append-drop n c) ∙ ap (λ (l : List ℕ). l ++ drop n c) (same ∙ prefix)) }

some_id : (i j : Identity) → Some i ≡ Some j → i ≡ j
some_id i j e = cc

valid_some : (b : List ℕ) (i : Identity) → id_of b ≡ Some i → is_valid b ≡ true
unfolding id_of
valid_some b i e = (cond_some (is_valid b) (identity (image_in b)) i e).0

pub id_same : (b c : List ℕ) (i : Identity) → IsBytes b → id_of b ≡ Some i → take i.size c ≡ take i.size b → id_of c ≡ Some i
id_same b c i bytes e same =
    let h = valid_true b bytes (valid_some b i e) in
    let is : identity h.image ≡ i = some_id _ _ (sym (id_valid b h) ∙ e) in
    let at : take (length (image_text h.image)) c ≡ take (length (image_text h.image)) b = subst (λ (x : Identity). take x.size c ≡ take x.size b) (sym is) same in
    let k : IsValid c = record { image = h.image; begins = begins_same b c h.image h.begins at; good = h.good } in
    id_valid c k ∙ ap (λ (x : Identity). Some x) is

-- The list of the entries that are still to come, one entry on.

pub left-protected : (p q : List ℕ) (x : Entry × List ℕ) → is_some (entries_of p) ≡ true → first_entry p ≡ Some x → left_of p q ≡ record { area = Protected; entry = x.0 } ∷ left_of x.1 q
unfolding left_of
left-protected p q x h e = ap (λ es. listed Protected es ++ listed Plain (entries_in q)) (in-first p x h e)

pub left-plain : (p q : List ℕ) (x : Entry × List ℕ) → is_some (entries_of p) ≡ true → first_entry p ≡ None → is_some (entries_of q) ≡ true → first_entry q ≡ Some x
    → left_of p q ≡ record { area = Plain; entry = x.0 } ∷ left_of p x.1
unfolding left_of
left-plain p q x hp ep hq eq = grind (arith, in-none, in-first)

pub left-none : (p q : List ℕ) → is_some (entries_of p) ≡ true → first_entry p ≡ None → is_some (entries_of q) ≡ true → first_entry q ≡ None → left_of p q ≡ []
unfolding left_of
left-none p q hp ep hq eq = ap (λ es. listed Protected es ++ listed Plain (entries_in q)) (in-none p hp ep) ∙ ap (λ es. listed Plain es) (in-none q hq eq)

-- what the areas of a view hold
protected_holds : (o : Option (List Entry)) → IfSome o EntriesFit → (is_some (entries_of (drop 4 (protected_area o))) ≡ true) × (entries_in (drop 4 (protected_area o)) ≡ unwrap_or o [])
unfolding entries_in
protected_holds it fits = grind (arith, entries-nil, entries-again)

pub view-protected : (v : Image) (h p q a d : List ℕ) → IsView v h p q a d → (is_some (entries_of (drop 4 q)) ≡ true) × (entries_in (drop 4 q) ≡ unwrap_or v.protected [])
unfolding protected_text
view-protected v h p q a d is = grind (arith, protected_holds)

pub view-plain : (v : Image) (h p q a d : List ℕ) → IsView v h p q a d → (is_some (entries_of (drop 4 a)) ≡ true) × (entries_in (drop 4 a) ≡ v.plain)
unfolding plain_text entries_in
view-plain v h p q a d is = grind (arith, entries-again)

pub listing-is : (v w : Image) (h p q a d : List ℕ) → v ≡ w → IsView v h p q a d → left_of (drop 4 q) (drop 4 a) ≡ listing w
unfolding left_of listing
listing-is v w h p q a d e is = grind (arith, view-protected, view-plain)

pub less-first : (s t : List Listed) (x : Listed) → s ≡ x ∷ t → length t < length s
less-first s t x e = let l : length s ≡ length (x ∷ t) = ap length e in omega arith

-- What the header of a view reads as.

pub view_long : (v : Image) (h p q a d : List ℕ) → IsView v h p q a d → 32 ≤ length h
view_long v h p q a d is = let l = header_len v in let m = ap length is.header in omega (arith, l, m)

pub view_version : (v w : Image) (h p q a d : List ℕ) (x : Version) → v ≡ w → IsView v h p q a d → x ≡ version_in h → x ≡ w.version
view_version v w h p q a d x e is r = r ∙ ap version_in is.header ∙ version_again v is.fits ∙ ap (λ (y : Image). y.version) e

load_again : (v : Image) → IsImage v → u32_at 4 (header_text v) ≡ v.load
load_again v fits = ap (u32_at 4) (sym (append-nil (header_text v))) ∙ (header_reads v [] fits).load

padding_again : (v : Image) → IsImage v → u32_at 28 (header_text v) ≡ v.padding
padding_again v fits = ap (u32_at 28) (sym (append-nil (header_text v))) ∙ (header_reads v [] fits).padding

pub view_load : (v w : Image) (h p q a d : List ℕ) (x : ℕ) → v ≡ w → IsView v h p q a d → x ≡ u32_at 4 h → x ≡ w.load
view_load v w h p q a d x e is r = r ∙ ap (u32_at 4) is.header ∙ load_again v is.fits ∙ ap (λ (y : Image). y.load) e

pub view_padding : (v w : Image) (h p q a d : List ℕ) (x : ℕ) → v ≡ w → IsView v h p q a d → x ≡ u32_at 28 h → x ≡ w.padding
view_padding v w h p q a d x e is r = r ∙ ap (u32_at 28) is.header ∙ padding_again v is.fits ∙ ap (λ (y : Image). y.padding) e

-- What reading and the check of the digest say of the tests of a valid image.

pub fault_read : (b : List ℕ) (e : ImageError) → first_fault b ≡ Some e → image_fault b ≡ Some e
unfolding image_fault
fault_read b e h = rw h refl

pub from_parts : (b : List ℕ) (t : Bool) → first_fault b ≡ None → is_good (image_in b) ≡ t → image_fault b ≡ fault_if (not t) WrongDigest
unfolding image_fault
from_parts b t none good = rw (none, good) refl

pub fault_none : (b : List ℕ) (v : Image) → first_fault b ≡ None → v ≡ image_in b → IsGood v → image_fault b ≡ None
fault_none b v none is good = from_parts b true none (ap is_good (sym is) ∙ good_true v good)

-- with the error of the check
pub fault_checked : (b : List ℕ) (v : Image) (e : ImageError) → first_fault b ≡ None → v ≡ image_in b → e ≡ WrongDigest → (IsGood v → ⊥) → image_fault b ≡ Some e
fault_checked b v e none is at wrong = from_parts b false none (ap is_good (sym is) ∙ good_false v wrong) ∙ ap (λ (x : ImageError). Some x) (sym at)

pub id_checked : (b : List ℕ) (v : Image) → first_fault b ≡ None → v ≡ image_in b → IsGood v → id_of b ≡ Some (identity v)
unfolding id_of is_valid
id_checked b v none is good = grind (arith, good_true)

pub id_read : (b : List ℕ) (e : ImageError) → first_fault b ≡ Some e → id_of b ≡ None
unfolding id_of is_valid
id_read b e h = rw h refl

pub id_wrong : (b : List ℕ) (v : Image) → first_fault b ≡ None → v ≡ image_in b → (IsGood v → ⊥) → id_of b ≡ None
unfolding id_of is_valid
id_wrong b v none is wrong = grind (arith, good_false)
