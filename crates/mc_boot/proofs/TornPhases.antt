-- The phases of a swap wherever power is lost, before operations or within them, and the plan of the boot in each.
use Rattle.std.proofs.Common.{ap, arith, inl, inr, sym, ◌∙◌}
use Rattle.std.specs.Prelude.{Bool, false, if◌then◌else◌, refl, suc, true, zero, ℕ, ◌*◌, ◌<◌, ◌≡◌, ◌≢◌, ◌≤◌, ◌⊎◌}
use Rattle.mc_boot.proofs.{Moving.{Data}, Phases.{Asked, IsSwapOf, MagicUnset, NoOther, Under, asked_from, new_is, opened, tested, unasked}, Tears.{Way, cutting}, Transfers.{Entries}}
use Rattle.mc_boot.specs.Plan.{PowerOn, again, nothing, plan}
use Rattle.mc_flash.specs.{Flash.{Content, IsSized, byte}, Geometry.{Geometry, IsLayout}, declared.flash.Grain.{Grain}, declared.op.Slot.TheVariants.{Primary, Secondary}}
use Rattle.mc_trailer.specs.{Tables.{asks_another, is_good, reverts_at}, Trailer.{flag_of, place, trailer_of}, declared.tables.Profile.{Profile}, declared.tables.SwapType.{SwapType}}
use Rattle.mc_trailer.specs.{declared.trailer.Flag.{Flag}, declared.trailer.Magic.{Magic}, facts.Fields.{FieldsAre, reads_absent, reads_not_good}, facts.Tables.{asks_clearly, asks_none}}
use Rattle.mc_trailer.specs.declared.places.Field.TheVariants as field
use Rattle.mc_trailer.specs.declared.trailer.Flag.TheVariants as flags
use Rattle.mc_trailer.specs.declared.tables.SwapType.TheVariants as kinds
use Rattle.mc_trailer.specs.declared.trailer.Magic.TheVariants as magics
use Rattle.mc_trailer.specs.declared.tables.Profile.TheVariants as profiles

-- A finished test that is not confirmed, before any transfer; the secondary's trailer may hold anything.
pub record Trial (g : Geometry) (start : Content) (n : ℕ) (s : Content) : Type 0 where
  pub primary : FieldsAre g s Primary tested
  pub data_ : Data g n start 0 s

-- The primary's trailer is made, and no transfer; the secondary's may hold anything, but where only a test may be (b) its image-ok is 0xff.
pub record Opened (g : Geometry) (start : Content) (size n : ℕ) (b : Bool) (kind : SwapType) (s : Content) : Type 0 where
  pub primary : FieldsAre g s Primary (opened g kind size)
  pub entries : Entries g n 0 s
  pub image_ok : b ≡ true → byte s Secondary (place g Secondary field.ImageOk) ≡ 255
  pub data_ : Data g n start 0 s

-- The secondary asks for a swap, and does not say for which.
pub record Unclear (g : Geometry) (start : Content) (n : ℕ) (s : Content) : Type 0 where
  pub magic : (trailer_of g s Secondary).magic ≡ magics.Good
  pub image_ok : (trailer_of g s Secondary).image_ok ≡ flags.Bad
  pub data_ : Data g n start 0 s

-- All transfers are made, and copy-done is bad.
pub record Unsure (g : Geometry) (start : Content) (n : ℕ) (s : Content) : Type 0 where
  pub copy_done : (trailer_of g s Primary).copy_done ≡ flags.Bad
  pub secondary : FieldsAre g s Secondary unasked
  pub data_ : Data g n start (3 * n) s

-- What was asked for (b: a test) is made as that for sure: a test, and anything where no operation is torn.
abbrev pub IsSure : Way → Bool → Type 0
IsSure way b = (b ≡ true) ⊎ (way ≡ cutting)

abbrev pub Becomes : Way → Bool → Bool → Type 0
Becomes way b e = IsSure way b → e ≡ b

abbrev pub flag_asked : Bool → Flag
flag_asked b = if b then flags.Unset else flags.Set

-- The secondary asks for such a swap, or for none.
abbrev pub AsksFor : Geometry → Bool → Content → Type 0
AsksFor g b s = (trailer_of g s Secondary).magic ≡ magics.Good → (trailer_of g s Secondary).image_ok ≡ flag_asked b

-- What losses of power can leave, where at first a test (b) was asked for, or a swap that stays. R is what holds before one is asked for.
pub data Torn (way : Way) (R : Content → Type 0) (p : Profile) (g : Geometry) (start : Content) (size n : ℕ) (b : Bool) (s : Content) : Type 0 where
  waits : R s → Torn way R p g start size n b s
  asks : (e : Bool) → Becomes way b e → Asked g start n e s → Torn way R p g start size n b s
  clears : (e : Bool) (kind : SwapType) → Becomes way b e → IsSwapOf e kind → Opened g start size n b kind s → NoOther p g s → (way ≡ cutting → AsksFor g b s) → Torn way R p g start size n b s
  runs : (e : Bool) (kind : SwapType) (k : ℕ) → Becomes way b e → IsSwapOf e kind → 0 < k → k ≤ 3 * n → Under g start size n kind k s → Torn way R p g start size n b s
  drops : (IsSure way b → ⊥) → p ≢ profiles.Three → Unclear g start n s → Torn way R p g start size n b s
  ends : way ≢ cutting → Unsure g start n s → Torn way R p g start size n b s

-- ---- by what the secondary's trailer reads as

same_asked : (b e : Bool) → flag_asked b ≡ flag_asked e → e ≡ b
same_asked b e same = grind arith

-- where nothing is known of it
module _ (way : Way) (p : Profile) (g : Geometry) (start : Content) (size n : ℕ) (b : Bool) (s : Content) (data_ : Data g n start 0 s) where
  pub sorted : (R : Content → Type 0) → (IsSure way b → AsksFor g b s) → (NoOther p g s → Torn way R p g start size n b s) → Torn way R p g start size n b s
  sorted R sure other = go (trailer_of g s Secondary).magic (trailer_of g s Secondary).image_ok refl refl
    where
      by : (e : Bool) → (trailer_of g s Secondary).magic ≡ magics.Good → (trailer_of g s Secondary).image_ok ≡ flag_asked e → Torn way R p g start size n b s
      by e magic flag = asks e (λ is. same_asked b e (sym (sure is magic) ∙ flag)) (record { secondary = asked_from g s e magic flag; data_ = data_ })

      unsure : (trailer_of g s Secondary).magic ≡ magics.Good → (trailer_of g s Secondary).image_ok ≡ flags.Bad → IsSure way b → ⊥
      unsure magic flag is = let asked_is = sure is magic in grind arith

      unclear : (q : Profile) → p ≡ q → (trailer_of g s Secondary).magic ≡ magics.Good → (trailer_of g s Secondary).image_ok ≡ flags.Bad → Torn way R p g start size n b s
      unclear profiles.Three is magic flag = other (ap (λ q. asks_another q (trailer_of g s Primary) (trailer_of g s Secondary)) is ∙ rw magic (rw flag refl))
      unclear q is magic flag =
          drops (unsure magic flag) (λ three. let e : q ≡ profiles.Three = sym is ∙ three in cc) (record { magic = magic; image_ok = flag; data_ = data_ })

      go : (m : Magic) (f : Flag) → (trailer_of g s Secondary).magic ≡ m → (trailer_of g s Secondary).image_ok ≡ f → Torn way R p g start size n b s
      go magics.Good flags.Unset magic flag = by true magic flag
      go magics.Good flags.Set magic flag = by false magic flag
      go magics.Good flags.Bad magic flag = unclear p refl magic flag
      go magics.Unset f magic flag = other (asks_none p (trailer_of g s Primary) (trailer_of g s Secondary) (ap is_good magic))
      go magics.Bad f magic flag = other (asks_none p (trailer_of g s Primary) (trailer_of g s Secondary) (ap is_good magic))

-- The secondary's magic while a revert waits and no operation is torn: it is unset, or not yet changed.
abbrev pub IsQuiet : Grain → Profile → Geometry → Content → Type 0
IsQuiet c p g s = MagicUnset c g Secondary s ⊎ (reverts_at p (trailer_of g s Secondary).magic ≡ true)

pub quiet_not_good : (c : Grain) (p : Profile) (g : Geometry) (s : Content) → IsLayout g → IsSized g s → IsQuiet c p g s → is_good (trailer_of g s Secondary).magic ≡ false
quiet_not_good c p g s ok sized (inl unset) = grind (arith, reads_absent, reads_not_good)
quiet_not_good c p g s ok sized (inr reverts) = grind arith

-- What a revert waits as.
pub record Waits (way : Way) (c : Grain) (p : Profile) (g : Geometry) (start : Content) (n : ℕ) (s : Content) : Type 0 where
  pub trial : Trial g start n s
  pub other : NoOther p g s
  pub quiet : way ≡ cutting → IsQuiet c p g s

pub sort_trial : (way : Way) (c : Grain) (p : Profile) (g : Geometry) (start : Content) (size n : ℕ) (s : Content) → IsLayout g → Trial g start n s → (way ≡ cutting → IsQuiet c p g s)
    → Torn way (Waits way c p g start n) p g start size n false s
sort_trial way c p g start size n s ok is quiet =
    sorted way p g start size n false s is.data_ (Waits way c p g start n) by (λ other. waits (record { trial = is; other = other; quiet = quiet }))
  where
    by : IsSure way false → AsksFor g false s
    by (inl test) = absurd cc
    by (inr cut) = λ good. absurd (let e = quiet_not_good c p g s ok is.data_.sized (quiet cut) in let f : is_good (trailer_of g s Secondary).magic ≡ true = ap is_good good in cc)

unset_reads : (g : Geometry) (s : Content) → byte s Secondary (place g Secondary field.ImageOk) ≡ 255 → (trailer_of g s Secondary).image_ok ≡ flags.Unset
unfolding trailer_of
unset_reads g s is = ap flag_of is

-- a swap that is to clear the secondary's trailer
pub sort_opened : (way : Way) (R : Content → Type 0) (p : Profile) (g : Geometry) (start : Content) (size n : ℕ) (b e : Bool) (kind : SwapType) (s : Content)
    → Becomes way b e → IsSwapOf e kind → Opened g start size n b kind s → (way ≡ cutting → AsksFor g b s) → Torn way R p g start size n b s
sort_opened way R p g start size n b e kind s later of is exact = sorted way p g start size n b s is.data_ R by (λ other. clears e kind later of is other exact)
  where
    by : IsSure way b → AsksFor g b s
    by (inl test) = λ _. rw test (unset_reads g s (is.image_ok test))
    by (inr cut) = exact cut

-- A swap that runs; where no transfer is made and only a test may be, the secondary's image-ok is 0xff.
pub record Running (g : Geometry) (start : Content) (size n : ℕ) (b : Bool) (kind : SwapType) (k : ℕ) (s : Content) : Type 0 where
  pub under : Under g start size n kind k s
  pub image_ok : k ≡ 0 → b ≡ true → byte s Secondary (place g Secondary field.ImageOk) ≡ 255

pub under_alone : (p : Profile) (g : Geometry) (start : Content) (size n : ℕ) (kind : SwapType) (k : ℕ) (s : Content) → IsLayout g → Under g start size n kind k s → NoOther p g s
under_alone p g start size n kind k s ok is =
    asks_none p (trailer_of g s Primary) (trailer_of g s Secondary) (ap is_good (reads_absent g s Secondary ok is.data_.sized (is.secondary field.Magic)))

pub running_is : (way : Way) (R : Content → Type 0) (p : Profile) (g : Geometry) (start : Content) (size n : ℕ) (b e : Bool) (kind : SwapType) (k : ℕ) (s : Content)
    → IsLayout g → Becomes way b e → IsSwapOf e kind → k ≤ 3 * n → Running g start size n b kind k s → Torn way R p g start size n b s
running_is way R p g start size n b e kind zero s ok later of most is =
    clears e kind later of (record { primary = is.under.primary; entries = is.under.entries; image_ok = is.image_ok refl; data_ = is.under.data_ }) (under_alone p g start size n kind 0 s ok is.under)
    (λ _ good. let absent = reads_absent g s Secondary ok is.under.data_.sized (is.under.secondary field.Magic) in absurd cc)
running_is way R p g start size n b e kind (suc k) s ok later of most is = runs e kind (suc k) later of (omega arith) most is.under

-- ---- plans

pub plan_unclear : (x : PowerOn) (s : Content) → x.rules.profile ≢ profiles.Three → (trailer_of x.geometry s Secondary).magic ≡ magics.Good
    → (trailer_of x.geometry s Secondary).image_ok ≡ flags.Bad → plan (again x s) ≡ nothing kinds.None
plan_unclear x s other good bad =
    let another = asks_clearly x.rules.profile (trailer_of x.geometry s Primary) (trailer_of x.geometry s Secondary) good (λ _. other) in
    new_is (again x s) kinds.None (nothing kinds.None) (rw another (grind arith)) (rw good (rw bad (grind arith))) refl

pub plan_unsure : (x : PowerOn) (s : Content) → (trailer_of x.geometry s Primary).copy_done ≡ flags.Bad
    → (trailer_of x.geometry s Secondary).magic ≡ magics.Unset → plan (again x s) ≡ nothing kinds.None
plan_unsure x s bad absent = new_is (again x s) kinds.None (nothing kinds.None) (rw bad (grind arith)) (rw absent (rw bad (grind arith))) refl
