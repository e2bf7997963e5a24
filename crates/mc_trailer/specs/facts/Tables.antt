-- What follows for the swap tables. Proved here, so that the crates above can cite it.
use Rattle.std.specs.Prelude.{◌≡◌, ◌≢◌, Bool, true, false, ◌&&◌, ◌||◌, if◌then◌else◌, ◌↔◌, refl}
use Rattle.std.proofs.Common.{subst}
use Rattle.mc_trailer.specs.{Tables.{asks_another, is_good, is_set, is_unset, reverts_at, asks_test, asks_perm, asks_revert, Asks, swap_type}, declared.trailer.Magic.{Magic}}
use Rattle.mc_trailer.specs.declared.trailer.Magic.TheVariants as magics
use Rattle.mc_trailer.specs.declared.trailer.Flag.{Flag}
use Rattle.mc_trailer.specs.declared.trailer.Flag.TheVariants as flags
use Rattle.mc_trailer.specs.{declared.trailer.Trailer.{Trailer}, declared.tables.Profile.{Profile}}
use Rattle.mc_trailer.specs.declared.tables.Profile.TheVariants as profiles
use Rattle.mc_trailer.specs.declared.tables.SwapType.{SwapType}
use Rattle.mc_trailer.specs.declared.tables.SwapType.TheVariants as kinds
use Rattle.mc_trailer.specs.Laws.{RowsApart, TypesAreRows}

-- Both parts of a conjunction hold.
pub and_parts : (a b : Bool) → (a && b) ≡ true → (a ≡ true) × (b ≡ true)
and_parts true b is = (refl, is)
and_parts false b is = absurd cc

-- No flag is read in two ways, and a good magic of the secondary is none that a revert takes.
not_both : (f : Flag) → is_unset f ≡ true → is_set f ≡ false
not_both flags.Set is = absurd cc
not_both flags.Unset is = refl
not_both flags.Bad is = absurd cc

not_good : (profile : Profile) (m : Magic) → is_good m ≡ true → reverts_at profile m ≡ false
not_good profiles.One magics.Good is = refl
not_good profiles.Two magics.Good is = refl
not_good profiles.Three magics.Good is = refl
not_good profile magics.Unset is = absurd cc
not_good profile magics.Bad is = absurd cc

-- What keeps a boot from going on with a swap.
pub asks_none : (profile : Profile) (p s : Trailer) → is_good s.magic ≡ false → asks_another profile p s ≡ false
asks_none profiles.One p s not_so = not_so
asks_none profiles.Two p s not_so = not_so
asks_none profiles.Three p s not_so = rw not_so refl

pub asks_clearly : (profile : Profile) (p s : Trailer) → s.magic ≡ magics.Good → (s.image_ok ≡ flags.Bad → profile ≢ profiles.Three) → asks_another profile p s ≡ true
asks_clearly profiles.One p s good clear = rw good refl
asks_clearly profiles.Two p s good clear = rw good refl
asks_clearly profiles.Three p s good clear = rw good (one_of s.image_ok refl)
  where
    one_of : (f : Flag) → s.image_ok ≡ f → (is_unset f || is_set f) ≡ true
    one_of flags.Set is = refl
    one_of flags.Unset is = refl
    one_of flags.Bad is = absurd (clear is refl)

pub asks_neither : (profile : Profile) (p s : Trailer) → asks_another profile p s ≡ false → (asks_test p s ≡ false) × (asks_perm p s ≡ false)
asks_neither profiles.One p s none = (rw none refl, rw none refl)
asks_neither profiles.Two p s none = (rw none refl, rw none refl)
asks_neither profiles.Three p s none = either (asks_test p s) (asks_perm p s) none
  where
    either : (a b : Bool) → (a || b) ≡ false → (a ≡ false) × (b ≡ false)
    either true b none = absurd cc
    either false b none = (refl, none)

without_second : (a b c d : Bool) → b ≡ false → (a && b && c && d) ≡ false
without_second a b c d is = rw is (closed a)
  where
    closed : (a : Bool) → (a && false && c && d) ≡ false
    closed true = refl
    closed false = refl

no_revert : (profile : Profile) (p s : Trailer) → is_good s.magic ≡ true → asks_revert profile p s ≡ false
no_revert profile p s good = without_second (is_good p.magic) (reverts_at profile s.magic) (is_unset p.image_ok) (is_set p.copy_done) (not_good profile s.magic good)

pub rows_apart : RowsApart
rows_apart profile p s = (
  λ test. let parts = and_parts (is_good s.magic) (is_unset s.image_ok) test in rw (not_both s.image_ok parts.1) (let good = parts.0 in rw good refl),
  λ test. no_revert profile p s (and_parts (is_good s.magic) (is_unset s.image_ok) test).0,
  λ perm. no_revert profile p s (and_parts (is_good s.magic) (is_set s.image_ok) perm).0,
)

-- The same of three tests, no two of which hold together.
abbrev says : Bool → Bool → Bool → SwapType → Type 0
says a b c kinds.None = (a ≡ false) × (b ≡ false) × (c ≡ false)
says a b c kinds.Test = a ≡ true
says a b c kinds.Perm = b ≡ true
says a b c kinds.Revert = c ≡ true
says a b c kinds.Fail = ⊥
says a b c kinds.Panic = ⊥

abbrev first_of : Bool → Bool → Bool → SwapType
first_of a b c = if a then kinds.Test else if b then kinds.Perm else if c then kinds.Revert else kinds.None

first_says : (a b c : Bool) → says a b c (first_of a b c)
first_says true b c = refl
first_says false true c = refl
first_says false false true = refl
first_says false false false = (refl, refl, refl)

-- where the later of two tests holds, the earlier does not
not_earlier : (a b : Bool) → (a ≡ true → b ≡ false) → b ≡ true → a ≡ false
not_earlier true b apart is = absurd (let fails = apart refl in cc)
not_earlier false b apart is = refl

says_first : (a b c : Bool) (kind : SwapType) → (a ≡ true → b ≡ false) × (a ≡ true → c ≡ false) × (b ≡ true → c ≡ false) → says a b c kind → first_of a b c ≡ kind
says_first a b c kinds.None apart is = rw is.0 (rw is.1 (rw is.2 refl))
says_first a b c kinds.Test apart is = rw is refl
says_first a b c kinds.Perm apart is = rw (not_earlier a b apart.0 is) (rw is refl)
says_first a b c kinds.Revert apart is = rw (not_earlier a c apart.1 is) (rw (not_earlier b c apart.2 is) (rw is refl))
says_first a b c kinds.Fail apart is = absurd is
says_first a b c kinds.Panic apart is = absurd is

-- what three tests say is what the rows do
rows_say : (profile : Profile) (p s : Trailer) (kind : SwapType) → says (asks_test p s) (asks_perm p s) (asks_revert profile p s) kind ↔ Asks profile p s kind
rows_say profile p s kinds.None = (λ is. is, λ is. is)
rows_say profile p s kinds.Test = (λ is. is, λ is. is)
rows_say profile p s kinds.Perm = (λ is. is, λ is. is)
rows_say profile p s kinds.Revert = (λ is. is, λ is. is)
rows_say profile p s kinds.Fail = (λ is. is, λ is. is)
rows_say profile p s kinds.Panic = (λ is. is, λ is. is)

pub asked : (profile : Profile) (p s : Trailer) → Asks profile p s (swap_type profile p s)
asked profile p s = (rows_say profile p s (swap_type profile p s)).0 (first_says (asks_test p s) (asks_perm p s) (asks_revert profile p s))

pub types_are_rows : TypesAreRows
types_are_rows profile p s kind = (
  λ is. let P : SwapType → Type 0 = λ k. Asks profile p s k in subst P is (asked profile p s),
  λ asks. says_first (asks_test p s) (asks_perm p s) (asks_revert profile p s) kind (rows_apart profile p s) ((rows_say profile p s kind).1 asks),
)
