-- The swap tables, and when a boot goes on with a swap that was cut. The tables are from MCUboot's design document
-- ("swap types"): each row names some fields of the two trailers, and the others may hold anything. The second and the third
-- profile, and the rule by which a boot goes on, are this project's own choice.
use Rattle.std.specs.Prelude.{Bool, List, [], codes, decimal, false, if◌then◌else◌, not, true, ℕ, ◌&&◌, ◌||◌, ◌++◌, ◌∷◌, ◌≡◌}
use Rattle.hex.specs.Hex.{encode_lower}
use Rattle.mc_flash.specs.{Flash.{Content}, Geometry.{Geometry}, declared.op.Slot.TheVariants.{Primary, Secondary}}
use Rattle.mc_trailer.specs.{Trailer.{trailer_of}, declared.tables.Profile.{Profile}, declared.tables.SwapType.{SwapType}, declared.trailer.Flag.{Flag}}
use Rattle.mc_trailer.specs.{declared.trailer.Magic.{Magic}, declared.trailer.Trailer.{Trailer}}
use Rattle.mc_trailer.specs.declared.trailer.Flag.TheVariants as flags
use Rattle.mc_trailer.specs.declared.tables.SwapType.TheVariants as kinds
use Rattle.mc_trailer.specs.declared.trailer.Magic.TheVariants as magics
use Rattle.mc_trailer.specs.declared.tables.Profile.TheVariants as profiles

-- The readings that the rows ask for.
abbrev pub is_good : Magic → Bool
is_good magics.Good = true
is_good magics.Unset = false
is_good magics.Bad = false

abbrev pub is_absent : Magic → Bool
is_absent magics.Good = false
is_absent magics.Unset = true
is_absent magics.Bad = false

abbrev pub is_set : Flag → Bool
is_set flags.Set = true
is_set flags.Unset = false
is_set flags.Bad = false

abbrev pub is_unset : Flag → Bool
is_unset flags.Set = false
is_unset flags.Unset = true
is_unset flags.Bad = false

-- The row of a test, of the primary's trailer and the secondary's: the secondary is meant, and is not confirmed.
abbrev pub asks_test : Trailer → Trailer → Bool
asks_test p s = is_good s.magic && is_unset s.image_ok

-- The row of a swap that stays: the secondary is meant, and is confirmed.
abbrev pub asks_perm : Trailer → Trailer → Bool
asks_perm p s = is_good s.magic && is_set s.image_ok

-- A revert takes an unset magic of the secondary; in the second profile and the third also a bad one.
abbrev pub reverts_at : Profile → Magic → Bool
reverts_at profiles.One magic = is_absent magic
reverts_at profiles.Two magic = not (is_good magic)
reverts_at profiles.Three magic = not (is_good magic)

-- The row of a revert: a swap was finished, the primary is not confirmed, and nothing waits in the secondary.
abbrev pub asks_revert : Profile → Trailer → Trailer → Bool
asks_revert profile p s = is_good p.magic && reverts_at profile s.magic && is_unset p.image_ok && is_set p.copy_done

-- What the tables say of a type: its row holds; of no swap, that no row holds. The tables answer nothing else.
abbrev pub Asks : Profile → Trailer → Trailer → SwapType → Type 0
Asks profile p s kinds.None = (asks_test p s ≡ false) × (asks_perm p s ≡ false) × (asks_revert profile p s ≡ false)
Asks profile p s kinds.Test = asks_test p s ≡ true
Asks profile p s kinds.Perm = asks_perm p s ≡ true
Asks profile p s kinds.Revert = asks_revert profile p s ≡ true
Asks profile p s kinds.Fail = ⊥
Asks profile p s kinds.Panic = ⊥

-- The type that the tables give.
abbrev pub swap_type : Profile → Trailer → Trailer → SwapType
swap_type profile p s =
    if asks_test p s then kinds.Test
    else if asks_perm p s then kinds.Perm
    else if asks_revert profile p s then kinds.Revert
    else kinds.None

-- Another swap is asked for: the secondary is meant; in the third profile, it is clear for which of the two.
abbrev pub asks_another : Profile → Trailer → Trailer → Bool
asks_another profiles.One p s = is_good s.magic
asks_another profiles.Two p s = is_good s.magic
asks_another profiles.Three p s = asks_test p s || asks_perm p s

-- A boot goes on where the primary is meant, its swap was not finished, and no other is asked for.
abbrev pub resumes_by : Profile → Trailer → Trailer → Bool
resumes_by profile p s = is_good p.magic && is_unset p.copy_done && not (asks_another profile p s)

-- The same by the first two profiles.
abbrev pub resumes : Trailer → Trailer → Bool
resumes p s = is_good p.magic && is_unset p.copy_done && not (is_good s.magic)

-- The same of a flash.
abbrev pub table_of : Profile → Geometry → Content → SwapType
table_of profile g s = swap_type profile (trailer_of g s Primary) (trailer_of g s Secondary)

abbrev pub is_resumed : Profile → Geometry → Content → Bool
is_resumed profile g s = resumes_by profile (trailer_of g s Primary) (trailer_of g s Secondary)

-- How fields, types and profiles are written: this project's own texts.

abbrev pub magic_text : Magic → List ℕ
magic_text magics.Good = codes "good"
magic_text magics.Unset = codes "unset"
magic_text magics.Bad = codes "bad"

abbrev pub flag_text : Flag → List ℕ
flag_text flags.Set = codes "set"
flag_text flags.Unset = codes "unset"
flag_text flags.Bad = codes "bad"

abbrev pub type_text : SwapType → List ℕ
type_text kinds.None = codes "none"
type_text kinds.Test = codes "test"
type_text kinds.Perm = codes "perm"
type_text kinds.Revert = codes "revert"
type_text kinds.Fail = codes "fail"
type_text kinds.Panic = codes "panic"

abbrev pub profile_text : Profile → List ℕ
profile_text profiles.One = codes "1"
profile_text profiles.Two = codes "2"
profile_text profiles.Three = codes "3"

-- The five fields of a trailer: the magic and the flags, then the type and the size of a swap. The type is a byte in two digits.
abbrev pub flags_text : Trailer → List ℕ
flags_text t = codes "magic=" ++ (magic_text t.magic ++ (codes " image-ok=" ++ (flag_text t.image_ok ++ (codes " copy-done=" ++ (flag_text t.copy_done ++ codes " ")))))

abbrev pub swap_text : Trailer → List ℕ
swap_text t = codes "swap-info=0x" ++ (encode_lower (t.swap_info ∷ []) ++ (codes " swap-size=" ++ decimal t.swap_size))

abbrev pub trailer_text : Trailer → List ℕ
trailer_text t = flags_text t ++ swap_text t
