-- The sections of a course: how many operations each has, and which.
use Rattle.std.specs.Prelude.{Bool, List, Some, [], drop, false, flat_map, if◌then◌else◌, map, max, not, slice_get, ℕ, ◌*◌, ◌++◌, ◌+◌, ◌-◌, ◌/◌, ◌<◌, ◌∷◌, ◌≡◌}
use Rattle.mc_boot.specs.{Plan.{is_revert, is_test, number_of, opening_writes, preparation_writes, steps, trailer_erases, transfers, write, write_count}, declared.course.Opening.{Opening}, declared.course.Opening.TheVariants.{New, Resumed}, declared.section.Counted.{Counted}, declared.transfer.Transfer.{Transfer}}
use Rattle.mc_boot.specs.{declared.section.Section.{Section}, declared.section.Section.TheVariants.{Nothing, Erases, Flag, Size, Magic, Transfers}}
use Rattle.mc_flash.specs.{Geometry.{Geometry, trailer_sectors}, declared.flash.Grain.{Grain}, declared.op.Op.{Op}, declared.op.Op.TheVariants.{Program}}
use Rattle.mc_flash.specs.declared.op.Slot.TheVariants.{Primary, Secondary}
use Rattle.mc_trailer.specs.Trailer.{magic_bytes, one_unit, place, size_bytes}
use Rattle.mc_trailer.specs.declared.places.Field.TheVariants as field
use Rattle.mc_trailer.specs.declared.tables.SwapType.{SwapType}

-- The operations of a section of a course of n sectors, and how many they are.
abbrev pub ops_in : Grain → Geometry → ℕ → Section → List Op
ops_in c g n Nothing = []
ops_in c g n (Erases slot) = trailer_erases g slot
ops_in c g n (Flag slot f value) = Program slot (place g slot f) (one_unit g value) ∷ []
ops_in c g n (Size slot size) = write c g slot field.SwapSize (size_bytes g size)
ops_in c g n (Magic slot) = write c g slot field.Magic magic_bytes
ops_in c g n (Transfers first) = flat_map (steps g) (drop first (transfers g n))

abbrev pub count_in : Grain → Geometry → ℕ → Section → ℕ
count_in c g n Nothing = 0
count_in c g n (Erases slot) = trailer_sectors g
count_in c g n (Flag slot f value) = 1
count_in c g n (Size slot size) = write_count c g (max g.unit 4)
count_in c g n (Magic slot) = write_count c g 16
count_in c g n (Transfers first) = (3 * n - first) * (g.sector / g.chunk + 2)

abbrev pub counted : Grain → Geometry → ℕ → Section → Counted
counted c g n section = record { section = section; len = count_in c g n section }

-- Each is counted by that course.
abbrev pub AreCounted : Grain → Geometry → ℕ → List Counted → Type 0
AreCounted c g n sections = sections ≡ map (λ x. counted c g n x.section) sections

-- The operations of some sections, one after the other.
abbrev pub ops_of_all : Grain → Geometry → ℕ → List Counted → List Op
ops_of_all c g n sections = flat_map (λ x. ops_in c g n x.section) sections

abbrev pub when : Bool → Section → Section
when wanted section = if wanted then section else Nothing

-- The sections of a revert's preparation, of a swap from its start after that, and of one that was cut.

abbrev pub preparation_sections : ℕ → List Section
preparation_sections size =
    Erases Secondary ∷ Flag Secondary field.ImageOk 1 ∷ Size Secondary size ∷ Magic Secondary ∷ []

abbrev pub swap_sections : SwapType → ℕ → List Section
swap_sections kind size =
    Erases Primary ∷ Flag Primary field.SwapInfo (number_of kind) ∷ when (not (is_test kind)) (Flag Primary field.ImageOk 1)
    ∷ Size Primary size ∷ Magic Primary
    ∷ Erases Secondary ∷ Transfers 0 ∷ Flag Primary field.CopyDone 1 ∷ []

abbrev pub resumed_sections : ℕ → Bool → Bool → List Section
resumed_sections first erases image_ok =
    when erases (Erases Secondary) ∷ Transfers first ∷ when image_ok (Flag Primary field.ImageOk 1)
    ∷ Flag Primary field.CopyDone 1 ∷ []

-- A course in three parts: what stands before its transfers, the transfers from the first that is left on, and the finish.

abbrev pub head_list : Grain → Geometry → Opening → List Op
head_list c g (New kind size) =
    (if is_revert kind then trailer_erases g Secondary ++ preparation_writes c g size else [])
    ++ (trailer_erases g Primary ++ (opening_writes c g kind size ++ trailer_erases g Secondary))
head_list c g (Resumed first erases image_ok) = if erases then trailer_erases g Secondary else []

abbrev pub first_of : Opening → ℕ
first_of (New kind size) = 0
first_of (Resumed first erases image_ok) = first

-- That is the transfer of that number, among those that are left.
abbrev pub IsTransferOf : Geometry → ℕ → Opening → ℕ → Transfer → Type 0
IsTransferOf g n o number t = (number < 3 * n - first_of o) × (slice_get (transfers g n) (first_of o + number) ≡ Some t)

abbrev pub is_confirmed : Opening → Bool
is_confirmed (New kind size) = false
is_confirmed (Resumed first erases image_ok) = image_ok
