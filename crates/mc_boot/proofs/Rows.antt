-- The definitions computed on a small layout: sectors of 256 bytes, units of 8, at most 4 sectors of an image, chunks of
-- 128, four and three sectors. The images are of 80 bytes, and valid.
use Rattle.std.specs.{Prelude.{◌≡◌, ℕ, true, List, [], ◌∷◌, ◌++◌, map, replicate, take, length, sum, unwrap_or, refl}, List.{range_with_len}}
use Rattle.std.proofs.Common.{ap}
use Rattle.mc_flash.specs.{Geometry.{Geometry, trailer_sectors, greatest_sectors}, Flash.{Content, put, apply}}
use Rattle.mc_flash.specs.{declared.op.Slot.TheVariants.{Primary, Secondary}, declared.op.Op.{Op}, declared.op.Op.TheVariants.{Erase, Program, Copy}}
use Rattle.mc_flash.specs.declared.flash.Grain.TheVariants as grains
use Rattle.mc_trailer.specs.{Trailer.{magic_bytes, trailer_of}, declared.tables.Rules.{Rules}}
use Rattle.mc_trailer.specs.declared.tables.Profile.TheVariants as profiles
use Rattle.mc_trailer.specs.declared.tables.SwapType.{SwapType}
use Rattle.mc_trailer.specs.declared.tables.SwapType.TheVariants as kinds
use Rattle.mc_boot.specs.{declared.image.Images.{Images}, Plan.{Plan, plan_with, plain}, Outcome.{applied, happening}, Restart.{test_flash, perm_flash}}

abbrev q : Geometry
q = record { sector = 256; unit = 8; max_sectors = 4; chunk = 128; primary = 4; secondary = 3 }

abbrev eighty : Images
eighty = record { valid = true; size = 80 }

-- bytes in place of the images'
abbrev a : List ℕ
a = replicate 80 17

abbrev b : List ℕ
b = replicate 80 34

one_sector : trailer_sectors q ≡ 1
one_sector = refl

two_sectors : greatest_sectors q ≡ 2
two_sectors = refl

abbrev one : List ℕ
one = 1 ∷ 255 ∷ 255 ∷ 255 ∷ 255 ∷ 255 ∷ 255 ∷ 255 ∷ []

-- the operations of the swap for a test
abbrev tested : List Op
tested =
    Erase Primary 3
    ∷ Program Primary 984 (2 ∷ 255 ∷ 255 ∷ 255 ∷ 255 ∷ 255 ∷ 255 ∷ 255 ∷ [])
    ∷ Program Primary 976 (80 ∷ 0 ∷ 0 ∷ 0 ∷ 255 ∷ 255 ∷ 255 ∷ 255 ∷ [])
    ∷ Program Primary 1008 magic_bytes
    ∷ Erase Secondary 2
    ∷ Erase Primary 1
    ∷ Copy Primary 0 Primary 256 128
    ∷ Copy Primary 128 Primary 384 128
    ∷ Program Primary 880 one
    ∷ Erase Primary 0
    ∷ Copy Secondary 0 Primary 0 128
    ∷ Copy Secondary 128 Primary 128 128
    ∷ Program Primary 912 one
    ∷ Erase Secondary 0
    ∷ Copy Primary 256 Secondary 0 128
    ∷ Copy Primary 384 Secondary 128 128
    ∷ Program Primary 920 one
    ∷ Program Primary 992 one
    ∷ []

-- the plan of a flash with these images
abbrev from : Rules → Content → Plan
from r s = plan_with r q eighty s

test_plan : (from plain (test_flash q a b)).list ≡ tested
unfolding trailer_of plan_with
test_plan = refl

all_happen : happening q tested (test_flash q a b) ≡ tested
unfolding trailer_of apply
all_happen = refl

-- what so many of a list of operations leave
abbrev after : Content → List Op → ℕ → Content
after s ops c = unwrap_or (applied q (take c ops) s) s

-- how many operations the next boot has after each cut
abbrev lengths : Content → List Op → List ℕ
lengths s ops = map (λ c. length (from plain (after s ops c)).list) (range_with_len 0 (length ops))

test_cuts : lengths (test_flash q a b) tested ≡ 18 ∷ 18 ∷ 18 ∷ 18 ∷ 18 ∷ 14 ∷ 14 ∷ 14 ∷ 14 ∷ 9 ∷ 9 ∷ 9 ∷ 9 ∷ 5 ∷ 5 ∷ 5 ∷ 5 ∷ 1 ∷ []
unfolding trailer_of apply plan_with
test_cuts = refl

abbrev types : Content → List Op → List SwapType
types s ops = map (λ c. (from plain (after s ops c)).kind) (range_with_len 0 (length ops))

test_types : types (test_flash q a b) tested ≡ replicate 18 kinds.Test
unfolding trailer_of apply plan_with
test_types = refl

sum_test : sum (lengths (test_flash q a b) tested) ≡ 203
sum_test = ap sum test_cuts

-- What the swap for a test leaves is reverted.
abbrev reverting : Content
reverting = after (test_flash q a b) tested 18

revert_next : (from plain reverting).kind ≡ kinds.Revert
unfolding trailer_of apply plan_with
revert_next = refl

perm_cuts : lengths (perm_flash q a b) (from plain (perm_flash q a b)).list ≡ 19 ∷ 19 ∷ 19 ∷ 19 ∷ 19 ∷ 19 ∷ 14 ∷ 14 ∷ 14 ∷ 14 ∷ 9 ∷ 9 ∷ 9 ∷ 9 ∷ 5 ∷ 5 ∷ 5 ∷ 5 ∷ 1 ∷ []
unfolding trailer_of apply plan_with
perm_cuts = refl

revert_cuts : lengths reverting (from plain reverting).list
    ≡ 23 ∷ 23 ∷ 23 ∷ 23 ∷ 19 ∷ 19 ∷ 19 ∷ 19 ∷ 19 ∷ 19 ∷ 14 ∷ 14 ∷ 14 ∷ 14 ∷ 9 ∷ 9 ∷ 9 ∷ 9 ∷ 5 ∷ 5 ∷ 5 ∷ 5 ∷ 1 ∷ []
unfolding trailer_of apply plan_with
revert_cuts = refl

perm_types : types (perm_flash q a b) (from plain (perm_flash q a b)).list ≡ replicate 19 kinds.Perm
unfolding trailer_of apply plan_with
perm_types = refl

-- A revert that is cut between its preparation and the first transfer's erase goes on as a swap for good.
revert_types : types reverting (from plain reverting).list ≡ replicate 4 kinds.Revert ++ (replicate 6 kinds.Perm ++ replicate 13 kinds.Revert)
unfolding trailer_of apply plan_with
revert_types = refl

-- The swap for good has image-ok after the type, and a revert the secondary's trailer first.
perm_opens : take 5 (from plain (perm_flash q a b)).list
    ≡ Erase Primary 3
    ∷ Program Primary 984 (3 ∷ 255 ∷ 255 ∷ 255 ∷ 255 ∷ 255 ∷ 255 ∷ 255 ∷ [])
    ∷ Program Primary 1000 one
    ∷ Program Primary 976 (80 ∷ 0 ∷ 0 ∷ 0 ∷ 255 ∷ 255 ∷ 255 ∷ 255 ∷ [])
    ∷ Program Primary 1008 magic_bytes
    ∷ []
unfolding trailer_of apply plan_with
perm_opens = refl

revert_opens : take 7 (from plain reverting).list
    ≡ Erase Secondary 2
    ∷ Program Secondary 744 one
    ∷ Program Secondary 720 (80 ∷ 0 ∷ 0 ∷ 0 ∷ 255 ∷ 255 ∷ 255 ∷ 255 ∷ [])
    ∷ Program Secondary 752 magic_bytes
    ∷ Erase Primary 3
    ∷ Program Primary 984 (4 ∷ 255 ∷ 255 ∷ 255 ∷ 255 ∷ 255 ∷ 255 ∷ 255 ∷ [])
    ∷ Program Primary 1000 one
    ∷ []
unfolding trailer_of apply plan_with
revert_opens = refl

-- ---- each unit an operation of its own

abbrev units : Rules
units = record { grain = grains.Unit; profile = profiles.One }

abbrev units_two : Rules
units_two = record { grain = grains.Unit; profile = profiles.Two }

test_by_units : length (from units (test_flash q a b)).list ≡ 109
unfolding trailer_of plan_with
test_by_units = refl

perm_by_units : length (from units (perm_flash q a b)).list ≡ 110
unfolding trailer_of plan_with
perm_by_units = refl

revert_by_units : length (from units reverting).list ≡ 115
unfolding trailer_of apply plan_with
revert_by_units = refl

revert_by_units_two : length (from units_two reverting).list ≡ 115
unfolding trailer_of apply plan_with
revert_by_units_two = refl

-- After four operations of that revert half of the secondary's magic stands: the first profile finds no swap, and the second
-- the revert. After one more the magic is whole, and both find a swap for good.
abbrev half_a_magic : Content
half_a_magic = after reverting (from units reverting).list 4

lost : (from units half_a_magic).kind ≡ kinds.None
unfolding trailer_of apply plan_with
lost = refl

kept : (from units_two half_a_magic).kind ≡ kinds.Revert
unfolding trailer_of apply plan_with
kept = refl

kept_whole : length (from units_two half_a_magic).list ≡ 115
unfolding trailer_of apply plan_with
kept_whole = refl

abbrev a_magic : Content
a_magic = after reverting (from units reverting).list 5

for_good : (from units a_magic).kind ≡ kinds.Perm
unfolding trailer_of apply plan_with
for_good = refl

for_good_ops : length (from units a_magic).list ≡ 110
unfolding trailer_of apply plan_with
for_good_ops = refl

-- ---- flashes of 0xff but for the primary's magic, the type of a test, a size, and two more bytes

abbrev marked : List ℕ → ℕ → ℕ → ℕ → ℕ → Content
marked size at x other y = record {
  primary = put (put (put (put (put (replicate 1024 255) 1008 magic_bytes) 984 (2 ∷ [])) 976 size) at (x ∷ [])) other (y ∷ []);
  secondary = replicate 768 255;
}

abbrev whole_size : List ℕ
whole_size = 80 ∷ 0 ∷ 0 ∷ 0 ∷ []

-- without a size
no_size : (from plain (marked (255 ∷ 255 ∷ 255 ∷ 255 ∷ []) 0 255 0 255)).kind ≡ kinds.Panic
unfolding trailer_of plan_with
no_size = refl

-- The last entry is written, and copy-done can't be: one operation is left, and it does not happen.
abbrev stuck : Content
stuck = marked whole_size 920 1 993 0

one_left : length (from plain stuck).list ≡ 1
unfolding trailer_of plan_with
one_left = refl

none_happens : happening q (from plain stuck).list stuck ≡ []
unfolding trailer_of apply plan_with
none_happens = refl

-- The second entry belongs to no transfer of one sector.
no_transfer : (from plain (marked whole_size 888 1 993 0)).kind ≡ kinds.Panic
unfolding trailer_of plan_with
no_transfer = refl
