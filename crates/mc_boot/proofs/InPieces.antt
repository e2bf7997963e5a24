-- Both grains by one proof: what stands on the layout in pieces stands on the layout itself.
use Rattle.std.specs.Prelude.{Bool, List, refl, ℕ, ◌≡◌}
use Rattle.mc_boot.proofs.{Moving.{data_begin}, Phases.{Asked, Swap, asked}}
use Rattle.mc_boot.specs.{Plan.{plan, plan_with, power_on}, Restart.{AreExchanged}}
use Rattle.mc_flash.specs.{Flash.{Content, IsSized, apply}, Geometry.{Geometry, in_pieces}, declared.flash.Grain.{Grain}, declared.op.Op.{Op}, declared.op.Op.TheVariants.{Erase}}
use Rattle.mc_flash.specs.{declared.op.Slot.{Slot}, declared.op.Slot.TheVariants.{Primary, Secondary}, facts.Pieces.{pieces_layout}}
use Rattle.mc_trailer.specs.{Trailer.{trailer_of}, declared.places.Field.{Field}, declared.tables.Profile.{Profile}, declared.tables.Rules.{Rules}, facts.Fields.{FieldsAre}}
use Rattle.mc_flash.specs.declared.flash.Grain.TheVariants as grains

-- From a layout to the same in the pieces that are written at once: all but the copies is the same.

pub pieces_again : (c : Grain) (g : Geometry) → in_pieces c (in_pieces c g) ≡ in_pieces c g
pieces_again grains.Call g = refl
pieces_again grains.Unit g = refl

pub plan_in_pieces : (r : Rules) (g : Geometry) (s : Content) → plan (power_on r (in_pieces r.grain g) s) ≡ plan (power_on r g s)
unfolding plan plan_with trailer_of
plan_in_pieces r g s = by_grain r.grain r.profile
  where
    by_grain : (c : Grain) (p : Profile) → plan (power_on (record { grain = c; profile = p }) (in_pieces c g) s) ≡ plan (power_on (record { grain = c; profile = p }) g s)
    by_grain grains.Call p = refl
    by_grain grains.Unit p = refl

-- the chunk plays no part in what an operation does
pub apply_pieces : (c : Grain) (g : Geometry) (op : Op) (s : Content) → apply (in_pieces c g) op s ≡ apply g op s
unfolding apply
apply_pieces grains.Call g op s = refl
apply_pieces grains.Unit g (Erase slot sector) s = refl
apply_pieces grains.Unit g op s = refl

pub trailer_pieces : (c : Grain) (g : Geometry) (s : Content) (slot : Slot) → trailer_of (in_pieces c g) s slot ≡ trailer_of g s slot
unfolding trailer_of
trailer_pieces grains.Call g s slot = refl
trailer_pieces grains.Unit g s Primary = refl
trailer_pieces grains.Unit g s Secondary = refl

pub exchanged_pieces : (c : Grain) (g : Geometry) (n : ℕ) (s z : Content) → AreExchanged (in_pieces c g) n s z → AreExchanged g n s z
exchanged_pieces grains.Call g n s z are = are
exchanged_pieces grains.Unit g n s z are = record { primary = are.primary; secondary = are.secondary }

pub sized_pieces : (c : Grain) (g : Geometry) (s : Content) → IsSized g s → IsSized (in_pieces c g) s
sized_pieces grains.Call g s sized = sized
sized_pieces grains.Unit g s sized = record { primary = sized.primary; secondary = sized.secondary }

pub swap_pieces : (c : Grain) (g : Geometry) (start : Content) (size n : ℕ) → Swap g start size n → Swap (in_pieces c g) start size n
swap_pieces grains.Call g start size n w = w
swap_pieces grains.Unit g start size n w = record {
  laws = w.laws;
  ok = pieces_layout grains.Unit g w.ok;
  sized = sized_pieces grains.Unit g start w.sized;
  primary = w.primary;
  secondary = w.secondary;
  larger = w.larger;
  count = w.count;
  some = w.some;
  at_most = w.at_most;
  small = w.small;
}

-- the fields at the start
pub fields_pieces : (c : Grain) (g : Geometry) (s : Content) (slot : Slot) (v : Field → List ℕ) → FieldsAre g s slot v → FieldsAre (in_pieces c g) s slot v
fields_pieces grains.Call g s slot v are = are
fields_pieces grains.Unit g s Primary v are = λ f i short within. are f i short within
fields_pieces grains.Unit g s Secondary v are = λ f i short within. are f i short within

-- and back
pub sized_whole : (c : Grain) (g : Geometry) (s : Content) → IsSized (in_pieces c g) s → IsSized g s
sized_whole grains.Call g s sized = sized
sized_whole grains.Unit g s sized = record { primary = sized.primary; secondary = sized.secondary }

pub fields_whole : (c : Grain) (g : Geometry) (s : Content) (slot : Slot) (v : Field → List ℕ) → FieldsAre (in_pieces c g) s slot v → FieldsAre g s slot v
fields_whole grains.Call g s slot v are = are
fields_whole grains.Unit g s Primary v are = λ f i short within. are f i short within
fields_whole grains.Unit g s Secondary v are = λ f i short within. are f i short within

pub asked_pieces : (c : Grain) (g : Geometry) (start : Content) (n : ℕ) (b : Bool) → IsSized g start → FieldsAre g start Secondary (asked b) → Asked (in_pieces c g) start n b start
asked_pieces c g start n b sized are = record { secondary = fields_pieces c g start Secondary (asked b) are; data_ = data_begin (in_pieces c g) n start (sized_pieces c g start sized) }
