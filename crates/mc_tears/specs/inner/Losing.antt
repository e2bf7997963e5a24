-- The search for the flashes that losses of power leave, on its way.
use Rattle.std.specs.Prelude.{List, Some, length, slice_get, ℕ, ◌+◌, ◌<◌, ◌≡◌, ◌≤◌}
use Rattle.mc_boot.specs.{Outcome.{left_by, ops_of, outcome_of, shown}, Plan.{PowerOn, again}}
use Rattle.mc_explore.specs.Boots.{at_cut}
use Rattle.mc_flash.specs.{Flash.{Content}, Usage.{Allows, Seen}, declared.op.Op.{Op}}
use Rattle.mc_tear.specs.{declared.reading.Reading.{Reading}, declared.torn.Erasing.{Erasing}, inner.Room.{Applies}}
use Rattle.mc_tears.specs.inner.Standing.{case_counts}
use Rattle.mc_tears.specs.{Losses.{IsLostCase, after_losses, loss_number, lost, numbers_of}, declared.loss.Loss.{Loss}, declared.losses.LostCase.{LostCase}}
use Rattle.mc_tears.specs.declared.losses.Search.{Search}
use Rattle.mc_vectors.specs.{Cases.{flash_digest}, inner.Digests.{AreOfFlash}, inner.Searches.{AreKnown, IsBelow, IsExpanding, IsSearch, Searched}}

-- A loss of that number in the boot from the flash of a case leaves u.
abbrev pub Leaves : Erasing → PowerOn → LostCase → ℕ → Content → Type 0
Leaves e x c number u =
    (l : Loss) × (s : Content) × (after_losses e x c.losses.items ≡ Some s) × (loss_number l ≡ number) × (lost e (again x s) l ≡ Some u)

-- What is searched: the flashes of at most so many losses.
abbrev pub searched : Erasing → PowerOn → ℕ → Searched
searched e x bound = record {
  Case = LostCase;
  path = λ c. numbers_of c.losses.items;
  digest = λ c. c.digest;
  geometry = x.geometry;
  IsGood = λ c. IsLostCase e x c × (length c.losses.items ≤ bound);
  IsAsked = λ c. length c.losses.items < bound;
  Leaves = Leaves e x;
}

-- The digests of a search are those of flashes in sectors of that size, and its cases are known.
pub record IsReady (size : ℕ) (s : Search) : Type 0 where
  pub known : AreKnown (λ c. c.digest) s.known s.cases.items
  pub here : AreOfFlash size s.here
  pub lefts : AreOfFlash size s.lefts

-- A case of these losses and of that digest; and the boot from its flash is that one.
pub record IsCaseHere (y : PowerOn) (losses : List Loss) (digest : List ℕ) (c : LostCase) : Type 0 where
  pub losses_is : c.losses.items ≡ losses
  pub digest_is : c.digest ≡ digest
  pub outcome_is : outcome_of y ≡ Some (shown c.outcome)
  pub left : Content
  pub left_is : left_by y ≡ Some left
  pub left_digest_is : c.left ≡ flash_digest y.geometry left

-- These losses are those of a case p, and y is the boot from what they leave.
pub record IsFrom (e : Erasing) (x : PowerOn) (losses : List Loss) (y : PowerOn) (p : LostCase) : Type 0 where
  pub losses_is : p.losses.items ≡ losses
  pub at : Content
  pub leaves : after_losses e x losses ≡ Some at
  pub begins_is : y ≡ again x at

-- The flash stands before that operation of the boot from y, and there is room for a case of it.
pub record StandsAt (y : PowerOn) (operation : ℕ) (op : Op) (f : Seen) : Type 0 where
  pub layout : f.geometry ≡ y.geometry
  pub content : f.content ≡ at_cut y operation
  pub op_is : slice_get (ops_of y) operation ≡ Some op
  pub applies : Applies op f
  pub room : Allows (case_counts y) f

-- The number of a loss within it.
abbrev pub torn_number : ℕ → Reading → ℕ
torn_number operation r = loss_number (record { operation = operation; within = Some r })

-- The steps of that case from one number to another are gone through.
abbrev pub Expands : Erasing → PowerOn → List Loss → List LostCase → ℕ → List LostCase → ℕ → Type 0
Expands e y losses old m new n =
    (x : PowerOn) (bound index : ℕ) (p : LostCase) → IsFrom e x losses y p
    → IsExpanding (searched e x bound) old index m p → IsExpanding (searched e x bound) new index n p

-- One case more is done.
abbrev pub IsDoneNext : Erasing → PowerOn → ℕ → List LostCase → ℕ → Type 0
IsDoneNext e x bound cases index = IsSearch (searched e x bound) cases (index + 1) × IsBelow (searched e x bound) cases (index + 1)

-- So many cases are done.
pub record IsDoneAt (e : Erasing) (x : PowerOn) (bound : ℕ) (s : Search) (index : ℕ) : Type 0 where
  pub ready : IsReady x.geometry.sector s
  pub erasing : s.erasing ≡ e
  pub search : IsSearch (searched e x bound) s.cases.items index
  pub below : IsBelow (searched e x bound) s.cases.items index
