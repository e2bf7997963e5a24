-- A boot that goes on from operation to operation, and its flash.
use Rattle.std.proofs.Common.{ap, arith, length-append, subst, sym, ◌∙◌}
use Rattle.std.specs.Prelude.{Bool, Err, List, Option, Some, [], drop, false, if◌then◌else◌, length, refl, slice_get, take, true, ℕ, ◌++◌, ◌+◌, ◌<◌, ◌∷◌, ◌≡◌, ◌≤◌}
use Rattle.mc_boot.specs.{Boot.{HasCome, Progress, left_of, progress, to_come}, Outcome.{first_then, happening, ops_of}, Plan.{PowerOn, plan}, declared.boot.Boot.{Boot}}
use Rattle.mc_boot.specs.facts.Run.{come_count, come_ops, come_prefix, next_happens}
use Rattle.mc_explore.specs.{Boots.{at_cut}, inner.OneRound.{CanPass, round_model}}
use Rattle.mc_flash.specs.{Flash.{CanTry, Content, IsSized, apply}, Usage.{Checkpoint, Counts, HasRoom, Keeps, LeaveRoom, Limits, Seen, checkpoint_of, marked, plus, went_back}}
use Rattle.mc_flash.specs.{declared.op.Op.{Op}, facts.Spends.{spent_back, stays_back}}
use Rattle.mc_tear.proofs.Ranges.{range_of}
use Rattle.mc_tear.specs.{Cases.{slot_of, written_len}, inner.Room.{Applies}}
use Rattle.mc_tears.proofs.Ending.{first_end, none_made, whole_end}
use Rattle.mc_tears.specs.{Ends.{shown_end}, Tears.{cut_end}, declared.cases.Between.{Between}, declared.end.Whole.{Whole}, declared.tears.Here.{Here}}
use Rattle.mc_tears.specs.inner.Standing.{CanMark, Goes, GoesOn, HoldsSlot, IsBack, IsHere, IsWhole, Stands, StandsBefore, case_counts}
use Rattle.mc_tears.specs.declared.error.TearError.{TearError}
use Rattle.mc_walk.specs.TreeModel.{IsAt}
use Rattle.mc_tears.specs.declared.error.TearError.TheVariants as errors

at_seam : {A : Type 0} (made more : List A) (a : A) → slice_get (made ++ a ∷ more) (length made) ≡ Some a
at_seam [] more a = refl
at_seam (x ∷ made) more a = at_seam made more a

first_of : (ops : List Op) (op : Op) → slice_get ops 0 ≡ Some op → (rest : List Op) × (ops ≡ op ∷ rest)
first_of [] op is = absurd cc
first_of (x ∷ rest) op is = (rest, cc)

-- What a boot at that place does next.
module _ (x : PowerOn) (p : Progress) (t : Content) (come : HasCome x p t) (early : p.count < length (ops_of x)) where
  pub some_next : p.to_come ≡ [] → ⊥
  some_next none = omega (arith, early, come_ops x p t come none)

  module _ (op : Op) (next : slice_get p.to_come 0 ≡ Some op) where
    rest : (rest : List Op) × (p.to_come ≡ op ∷ rest)
    rest = first_of p.to_come op next

    -- It is done, and the flash is then the one after it.
    pub makes : (u : Content) × (apply x.geometry op t ≡ Some u)
    makes = next_happens x p t op rest.0 come rest.1 early

    left_is : (b : Bool) → p.faulted ≡ b → drop p.count (plan x).list ≡ op ∷ rest.0
    left_is true is =
        let none : p.to_come ≡ [] = come.rest ∙ ap (λ (b : Bool). if b then [] else drop p.count (plan x).list) is in
        absurd (omega (arith, early, come_ops x p t come none))
    left_is false is = sym (come.rest ∙ ap (λ (b : Bool). if b then [] else drop p.count (plan x).list) is) ∙ rest.1

    pub op_here : slice_get (ops_of x) p.count ≡ Some op
    op_here =
        let made : List Op = take p.count (plan x).list in
        let more : List Op = happening x.geometry rest.0 makes.0 in
        let left : happening x.geometry (drop p.count (plan x).list) t ≡ op ∷ more =
        ap (λ (l : List Op). happening x.geometry l t) (left_is p.faulted refl) ∙ ap (first_then op (λ u. happening x.geometry rest.0 u)) makes.1 in
        ap (λ (l : List Op). slice_get l p.count) (come_prefix x p t come ∙ ap (λ (l : List Op). made ++ l) left)
        ∙ ap (slice_get (made ++ op ∷ more)) (sym (come_count x p t come)) ∙ at_seam made more op

-- A flash that is back where it was.
module _ (f h : Seen) (back : IsBack f h) where
  pub applies_back : (op : Op) → Applies op f → Applies op h
  applies_back op applies = record {
    can = rw back.stays.geometry applies.can;
    whole = applies.whole;
    makes = rw (back.stays.geometry, back.stays.content) applies.makes;
    sized = rw (back.stays.geometry, back.stays.content) applies.sized;
  }

  pub room_back : (c : Counts) → HasRoom c f → HasRoom c h
  room_back c room = record { allows = rw (back.stays.counts, back.limits) room.allows; mark = rw (back.stays.checkpoints, back.limits) room.mark }

  pub before_back : (x : PowerOn) (b : Between) → StandsBefore x b f → StandsBefore x b h
  before_back x b s = record {
    layout = back.stays.geometry ∙ s.layout;
    content = back.stays.content ∙ s.content;
    op = s.op;
    applies = applies_back b.op s.applies;
    before = s.before;
    after = s.after;
    bytes = s.bytes;
    room = room_back (case_counts x) s.room;
  }

  pub back_on : (k : Seen) → IsBack h k → IsBack f k
  back_on k on = record {
    stays = record {
      geometry = on.stays.geometry ∙ back.stays.geometry;
      content = on.stays.content ∙ back.stays.content;
      checkpoints = on.stays.checkpoints ∙ back.stays.checkpoints;
      counts = on.stays.counts ∙ back.stays.counts;
    };
    limits = on.limits ∙ back.limits;
  }

-- One that was marked, and is back at that checkpoint.
pub back_is : (old mid end : Seen) → mid ≡ marked old → Keeps mid end → end.usage.limits ≡ mid.usage.limits → IsBack old (went_back (length old.checkpoints) end)
back_is old mid end m keeps limits = record { stays = stays_back old mid end m keeps; limits = (spent_back (length old.checkpoints) end).limits ∙ limits ∙ ap (λ (s : Seen). s.usage.limits) m }

pub back_keeps : (f h : Seen) → IsBack f h → Keeps f h
back_keeps f h back = record { geometry = back.stays.geometry; checkpoints = back.stays.checkpoints }

-- A checkpoint takes the room of one.
pub marks_after : (k : ℕ) (old now : Seen) → Keeps (marked old) now → now.usage.limits ≡ old.usage.limits → CanMark (k + 1) old → CanMark k now
marks_after k old now keeps limits room =
    let all = ap (λ (l : List Checkpoint). length l) keeps.checkpoints ∙ length-append old.checkpoints (checkpoint_of old ∷ []) in
    let most = ap (λ (l : Limits). l.checkpoints) limits in
    omega (arith, all, most, room)

-- A boot that stands there.
module _ (x : PowerOn) (at : Boot) (f : Seen) (s : Stands x at f) where
  pub stands_marked : Stands x at (marked f)
  stands_marked = record {
    layout = s.layout;
    at_is = record { on_is = s.at_is.on_is; content_is = s.at_is.content_is; layout_is = s.at_is.layout_is };
    allows = s.allows;
  }

  -- A buffer that has room for a slot has room for what an operation writes.
  pub op_fits : (op : Op) (capacity : ℕ) → Applies op f → HoldsSlot f.geometry capacity → written_len f.geometry op ≤ capacity
  op_fits op capacity applies holds =
      let range = range_of f.geometry op (rw s.at_is.layout_is s.layout) applies.can in
      omega (arith, range.inside, holds (slot_of op))

  -- Where the flash is back.
  pub stands_back : (new : Seen) → IsBack f new → Stands x at new
  stands_back new back = record {
    layout = s.layout;
    at_is = record { on_is = s.at_is.on_is; content_is = back.stays.content ∙ s.at_is.content_is; layout_is = back.stays.geometry ∙ s.at_is.layout_is };
    allows = let allows = s.allows in rw (back.stays.counts, back.limits) allows;
  }

  pub room_here : CanMark 1 f → HasRoom (case_counts x) f
  room_here marks = record {
    allows = let allows = s.allows in record { entries = omega (arith, allows.entries); saved = omega (arith, allows.saved) };
    mark = omega (arith, marks);
  }

  module _ (early : at.done < length (ops_of x)) where
    come : HasCome x (progress at) (at_cut x at.done)
    come = s.at_is.on_is.1.come

    same : f.geometry ≡ x.geometry
    same = s.at_is.layout_is

    pub can_pass : CanPass x at f
    can_pass = (x, at.done, s.at_is, early, let allows = s.allows in record { entries = omega (arith, allows.entries); saved = omega (arith, allows.saved) })

    pub next_some : (first : Option Op) → first ≡ slice_get (to_come at) 0 → ((op : Op) → first ≡ Some op → ⊥) → ⊥
    next_some first is none = by (to_come at) refl
      where
        by : (ops : List Op) → to_come at ≡ ops → ⊥
        by [] end = some_next x (progress at) (at_cut x at.done) come early end
        by (op ∷ ops) next = none op (is ∙ ap (λ (l : List Op). slice_get l 0) next)

    pub next_is : (op : Op) → slice_get (to_come at) 0 ≡ Some op → slice_get (ops_of x) at.done ≡ Some op
    next_is op next = op_here x (progress at) (at_cut x at.done) come early op next

    pub applies_here : (op : Op) → slice_get (to_come at) 0 ≡ Some op → CanTry x.geometry op → IsSized f.geometry f.content → Applies op f
    applies_here op next can sized =
        let done = makes x (progress at) (at_cut x at.done) come early op next in
        record {
          can = rw same can;
          whole = done.0;
          makes = subst (λ g. apply g op f.content ≡ Some done.0) (sym same) (subst (λ t. apply x.geometry op t ≡ Some done.0) (sym s.at_is.content_is) done.1);
          sized = sized;
        }

    -- It goes on by that operation.
    pub stands_next : (at' : Boot) (new : Seen) → ((y : PowerOn) (i : ℕ) → IsAt (round_model x) y i at f → i < length (ops_of y) → IsAt (round_model x) y (i + 1) at' new)
        → LeaveRoom new.usage.counts (left_of x.geometry (progress at')) (plus f.usage.counts (left_of x.geometry (progress at)))
        → new.usage.limits ≡ f.usage.limits → Stands x at' new × (at'.done ≡ at.done + 1)
    stands_next at' new goes more limits =
        let on = goes x at.done s.at_is early in
        let count = on.on_is.1.count_is in (
          record {
            layout = s.layout;
            at_is = subst (λ m. IsAt (round_model x) x m at' new) (sym count) on;
            allows = let allows = s.allows in rw limits (record { entries = omega (arith, allows.entries, more.entries); saved = omega (arith, allows.saved, more.saved) });
          },
          count,
        )

-- A boot that begins there; and one that could not go on.
module _ (x : PowerOn) (whole : Whole) (is : IsWhole x whole) (f : Seen) where
  pub begins_here : (here : Here) → here ≡ record { at = whole.summary.boot; before = record { outcome = whole.summary.outcome; busy = whole.busy } }
      → Stands x whole.summary.boot f → CanMark 2 f → IsHere x here f × (here.at.done ≡ 0)
  begins_here here made stands marks =
      let none = none_made x whole.summary is.summary in
      let before : shown_end (record { outcome = whole.summary.outcome; busy = whole.busy }) ≡ cut_end x whole.summary.boot.done =
      whole_end x whole is ∙ first_end x ∙ ap (cut_end x) (sym none) in
      rw made (record { stands = stands; before = before; marks = marks }, none)

pub steps_memory : (x : PowerOn) (old : Here) (f : Seen) (new : Here) (h : Seen) (e : TearError) → GoesOn {A = Bool} x old f (Err e) new h → e ≡ errors.Memory → f.usage.limits.counted ≡ false
steps_memory x old f new h errors.Memory goes is = goes
steps_memory x old f new h errors.Write goes is = absurd cc

pub stops_on : (x : PowerOn) (old : Here) (f k : Seen) → k.usage.limits ≡ f.usage.limits → (m : Seen) (new : Here) (h : Seen) (e : TearError) → Goes {A = Bool} k (Err e) m
    → GoesOn {A = Bool} x old f (Err e) new h
stops_on x old f k limits m new h errors.Memory goes = ap (λ (l : Limits). l.counted) (sym limits) ∙ goes
stops_on x old f k limits m new h errors.Write goes = tt
