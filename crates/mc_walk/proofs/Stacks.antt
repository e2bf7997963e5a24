-- Frames taken off, and frames over their checkpoints.
use Rattle.std.proofs.Common.{Err, IfOk, List, Ok, OnOk, Option, Result, Some, [], ap, append_assoc, arith, length, length-append, option_to_list, refl, slice_get, subst, suc, sym, take, zero, ℕ, ◌*◌, ◌++◌, ◌+◌, ◌-◌, ◌<◌, ◌^◌, ◌∙◌, ◌∷◌, ◌≡◌}
use Rattle.std.proofs.{lemmas.List.{append-nil, get_or_at, map-append, take_at}, lemmas.Option.{same_Some, slice_get_within}}
use Rattle.std.specs.Prelude.{slice_index_or}
use Rattle.mc_flash.specs.{Usage.{Checkpoint, Counts, LeaveRoom, Seen, Stays, checkpoint_at, checkpoint_of, marked, no_checkpoint, went_back}}
use Rattle.mc_tree.specs.{Tree.{Allowed, landed}, facts.Order.{AllLast, landed-push}}
use Rattle.mc_walk.specs.{TreeModel.{IsAt, IsChild, TreeModel, IsChildSummary}, declared.frame.Frame.{Frame}}
use Rattle.mc_walk.specs.inner.Stack.{AreFrames, AreOff, AreSpent, Comes, IsFrame, IsLastOpen, IsLeft, IsOpen, IsSpent, Stacked, Stands, most_at, node_of, path_of}

-- Frames that are taken off one after another.

-- The last of a list stands after the others.
pub last_of : {X : Type 0} (xs : List X) (n : ℕ) (x : X) → length xs ≡ n + 1 → slice_get xs n ≡ Some x → (before : List X) × (xs ≡ before ++ x ∷ [])
last_of [] n x len e = absurd cc
last_of (y ∷ []) zero x len e = ([], ap (λ z. z ∷ []) (same_Some y x e))
last_of (y ∷ z ∷ zs) zero x len e = absurd (omega (arith, len))
last_of (y ∷ ys) (suc n) x len e = let r = last_of ys n x (omega (arith, len)) e in (y ∷ r.0, ap (λ w. y ∷ w) r.1)

-- One that is not empty has a last.
pub last_one : {X : Type 0} (xs : List X) → 0 < length xs → (before : List X) × (x : X) × (xs ≡ before ++ x ∷ [])
last_one [] some = absurd (omega (arith, some))
last_one (x ∷ []) some = ([], x, refl)
last_one (x ∷ y ∷ ys) some = let r = last_one (y ∷ ys) (omega arith) in (x ∷ r.0, r.1, ap (λ z. x ∷ z) r.2)

-- The last is the one that is put there.
last_at : {X : Type 0} (xs : List X) (x : X) → slice_get (xs ++ x ∷ []) (length xs) ≡ Some x
last_at [] x = refl
last_at (y ∷ ys) x = last_at ys x

last_same : {X : Type 0} (all xs : List X) (x f : X) → all ≡ xs ++ x ∷ [] → slice_get all (length all - 1) ≡ Some f → x ≡ f
last_same all xs x f split last =
    let index_is : length all - 1 ≡ length xs = omega (arith, ap length split, length-append xs (x ∷ [])) in
    same_Some x f (sym (last_at xs x) ∙ ap (λ z. slice_get z (length xs)) (sym split) ∙ ap (slice_get all) (sym index_is) ∙ last)

-- A list has one last element.
pub one_last : {X : Type 0} (all xs ys : List X) (x y : X) → all ≡ xs ++ x ∷ [] → all ≡ ys ++ y ∷ [] → x ≡ y
one_last all xs ys x y p q =
    let index_is : length all - 1 ≡ length ys = omega (arith, ap length q, length-append ys (y ∷ [])) in
    last_same all xs x y p (ap (λ z. slice_get z (length all - 1)) q ∙ ap (slice_get (ys ++ y ∷ [])) index_is ∙ last_at ys y)

module _ {N A T : Type 0} (k : TreeModel N A T) where
  pub none_off : (fs : List (Frame A T)) → AreOff k fs fs
  none_off fs = record { more = []; spent = tt; split = sym (append-nil fs) }

  off_split : (old mid new more : List (Frame A T)) (f : Frame A T) → old ≡ mid ++ more → mid ≡ new ++ f ∷ [] → old ≡ new ++ f ∷ more
  off_split old mid new more f o m = o ∙ ap (λ z. z ++ more) m ∙ append_assoc new (f ∷ []) more

  one_off : (old mid new : List (Frame A T)) (f : Frame A T) → AreOff k old mid → mid ≡ new ++ f ∷ [] → IsSpent k f → AreOff k old new
  one_off old mid new f off m last = record { more = f ∷ off.more; spent = (last, off.spent); split = off_split old mid new off.more f off.split m }

  -- The last frame is taken off.
  pub popped_off : (old mid new : List (Frame A T)) (f : Frame A T) (r : Option (Frame A T)) → AreOff k old mid → slice_get mid (length mid - 1) ≡ Some f
      → mid ≡ new ++ option_to_list r → IsSpent k f → AreOff k old new
  popped_off old mid new f it off last m spent = grind (arith, append-nil, one_off, last_same)

  pub last_open : (old mid new : List (Frame A T)) (f : Frame A T) → AreOff k old mid → mid ≡ new ++ f ∷ [] → IsOpen k f → IsLastOpen k f old new
  last_open old mid new f off m open_is = record { open_is = open_is; more = off.more; spent = off.spent; split = off_split old mid new off.more f off.split m }

  -- The last frame is open, and stays.
  pub is_left : (old mid : List (Frame A T)) (f : Frame A T) → AreOff k old mid → slice_get mid (length mid - 1) ≡ Some f → IsOpen k f → f.number + 1 < 2 ^ 32 → IsLeft k old mid
  is_left old mid f off last open_is small =
      let split = last_of mid (length mid - 1) f (omega (arith, slice_get_within mid (length mid - 1) f last)) last in
      record { before = split.0; frame = f; frames_are = split.1; last = last_open old mid split.0 f off split.1 open_is; small = small }

-- Frames over their checkpoints: one is put on, one is taken off.

pub path-push : {A T : Type 0} (fs : List (Frame A T)) (f : Frame A T) → path_of (fs ++ f ∷ []) ≡ path_of fs ++ f.number ∷ []
path-push fs f = map-append (λ f. f.number) fs (f ∷ [])

none_more : (n : ℕ) → n ≡ 0 + n
none_more n = omega arith

one_more : (n m : ℕ) → (n + 1) * m ≡ n * m + m
one_more n m = omega arith

pub no_path : {A T : Type 0} (fs : List (Frame A T)) → path_of fs ≡ [] → fs ≡ []
no_path [] e = refl
no_path (f ∷ fs) e = absurd cc

module _ {N A T : Type 0} (k : TreeModel N A T) where
  -- There are as many frames as checkpoints.
  pub length-frames : (n : N) (levels : ℕ) (checkpoints : List Checkpoint) (fs : List (Frame A T)) → AreFrames k n levels checkpoints fs → length checkpoints ≡ length fs
  length-frames n levels [] [] a = refl
  length-frames n levels [] (f ∷ fs) a = absurd a
  length-frames n levels (s ∷ ss) [] a = absurd a
  length-frames n levels (s ∷ ss) (f ∷ fs) a = ap suc (length-frames (k.tree.child n f.number) (levels + 1) ss fs a.1)

  pub frames_allowed : (n : N) (levels : ℕ) (checkpoints : List Checkpoint) (fs : List (Frame A T)) → AreFrames k n levels checkpoints fs → Allowed k.tree n (path_of fs)
  frames_allowed n levels [] [] a = tt
  frames_allowed n levels [] (f ∷ fs) a = absurd a
  frames_allowed n levels (s ∷ ss) [] a = absurd a
  frames_allowed n levels (s ∷ ss) (f ∷ fs) a = (a.0.some, frames_allowed (k.tree.child n f.number) (levels + 1) ss fs a.1)

  pub frames_last : (n : N) (levels : ℕ) (checkpoints : List Checkpoint) (fs : List (Frame A T)) → AreFrames k n levels checkpoints fs → AreSpent k fs → AllLast k.tree n (path_of fs)
  frames_last n levels [] [] a s = tt
  frames_last n levels [] (f ∷ fs) a s = absurd a
  frames_last n levels (s ∷ ss) [] a e = absurd a
  frames_last n levels (s ∷ ss) (f ∷ fs) a e = (e.0 n a.0.summary_is, frames_last (k.tree.child n f.number) (levels + 1) ss fs a.1 e.1)

  frames-push : (n : N) (levels : ℕ) (checkpoints : List Checkpoint) (fs : List (Frame A T)) (checkpoint : Checkpoint) (f : Frame A T) → AreFrames k n levels checkpoints fs
      → IsFrame k (landed k.tree n (path_of fs)) (levels + length fs) checkpoint f → AreFrames k n levels (checkpoints ++ checkpoint ∷ []) (fs ++ f ∷ [])
  frames-push n levels [] [] checkpoint f a h = let e : levels + 0 ≡ levels = omega arith in (subst (λ p. IsFrame k n p checkpoint f) e h, tt)
  frames-push n levels [] (x ∷ xs) checkpoint f a h = absurd a
  frames-push n levels (s ∷ ss) [] checkpoint f a h = absurd a
  frames-push n levels (s ∷ ss) (x ∷ xs) checkpoint f a h =
      let e : levels + suc (length xs) ≡ (levels + 1) + length xs = omega arith in
      (a.0, frames-push (k.tree.child n x.number) (levels + 1) ss xs checkpoint f a.1 (subst (λ p. IsFrame k (landed k.tree (k.tree.child n x.number) (path_of xs)) p checkpoint f) e h))

  -- A frame among others, and its checkpoint.
  pub record Among (n : N) (levels : ℕ) (checkpoints : List Checkpoint) (fs : List (Frame A T)) (f : Frame A T) (more : List (Frame A T)) : Type 0 where
    pub before : List Checkpoint
    pub checkpoint : Checkpoint
    pub after : List Checkpoint
    pub checkpoints_are : checkpoints ≡ before ++ checkpoint ∷ after
    pub frames : AreFrames k n levels before fs
    pub frame : IsFrame k (landed k.tree n (path_of fs)) (levels + length fs) checkpoint f
    pub rest : AreFrames k (k.tree.child (landed k.tree n (path_of fs)) f.number) ((levels + length fs) + 1) after more

  pub among : (n : N) (levels : ℕ) (checkpoints : List Checkpoint) (fs : List (Frame A T)) (f : Frame A T) (more : List (Frame A T)) → AreFrames k n levels checkpoints (fs ++ f ∷ more)
      → Among n levels checkpoints fs f more
  among n levels [] [] f more a = absurd a
  among n levels (s ∷ ss) [] f more a =
      let e : levels ≡ levels + 0 = omega arith in
      record {
        before = [];
        checkpoint = s;
        after = ss;
        checkpoints_are = refl;
        frames = tt;
        frame = subst (λ p. IsFrame k n p s f) e a.0;
        rest = subst (λ p. AreFrames k (k.tree.child n f.number) (p + 1) ss more) e a.1;
      }
  among n levels [] (x ∷ xs) f more a = absurd a
  among n levels (s ∷ ss) (x ∷ xs) f more a =
      let e : (levels + 1) + length xs ≡ levels + suc (length xs) = omega arith in
      let r = among (k.tree.child n x.number) (levels + 1) ss xs f more a.1 in
      let end : N = landed k.tree (k.tree.child n x.number) (path_of xs) in
      record {
        before = s ∷ r.before;
        checkpoint = r.checkpoint;
        after = r.after;
        checkpoints_are = ap (λ z. s ∷ z) r.checkpoints_are;
        frames = (a.0, r.frames);
        frame = subst (λ p. IsFrame k end p r.checkpoint f) e r.frame;
        rest = subst (λ p. AreFrames k (k.tree.child end f.number) (p + 1) r.after more) e r.rest;
      }

  pub length-stack : (checkpoints : List Checkpoint) (fs : List (Frame A T)) → Stacked k checkpoints fs → length checkpoints ≡ 1 + length fs
  length-stack checkpoints fs st = omega (arith, ap length st.checkpoints_are, length-frames k.root 0 st.above fs st.frames)

  pub node-push : (fs : List (Frame A T)) (f : Frame A T) → node_of k (fs ++ f ∷ []) ≡ k.tree.child (node_of k fs) f.number
  node-push fs f = ap (landed k.tree k.root) (path-push fs f) ∙ landed-push k.tree k.root (path_of fs) f.number

  -- The flash was marked at a child, and its frame is put on.
  stacked-push : (checkpoints : List Checkpoint) (fs : List (Frame A T)) (checkpoint : Checkpoint) (f : Frame A T) → Stacked k checkpoints fs
      → IsFrame k (node_of k fs) (length fs) checkpoint f → Stacked k (checkpoints ++ checkpoint ∷ []) (fs ++ f ∷ [])
  stacked-push checkpoints fs checkpoint f st h = record {
    first = st.first;
    above = st.above ++ checkpoint ∷ [];
    checkpoints_are = ap (λ ms. ms ++ checkpoint ∷ []) st.checkpoints_are;
    frames = frames-push k.root 0 st.above fs checkpoint f st.frames (subst (λ p. IsFrame k (node_of k fs) p checkpoint f) (none_more (length fs)) h);
  }

  -- What is counted and owed at the child is no more than that after one step more.
  pub frame_counts : (count : ℕ) (checkpoint : Checkpoint) (n : N) (fs : List (Frame A T)) (f : Frame A T) → count ≡ length fs + 1 → IsFrame k n (length fs) checkpoint f
      → LeaveRoom checkpoint.counts (k.owed (k.tree.child n f.number)) (most_at k count)
  frame_counts count checkpoint n fs f e h = grind arith

  -- And its node has a summary.
  pub entered : (seen new : Seen) (fs : List (Frame A T)) (f : Frame A T) (summary : T) → Comes k seen fs f → Stays (marked seen) new
      → k.IsSummary (k.tree.child (node_of k fs) f.number) summary → Stands k new (fs ++ f ∷ []) summary
  entered seen new fs f summary c s t =
      let node = node-push fs f in
      let steps : length (fs ++ f ∷ []) ≡ length fs + 1 = omega (arith, length-append fs (f ∷ [])) in
      let at_most = frame_counts (length (fs ++ f ∷ [])) (checkpoint_of seen) (node_of k fs) fs f steps c.frame in
      let owed : k.owed (node_of k (fs ++ f ∷ [])) ≡ k.owed (k.tree.child (node_of k fs) f.number) = ap k.owed node in
      record {
        stacked = subst (λ ms. Stacked k ms (fs ++ f ∷ [])) (sym s.checkpoints) (stacked-push seen.checkpoints fs (checkpoint_of seen) f c.stacked c.frame);
        content_is = s.content ∙ c.frame.content_is ∙ ap k.content (sym node);
        layout_is = s.geometry ∙ c.layout_is;
        summary_is = subst (λ n. k.IsSummary n summary) (sym node) t;
        counts = record {
          entries = omega (arith, ap (λ c. c.entries) s.counts, ap (λ (c : Counts). c.entries) owed, at_most.entries);
          saved = omega (arith, ap (λ c. c.saved) s.counts, ap (λ (c : Counts). c.saved) owed, at_most.saved);
        };
      }

  -- It stands at a child.
  at_child : (seen mid : Seen) (fs : List (Frame A T)) (f : Frame A T) → Comes k seen fs f → mid ≡ marked seen
      → IsAt k (node_of k fs) f.number f.at mid
  at_child seen mid fs f c m = grind arith

  pub child_here : (seen mid : Seen) (fs : List (Frame A T)) (f : Frame A T) → Comes k seen fs f → mid ≡ marked seen → IsChild k f.at f.parent mid
  child_here seen mid fs f c m = (node_of k fs, f.number, at_child seen mid fs f c m, c.frame.some, c.frame.summary_is)

  -- The same, by the result of the call, which gives the summary of that child.
  pub entered_summary : {E : Type 0} (seen mid new : Seen) (fs all : List (Frame A T)) (f : Frame A T) (r : Result T E) → Comes k seen fs f
      → mid ≡ marked seen → all ≡ fs ++ f ∷ [] → (IsAt k (node_of k fs) f.number f.at mid → f.number < k.tree.width (node_of k fs) → k.IsSummary (node_of k fs) f.parent
      → IfOk r (k.IsSummary (k.tree.child (node_of k fs) f.number))) → OnOk r (Stays mid new) → IfOk r (λ summary. Stands k new all summary)
  entered_summary seen mid new fs all f (Ok summary) c m a t s =
      let s' : Stays (marked seen) new = subst (λ z. Stays z new) m s in
      let summary_is = t (at_child seen mid fs f c m) c.frame.some c.frame.summary_is in
      subst (λ z. Stands k new z summary) (sym a) (entered seen new fs f summary c s' summary_is)
  entered_summary seen mid new fs all f (Err e) c m a t s = tt

  -- A summary of the child of any node is that of this one's.
  pub given_there : {E : Type 0} (mid : Seen) (at : A) (parent : T) (r : Result T E) (n : N) (i : ℕ) → IfOk r (IsChildSummary k at parent mid) → IsAt k n i at mid → i < k.tree.width n
      → k.IsSummary n parent → IfOk r (k.IsSummary (k.tree.child n i))
  given_there mid at parent it n i gives here some is = grind arith

  -- Frames are taken off, and the flash is back at the checkpoint of the last of them.
  pub popped : (seen : Seen) (all fs : List (Frame A T)) (f : Frame A T) (more : List (Frame A T)) → Stacked k seen.checkpoints all
      → seen.geometry ≡ k.geometry → all ≡ fs ++ f ∷ more → Comes k (went_back (length fs + 1) seen) fs f × (length fs + 1 < length seen.checkpoints)
  unfolding went_back
  popped seen all fs f more st layout e =
      let r = among k.root 0 st.above fs f more (subst (AreFrames k k.root 0 st.above) e st.frames) in
      let n : length (st.first ∷ r.before) ≡ length fs + 1 = omega (arith, length-frames k.root 0 r.before fs r.frames) in
      let checkpoints : seen.checkpoints ≡ (st.first ∷ r.before) ++ r.checkpoint ∷ r.after = st.checkpoints_are ∙ ap (λ z. st.first ∷ z) r.checkpoints_are in
      let checkpoint : checkpoint_at seen (length fs + 1) ≡ r.checkpoint = ap (λ ms. slice_index_or ms (length fs + 1) no_checkpoint) checkpoints
      ∙ get_or_at (st.first ∷ r.before) r.checkpoint r.after no_checkpoint (length fs + 1) n in
      let left : take (length fs + 1) seen.checkpoints ≡ st.first ∷ r.before = ap (take (length fs + 1)) checkpoints ∙ take_at (st.first ∷ r.before) (r.checkpoint ∷ r.after) (length fs + 1) n in
      let node : N = node_of k fs in (
        record {
          stacked = record { first = st.first; above = r.before; checkpoints_are = left; frames = r.frames };
          layout_is = layout;
          frame = subst (λ p. IsFrame k node p (checkpoint_at seen (length fs + 1)) f) (sym (none_more (length fs))) (subst (λ s. IsFrame k node (0 + length fs) s f) (sym checkpoint) r.frame);
        },
        omega (arith, ap length checkpoints, length-append (st.first ∷ r.before) (r.checkpoint ∷ r.after), n),
      )
