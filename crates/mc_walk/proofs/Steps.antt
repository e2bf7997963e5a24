-- A walk on its way to a further node.
use Rattle.std.proofs.Common.{◌≡◌, ℕ, ◌+◌, ◌*◌, ◌<◌, ◌≤◌, true, false, List, [], ◌∷◌, ◌++◌, length, Option, Some, None, Result, Ok, OnOk, IfSome, IsSomeAnd, is_some, slice_index_or, slice_set, ◌-◌, length-append, refl, sym, ap, subst, ◌∙◌, arith}
use Rattle.std.proofs.lemmas.List.{map-append, length-map, get_or_at, same_from_push, set_at}
use Rattle.mc_tree.specs.{Tree.{Allowed, landed}, facts.Order.{IsNextBeyond, allowed-last, none_beyond, next_beyond}, inner.Weights.{AreTwins}}
use Rattle.mc_flash.specs.Usage.{Counts, Checkpoint, Seen, Keeps, checkpoint_of, went_back, marked, Spent, Spends, Stays, HasRoom, LeaveRoom, plus, room_of}
use Rattle.mc_flash.specs.{facts.Spends.{spent_back, spent_both, spent_more}, declared.flash.FlashError.{FlashError}}
use Rattle.mc_walk.specs.TreeModel.{AreTwinsOn, CanPassTwins, HasWidth, IsTwin, PassesTwins, TreeModel, owed_there, summary_cost, IsAt, IsParent, HasNext, ReachesNext, CanReach}
use Rattle.mc_walk.specs.inner.Stack.{path_of, most_at, AreSpent, IsLastOpen, AreFrames, Stacked, node_of, Stands, Comes, CanGoOn, CanPass, HasGoneOn, HasPassed, IsLeft, IsOneOn, IsOpen, IsRoomy, IsTwinOn}
use Rattle.mc_walk.specs.{Walks.{walked, HasPassedTwins, IsBeforeTwin, IsFresh, Begins, IsThere, IsGoing, IsLastStep, IsPath, GoesDown, Climbs}, declared.frame.Frame.{Frame}}
use Rattle.mc_walk.proofs.Stacks.{entered, last_one, path-push, no_path, frames_allowed, frames_last, among, node-push, one_last, length-stack, popped}

pub ok_any : {X E P : Type 0} (r : Result X E) → P → OnOk r P
ok_any it p = grind arith

-- A flash that was marked first spends no more.
pub spends_marked : {X E : Type 0} (n : ℕ) (old mid new : Seen) (r : Result X E) → mid ≡ marked old → Spends n mid r new → Spends n old r new
spends_marked n old mid new it m s = grind arith

module _ {N A T : Type 0} (k : TreeModel N A T) where
  pub roomy_stays : (bound : ℕ) (old new : Seen) → new.usage.limits ≡ old.usage.limits → IsRoomy k bound old → IsRoomy k bound new
  roomy_stays bound old new e r = grind arith

  -- Room for what is counted and owed after so many steps.
  steps_room : (bound steps : ℕ) (counts more : Counts) (seen : Seen) → IsRoomy k bound seen → steps ≤ bound → LeaveRoom counts more (most_at k steps)
      → LeaveRoom counts more (room_of seen.usage.limits)
  steps_room bound steps counts more seen r le h = grind arith

  -- And for what is owed at a child.
  child_room : (bound steps : ℕ) (counts left : Counts) (seen : Seen) → IsRoomy k bound seen → steps < bound → LeaveRoom counts left (most_at k steps)
      → LeaveRoom counts (plus left k.most) (room_of seen.usage.limits)
  child_room bound steps counts left seen r le h = grind arith

  pub enter_room : (bound : ℕ) (seen : Seen) (fs : List (Frame A T)) (f : Frame A T) → Comes k seen fs f → IsRoomy k bound seen → length fs < bound
      → HasRoom (owed_there k f.at) (marked seen)
  enter_room bound seen fs f c r at_most =
      let n = length-stack k seen.checkpoints fs c.stacked in
      record {
        allows = child_room bound (length fs) seen.usage.counts (k.left f.at) seen r at_most c.frame.room;
        mark = omega (arith, n, at_most, r.checkpoints, length-append seen.checkpoints (checkpoint_of seen ∷ []));
      }

  pub mark_room : (bound : ℕ) (seen : Seen) (fs : List (Frame A T)) (f : Frame A T) → Comes k seen fs f → IsRoomy k bound seen → length fs < bound
      → length seen.checkpoints < seen.usage.limits.checkpoints
  mark_room bound seen fs f c r at_most = omega (arith, length-stack k seen.checkpoints fs c.stacked, at_most, r.checkpoints)

  -- A walk that stands is where its summary says.
  pub standing : (bound : ℕ) (seen : Seen) (fs : List (Frame A T)) (summary : Option T) → is_some summary ≡ true → IfSome summary (IsGoing k bound seen fs) → (t : T) × IsGoing k bound seen fs t
  standing bound seen fs it stands going = grind arith

  -- It stands at one of its paths.
  pub on_path : {B : Type 0} (b : B) (bound : ℕ) (seen : Seen) (fs : List (Frame A T)) (stood : Option T) (summary : T) → IsGoing k bound seen fs summary
      → IsPath k (walked b bound seen fs stood) (path_of fs)
  on_path b bound seen fs stood summary going =
      let st = going.stands.stacked in
      (omega (arith, going.at_most, length-map fs (λ (f : Frame A T). f.number)), frames_allowed k k.root 0 st.above fs st.frames)

  -- A walk has the summary of its root.
  pub begun : {B : Type 0} (b : B) (bound : ℕ) (old new : Seen) (fs : List (Frame A T)) (stood : Option T) (summary : T) → IsFresh k (walked b bound old fs stood) → Stays old new
      → k.IsSummary k.root summary → new.usage.limits ≡ old.usage.limits
      → IsGoing k bound new fs summary × Begins k (walked b bound old fs stood) summary (walked b bound new fs (Some summary))
  begun b bound old new fs stood summary fresh stays summary_is limits =
      let none : [] ≡ fs = sym (no_path fs fresh.path) in
      grind arith

  -- The flash is back at the last child that is not the last of its parent's.
  pub record Back (bound : ℕ) (old seen : Seen) (all fs : List (Frame A T)) (f : Frame A T) : Type 0 where
    pub comes : Comes k seen fs f
    pub in_range : length fs + 1 < length old.checkpoints
    pub at_most : length fs < bound
    pub roomy : IsRoomy k bound seen
    pub spent : Spent 0 old seen
    pub more : f.number + 1 < k.tree.width (node_of k fs)
    pub has_next : HasNext k f.at seen

  went_up_to : (bound : ℕ) (old : Seen) (all fs : List (Frame A T)) (f : Frame A T) (summary : T) → IsGoing k bound old all summary → IsLastOpen k f all fs
      → Back bound old (went_back (length fs + 1) old) all fs f
  went_up_to bound old all fs f summary going last =
      let seen : Seen = went_back (length fs + 1) old in
      let p = popped k old all fs f last.more going.stands.stacked going.stands.layout_is last.split in
      let spent = spent_back (length fs + 1) old in
      let roomy = roomy_stays bound old seen spent.limits going.roomy in
      let at_most : length fs < bound = omega (arith, going.at_most, ap length last.split, length-append fs (f ∷ last.more)) in
      let here : IsAt k (node_of k fs) f.number f.at seen = record { on_is = p.0.frame.on_is; content_is = p.0.frame.content_is; layout_is = p.0.layout_is } in
      let room = steps_room bound (length fs) seen.usage.counts (k.left f.at) seen roomy (omega (arith, at_most)) p.0.frame.room in
      let more : f.number + 1 < k.tree.width (node_of k fs) = last.open_is (node_of k fs) p.0.frame.summary_is in
      record {
        comes = p.0;
        in_range = p.1;
        at_most = at_most;
        roomy = roomy;
        spent = spent;
        more = more;
        has_next = (node_of k fs, f.number, here, more, room);
      }

  pub went_up : (bound : ℕ) (old seen : Seen) (all fs : List (Frame A T)) (f : Frame A T) (summary : T) → IsGoing k bound old all summary → IsLastOpen k f all fs
      → seen ≡ went_back (length fs + 1) old → Back bound old seen all fs f
  went_up bound old seen all fs f summary going last e = subst (λ z. Back bound old z all fs f) (sym e) (went_up_to bound old all fs f summary going last)

  -- A child is on its way, at that cost.
  pub record Ready (bound cost : ℕ) (old mid : Seen) (fs : List (Frame A T)) (f : Frame A T) : Type 0 where
    pub comes : Comes k mid fs f
    pub at_most : length fs < bound
    pub roomy : IsRoomy k bound old
    pub spent : Spent cost old mid

  -- From the child of the last frame it went on to the next one.
  module _ (seen mid : Seen) (all : List (Frame A T)) (c : CanGoOn k seen all) (f : Frame A T) (f_is : f ≡ c.frame) (at : A) (keeps : Keeps seen mid)
      (goes : ReachesNext k {E = FlashError} f.at seen (Ok tt) at mid) (spent : Spent k.step seen mid) where
    abbrev pub next_on : Frame A T
    next_on = record { at = at; number = f.number + 1; parent = f.parent }

    pub comes_on : Comes k mid c.before next_on
    comes_on = grind arith

    pub mark_on : length mid.checkpoints < mid.usage.limits.checkpoints
    mark_on = mark_room c.bound mid c.before next_on comes_on (roomy_stays c.bound seen mid spent.limits c.roomy) c.at_most

    room_on : HasRoom (owed_there k at) (marked mid)
    room_on = enter_room c.bound mid c.before next_on comes_on (roomy_stays c.bound seen mid spent.limits c.roomy) c.at_most

    pub gone_on : (new : Seen) (fs : List (Frame A T)) → new ≡ marked mid → fs ≡ c.before ++ next_on ∷ [] → HasGoneOn k all new fs
    gone_on new fs m e = record {
      before = c.before;
      frame = f;
      next = next_on;
      frames_are = c.frames_are ∙ ap (λ z. c.before ++ z ∷ []) (sym f_is);
      next_are = e;
      number_is = refl;
      seen = mid;
      comes = comes_on;
      marked_is = m;
      room = subst (HasRoom (owed_there k at)) (sym m) room_on;
    }

  pub one_on : (all new : List (Frame A T)) (seen : Seen) → HasGoneOn k all seen new → IsOneOn all new
  one_on all new seen h before f split =
      let same = same_from_push before h.before f h.frame (sym split ∙ h.frames_are) in
      (h.next, h.next_are ∙ ap (λ z. z ++ h.next ∷ []) (sym same.0), h.number_is ∙ ap (λ (z : Frame A T). z.number + 1) (sym same.1))

  -- The last frame, and what is put in its place.
  pub last_now : (all before : List (Frame A T)) (f now : Frame A T) (n : ℕ) → n ≡ length all - 1 → now ≡ slice_index_or all n now → all ≡ before ++ f ∷ [] → now ≡ f
  last_now all before f now n is value split = grind (arith, length-append, get_or_at)

  pub last_set : (all before : List (Frame A T)) (f next : Frame A T) (n : ℕ) → n ≡ length all - 1 → all ≡ before ++ f ∷ [] → slice_set all n next ≡ before ++ next ∷ []
  last_set all before f next n is split = grind (arith, length-append, set_at)

  -- From the child of the last frame it can go on, and went on, over so many twins.
  module _ (seen : Seen) (all : List (Frame A T)) (summary : T) (c : CanPass k seen all summary) (f : Frame A T) (f_is : f ≡ c.frame) (width most : ℕ) (has : HasWidth k f.parent width)
      (most_is : most ≡ (width - 1) - f.number) where
    inside : f.number + most < k.tree.width (node_of k c.before)
    inside = grind arith

    pub can_pass_twins : CanPassTwins k most f.at summary seen
    can_pass_twins =
        let room = steps_room c.bound (length c.before) seen.usage.counts (k.left f.at) seen c.roomy (omega (arith, c.at_most)) (rw f_is c.comes.frame.room) in
        (node_of k c.before, f.number, grind arith, inside, rw f_is c.summary_is, room)

    module _ (mid : Seen) (count n : ℕ) (at : A) (keeps : Keeps seen mid) (goes : PassesTwins k {E = FlashError} most f.at summary seen (Ok count) at mid) (spent : Spent n seen mid) where
      abbrev pub passed_to : Frame A T
      passed_to = record { at = at; number = f.number + count; parent = f.parent }

      there : IsAt k (node_of k c.before) (f.number + count) at mid × AreTwinsOn k (node_of k c.before) f.number count summary
      there = let lt = inside in grind arith

      comes_to : Comes k mid c.before passed_to
      comes_to = grind arith

      pub mark_passed : length mid.checkpoints < mid.usage.limits.checkpoints
      mark_passed = mark_room c.bound mid c.before passed_to comes_to (roomy_stays c.bound seen mid spent.limits c.roomy) c.at_most

      pub has_passed : (new : Seen) (fs : List (Frame A T)) → new ≡ marked mid → fs ≡ c.before ++ passed_to ∷ [] → HasPassed k seen all summary count new fs
      has_passed new fs m e = record {
        stands = subst (λ z. Stands k z fs summary) (sym m) (subst (λ z. Stands k (marked mid) z summary) (sym e)
            (entered k mid (marked mid) c.before passed_to summary comes_to (record { geometry = refl; content = refl; checkpoints = refl; counts = refl }) (there.1.summaries count (omega arith))));
        limits = ap (λ (z : Seen). z.usage.limits) m ∙ spent.limits;
        before = c.before;
        frame = f;
        next = passed_to;
        frames_are = c.frames_are ∙ ap (λ z. c.before ++ z ∷ []) (sym f_is);
        next_are = e;
        number_is = refl;
        twins = there.1;
      }

  -- A walk that stands at the child of its last frame gives up the mark there, and passes twins.
  module _ (bound n : ℕ) (old seen : Seen) (all : List (Frame A T)) (summary : T) (going : IsGoing k bound old all summary) (index_is : n ≡ length all) (e : seen ≡ went_back n old) where
    limits_back : seen.usage.limits ≡ old.usage.limits
    limits_back = ap (λ (z : Seen). z.usage.limits) e ∙ (spent_back n old).limits

    can_pass_from : (fs : List (Frame A T)) (f : Frame A T) → all ≡ fs ++ f ∷ [] → CanPass k seen all summary
    can_pass_from fs f split =
        let s = going.stands in
        let steps : n ≡ length fs + 1 = omega (arith, index_is, ap length split, length-append fs (f ∷ [])) in
        let p = popped k old all fs f [] s.stacked s.layout_is split in
        record {
          before = fs;
          frame = f;
          frames_are = split;
          comes = subst (λ z. Comes k z fs f) (sym (e ∙ ap (λ n. went_back n old) steps)) p.0;
          summary_is = subst (λ n. k.IsSummary n summary) (ap (node_of k) split ∙ node-push k fs f) s.summary_is;
          bound = bound;
          at_most = omega (arith, steps, index_is, going.at_most);
          roomy = roomy_stays bound old seen limits_back going.roomy;
        }

    pub can_pass : 0 < length all → CanPass k seen all summary
    can_pass some = let r = last_one all some in can_pass_from r.0 r.1 r.2

    module _ (count : ℕ) (new : Seen) (fs : List (Frame A T)) (p : HasPassed k seen all summary count new fs) where
      pub going_on : IsGoing k bound new fs summary
      going_on = let back = limits_back in grind (arith, length-append)

      more_on : p.frame.number + count < k.tree.width (node_of k p.before)
      more_on =
          let st = p.stands.stacked in
          rw (← p.number_is) (among k k.root 0 st.above p.before p.next [] (subst (AreFrames k k.root 0 st.above) p.next_are st.frames)).frame.some

      pub passed_twins : {B : Type 0} (b : B) (stood : Option T) → HasPassedTwins k (walked b bound old all stood) count summary (walked b bound new fs (Some summary))
      passed_twins b stood =
          let path = ap path_of p.frames_are ∙ path-push p.before p.frame in
          let next = ap path_of p.next_are ∙ path-push p.before p.next in
          record {
            same = record { flash_tree = refl; bound = refl };
            stands = refl;
            limits = p.limits ∙ limits_back;
            path_is = λ before number is.
                let same = same_from_push (path_of p.before) before p.frame.number number (sym path ∙ is) in
                next ∙ ap (λ n. path_of p.before ++ n ∷ []) p.number_is ∙ ap (λ l. l ++ (p.frame.number + count) ∷ []) same.0 ∙ ap (λ n. before ++ (n + count) ∷ []) same.1;
            more = λ before number is. to before number is (λ n i. i + count < k.tree.width n) more_on;
            summaries = λ before number j is le. to before number is (λ n i. k.IsSummary (k.tree.child n (i + j)) summary) (p.twins.summaries j le);
            twins = λ before number j is some le. to before number is (λ n i. AreTwins k.tree (k.tree.child n (i + j)) (k.tree.child n i)) (p.twins.twins j some le);
          }
        where
          to : (before : List ℕ) (number : ℕ) → path_of all ≡ before ++ number ∷ [] → (P : N → ℕ → Type 0) → P (node_of k p.before) p.frame.number → P (landed k.tree k.root before) number
          to before number is P here =
              let path = ap path_of p.frames_are ∙ path-push p.before p.frame in
              let same = same_from_push (path_of p.before) before p.frame.number number (sym path ∙ is) in
              subst (P (landed k.tree k.root before)) same.1 (subst (λ l. P (landed k.tree k.root l) p.frame.number) same.0 here)

  -- It is the summary of the node where the walk stands, which has a child of that number.
  module _ (number bound steps : ℕ) (old : Seen) (fs : List (Frame A T)) (stood : Option T) (going : IfSome stood (IsGoing k bound old fs)) (e : steps ≡ length fs) (summary : T)
      (p : IsParent k number bound steps stood (Some summary)) where
    pub can_reach : CanReach k number summary old
    can_reach = grind arith

  module _ (bound cost : ℕ) (old mid : Seen) (fs : List (Frame A T)) (f : Frame A T) (r : Ready bound cost old mid fs f) where
    pub ready_here : Comes k mid fs f
    ready_here = r.comes

    pub ready_room : HasRoom (owed_there k f.at) (marked mid)
    ready_room = enter_room bound mid fs f r.comes (roomy_stays bound old mid r.spent.limits r.roomy) r.at_most

    pub ready_mark : length mid.checkpoints < mid.usage.limits.checkpoints
    ready_mark = mark_room bound mid fs f r.comes (roomy_stays bound old mid r.spent.limits r.roomy) r.at_most

  -- A walk that stands is where its summary says.
  pub is_there : {B : Type 0} (b : B) (bound : ℕ) (seen : Seen) (fs : List (Frame A T)) (summary : T) → IsGoing k bound seen fs summary
      → IsThere k (walked b bound seen fs (Some summary)) summary
  is_there b bound seen fs summary going =
      let s = going.stands in
      record {
        summary_is = s.summary_is;
        content_is = s.content_is;
        layout_is = s.layout_is;
        room = record {
          allows = steps_room bound (length fs) seen.usage.counts (k.owed (node_of k fs)) seen going.roomy going.at_most s.counts;
          mark = omega (arith, going.at_most, going.roomy.checkpoints, length-stack k seen.checkpoints fs s.stacked);
        };
        counts = rw (length-map fs (λ (f : Frame A T). f.number)) s.counts;
      }

  pub summary_there : {B : Type 0} (b : B) (bound : ℕ) (seen : Seen) (fs : List (Frame A T)) (stood : Option T) (summary : T) → stood ≡ Some summary → IfSome stood (IsGoing k bound seen fs)
      → IsThere k (walked b bound seen fs stood) summary
  summary_there b bound seen fs stood summary is going =
      let here : IsGoing k bound seen fs summary = subst (λ o. IfSome o (IsGoing k bound seen fs)) is going in
      subst (λ o. IsThere k (walked b bound seen fs o) summary) (sym is) (is_there b bound seen fs summary here)

  -- And its last frame is that of its last step.
  pub last_there : {B : Type 0} (b : B) (bound : ℕ) (seen : Seen) (all fs : List (Frame A T)) (f : Frame A T) (stood : Option T) (summary : T) → IsGoing k bound seen all summary
      → all ≡ fs ++ f ∷ [] → IsLastStep k (walked b bound seen all stood) f
  last_there b bound seen all fs f stood summary going split =
      let s = going.stands in
      let frame = (among k k.root 0 s.stacked.above fs f [] (subst (AreFrames k k.root 0 s.stacked.above) split s.stacked.frames)).frame in
      record {
        before = path_of fs;
        path_is = ap path_of split ∙ path-push fs f;
        at_is = record {
          on_is = frame.on_is;
          content_is = s.content_is ∙ ap (λ xs. k.content (node_of k xs)) split ∙ ap k.content (node-push k fs f);
          layout_is = s.layout_is;
        };
        some = frame.some;
        parent_is = frame.summary_is;
      }

  -- It has arrived.
  pub record Arrives (bound cost : ℕ) (old new : Seen) (all : List (Frame A T)) (summary : T) : Type 0 where
    pub going : IsGoing k bound new all summary
    pub spent : Spent (cost + summary_cost k) old new

  pub arrives : (bound cost : ℕ) (old mid new : Seen) (fs all : List (Frame A T)) (f : Frame A T) (summary : T) → Ready bound cost old mid fs f → Stands k new all summary
      → all ≡ fs ++ f ∷ [] → Spent (summary_cost k) mid new → Arrives bound cost old new all summary
  arrives bound cost old mid new fs all f summary r s a spent =
      record {
        going = record {
          stands = s;
          at_most = omega (arith, ap length a, length-append fs (f ∷ []), r.at_most);
          roomy = roomy_stays bound old new (spent.limits ∙ r.spent.limits) r.roomy;
        };
        spent = spent_both cost (summary_cost k) old mid new r.spent spent;
      }

  -- It stood, and the last frame that is open is left.
  pub record Leaves (bound : ℕ) (old : Seen) (all left : List (Frame A T)) : Type 0 where
    pub summary : T
    pub going : IsGoing k bound old all summary
    pub is : IsLeft k all left

  module _ (bound : ℕ) (old seen : Seen) (all left : List (Frame A T)) (l : Leaves bound old all left) (e : seen ≡ went_back (length left) old) where
    is : IsLeft k all left
    is = l.is

    last_index : length left ≡ length is.before + 1
    last_index = ap length is.frames_are ∙ length-append is.before (is.frame ∷ [])

    back_at : Back bound old seen all is.before is.frame
    back_at = went_up bound old seen all is.before is.frame l.summary l.going is.last (e ∙ ap (λ n. went_back n old) last_index)

    pub mark_there : length left < length old.checkpoints
    mark_there = omega (arith, last_index, back_at.in_range)

    pub can_go_on : CanGoOn k seen left
    can_go_on =
        let b = back_at in
        record {
          before = is.before;
          frame = is.frame;
          frames_are = is.frames_are;
          comes = b.comes;
          more = b.more;
          small = is.small;
          has_next = b.has_next;
          bound = bound;
          at_most = b.at_most;
          roomy = b.roomy;
        }

    pub arrives_on : (new : Seen) (next : List (Frame A T)) (summary : T) → Stands k new next summary → IsOneOn left next → Spent (k.step + summary_cost k) seen new
        → Arrives bound ((0 + 1) * k.step) old new next summary
    arrives_on new next summary s one spent =
        let b = back_at in
        let o = one is.before is.frame is.frames_are in
        let most : 0 + (k.step + summary_cost k) ≤ (0 + 1) * k.step + summary_cost k = omega arith in
        record {
          going = record {
            stands = s;
            at_most = omega (arith, ap length o.1, length-append is.before (o.0 ∷ []), b.at_most);
            roomy = roomy_stays bound seen new spent.limits b.roomy;
          };
          spent = spent_more (0 + (k.step + summary_cost k)) _ old new most (spent_both 0 (k.step + summary_cost k) old seen new b.spent spent);
        }

  pub gone_down : {B : Type 0} (b : B) (bound cost number : ℕ) (old new : Seen) (fs all : List (Frame A T)) (f : Frame A T) (summary : T) (stood : Option T)
      → Arrives bound cost old new all summary → f.number ≡ number → all ≡ fs ++ f ∷ [] → GoesDown k number (walked b bound old fs stood) true (walked b bound new all (Some summary))
  gone_down b bound cost number old new fs all f summary stood a e n =
      let path : path_of all ≡ path_of fs ++ number ∷ [] = ap path_of n ∙ path-push fs f ∙ ap (λ z. path_of fs ++ z ∷ []) e in
      let st = a.going.stands.stacked in
      let allowed = frames_allowed k k.root 0 st.above all st.frames in
      (path, (omega (arith, a.going.at_most, length-map all (λ (h : Frame A T). h.number)), allowed), record { flash_tree = refl; bound = refl }, refl)

  -- It is the summary of none, and stays.
  pub no_child : {B : Type 0} (b : B) (number bound steps : ℕ) (old : Seen) (fs : List (Frame A T)) (stood : Option T) → IfSome stood (IsGoing k bound old fs) → steps ≡ length fs
      → is_some stood ≡ true → IsParent k number bound steps stood None → GoesDown k number (walked b bound old fs stood) false (walked b bound old fs stood)
  no_child b number bound steps old fs None going e stands p = absurd cc
  no_child b number bound steps old fs (Some summary) going e stands p = (
    λ m.
        let at_most : steps < bound = omega (arith, m.0, e, length-append (path_of fs) (number ∷ []), length-map fs (λ (f : Frame A T). f.number)) in
        omega (arith, p summary refl at_most (node_of k fs) going.stands.summary_is, allowed-last k.tree k.root (path_of fs) number m.1),
    refl,
  )

  -- The order of its paths.
  climbed_to : (checkpoints : List Checkpoint) (all fs : List (Frame A T)) (f g : Frame A T) → Stacked k checkpoints all → IsLastOpen k f all fs → g.number ≡ f.number + 1
      → IsNextBeyond k.tree k.root (path_of all) (path_of (fs ++ g ∷ []))
  climbed_to checkpoints all fs f g st last e =
      let r = among k k.root 0 st.above fs f last.more (subst (AreFrames k k.root 0 st.above) last.split st.frames) in
      let path : path_of all ≡ path_of fs ++ f.number ∷ path_of last.more = ap path_of last.split ∙ map-append (λ (h : Frame A T). h.number) fs (f ∷ last.more) in
      let new : path_of (fs ++ g ∷ []) ≡ path_of fs ++ (f.number + 1) ∷ [] = path-push fs g ∙ ap (λ z. path_of fs ++ z ∷ []) e in
      let allowed = frames_allowed k k.root 0 st.above all st.frames in
      let spent = frames_last k (k.tree.child (node_of k fs) f.number) ((0 + length fs) + 1) r.after last.more r.rest last.spent in
      let beyond = next_beyond k.tree k.root (path_of fs) f.number (path_of last.more) (subst (Allowed k.tree k.root) path allowed) spent
      (last.open_is (node_of k fs) r.frame.summary_is) in
      subst (λ z. IsNextBeyond k.tree k.root z (path_of (fs ++ g ∷ []))) (sym path)
      (subst (IsNextBeyond k.tree k.root (path_of fs ++ f.number ∷ path_of last.more)) (sym new) beyond)

  pub climbed : {B : Type 0} (b : B) (bound : ℕ) (old new : Seen) (all fs next : List (Frame A T)) (f g : Frame A T) (stood : Option T) (summary : T) → Stacked k old.checkpoints all
      → IsLastOpen k f all fs → g.number ≡ f.number + 1 → next ≡ fs ++ g ∷ []
      → Climbs k (walked b bound old all stood) true (walked b bound new next (Some summary))
  climbed b bound old new all fs next f g stood summary st last e n = (
    subst (λ z. IsNextBeyond k.tree k.root (path_of all) (path_of z)) (sym n) (climbed_to old.checkpoints all fs f g st last e),
    record { flash_tree = refl; bound = refl },
    refl,
  )

  pub none_on : {B : Type 0} (b : B) (bound : ℕ) (old : Seen) (all fs : List (Frame A T)) (stood : Option T) → Stacked k old.checkpoints all → AreSpent k all
      → Climbs k (walked b bound old all stood) false (walked {A = A} {T = T} b bound old fs None)
  none_on b bound old all fs stood st spent = (
    none_beyond k.tree k.root (path_of all) (frames_last k k.root 0 st.above all st.frames spent),
    record { flash_tree = refl; bound = refl },
    refl,
  )

  -- The next child of the node before it is a twin.
  module _ (bound : ℕ) (seen : Seen) (all : List (Frame A T)) (stood : Option T) (summary : T) (going : IsGoing k bound seen all summary) (on : IsTwinOn k seen all stood summary) where
    last_same : (fs : List (Frame A T)) (f : Frame A T) → all ≡ fs ++ f ∷ [] → f ≡ on.frame
    last_same fs f split = one_last all fs on.before f on.frame split on.frames_are

    pub twin_at : (fs : List (Frame A T)) (f : Frame A T) → all ≡ fs ++ f ∷ [] → (f.number + 1 < k.tree.width (node_of k fs)) × k.IsSummary (k.tree.child (node_of k fs) f.number) summary
        × IsTwin k (node_of k fs) f.number summary
    twin_at fs f split =
        let s = going.stands in
        let frame = (among k k.root 0 s.stacked.above fs f [] (subst (AreFrames k k.root 0 s.stacked.above) split s.stacked.frames)).frame in
        let is = last_same fs f split in
        let more = (subst (IsOpen k) (sym is) on.open_is) (node_of k fs) frame.summary_is in
        let here : k.IsSummary (k.tree.child (node_of k fs) f.number) summary = subst (λ n. k.IsSummary n summary) (ap (node_of k) split ∙ node-push k fs f) s.summary_is in
        let at : IsAt k (node_of k fs) f.number f.at seen = record {
          on_is = frame.on_is;
          content_is = s.content_is ∙ ap (λ xs. k.content (node_of k xs)) split ∙ ap k.content (node-push k fs f);
          layout_is = s.layout_is;
        } in
        (more, here, on.twin (node_of k fs) f.number (subst (λ (z : Frame A T). IsAt k (node_of k fs) f.number z.at seen) is at) more here)

    pub before_twin : {B : Type 0} (b : B) → IsBeforeTwin k (walked b bound seen all stood) summary
    before_twin b =
        let t = twin_at on.before on.frame on.frames_are in
        record {
          before = path_of on.before;
          number = on.frame.number;
          path_is = ap path_of on.frames_are ∙ path-push on.before on.frame;
          more = t.0;
          summary_is = t.1;
          twin = t.2;
        }

    -- Its last frame is the last that is open.
    last_on : IsLastOpen k on.frame all on.before
    last_on = record { open_is = on.open_is; more = []; spent = tt; split = on.frames_are }

    pub twin_leaves : Leaves bound seen all all
    twin_leaves = record {
      summary = summary;
      going = going;
      is = record {
        before = on.before;
        frame = on.frame;
        frames_are = on.frames_are;
        last = last_on;
        small = on.small;
      };
    }

    -- It went on to the twin.
    pub twin_stands : (new : Seen) (fs : List (Frame A T)) → HasGoneOn k all new fs → Stands k new fs summary
    twin_stands new fs h =
        let is : k.IsSummary (k.tree.child (node_of k h.before) h.next.number) summary = rw h.number_is (twin_at h.before h.frame h.frames_are).2.summary_is in
        subst (λ z. Stands k z fs summary) (sym h.marked_is) (subst (λ z. Stands k (marked h.seen) z summary) (sym h.next_are)
        (entered k h.seen (marked h.seen) h.before h.next summary h.comes (record { geometry = refl; content = refl; checkpoints = refl; counts = refl }) is))

    -- From there the path is the next beyond.
    pub twin_climbed : {B : Type 0} (b : B) (new : Seen) (fs : List (Frame A T)) → HasGoneOn k all new fs → Climbs k (walked b bound seen all stood) true (walked b bound new fs stood)
    twin_climbed b new fs h =
        let next = one_on all fs new h on.before on.frame on.frames_are in
        subst (λ o. Climbs k (walked b bound seen all stood) true (walked b bound new fs o)) (sym on.stood_is)
        (climbed b bound seen new all on.before fs on.frame next.0 stood summary going.stands.stacked last_on next.2 next.1)

    pub twin_arrives : (back new : Seen) (fs : List (Frame A T)) → back ≡ went_back (length all) seen → HasGoneOn k all new fs → Spent k.step back new
        → Arrives bound ((0 + 1) * k.step) seen new fs summary
    twin_arrives back new fs e h spent =
        let most : k.step ≤ k.step + summary_cost k = omega arith in
        arrives_on bound seen back all all twin_leaves e new fs summary (twin_stands new fs h) (one_on all fs new h) (spent_more k.step _ back new most spent)

  -- It stands before a twin.
  pub record StandsBefore (bound : ℕ) (seen : Seen) (all : List (Frame A T)) (stood : Option T) : Type 0 where
    pub summary : T
    pub going : IsGoing k bound seen all summary
    pub on : IsTwinOn k seen all stood summary

  pub stands_before : (bound : ℕ) (seen : Seen) (all : List (Frame A T)) (stood : Option T) → IfSome stood (IsGoing k bound seen all)
      → IsSomeAnd stood (IsTwinOn k seen all stood) → StandsBefore bound seen all stood
  stands_before bound seen all None going on = absurd on
  stands_before bound seen all (Some summary) going on = record { summary = summary; going = going; on = on }

  pub before_next : {B : Type 0} (b : B) (bound : ℕ) (seen : Seen) (all : List (Frame A T)) (stood : Option T) → IfSome stood (IsGoing k bound seen all)
      → IsSomeAnd stood (IsTwinOn k seen all stood) → IfSome stood (IsBeforeTwin k (walked b bound seen all stood))
  before_next b bound seen all None going on = tt
  before_next b bound seen all (Some summary) going on = before_twin bound seen all (Some summary) summary going on b
