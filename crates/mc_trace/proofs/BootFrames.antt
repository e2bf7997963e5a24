-- The operation at which a boot is on its way, and the frames of a boot.
use Rattle.std.specs.Prelude.{◌≡◌, ℕ, suc, ◌+◌, ◌<◌, ◌≤◌, Bool, true, false, if◌then◌else◌, IfSome, List, [], ◌∷◌, ◌++◌, length, refl, take, drop, get_or, slice_get, Option, Some, None}
use Rattle.std.specs.Io.KnownBytes.{Appends}
use Rattle.std.proofs.{Common.{arith, sym, ap, subst, ◌∙◌}, Math.ListN.{drop_of_length-le}, Math.Nat.{min-le_left}}
use Rattle.std.proofs.{Math.Seq.{drop-cons, get_or-append_seam}, lemmas.List.{get_or-take, length-append, length-take, length-take-le, same_from_push}}
use Rattle.std.proofs.lemmas.Option.{get_or_from_slice_get, slice_get-get_or}
use Rattle.mc_boot.specs.{Boot.{HasCome, Progress}, Outcome.{Report, first_then, happening, ops_of, outcome_of, shown}, Plan.{PowerOn, again, plan}}
use Rattle.mc_boot.specs.facts.Run.{come_count, come_ops, come_prefix}
use Rattle.mc_explore.specs.{inner.LastCuts.{boot_at}, inner.OneRound.{begun_of}, declared.one_round.OneRound.{OneRound}, facts.Children.{IsAtChild}}
use Rattle.mc_explore.specs.Boots.{at_cut}
use Rattle.mc_flash.specs.{Flash.{Content, apply}, Geometry.{Geometry}, declared.op.Op.{Op}}
use Rattle.mc_output.specs.{Text.{AppendsPrefix}, facts.Prefixes.{IsOut, out_all, out_begun, out_more, out_prefix}}
use Rattle.mc_trace.specs.Frames.{Shown, boot_frame, boot_frames, frame_of, frames_from, text_seen, torn_lines, up_to_cut}
use Rattle.mc_trace.specs.{declared.frame.Frame.{Frame}, declared.frame.Look.{Look}}
use Rattle.mc_tree.specs.Tree.{landed}
use Rattle.mc_trace.specs.inner.Walking.{IsFrameHere, IsFrameOf, length_to, model_of, shown_frame, width_along}
use Rattle.mc_walk.specs.Walks.{Walked}

-- The first of the operations that happen is the first of all.
first_happening : (g : Geometry) (ops : List Op) (t : Content) (op : Op) → slice_get ops 0 ≡ Some op → 0 < length (happening g ops t) → (rest : List Op) × (happening g ops t ≡ op ∷ rest)
first_happening g [] t op is some = absurd (omega (arith, some))
first_happening g (o ∷ ops) t op is some = by (apply g o t) some
  where
    by : (r : Option Content) → 0 < length (first_then o (λ u. happening g ops u) r) → (rest : List Op) × (first_then o (λ u. happening g ops u) r ≡ op ∷ rest)
    by None lt = absurd (omega (arith, lt))
    by (Some u) lt = let same : o ≡ op = cc in (happening g ops u, ap (λ (a : Op). a ∷ happening g ops u) same)

module _ (x : PowerOn) (p : Progress) (t : Content) (come : HasCome x p t) (more : p.count < length (ops_of x)) where
  -- One more is to come.
  pub one_to_come : p.to_come ≡ [] → ⊥
  one_to_come none = absurd (omega (arith, more, come_ops x p t come none))

  to_come_is : (b : Bool) → p.faulted ≡ b → (op : Op) → slice_get p.to_come 0 ≡ Some op → slice_get (drop p.count (plan x).list) 0 ≡ Some op
  to_come_is true is op first = let none : p.to_come ≡ [] = come.rest ∙ ap (λ (b : Bool). if b then [] else drop p.count (plan x).list) is in absurd (one_to_come none)
  to_come_is false is op first = grind arith

  -- It is that of the number to which the boot has come.
  pub op_here : (op : Op) → slice_get p.to_come 0 ≡ Some op → slice_get (ops_of x) p.count ≡ Some op
  op_here op first =
      let made : List Op = take p.count (plan x).list in
      let left : List Op = happening x.geometry (drop p.count (plan x).list) t in
      let count : length made ≡ p.count = come_count x p t come in
      let all : ops_of x ≡ made ++ left = come_prefix x p t come in
      let some : 0 < length left = omega (arith, more, ap (λ (l : List Op). length l) all, length-append made left, count) in
      let next = first_happening x.geometry (drop p.count (plan x).list) t op (to_come_is p.faulted refl op first) some in
      let whole : ops_of x ≡ made ++ op ∷ next.0 = all ∙ ap (λ (l : List Op). made ++ l) next.1 in
      let here : get_or (ops_of x) p.count op ≡ op =
      ap (λ (l : List Op). get_or l p.count op) whole ∙ ap (λ n. get_or (made ++ op ∷ next.0) n op) (sym count) ∙ get_or-append_seam made op next.0 op in
      slice_get-get_or (ops_of x) p.count op more ∙ ap (λ (o : Op). Some o) here

-- The frames of a boot, one after another.

module _ (list : List Op) (cut : Option ℕ) where
  -- How many they are.
  pub long : IfSome cut (λ n. n < length list) → length (up_to_cut cut list) ≡ length_to cut (length list)
  long inside = by cut inside
    where
      by : (cut : Option ℕ) → IfSome cut (λ n. n < length list) → length (up_to_cut cut list) ≡ length_to cut (length list)
      by None inside = refl
      by (Some n) inside = length-take-le (n + 1) list (omega (arith, inside))

  pub within : IfSome cut (λ n. n < length list) → length_to cut (length list) ≤ length list
  within inside = by cut inside
    where
      by : (cut : Option ℕ) → IfSome cut (λ n. n < length list) → length_to cut (length list) ≤ length list
      by None inside = omega arith
      by (Some n) inside = omega (arith, inside)

  -- Each is that of the operation of its number.
  pub next_shown : (number : ℕ) (op : Op) → slice_get list number ≡ Some op → number < length (up_to_cut cut list)
      → drop number (up_to_cut cut list) ≡ op ∷ drop (number + 1) (up_to_cut cut list)
  next_shown number op is more =
      let one : suc number ≡ number + 1 = omega arith in
      let here : get_or (up_to_cut cut list) number op ≡ op = by cut more ∙ get_or_from_slice_get list number op op is in
      drop-cons (up_to_cut cut list) number op more ∙ ap (λ (o : Op). o ∷ drop (suc number) (up_to_cut cut list)) here
      ∙ ap (λ n. op ∷ drop n (up_to_cut cut list)) one
    where
      by : (cut : Option ℕ) → number < length (up_to_cut cut list) → get_or (up_to_cut cut list) number op ≡ get_or list number op
      by None lt = refl
      by (Some n) lt = get_or-take (n + 1) list number op (omega (arith, lt, length-take (n + 1) list, min-le_left (n + 1) (length list)))

-- They are those of the boot from the node where a walk from a start stands.
module _ (start : PowerOn) (w : Walked OneRound) (start_is : begun_of w ≡ start) (cut : Option ℕ) (inside : IfSome cut (λ n. n < length (ops_of (boot_at start w.path)))) (to : ℕ)
    (to_is : to ≡ length_to cut (length (ops_of (boot_at start w.path)))) where
  pub one_there : (number : ℕ) → number < to → number < (model_of w.flash_tree).tree.width (landed (model_of w.flash_tree).tree (model_of w.flash_tree).root w.path)
  one_there number lt = rw (width_along w.flash_tree w.path, start_is) (omega (arith, lt, to_is, within (ops_of (boot_at start w.path)) cut inside))

  pub one_shown : (number : ℕ) → number < to → number < length (up_to_cut cut (ops_of (boot_at start w.path)))
  one_shown number lt = omega (arith, lt, to_is, long (ops_of (boot_at start w.path)) cut inside)

  pub all_shown : (number : ℕ) → to ≤ number → length (up_to_cut cut (ops_of (boot_at start w.path))) ≤ number
  all_shown number end = omega (arith, end, to_is, long (ops_of (boot_at start w.path)) cut inside)

module _ (look : Look) (start : Content) (boot : ℕ) (x : PowerOn) (cut : Option ℕ) where
  abbrev list : List Op
  list = up_to_cut cut (ops_of x)

  abbrev pub whole : List ℕ
  whole = boot_frames look start boot x cut

  -- What is still to come from that number on.
  abbrev pub left : ℕ → List ℕ
  left number = frames_from look start boot x cut number (drop number list)

  pub frames_begun : (before : Option (List ℕ)) → IsOut before before whole (left 0)
  frames_begun before = out_begun before whole

  module _ (number : ℕ) (s : Content) (f : Frame) (is : IsFrameOf boot x cut s f) (here : f.number ≡ number) (more : number < length list)
      (lines : List ℕ) (lines_are : lines ≡ torn_lines look.torn look.expectation x number) where
    content : s ≡ at_cut x number
    content = is.content_is ∙ ap (at_cut x) here

    next_frame : left number ≡ text_seen look x.geometry start s (shown_frame f) lines ++ left (number + 1)
    next_frame =
        let op_is : slice_get (ops_of x) number ≡ Some f.op = subst (λ n. slice_get (ops_of x) n ≡ Some f.op) here is.op_is in
        let report : outcome_of (again x (at_cut x number)) ≡ Some (shown f.outcome) = sym (ap (λ (t : Content). outcome_of (again x t)) content) ∙ is.outcome_is in
        ap (λ (ops : List Op). frames_from look start boot x cut number ops) (next_shown (ops_of x) cut number f.op op_is more)
        ∙ ap (λ (o : Option Report). boot_frame look start boot x cut number f.op o ++ left (number + 1)) report
        ∙ ap (λ (r : Shown). text_seen look x.geometry start (at_cut x number) r (torn_lines look.torn look.expectation x number) ++ left (number + 1)) (sym shown_is)
        ∙ ap (λ (t : Content). text_seen look x.geometry start t (shown_frame f) (torn_lines look.torn look.expectation x number) ++ left (number + 1)) (sym content)
        ∙ ap (λ (t : List ℕ). text_seen look x.geometry start s (shown_frame f) t ++ left (number + 1)) (sym lines_are)
      where
        shown_is : shown_frame f ≡ frame_of boot cut number f.op (shown f.outcome)
        shown_is = rw (is.boot_is, is.cut_is, here) refl

    module _ (g : Geometry) (layout_is : x.geometry ≡ g) (before mid new : Option (List ℕ)) (out : IsOut before mid whole (left number)) where
      abbrev text : List ℕ
      text = text_seen look g start s (shown_frame f) lines

      out_here : IsOut before mid whole (text ++ left (number + 1))
      out_here = rw (sym layout_is, sym next_frame) out

      pub frame_out : Appends mid new text → IsOut before new whole (left (number + 1))
      frame_out p = out_more before mid new whole _ _ out_here p

      pub frame_begun : AppendsPrefix mid new text → AppendsPrefix before new whole
      frame_begun p = out_prefix before mid new whole _ _ out_here p

  -- The end.
  pub end_out : (number : ℕ) (before mid : Option (List ℕ)) → IsOut before mid whole (left number) → length list ≤ number → Appends before mid whole
  end_out number before mid out end = out_all before mid whole (subst (IsOut before mid whole) last out)
    where
      last : left number ≡ []
      last = ap (λ (ops : List Op). frames_from look start boot x cut number ops) (drop_of_length-le list end)

-- The frame of the child at which a walk stands is that of the boot of the node where it stood.
module _ (start : PowerOn) (old at : Walked OneRound) (start_is : begun_of old ≡ start) (number : ℕ) (here : IsAtChild model_of old number at) (boot : ℕ) (cut : Option ℕ) (f : Frame)
    (is : IsFrameHere at boot cut f) where
  same : (is.0 ≡ old.path) × (f.number ≡ number)
  same = same_from_push is.0 old.path f.number number (sym is.1 ∙ here.path)

  pub number_is : f.number ≡ number
  number_is = same.1

  pub frame_is : IsFrameOf boot (boot_at start old.path) cut at.seen.content f
  frame_is = grind (arith, same)
