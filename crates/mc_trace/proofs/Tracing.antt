-- Boots that are traced one after another.
use Rattle.std.specs.Prelude.{◌≡◌, ℕ, suc, ◌+◌, ◌*◌, ◌<◌, ◌≤◌, ◌⊎◌, nat_lt, Bool, true, false, if◌then◌else◌, List, [], ◌∷◌, ◌++◌, length, drop, Option, Some, None, option_and_then, refl}
use Rattle.std.specs.Io.KnownBytes.{Appends}
use Rattle.std.proofs.{Common.{arith, inl, inr, sym, ap, subst, get_or, drop-cons, drop_of_length-le, append-nil, ◌∙◌}, Math.Nat.{mul-le-mul_right}}
use Rattle.std.proofs.lemmas.Bool.Decides.{nat_tests}
use Rattle.mc_flash.specs.{Flash.{Content}}
use Rattle.mc_flash.specs.Usage.{Allows, Seen, LeaveRoom, plus, times, Counts, IsWithin, limits_for, most_operations, most_saved, no_counts}
use Rattle.mc_trailer.specs.declared.tables.Rules.{Rules}
use Rattle.mc_start.specs.facts.Room.{limits_are}
use Rattle.mc_explore.specs.inner.OneRound.{most_of}
use Rattle.mc_explore.specs.Boots.{at_cut, content_or}
use Rattle.mc_output.specs.{facts.Prefixes.{IsOut, out_all, out_begun, out_prefix, out_more}, Text.{AppendsPrefix}}
use Rattle.mc_boot.specs.{Outcome.{Report, outcome_of, outcome_text, after, at, ops_of}, Plan.{PowerOn, again, power_on, powered}}
use Rattle.mc_trace.specs.{Trace.{RefusesTrace, boots_text, cut_text, last_text, trace_text}, declared.trace.Span.{Span}}
use Rattle.mc_trace.specs.declared.error.TraceError.{TraceError}
use Rattle.mc_trace.specs.declared.error.TraceError.TheVariants as errors

-- So many cuts are traced, and the flash stands where they left it.
pub record AreWritten (span : Span) (start : PowerOn) (cuts : List ℕ) (before now : Option (List ℕ)) (written : ℕ) (boot : ℕ) (f : Seen) : Type 0 where
  pub out : IsOut before now (trace_text span start cuts) (boots_text span start.rules start.geometry boot f.content (drop written cuts))
  pub path : after (again start f.content) (drop written cuts) ≡ after start cuts
  pub layout : f.geometry ≡ start.geometry
  pub number : boot ≡ written

-- The next cut can occur.
module _ (x : PowerOn) (cut : ℕ) (cuts : List ℕ) (u : Content) (occurs : after x (cut ∷ cuts) ≡ Some u) where
  here : (b : Bool) → nat_lt cut (length (ops_of x)) ≡ b → option_and_then (λ t. after (again x t) cuts) (if b then at x cut else None) ≡ Some u → nat_lt cut (length (ops_of x)) ≡ true
  here true e is = e
  here false e is = absurd cc

  inside_is : nat_lt cut (length (ops_of x)) ≡ true
  inside_is = here (nat_lt cut (length (ops_of x))) refl occurs

  pub inside : cut < length (ops_of x)
  inside = grind (arith, nat_tests, inside_is)

  there : (o : Option Content) → at x cut ≡ o → option_and_then (λ t. after (again x t) cuts) o ≡ Some u → after (again x (at_cut x cut)) cuts ≡ Some u
  unfolding at_cut
  there None e is = absurd cc
  there (Some t) e is = ap (λ o. after (again x (content_or x.content o)) cuts) e ∙ is

  pub beyond : after (again x (at_cut x cut)) cuts ≡ Some u
  beyond = there (at x cut) refl (ap (λ b. option_and_then (λ t. after (again x t) cuts) (if b then at x cut else None)) (sym inside_is) ∙ occurs)

module _ (span : Span) (start : PowerOn) (cuts : List ℕ) (before : Option (List ℕ)) where
  pub none_written : (f : Seen) → f.content ≡ start.content → f.geometry ≡ start.geometry → AreWritten span start cuts before before 0 0 f
  none_written f content layout = record {
    out = subst (λ (c : Content). IsOut before before (trace_text span start cuts) (boots_text span start.rules start.geometry 0 c cuts)) (sym content) (out_begun before (trace_text span start cuts));
    path = ap (λ (c : Content). after (again start c) cuts) content;
    layout = layout;
    number = refl;
  }

  module _ (now new : Option (List ℕ)) (written boot : ℕ) (f : Seen) (are : AreWritten span start cuts before now written boot f) (more : written < length cuts) (u : Content)
      (occurs : after start cuts ≡ Some u) where
    abbrev cut : ℕ
    cut = get_or cuts written 0

    abbrev rest : List ℕ
    rest = drop (written + 1) cuts

    next_is : drop written cuts ≡ cut ∷ rest
    next_is = let e : suc written ≡ written + 1 = omega arith in drop-cons cuts written 0 more ∙ ap (λ n. cut ∷ drop n cuts) e

    path_here : after (again start f.content) (cut ∷ rest) ≡ Some u
    path_here = ap (after (again start f.content)) (sym next_is) ∙ are.path ∙ occurs

    pub one_inside : cut < length (ops_of (powered start.rules f))
    one_inside = rw are.layout (inside (again start f.content) cut rest u path_here)

    out_here : IsOut before now (trace_text span start cuts) (cut_text span start.rules start.geometry boot f.content cut ++ boots_text span start.rules start.geometry (boot + 1)
        (at_cut (again start f.content) cut) rest)
    out_here = subst (λ cs. IsOut before now (trace_text span start cuts) (boots_text span start.rules start.geometry boot f.content cs)) next_is are.out

    pub one_begun : AppendsPrefix now new (cut_text span start.rules f.geometry boot f.content cut) → AppendsPrefix before new (trace_text span start cuts)
    one_begun p = out_prefix before now new _ (cut_text span start.rules start.geometry boot f.content cut) _ out_here
        (subst (λ g. AppendsPrefix now new (cut_text span start.rules g boot f.content cut)) are.layout p)

    pub one_written : (h : Seen) → Appends now new (cut_text span start.rules f.geometry boot f.content cut) → h.content ≡ at_cut (powered start.rules f) cut → h.geometry ≡ f.geometry
        → AreWritten span start cuts before new (written + 1) (boot + 1) h
    one_written h p left layout =
        let content : h.content ≡ at_cut (again start f.content) cut = left ∙ ap (λ g. at_cut (power_on start.rules g f.content) cut) are.layout in
        let shown = out_more before now new _ (cut_text span start.rules start.geometry boot f.content cut) _ out_here
        (subst (λ g. Appends now new (cut_text span start.rules g boot f.content cut)) are.layout p) in
        record {
          out = subst (λ (c : Content). IsOut before new (trace_text span start cuts) (boots_text span start.rules start.geometry (boot + 1) c rest)) (sym content) shown;
          path = ap (λ (c : Content). after (again start c) rest) content ∙ beyond (again start f.content) cut rest u path_here ∙ sym occurs;
          layout = layout ∙ are.layout;
          number = omega (arith, are.number);
        }

  module _ (now : Option (List ℕ)) (written boot : ℕ) (f : Seen) (are : AreWritten span start cuts before now written boot f) (end : length cuts ≤ written) (u : Content)
      (occurs : after start cuts ≡ Some u) (outcome : Report) (outcome_is : outcome_of (again start u) ≡ Some outcome) where
    none_left : drop written cuts ≡ []
    none_left = drop_of_length-le cuts end

    at_end : f.content ≡ u
    at_end = let e : Some f.content ≡ Some u = sym (ap (after (again start f.content)) none_left) ∙ are.path ∙ occurs in cc

    lines_are : boots_text span start.rules start.geometry boot f.content (drop written cuts) ≡ last_text span start.rules start.geometry boot f.content ++ (outcome_text outcome ++ [])
    lines_are = grind (arith, none_left, append-nil)

    out_end : IsOut before now (trace_text span start cuts) (last_text span start.rules start.geometry boot f.content ++ (outcome_text outcome ++ []))
    out_end = subst (IsOut before now (trace_text span start cuts)) lines_are are.out

    module _ (mid : Option (List ℕ)) where
      pub last_begun : AppendsPrefix now mid (last_text span start.rules f.geometry boot f.content) → AppendsPrefix before mid (trace_text span start cuts)
      last_begun p = out_prefix before now mid _ (last_text span start.rules start.geometry boot f.content) _ out_end
          (subst (λ g. AppendsPrefix now mid (last_text span start.rules g boot f.content)) are.layout p)

      module _ (last : Appends now mid (last_text span start.rules f.geometry boot f.content)) (new : Option (List ℕ)) where
        out_last : IsOut before mid (trace_text span start cuts) (outcome_text outcome ++ [])
        out_last = out_more before now mid _ (last_text span start.rules start.geometry boot f.content) _ out_end
            (subst (λ g. Appends now mid (last_text span start.rules g boot f.content)) are.layout last)

        pub outcome_begun : AppendsPrefix mid new (outcome_text outcome) → AppendsPrefix before new (trace_text span start cuts)
        outcome_begun p = out_prefix before mid new _ (outcome_text outcome) [] out_last p

        pub outcome_written : Appends mid new (outcome_text outcome) → Appends before new (trace_text span start cuts)
        outcome_written p = out_all before new _ (out_more before mid new _ (outcome_text outcome) [] out_last p)

-- Memory and a failed write are no refusals.
pub no_refusal : {W : Type 0} (start : PowerOn) (cuts : List ℕ) (old new : W) (e : TraceError) → (e ≡ errors.Memory) ⊎ (e ≡ errors.Write) → RefusesTrace start cuts old new e
no_refusal start cuts old new (errors.CannotOccur index) is = elim is [ inl m ↦ absurd cc | inr w ↦ absurd cc ]
no_refusal start cuts old new errors.Memory is = tt
no_refusal start cuts old new errors.Write is = tt

-- ---- the room of the flash

-- After so many boots there is room for one more, among those for which the flash was loaded.
module _ (start : PowerOn) (rules : Rules) (f : Seen) (same_rules : rules ≡ start.rules) (same_layout : f.geometry ≡ start.geometry) (n : ℕ)
    (counts : LeaveRoom f.usage.counts no_counts (times n (most_of start))) where
  most_here : most_of (powered rules f) ≡ most_of start
  most_here = rw (same_rules, same_layout) refl

  pub one_counted : (new : Counts) → LeaveRoom new no_counts (plus f.usage.counts (most_of (powered rules f))) → LeaveRoom new no_counts (times (n + 1) (most_of start))
  one_counted new more = grind arith

  pub room_left : (boots : ℕ) → n + 1 ≤ boots → IsWithin (limits_for start.rules.grain start.geometry boots) f.usage.limits → Allows (most_of (powered rules f)) f
  room_left boots at_most within =
      let l = limits_are start.rules.grain start.geometry boots f.usage.limits within in
      let most = most_operations start.rules.grain start.geometry in
      let kept = most_saved start.geometry in
      let entries : n * most + most ≤ boots * most = rw (← more most) (mul-le-mul_right most at_most) in
      let saved : n * kept + kept ≤ boots * kept = rw (← more kept) (mul-le-mul_right kept at_most) in
      subst (λ (c : Counts). Allows c f) (sym most_here) (record {
        entries = omega (arith, counts.entries, entries, l.for_entries);
        saved = omega (arith, counts.saved, saved, l.for_saved);
      })
    where
      more : (m : ℕ) → (n + 1) * m ≡ n * m + m
      more m = omega arith
