-- What is shown of schedules and of campaigns, and what breaks it.
use Rattle.std.specs.{Io.KnownBytes.{Appends}, Prelude.{Bool, Err, IfErr, IfOk, IfSome, List, MatchResult, None, Ok, OnErr, OnOk, Option, Result, Some, codes, false, is_ok, true, ℕ}, Result.{IsErrAnd}}
use Rattle.std.proofs.{Common.{◌≡◌, ap, inl, inr, refl, subst, sym, ◌∙◌}, lemmas.Result.{err_from_is_err_and}}
use Rattle.std.proofs.KnownBytes.{Appends-nil, Appends-trans}
use Rattle.mc_actions.specs.{Images.{AnswersInput}, Rounds.{AnswersShown, BeginsBoth, IsRoundText, IsShowingBroken, RoundsShown}, Schedules.{AnswersSectors}}
use Rattle.mc_actions.specs.{declared.rounds.Campaigned.{Campaigned}, declared.rounds.RoundText.{RoundText}, declared.schedule.Scheduled.{Scheduled}}
use Rattle.mc_actions.specs.declared.rounds.RoundText.TheVariants as texts
use Rattle.mc_boot.specs.{Outcome.{Report, after, left_by}, Plan.{PowerOn, again}, Restart.{confirmed_if}}
use Rattle.mc_campaign.specs.Campaigns.{AreReplayed, BeginsSecond, in_round}
use Rattle.mc_explore.specs.Schedules.{IsReplayed}
use Rattle.mc_flash.specs.Flash.{Content}
use Rattle.mc_imgtool.specs.{Engines.{Answers}, declared.error.ToolError.{ToolError}}
use Rattle.mc_imgtool.specs.declared.error.ToolError.TheVariants as tool
use Rattle.mc_options.proofs.Begun.{first_begun, then_begun}
use Rattle.mc_options.specs.{Requests.{End}, declared.refusal.Refusal.{Refusal}}
use Rattle.mc_options.specs.declared.refusal.Refusal.TheVariants as refusals
use Rattle.mc_output.specs.Text.{AppendsPrefix}
use Rattle.mc_start.specs.Start.{begun}
use Rattle.mc_trace.specs.{Sectors.{IsAt, Pictures, picture}, Trace.{trace_text}, declared.error.TraceError.{TraceError}}
use Rattle.mc_trace.specs.declared.error.TraceError.TheVariants as errors
use Rattle.mc_trace.specs.declared.sectors.Moment.{Moment}
use Rattle.mc_trace.specs.declared.sectors.Moment.TheVariants as moments
use Rattle.mc_trace.specs.declared.sectors.View.{View}

-- Sectors that are printed, or not, where an error is made of another.
pub pictured : (s : Scheduled) (v : View) (old new : Option (List ℕ)) (r : Result (Unit {0}) TraceError) (m : End) → Pictures v (begun s.start) s.schedule old new r
    → MatchResult r (λ x. m ≡ Ok x) (λ e. IsErrAnd m (λ d. d ≡ refusals.Trace e)) → AnswersSectors s v old new m
pictured s v old new (Ok done) m is made = inl (record { content = is.0; at = is.1 }, made, is.2)
pictured s v old new (Err (errors.CannotOccur index)) m is made =
    let d = err_from_is_err_and m made in rw d.1 (rw d.2 (inr (inl (refusals.Trace (errors.CannotOccur index), refl, is.0, is.1))))
pictured s v old new (Err errors.Memory) m is made = let d = err_from_is_err_and m made in rw d.1 (rw d.2 (inr (inl (refusals.Trace errors.Memory, refl, tt, is))))
pictured s v old new (Err errors.Write) m is made =
    let d = err_from_is_err_and m made in rw d.1 (rw d.2 (inr (inr (refusals.Trace errors.Write, refl, refl, record { content = is.0; at = is.1 }, is.2))))

-- ---- rounds

-- Where a schedule is replayed, there is a flash at its last cut, and after its last boot.
flash_at : (m : Moment) (x : PowerOn) (cuts : List ℕ) (o : Report) (z : Content) → IsReplayed x cuts o z → (u : Content) × IsAt m x cuts u
flash_at moments.AtCut x cuts o z is = (is.cut, is.occurs)
flash_at moments.AtEnd x cuts o z is = (z, (is.cut, is.occurs, is.left))

-- And so what is shown of it.
pub some_text : (t : RoundText) (x : PowerOn) (cuts : List ℕ) (o : Report) (z : Content) → IsReplayed x cuts o z → (text : List ℕ) × IsRoundText t x cuts text
some_text (texts.Operations span) x cuts o z is = (trace_text span x cuts, refl)
some_text (texts.Sectors v) x cuts o z is = let f = flash_at v.moment x cuts o z is in (picture v.words x.geometry x.content f.0, (f.0, f.1, refl))

none_out : (before : Option (List ℕ)) (text : List ℕ) → AppendsPrefix before before text
none_out before text = (0, Appends-nil before)

-- Of sectors that are not all printed a beginning is out.
pub sectors_begun : (v : View) (x : PowerOn) (cuts : List ℕ) (old new : Option (List ℕ)) (e : TraceError) (o : Report) (z : Content) → IsReplayed x cuts o z
    → Pictures {A = Unit {0}} v x cuts old new (Err e) → (text : List ℕ) × IsRoundText (texts.Sectors v) x cuts text × AppendsPrefix old new text
sectors_begun v x cuts old new (errors.CannotOccur index) o z replayed is =
    let t = some_text (texts.Sectors v) x cuts o z replayed in (t.0, t.1, rw is.1 (none_out old t.0))
sectors_begun v x cuts old new errors.Memory o z replayed is = let t = some_text (texts.Sectors v) x cuts o z replayed in (t.0, t.1, rw is (none_out old t.0))
sectors_begun v x cuts old new errors.Write o z replayed is = (picture v.words x.geometry x.content is.0, (is.0, is.1, refl), is.2)

-- The boots after the same cuts leave one flash.
one_left : (x : PowerOn) (cuts : List ℕ) (o p : Report) (y z : Content) → IsReplayed x cuts o y → IsReplayed x cuts p z → y ≡ z
one_left x cuts o p y z a b =
    let cut : a.cut ≡ b.cut = let both = sym a.occurs ∙ b.occurs in cc in
    let left = sym a.left ∙ ap (λ (u : Content). left_by (again x u)) cut ∙ b.left in cc

-- The second round is replayed from where it begins.
pub second_replayed : (x then : PowerOn) (confirms : Bool) (c : List (ℕ × ℕ)) (one two : Report) (z : Content) → AreReplayed x confirms c one two z
    → BeginsSecond x confirms (in_round 1 c) then → IsReplayed then (in_round 2 c) two z
second_replayed x then confirms c one two z are begins =
    let same = one_left x (in_round 1 c) one begins.one are.middle begins.middle are.first begins.first in
    subst (λ (y : PowerOn). IsReplayed y (in_round 2 c) two z) (sym (begins.begins ∙ ap (λ (m : Content). again x (confirmed_if confirms x.geometry m)) (sym same))) are.second

-- Sectors that are not all printed leave a beginning.
pub sectors_on_err : (v : View) (x : PowerOn) (cuts : List ℕ) (old new : Option (List ℕ)) (r : Result (Unit {0}) TraceError) (o : Report) (z : Content) → IsReplayed x cuts o z
    → Pictures v x cuts old new r → OnErr r ((text : List ℕ) × IsRoundText (texts.Sectors v) x cuts text × AppendsPrefix old new text)
sectors_on_err v x cuts old new (Ok done) o z replayed is = tt
sectors_on_err v x cuts old new (Err e) o z replayed is = sectors_begun v x cuts old new e o z replayed is

-- ---- errors that are made of others

pub of_cases : {T E D : Type 0} (Q : E → D → Type 0) (r : Result T E) (d : D) → MatchResult r (λ x. Err d ≡ Ok x) (λ e. Q e d) → (e : E) × Q e d
of_cases Q (Ok x) d is = absurd (let odd = is in cc)
of_cases Q (Err e) d is = (e, is)

pub when_err : {T E P : Type 0} (r : Result T E) → false ≡ is_ok r → OnErr r P → P
when_err (Ok x) is p = absurd cc
when_err (Err e) is p = p

pub when_ok : {T E P : Type 0} (r : Result T E) → true ≡ is_ok r → OnOk r P → P
when_ok (Ok x) is p = p
when_ok (Err e) is p = absurd cc

-- ---- both rounds, piece by piece

module _ (c : Campaigned) (t : RoundText) (then : PowerOn) (both : BeginsBoth c then) where
  abbrev IsFirst : List ℕ → Type 0
  IsFirst text = IsRoundText t (begun c.start) (in_round 1 c.campaign) text

  abbrev IsSecond : List ℕ → Type 0
  IsSecond text = IsRoundText t then (in_round 2 c.campaign) text

  one : (text : List ℕ) × IsFirst text
  one = some_text t (begun c.start) (in_round 1 c.campaign) both.all.first both.all.replayed.middle both.all.replayed.first

  two : (text : List ℕ) × IsSecond text
  two = some_text t then (in_round 2 c.campaign) both.all.second both.all.left
      (second_replayed (begun c.start) then c.confirms c.campaign both.all.first both.all.second both.all.left both.all.replayed both.begins)

  abbrev shown : (a b : List ℕ) → IsFirst a → IsSecond b → RoundsShown c t
  shown a b first second = record { then = then; begins = both.begins; first = a; first_is = first; second = b; second_is = second }

  module _ (b0 b1 : Option (List ℕ)) (end : End) where
    pub broken_at_head : (e : Refusal) → end ≡ Err e → IsShowingBroken e → AppendsPrefix b0 b1 (codes "round 1\n") → AnswersShown c t b0 b1 end
    broken_at_head e is broken prefix = inr (inr (e, is, broken, shown one.0 two.0 one.1 two.1, first_begun b0 b1 (codes "round 1\n") _ prefix))

    module _ (head : Appends b0 b1 (codes "round 1\n")) (b2 : Option (List ℕ)) where
      pub broken_in_first : (e : Refusal) → end ≡ Err e → IsShowingBroken e → (text : List ℕ) → IsFirst text → AppendsPrefix b1 b2 text → AnswersShown c t b0 b2 end
      broken_in_first e is broken text first prefix =
          inr (inr (e, is, broken, shown text two.0 first two.1, then_begun b0 b1 b2 (codes "round 1\n") _ head (first_begun b1 b2 text _ prefix)))

      module _ (text : List ℕ) (first : IsFirst text) (out : Appends b1 b2 text) (b3 : Option (List ℕ)) where
        pub broken_between : (e : Refusal) → end ≡ Err e → IsShowingBroken e → AppendsPrefix b2 b3 (codes "round 2\n") → AnswersShown c t b0 b3 end
        broken_between e is broken prefix =
            inr (inr (
              e,
              is,
              broken,
              shown text two.0 first two.1,
              then_begun b0 b1 b3 (codes "round 1\n") _ head (then_begun b1 b2 b3 text _ out (first_begun b2 b3 (codes "round 2\n") _ prefix)),
            ))

        module _ (between : Appends b2 b3 (codes "round 2\n")) (b4 : Option (List ℕ)) where
          pub broken_in_second : (e : Refusal) → end ≡ Err e → IsShowingBroken e → (later : List ℕ) → IsSecond later → AppendsPrefix b3 b4 later → AnswersShown c t b0 b4 end
          broken_in_second e is broken later second prefix =
              inr (inr (
                e,
                is,
                broken,
                shown text later first second,
                then_begun b0 b1 b4 (codes "round 1\n") _ head (then_begun b1 b2 b4 text _ out (then_begun b2 b3 b4 (codes "round 2\n") later between prefix)),
              ))

          pub all_shown : end ≡ Ok tt → (later : List ℕ) → IsSecond later → Appends b3 b4 later → AnswersShown c t b0 b4 end
          all_shown is later second last =
              inl (
                shown text later first second,
                is,
                Appends-trans b0 b1 b4 (codes "round 1\n") _ head (Appends-trans b1 b2 b4 text _ out (Appends-trans b2 b3 b4 (codes "round 2\n") later between last)),
              )

-- What holds of a result where its error is made of another.
pub mapped_match : {T E D : Type 0} (P : T → Type 0) (Q : E → Type 0) (f : E → D) (r : Result T E) (m : Result T D) → IfOk r P → IfErr r Q
    → MatchResult r (λ x. m ≡ Ok x) (λ e. IsErrAnd m (λ d. d ≡ f e)) → MatchResult m P (λ d. (e : E) × (d ≡ f e) × Q e)
mapped_match P Q f (Ok x) m ok err made = rw made ok
mapped_match P Q f (Err e) m ok err made = let d = err_from_is_err_and m made in rw d.1 (e, d.2, err)

-- The image tool's answer is the command's.
pub by_tool : (wanted : List ℕ → Result (List ℕ) ToolError) (known before after : Option (List ℕ)) (r : Result (Unit {0}) ToolError) (m : End) → Answers wanted known before after r
    → MatchResult r (λ x. m ≡ Ok x) (λ e. IsErrAnd m (λ d. d ≡ refusals.Tool e)) → AnswersInput wanted known before after m
by_tool wanted known before after (Ok done) m answers made = record { result = Ok done; answers = answers; end_is = made }
by_tool wanted known before after (Err e) m answers made =
    let d = err_from_is_err_and m made in record { result = Err e; answers = answers; end_is = d.1 ∙ ap (λ (z : Refusal). Err z) d.2 }

-- What is answered of some bytes is answered of an input of which it is not known that it holds others.
answered_unknown : (wanted : List ℕ → Result (List ℕ) ToolError) (bytes : List ℕ) (old new : Option (List ℕ)) (r : Result (Unit {0}) ToolError)
    → Answers wanted (Some bytes) old new r → Answers wanted None old new r
answered_unknown wanted bytes old new (Ok done) a = tt
answered_unknown wanted bytes old new (Err tool.Read) a = a
answered_unknown wanted bytes old new (Err tool.Memory) a = a
answered_unknown wanted bytes old new (Err tool.Write) a = tt
answered_unknown wanted bytes old new (Err (tool.Image e)) a = (tt, a.1)
answered_unknown wanted bytes old new (Err tool.NotZeros) a = (tt, a.1)
answered_unknown wanted bytes old new (Err tool.SlotTooSmall) a = (tt, a.1)
answered_unknown wanted bytes old new (Err tool.NeedsSlotSize) a = (tt, a.1)
answered_unknown wanted bytes old new (Err tool.InputTooLong) a = (tt, a.1)

pub known_from : (wanted : List ℕ → Result (List ℕ) ToolError) (bytes : List ℕ) (known before after : Option (List ℕ)) (m : End) → IfSome known (λ xs. bytes ≡ xs)
    → AnswersInput wanted (Some bytes) before after m → AnswersInput wanted known before after m
known_from wanted bytes None before after m read a = record { result = a.result; answers = answered_unknown wanted bytes before after a.result a.answers; end_is = a.end_is }
known_from wanted bytes (Some xs) before after m read a = subst (λ (ys : List ℕ). AnswersInput wanted (Some ys) before after m) read a
