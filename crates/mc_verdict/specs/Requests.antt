-- How a census is answered.
use Rattle.std.specs.{Prelude.{◌≡◌, ℕ, List, Option, Err, is_some, ◌++◌, ◌⊎◌, true}, Io.KnownBytes.{Appends}}
use Rattle.mc_explore.specs.{Census.{census_text}, Subject.{Subject}}
use Rattle.mc_explore.specs.declared.error.ExploreError.TheVariants as errors
use Rattle.mc_options.specs.{Requests.{End, IsAnswered, IsUnwritten}, declared.refusal.Refusal.{Refusal}}
use Rattle.mc_options.specs.declared.refusal.Refusal.TheVariants as refusals
use Rattle.mc_output.specs.Text.{AppendsPrefix}
use Rattle.mc_verdict.specs.{Shortest.{shortest_text}, Sessions.{AreCounts, ends_of, or_any}, Verdicts.{IsExpectation, IsVerdict, is_of_slots, lines_of}}
use Rattle.mc_verdict.specs.{declared.census.Counts.{Counts}, declared.census.Wanted.{Wanted}}

-- When there is no census: memory fails, or what is to be right is not known.
abbrev pub RefusesCensus : {C : Type 0} → Wanted C → Refusal → Type 0
RefusesCensus w e = (e ≡ refusals.Explore errors.Memory) ⊎ IsExpectation w.asked (ends_of w.images_return w.start.named) (Err e)

module _ {C K R U : Type 0} (x : Subject C K R U) where
  -- The lines of a census, of what of it is right where that is asked, and of the shortest rows that do not end so.
  abbrev pub counts_text : Counts K → List ℕ
  counts_text c = census_text x c.census ++ (lines_of x c.rights ++ shortest_text x (is_some c.rights) c.shortest)

  -- What a census that is asked for comes to.
  pub record CensusAsked (w : Wanted C) : Type 0 where
    pub counts : Counts K
    pub are : AreCounts x w counts

  -- It ends with the verdict on the rows that were counted.
  abbrev pub EndsCensus : (w : Wanted C) → CensusAsked w → End → Type 0
  EndsCensus w c = IsVerdict x.ends w.asked.all_boot (is_of_slots w.asked) (or_any c.are.expectation) c.are.comes_to.rows c.counts.rights true

  -- What was counted is out, and it ends with the verdict on it; or a beginning of it is out.
  abbrev pub ConcludesCensus : (w : Wanted C) (c : Counts K) → AreCounts x w c → Option (List ℕ) → Option (List ℕ) → End → Type 0
  ConcludesCensus w c are before after end =
      (EndsCensus w (record { counts = c; are = are }) end × Appends before after (counts_text c))
      ⊎ ((e : Refusal) × (end ≡ Err e) × IsUnwritten e × AppendsPrefix before after (counts_text c))

  abbrev pub AnswersCensus : Wanted C → Option (List ℕ) → Option (List ℕ) → End → Type 0
  AnswersCensus w = IsAnswered (λ (c : CensusAsked w). counts_text c.counts) (EndsCensus w) (RefusesCensus w) IsUnwritten
