-- The texts of campaigns and of their cursors, read cut by cut, and the fixed room of their cuts.
use Rattle.std.proofs.{Common.{ap, append_assoc, arith, length-append, rules, subst, sym, ◌∙◌}, Math.Seq.{drop-append_seam}}
use Rattle.std.proofs.{lemmas.Fmt.{decimal_injective}, lemmas.List.{drop-drop, drop-replicate, drop-set-lt}}
use Rattle.std.proofs.lemmas.List.Elements.{All-drop, All-head, All-push}
use Rattle.std.proofs.lemmas.Str.Pattern.{IsSplitOnceResult}
use Rattle.std.specs.Borrow.{Bor}
use Rattle.std.specs.Prelude.{All, Bool, List, None, Option, Some, [], codes, decimal, drop, false, get_or, length, refl, replicate, slice_set, true, ℕ, ◌++◌, ◌+◌, ◌-◌, ◌<◌, ◌^◌, ◌∷◌, ◌≡◌, ◌≤◌}
use Rattle.mc_campaign.specs.{Campaigns.{AscendFrom}, Texts.{FitsCut, IsCampaign, IsCut, choice_text, cut_text}}
use Rattle.mc_campaign.specs.{declared.cursor.CampaignCursor.{CampaignCursor}, facts.Cuts.{last_ordered, ordered_prefix}, facts.Room.{blanks_after}}
use Rattle.mc_explore.specs.{Rounds.{number_of}, declared.rounds.Round.{Round}}
use Rattle.mc_explore.specs.declared.rounds.Round.TheVariants as places
use Rattle.mc_output.specs.{facts.Parting.{Lacks, lacks_both, lacks_decimal, no_dash, no_part, one_part, one_piece, parted}, facts.Reading.{IsSpelling}}
use Rattle.mc_start.specs.declared.cursor_fields.StartField.{StartField}
use Rattle.mc_trailer.specs.declared.tables.Rules.{Rules}

-- The text of a campaign, for a reader that goes cut by cut.

-- ---- a cut

no_comma_digit : (c : ℕ) → c ≡ 44 → 48 ≤ c → c ≤ 57 → ⊥
no_comma_digit c is low high = omega (arith, is, low)

no_point_digit : (c : ℕ) → c ≡ 46 → 48 ≤ c → c ≤ 57 → ⊥
no_point_digit c is low high = omega (arith, is, low)

-- Two cuts of one text are one.
same_text : (x y : ℕ × ℕ) → IsCut x → IsCut y → cut_text x ≡ cut_text y → x ≡ y
same_text (a, b) (c, d) one two is =
    let lacks = λ (n : ℕ) (at_most : n ≤ 2). lacks_decimal 46 no_point_digit n (omega (arith, at_most)) in
    let parts = one_part 46 (decimal a) (decimal c) (decimal b) (decimal d) (lacks a one.round) (lacks c two.round) is in
    let rounds : a ≡ c = decimal_injective a c (omega (arith, one.round)) (omega (arith, two.round)) parts.0 in
    let numbers : b ≡ d = decimal_injective b d (omega (arith, one.small)) (omega (arith, two.small)) parts.1 in
    cc

lacks_comma : (cut : ℕ × ℕ) → IsCut cut → Lacks 44 (cut_text cut)
lacks_comma cut is =
    lacks_both 44 (decimal cut.0) (46 ∷ decimal cut.1) (lacks_decimal 44 no_comma_digit cut.0 (omega (arith, is.round)))
    (λ (e : 46 ≡ 44). omega (arith, e), lacks_decimal 44 no_comma_digit cut.1 is.small)

-- A text is parted at its first point.
module _ (text : List ℕ) (r : Option (Bor (List ℕ) × Bor (List ℕ))) (split : IsSplitOnceResult 46 text r) where
  pub no_point : r ≡ None → (cut : ℕ × ℕ) → text ≡ cut_text cut → ⊥
  no_point none cut is = no_part 46 text (decimal cut.0) (decimal cut.1) (one_piece 46 (omega arith) text r split none) is

  module _ (first after : Bor (List ℕ)) (some : r ≡ Some (first, after)) where
    -- The parts of the text of a cut are its round and its number.
    pub parts_are : (cut : ℕ × ℕ) → IsCut cut → text ≡ cut_text cut → (first.now ≡ decimal cut.0) × (after.now ≡ decimal cut.1)
    parts_are cut known is =
        let p = parted 46 (omega arith) text r split first after some in
        one_part 46 first.now (decimal cut.0) after.now (decimal cut.1) p.lacks (lacks_decimal 46 no_point_digit cut.0 (omega (arith, known.round))) (sym p.parts ∙ is)

    -- And a round and a number are those of a cut.
    pub cut_written : (round : Round) (number : ℕ) → first.now ≡ decimal (number_of round) → after.now ≡ decimal number → number < 2 ^ 32
        → (text ≡ cut_text (number_of round, number)) × IsCut (number_of round, number)
    cut_written round number one two small = (
      (parted 46 (omega arith) text r split first after some).parts
          ∙ ap (λ (l : List ℕ). l ++ 46 ∷ after.now) one
          ∙ ap (λ (l : List ℕ). decimal (number_of round) ++ 46 ∷ l) two,
      is_cut round,
    )
      where
        is_cut : (round : Round) → IsCut (number_of round, number)
        is_cut places.First = grind arith
        is_cut places.Second = grind arith

-- ---- cuts in their order

pub cut_is : (l : List (ℕ × ℕ)) (cut : ℕ × ℕ) → FitsCut l cut → IsCut cut
cut_is l cut f = let last = last_ordered 1 l cut f.in_order in record { some = last.0; round = last.2; small = f.small }

-- A cut that can be added is the one of its text.
pub summary_cut : (l : List (ℕ × ℕ)) (text : List ℕ) (cut summary : ℕ × ℕ) → FitsCut l cut → IsCut summary → text ≡ cut_text cut → text ≡ cut_text summary → cut ≡ summary
summary_cut l text cut summary f is a b = same_text cut summary (cut_is l cut f) is (sym a ∙ b)

fits : (l : List (ℕ × ℕ)) (cut : ℕ × ℕ) (n : List (ℕ × ℕ)) → IsCampaign (l ++ cut ∷ n) → FitsCut l cut
fits l cut n ok = record {
  room = omega (arith, ok.at_most, length-append l (cut ∷ n));
  small = All-head (λ x. x.1 < 2 ^ 32) cut n (subst (All (λ x. x.1 < 2 ^ 32)) (drop-append_seam l (cut ∷ n)) (All-drop (λ x. x.1 < 2 ^ 32) (length l) (l ++ cut ∷ n) ok.small));
  in_order = ordered_prefix 1 (l ++ cut ∷ []) n (subst (AscendFrom 1) (sym (append_assoc l (cut ∷ []) n)) ok.in_order);
}

pub spelling : IsSpelling 44 cut_text FitsCut IsCampaign
spelling = record {
  lacks = λ l cut f. lacks_comma cut (cut_is l cut f);
  no_dash = λ l cut rest f is. let round = (cut_is l cut f).round in
      no_dash cut.0 ((46 ∷ decimal cut.1) ++ rest) (omega (arith, round)) (is ∙ append_assoc (decimal cut.0) (46 ∷ decimal cut.1) rest);
  same = λ l x y f h is. same_text x y (cut_is l x f) (cut_is l y h) is;
  fits = fits;
  grows = λ l cut ok f. record {
    at_most = omega (arith, f.room, length-append l (cut ∷ []));
    small = All-push (λ x. x.1 < 2 ^ 32) l cut ok.small f.small;
    in_order = f.in_order;
  };
}

-- How the text of a cursor of campaigns is taken apart.

-- What follows the first word.
pub beyond_word : (text rest tail : List ℕ) → text ≡ codes "mc3:" ++ rest → text ≡ codes "mc3:" ++ tail → rest ≡ tail
beyond_word text rest tail a b = ap (λ (z : List ℕ). drop 4 z) (sym a ∙ b)

-- The word of a choice has no colon, and says that choice alone.
pub lacks_choice : (confirms : Bool) → Lacks 58 (choice_text confirms)
lacks_choice false = search rules
lacks_choice true = search rules

pub one_choice : (a b : Bool) → choice_text a ≡ choice_text b → a ≡ b
one_choice false false e = refl
one_choice false true e = let q : 108 ≡ 99 = ap (λ (zs : List ℕ). get_or zs 0 0) e in absurd (omega (arith, q))
one_choice true false e = let q : 99 ≡ 108 = ap (λ (zs : List ℕ). get_or zs 0 0) e in absurd (omega (arith, q))
one_choice true true e = refl

abbrev pub field_of : CampaignCursor → StartField
field_of c = record { digest = c.digest; bound = c.bound }

-- A cursor that was read is the one of its fields.
pub cursor_is : (summary : Rules) (confirms : Bool) (start : StartField) (campaign : List (ℕ × ℕ)) (c : CampaignCursor)
    → summary ≡ c.rules → confirms ≡ c.confirms → start ≡ field_of c → campaign ≡ c.campaign
    → record { rules = summary; confirms = confirms; digest = start.digest; bound = start.bound; campaign = campaign } ≡ c
cursor_is summary confirms start campaign c a b d e = grind arith

-- The fixed room of a campaign: after its cuts stand blanks.

-- Blanks stand after one cut more.
pub blanks_beyond : (cuts : List (ℕ × ℕ)) (n : ℕ) (cut : ℕ × ℕ) → n < 16 → drop n cuts ≡ blanks_after n → drop (n + 1) (slice_set cuts n cut) ≡ blanks_after (n + 1)
blanks_beyond cuts n cut room blanks =
    drop-set-lt (n + 1) cuts n cut (omega arith)
    ∙ sym (drop-drop 1 n cuts)
    ∙ ap (drop 1) blanks
    ∙ drop-replicate 1 (16 - n) (1, 0)
    ∙ ap (λ k. replicate k (1, 0)) (omega arith)
