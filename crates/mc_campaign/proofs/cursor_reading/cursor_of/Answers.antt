use Rattle.std.specs.Prelude.{◌≡◌, ◌∷◌, ◌++◌, codes, Some}
use Rattle.std.proofs.Common.{rules, sym, ap, ◌∙◌}
use Rattle.mc_start.specs.Cursor.{rules_text, start_text}
use Rattle.mc_campaign.specs.{Texts.{choice_text, campaign_text}, declared.cursor.CampaignCursor.{CampaignCursor}}
use Rattle.mc_campaign.proofs.Reading.{beyond_word, lacks_choice, one_choice, field_of, cursor_is}
use Rattle.mc_campaign.proofs.cursor_reading.cursor_of.Goals as goal

pub returns-in_err-start-clause-only : goal.returns-in_err-start-clause-only
returns-in_err-start-clause-only c k ok summary =
    let begins : c.args.text.now ≡ codes "mc3:" ++ c.in_ok-strip_prefix.field-0.now = search rules in
    let tail = start_text k.digest k.bound (campaign_text k.campaign) in
    let rest = beyond_word c.args.text.now c.in_ok-strip_prefix.field-0.now (rules_text k.rules.grain k.rules.profile ++ (choice_text k.confirms ++ 58 ∷ tail)) begins summary in
    let r = c.in_ok-rules.ensures.only k.rules (choice_text k.confirms ++ 58 ∷ tail) rest in
    let w = c.in_ok-word.ensures.only (choice_text k.confirms) tail (lacks_choice k.confirms) r.1 in
    absurd (c.in_err-start.ensures.only (field_of k) (campaign_text k.campaign) ok.start w.1)

pub returns-in_default-clause-only : goal.returns-in_default-clause-only
returns-in_default-clause-only c k ok summary =
    let begins : c.args.text.now ≡ codes "mc3:" ++ c.in_ok-strip_prefix.field-0.now = search rules in
    let tail = start_text k.digest k.bound (campaign_text k.campaign) in
    let rest = beyond_word c.args.text.now c.in_ok-strip_prefix.field-0.now (rules_text k.rules.grain k.rules.profile ++ (choice_text k.confirms ++ 58 ∷ tail)) begins summary in
    let r = c.in_ok-rules.ensures.only k.rules (choice_text k.confirms ++ 58 ∷ tail) rest in
    let w = c.in_ok-word.ensures.only (choice_text k.confirms) tail (lacks_choice k.confirms) r.1 in
    let s = c.in_ok-start.ensures.only (field_of k) (campaign_text k.campaign) ok.start w.1 in
    let none = c.in_default.ensures.only k.campaign ok.campaign s.1 in
    absurd cc

pub returns-clause-only : goal.returns-clause-only
returns-clause-only c k ok summary =
    let begins : c.args.text.now ≡ codes "mc3:" ++ c.in_ok-strip_prefix.field-0.now = search rules in
    let tail = start_text k.digest k.bound (campaign_text k.campaign) in
    let rest = beyond_word c.args.text.now c.in_ok-strip_prefix.field-0.now (rules_text k.rules.grain k.rules.profile ++ (choice_text k.confirms ++ 58 ∷ tail)) begins summary in
    let r = c.in_ok-rules.ensures.only k.rules (choice_text k.confirms ++ 58 ∷ tail) rest in
    let w = c.in_ok-word.ensures.only (choice_text k.confirms) tail (lacks_choice k.confirms) r.1 in
    let s = c.in_ok-start.ensures.only (field_of k) (campaign_text k.campaign) ok.start w.1 in
    let choice = one_choice c.in_ok-confirms.confirms k.confirms (sym c.in_ok-confirms.ensures ∙ w.0) in
    let campaign : c.in-Ok.campaign ≡ k.campaign = let e = c.in-Ok.ensures.only k.campaign ok.campaign s.1 in cc in
    ap (λ (x : CampaignCursor). Some x) (cursor_is c.in_ok-rules.rules c.in_ok-confirms.confirms c.in_ok-start.start c.in-Ok.campaign k r.0 choice s.0 campaign)
