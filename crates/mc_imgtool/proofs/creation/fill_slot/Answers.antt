use Rattle.std.proofs.Common.{◌≡◌, ℕ, ◌-◌, ◌≤◌, Bool, cond, List, [], ◌∷◌, ◌++◌, length, take, replicate, Result, Ok, Err, OnOk, ◌∙◌, arith, append_assoc}
use Rattle.std.proofs.lemmas.List.{take_all}
use Rattle.std.specs.Prelude.{is_ok}
use Rattle.mc_imgtool.specs.Created.{trailer_magic, filled_slot}
use Rattle.mc_imgtool.proofs.creation.fill_slot.Goals as goal
use Rattle.mc_imgtool.proofs.creation.fill_slot.Goals.{then-confirm, else-confirm}

regroup : (a b c d e : List ℕ) → (((a ++ b) ++ c) ++ d) ++ e ≡ a ++ (b ++ (c ++ (d ++ e)))
regroup a b c d e = simp append_assoc

filled : (image held sized marked last : List ℕ) (len slot flag : ℕ) (confirm : Bool) → length image ≤ slot - 24 → held ≡ image → len ≡ length held
    → sized ≡ take (slot - 24) held ++ replicate (slot - 24 - len) 255 → marked ≡ sized ++ flag ∷ [] → flag ≡ cond confirm 1 255 → last ≡ marked ++ replicate 7 255
    → last ++ trailer_magic ≡ filled_slot slot confirm image
filled image held sized marked last len slot flag confirm fits e1 e2 e3 e4 e5 e6 =
    let all : take (slot - 24) image ≡ image = take_all (slot - 24) image fits in
    rw (e6, e4, e3, e2, e1, all, e5) (regroup image (replicate (slot - 24 - length image) 255) (cond confirm 1 255 ∷ []) (replicate 7 255) trailer_magic)

at_ok : {A E : Type 0} (r : Result A E) (new more old wanted : List ℕ) → new ≡ cond (is_ok r) more old → more ≡ wanted → OnOk r (new ≡ wanted)
at_ok (Ok x) new more old wanted e is = e ∙ is
at_ok (Err x) new more old wanted e is = tt

flag : (c : goal.After-extend_from_slice-2) → c.if-confirm.push ≡ cond c.args.confirm 1 255
flag c = elim c.if-confirm.branch as (λ _. c.if-confirm.push ≡ cond c.args.confirm 1 255) [
  | then-confirm w ↦ rw w.if-confirm.true w.push-is
  | else-confirm w ↦ rw w.if-confirm.false w.push-is
]

pub returns : goal.returns
returns c =
    at_ok c.extend_from_slice-2.result _ _ _ _ c.extend_from_slice-2.ensures.items
    (filled c.args.image.now.items _ _ _ _ _ c.args.slot _ c.args.confirm (omega (arith, c.requires, c.args.image.now.ok.0)) c.in_ok-reserve.ensures.items c.reserve.new.self.ok.0
    c.in_ok-resize.ensures.items c.in_ok-push.ensures.items (flag c) c.in_ok-extend_from_slice.ensures.items)
