use Rattle.std.proofs.Common.{rules, ◌≡◌, true, false, [], ◌∷◌, ◌++◌, map, refl, ap, ◌∙◌, arith}
use Rattle.std.specs.Prelude.{is_ok, if◌then◌else◌}
use Rattle.mc_flash.specs.inner.Snap.{copy_seen}
use Rattle.mc_flash.proofs.Copies.{copies_fail, copies_mark}
use Rattle.mc_flash.proofs.snap.SnapFlashFlash.mark.Goals as goal

pub returns-in_default : goal.returns-in_default
returns-in_default c =
    let f = c.args.self.now in
    copies_fail _ f.slots.layout f.slots.content (map copy_seen f.checkpoints.items) (map copy_seen f.checkpoints.items) f.failed refl

pub returns-then-is_err : goal.returns-then-is_err
returns-then-is_err c =
    let f = c.args.self.now in
    let refused : is_ok c.push.result ≡ false = search rules in
    let same = c.push.ensures.items ∙ ap (λ b. if b then f.checkpoints.items ++ c.in-Ok.content ∷ [] else f.checkpoints.items) refused in
    copies_fail _ f.slots.layout f.slots.content (map copy_seen f.checkpoints.items) (map copy_seen c.push.new.self.items) f.failed (ap (map copy_seen) same)

pub returns : goal.returns
returns c =
    let f = c.args.self.now in
    let done : is_ok c.push.result ≡ true = search rules in
    let more = c.push.ensures.items ∙ ap (λ b. if b then f.checkpoints.items ++ c.in-Ok.content ∷ [] else f.checkpoints.items) done in
    copies_mark f.slots.layout f.slots.content f.checkpoints.items c.push.new.self.items c.in-Ok.content f.failed c.len-number.result more c.in-Ok.ensures
    (omega (arith, f.checkpoints.ok.0))
