use Rattle.std.proofs.Common.{◌-◌, arith, subst, ℕ}
use Rattle.mc_image.specs.inner.Judging.{IsPlain}
use Rattle.mc_image.proofs.JudgeLaws.{plain_taken}
use Rattle.mc_image.proofs.judge.Judge.in_plain.Goals as goal

pub returns : goal.returns
returns c =
    plain_taken _ _ c.args.piece.now c.split_at.result.0.now c.split_at.result.1.now c.requires.fed c.requires.nonempty (λ i. omega (arith, c.type_inv.piece i)) c.split_at.ensures.by_index.0
    c.args.left (omega (arith, c.split_at.ensures.front_len)) c.args.sealed c.args.total c.args.scan c.feed.result c.requires.stage c.feed.ensures (λ body area all sealed plain.
    c.continue_plain.ensures body area all sealed (subst (λ (k : ℕ). IsPlain c.args.total (c.args.left - k) c.feed.result area) c.split_at.ensures.front_len plain))
