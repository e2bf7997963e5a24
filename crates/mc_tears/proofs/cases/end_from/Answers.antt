use Rattle.std.proofs.Common.{ap, ◌≡◌, ◌∙◌}
use Rattle.mc_boot.specs.Plan.{again}
use Rattle.mc_explore.specs.inner.OneRound.{begins}
use Rattle.mc_flash.specs.facts.Spends.{keeps_both}
use Rattle.mc_tear.specs.Cases.{put_in}
use Rattle.mc_tears.proofs.{Ending.{whole_end}, Standing.{back_is}}
use Rattle.mc_tears.specs.Ends.{end_of, shown_end}
use Rattle.mc_tears.proofs.cases.end_from.Goals as goal

pub returns-clause-end : goal.returns-clause-end
returns-clause-end g c =
    let f = g.F.Flash.seen c.args.flash.now in
    let x = begins c.args.rounds.now in
    let put : (g.F.Flash.seen c.put_torn.new.flash).content ≡ put_in f.geometry c.args.op.now f.content c.args.bytes.now = rw c.in_ok-here.ensures.1 at c.in_ok-put_torn.ensures.put in
    ap shown_end c.end.ensures ∙ whole_end (again x (g.F.Flash.seen c.put_torn.new.flash).content) c.in_ok-whole.whole c.in_ok-whole.ensures.whole ∙ ap (λ s. end_of (again x s)) put

pub returns-clause-returns : goal.returns-clause-returns
returns-clause-returns g c =
    let put = c.in_ok-put_torn.ensures in
    let whole = c.in_ok-whole.ensures in
    rw (c.back_to.ensures, c.in_ok-here.ensures.0) (back_is (g.F.Flash.seen c.args.flash.now) (g.F.Flash.seen c.mark.new.self) (g.F.Flash.seen c.run.new.flash) c.in_ok-here.ensures.1
    (keeps_both (g.F.Flash.seen c.mark.new.self) (g.F.Flash.seen c.put_torn.new.flash) (g.F.Flash.seen c.run.new.flash) put.keeps whole.counts.keeps) (whole.spends.limits ∙ put.spends.limits))
