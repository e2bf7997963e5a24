use Rattle.std.proofs.Common.{Some, refl}
use Rattle.mc_explore.specs.inner.OneRound.{begins}
use Rattle.mc_tears.proofs.Losing.{no_loss, none_lost, put_back}
use Rattle.mc_tears.proofs.losses.Search.visit_tear.Goals as goal

pub returns-then-not-branch-clause-back : goal.returns-then-not-branch-clause-back
returns-then-not-branch-clause-back g c =
    let f = g.F.Flash.seen c.args.flash.now in
    let m = g.F.Flash.seen c.mark.new.self in
    let k = g.F.Flash.seen c.put_case.new.flash in
    rw (c.back_to.ensures, c.in_ok-here.ensures.0)
    (put_back c.args.self.now.erasing (begins c.args.rounds.now) c.args.loss.0 c.args.op.now c.args.loss.1 f m k c.requires.stands c.in_ok-here.ensures.1 c.in_ok-put_case.field-0
    c.in_ok-put_case.ensures.puts k (record { geometry = refl; checkpoints = refl }) refl)

pub returns-then-not-branch-clause-visited : goal.returns-then-not-branch-clause-visited
returns-then-not-branch-clause-visited g c x bound index p from exp =
    let e = c.args.self.now.erasing in
    let y = begins c.args.rounds.now in
    let f = g.F.Flash.seen c.args.flash.now in
    let m = g.F.Flash.seen c.mark.new.self in
    let k = g.F.Flash.seen c.put_case.new.flash in
    no_loss e x c.args.before.now y p from bound index c.args.self.now.cases.items (record { operation = c.args.loss.0; within = Some c.args.loss.1 }) exp
    (none_lost e y c.args.loss.0 c.args.op.now c.args.loss.1 f m k c.requires.stands c.in_ok-here.ensures.1 c.in_ok-put_case.field-0 c.in_ok-put_case.ensures.puts c.if-not-branch.true)

pub returns-clause-back : goal.returns-clause-back
returns-clause-back g c =
    let f = g.F.Flash.seen c.args.flash.now in
    let m = g.F.Flash.seen c.mark.new.self in
    let k = g.F.Flash.seen c.put_case.new.flash in
    let h = g.F.Flash.seen c.visit.new.flash in
    let back = c.in_ok-visit.ensures.back in
    rw (c.back_to-2.ensures, c.in_ok-here.ensures.0)
    (put_back c.args.self.now.erasing (begins c.args.rounds.now) c.args.loss.0 c.args.op.now c.args.loss.1 f m k c.requires.stands c.in_ok-here.ensures.1 c.in_ok-put_case.field-0
    c.in_ok-put_case.ensures.puts h (record { geometry = back.stays.geometry; checkpoints = back.stays.checkpoints }) back.limits)
