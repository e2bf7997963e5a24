use Rattle.std.proofs.Common.{arith, inl, inr}
use Rattle.mc_c.proofs.engines.page.Goals as goal

pub returns : goal.returns
returns c =
    let begins = c.in_ok-start.ensures in
    inr (omega arith, begins.0, omega arith, inl (c.in_ok-start.start, begins.1, rw begins.2 at c.page_text.ensures))
