use Rattle.std.specs.Prelude.{◌≡◌, ℕ, length, suc}
use Rattle.mc_boot.specs.Outcome.{ops_of}
use Rattle.mc_explore.specs.{facts.Children.{HasCome, IsAtChild}, inner.LastCuts.{boot_at}}
use Rattle.mc_output.specs.facts.Prefixes.{IsOut}
use Rattle.mc_start.specs.Start.{begun}
use Rattle.mc_trace.proofs.BootFrames.{left, whole}
use Rattle.mc_trace.specs.inner.Walking.{length_to, model_of}
use Rattle.mc_trace.proofs.boot_frames.write_boot_frames.Given as goal

abbrev pub invariant-loop-number : goal.invariant-loop-number
invariant-loop-number g l =
    let old = l.fn.walk in
    let x = boot_at (begun l.start) old.path in
    record {
      to_is : l.to ≡ length_to l.cut (length (ops_of x));
      at : (n : ℕ) → l.number ≡ suc n → IsAtChild model_of old n l.walk;
      come : HasCome model_of old l.number l.walk;
      out : IsOut (g.W.Write.contents l.fn.writer) (g.W.Write.contents l.writer) (whole l.look l.start.content l.boot x l.cut) (left l.look l.start.content l.boot x l.cut l.number);
    }
