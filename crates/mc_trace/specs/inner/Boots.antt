-- One boot that is traced operation by operation.
use Rattle.std.specs.{Io.KnownBytes.{Appends}, Prelude.{Err, IfSome, IsErrOf, List, Ok, Option, Result, false, ℕ, ◌≡◌, ◌≤◌}}
use Rattle.mc_boot.specs.{Boot.{GoesOn, progress}, declared.boot.Boot.{Boot}}
use Rattle.mc_flash.specs.Usage.{Counts, LeaveRoom, Seen, no_counts, plus}
use Rattle.mc_output.specs.Text.{AppendsPrefix}
use Rattle.mc_trace.specs.declared.error.TraceError.{TraceError}
use Rattle.mc_trace.specs.declared.error.TraceError.TheVariants as errors

-- A text comes out whole, or where the call fails a prefix of it.
abbrev pub WritesText : {A E : Type 0} → Result A E → Option (List ℕ) → Option (List ℕ) → List ℕ → Type 0
WritesText (Ok _) before after text = Appends before after text
WritesText (Err _) before after text = AppendsPrefix before after text

-- A boot goes on, and where there is a number it makes no operation from that number on.
pub record GoesUpTo (until : Option ℕ) (old : Boot) (before : Seen) (new : Boot) (after : Seen) : Type 0 where
  pub goes : GoesOn old before new after
  pub below : IfSome until (λ n. (progress new).count ≤ n)

-- No more is counted than that, and the limits stay. An allocation failed only where it fails a flash that does not count.
pub record CountsUpTo {A : Type 0} (most : Counts) (old : Seen) (result : Result A TraceError) (new : Seen) : Type 0 where
  pub counts : LeaveRoom new.usage.counts no_counts (plus old.usage.counts most)
  pub limits : new.usage.limits ≡ old.usage.limits
  pub cause : IsErrOf result errors.Memory → old.usage.limits.counted ≡ false
