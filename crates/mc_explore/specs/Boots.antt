-- The tree of boots that are cut.
use Rattle.std.specs.Prelude.{None, Option, Some, length, ℕ}
use Rattle.mc_boot.specs.{Outcome.{at, ops_of}, Plan.{PowerOn, again}}
use Rattle.mc_flash.specs.Flash.{Content}
use Rattle.mc_tree.specs.Tree.{Tree}

-- A cut that can't occur is that of no child, and of it the tree says nothing.

abbrev pub content_or : Content → Option Content → Content
content_or s None = s
content_or s (Some t) = t

-- The flash after the first c operations of the uncut boot.
unfoldable pub at_cut : PowerOn → ℕ → Content
at_cut x c = content_or x.content (at x c)

-- A node is what a boot begins with. That boot can be cut before each operation that it makes uncut, and the next one begins there.
abbrev pub boots : Tree PowerOn
boots = record { width = λ x. length (ops_of x); child = λ x c. again x (at_cut x c) }
