-- The tree of two rounds of boots that are cut, and how both end.
use Rattle.std.specs.Prelude.{Bool, ℕ}
use Rattle.mc_boot.specs.{Outcome.{left_by}, Plan.{PowerOn, again}, Restart.{confirmed_if}, declared.outcome.BootResult.{BootResult}}
use Rattle.mc_boot.specs.declared.outcome.BootResult.TheVariants as results
use Rattle.mc_explore.specs.Boots.{boots, content_or}
use Rattle.mc_explore.specs.{declared.rounds.Round.{Round}, declared.rounds.Rounds.{Rounds}}
use Rattle.mc_explore.specs.declared.rounds.Round.TheVariants as places
use Rattle.mc_explore.specs.declared.rounds.Rounds.TheVariants as kinds
use Rattle.mc_tree.specs.Tree.{RoundNode, Tree, two_rounds}

-- 1 or 2.
abbrev pub number_of : Round → ℕ
number_of places.First = 1
number_of places.Second = 2

-- For how many boots more than there are cuts a flash is loaded: for one in one round; for two, and the write between them, in two.
abbrev pub more_of : Rounds → ℕ
more_of kinds.One = 1
more_of (kinds.Two confirms) = 3

-- Where the second round begins if the uncut boot from x ends the first.
unfoldable pub second_start : Bool → PowerOn → PowerOn
second_start confirms x = again x (confirmed_if confirms x.geometry (content_or x.content (left_by x)))

-- A boot of the first round can be cut before each operation that it makes uncut, and so can then the one that begins the
-- second round after it.
abbrev pub tree_of : Bool → Tree (RoundNode PowerOn)
tree_of confirms = two_rounds boots (second_start confirms)

-- Two rounds end as the second does; but where the first does not end in a boot, with its result.
abbrev pub end_result : BootResult → BootResult → BootResult
end_result results.Boot second = second
end_result results.None second = results.None
end_result results.Panic second = results.Panic
end_result results.Fault second = results.Fault
