-- Exit statuses.
use Rattle.std.specs.Prelude.{ℕ}
use Rattle.mc_image.specs.declared.error.ImageError.TheVariants as image_errors
use Rattle.mc_imgtool.specs.declared.error.ToolError.{ToolError}
use Rattle.mc_imgtool.specs.declared.error.ToolError.TheVariants as tool_errors
use Rattle.mc_start.specs.declared.start.StartError.{StartError}
use Rattle.mc_start.specs.declared.start.StartError.TheVariants as start_errors
use Rattle.mc_explore.specs.declared.replays.ReplayError.{ReplayError}
use Rattle.mc_explore.specs.declared.replays.ReplayError.TheVariants as replay_errors
use Rattle.mc_explore.specs.declared.error.ExploreError.{ExploreError}
use Rattle.mc_explore.specs.declared.error.ExploreError.TheVariants as explore_errors
use Rattle.mc_trace.specs.declared.error.TraceError.{TraceError}
use Rattle.mc_trace.specs.declared.error.TraceError.TheVariants as trace_errors
use Rattle.mc_life.specs.declared.error.EventError.TheVariants as event_errors
use Rattle.mc_life.specs.declared.error.ScriptError.{ScriptError}
use Rattle.mc_life.specs.declared.error.ScriptError.TheVariants as script_errors
use Rattle.mc_life.specs.declared.life.LifeError.{LifeError}
use Rattle.mc_life.specs.declared.life.LifeError.TheVariants as life_errors
use Rattle.mc_options.specs.declared.refusal.Refusal.{Refusal}
use Rattle.mc_options.specs.declared.refusal.Refusal.TheVariants as refusals

-- the status for a refusal of the image tool: 2 where the options do not go together, 3 where a read, a write or memory failed, 1 where the content is refused
abbrev pub status_of_tool : ToolError → ℕ
status_of_tool tool_errors.NeedsSlotSize = 2
status_of_tool tool_errors.Read = 3
status_of_tool tool_errors.Write = 3
status_of_tool tool_errors.Memory = 3
status_of_tool (tool_errors.Image image_errors.Memory) = 3
status_of_tool _ = 1

-- the status for a refusal of a start: 3 where memory failed
abbrev pub status_of_start : StartError → ℕ
status_of_start start_errors.Memory = 3
status_of_start (start_errors.ImageA image_errors.Memory) = 3
status_of_start (start_errors.ImageB image_errors.Memory) = 3
status_of_start _ = 1

-- the status for a refused replay: 3 where memory failed
abbrev pub status_of_replay : ReplayError → ℕ
status_of_replay (replay_errors.CannotOccur _) = 1
status_of_replay replay_errors.Memory = 3

-- the status for a schedule that is not traced: 3 where memory or a write failed
abbrev pub status_of_trace : TraceError → ℕ
status_of_trace (trace_errors.CannotOccur _) = 1
status_of_trace trace_errors.Memory = 3
status_of_trace trace_errors.Write = 3

-- the status for a script that is not read: 1 where it is no text
abbrev pub status_of_script : ScriptError → ℕ
status_of_script (script_errors.Input e) = status_of_tool e
status_of_script script_errors.NotText = 1

-- the status for a life that is not replayed to its end: 3 where a file, memory or a write failed
abbrev pub status_of_life : LifeError → ℕ
status_of_life (life_errors.Refused event_errors.NoFile _ _) = 3
status_of_life (life_errors.Refused _ _ _) = 1
status_of_life life_errors.Memory = 3
status_of_life life_errors.Write = 3

-- the status for an exploration that ends early: 1 where a cursor does not serve, 3 where memory or a write failed
abbrev pub status_of_exploration : ExploreError → ℕ
status_of_exploration explore_errors.OtherStart = 1
status_of_exploration explore_errors.OtherRules = 1
status_of_exploration explore_errors.OtherBound = 1
status_of_exploration explore_errors.CannotOccur = 1
status_of_exploration explore_errors.Memory = 3
status_of_exploration explore_errors.Failed = 3
status_of_exploration explore_errors.Write = 3

-- the status for a refusal: 2 where the command line is refused
abbrev pub status_of : Refusal → ℕ
status_of refusals.NotText = 2
status_of refusals.Argument = 2
status_of (refusals.Number _) = 2
status_of refusals.SameFile = 2
status_of refusals.Unexplained = 2
status_of refusals.CursorOptions = 2
status_of refusals.NotAllBoot = 1
status_of refusals.NotAllRight = 1
status_of refusals.NotWhole = 1
status_of refusals.MoreCuts = 1
status_of refusals.InUse = 2
status_of refusals.LayoutFile = 2
status_of refusals.NeverSwaps = 2
status_of refusals.LargePicture = 2
status_of refusals.NoReading = 2
status_of refusals.NoCase = 1
status_of refusals.Expectation = 2
status_of refusals.Device = 2
status_of (refusals.Script e) = status_of_script e
status_of (refusals.Life e) = status_of_life e
status_of (refusals.Version _) = 2
status_of refusals.Source = 2
status_of (refusals.Layout _) = 2
status_of (refusals.Schedule _) = 2
status_of (refusals.Campaign _) = 2
status_of (refusals.Start e) = status_of_start e
status_of (refusals.Replay e) = status_of_replay e
status_of (refusals.Trace e) = status_of_trace e
status_of (refusals.Cursor _) = 2
status_of (refusals.Explore e) = status_of_exploration e
status_of (refusals.Flash _) = 3
status_of (refusals.Tool e) = status_of_tool e
status_of refusals.Open = 3
status_of refusals.Write = 3
status_of refusals.Memory = 3
