-- What each event of a script leads to, and the lines that are printed of it.
use Rattle.std.specs.Io.KnownBytes.{Appends, Keeps}
use Rattle.std.specs.Prelude.{Bool, List, None, Option, Some, [], codes, decimal, false, length, option_map, true, ℕ, ⊤, ◌++◌, ◌+◌, ◌∷◌, ◌≡◌, ◌⊎◌}
use Rattle.mc_boot.specs.{Life.{DeviceState, confirm, cut, device_state, mark, store}, Outcome.{Report, result_text}}
use Rattle.mc_boot.specs.{Plan.{PowerOn, identity_of, powered}, Restart.{filled}}
use Rattle.mc_flash.specs.{Flash.{erased}, declared.op.Op.TheVariants.{Erase}, declared.op.Slot.TheVariants.{Secondary}}
use Rattle.mc_image.specs.{Valid.{Identity}, VersionText.{version_line}}
use Rattle.mc_life.specs.Device.{AllowsDownload, AllowsWrite, EndsAs, Goes, IsNew, IsTornTo, RefusesConfirm, RefusesCuts, RefusesDownload, RefusesErase, RefusesMark, RefusesRequest, RefusesStore, RefusesTear, RefusesWrite, Standing, asked, boot_ops, boots, cut_ops, loaded, wipes, with_part}
use Rattle.mc_life.specs.{Script.{Either, Named, States, file_of, held, is_skipped, sayings}, declared.error.EventError.{EventError}}
use Rattle.mc_life.specs.{declared.event.Event.{Event}, declared.life.LifeError.{LifeError}, declared.life.LineError.{LineError}, declared.state.State.{State}}
use Rattle.mc_output.specs.Text.{AppendsPrefix}
use Rattle.mc_start.specs.Start.{Started}
use Rattle.mc_tear.specs.declared.reading.Reading.{Reading}
use Rattle.mc_trailer.specs.Tables.{type_text}
use Rattle.mc_life.specs.declared.error.EventError.TheVariants as errors
use Rattle.mc_life.specs.declared.event.Event.TheVariants as events
use Rattle.mc_life.specs.declared.life.LifeError.TheVariants as failures
use Rattle.mc_life.specs.declared.life.LineError.TheVariants as lines

-- The state of a device as callers see it.

abbrev pub stated : State → DeviceState
stated x = record { primary = option_map identity_of x.primary; trial = x.trial; secondary = option_map identity_of x.secondary; next = x.next }

-- What is printed of an event.

-- The version and the size of the valid image of a slot, or `none`.
abbrev pub slot_text : Option Identity → List ℕ
slot_text None = codes "none"
slot_text (Some id) = version_line id.version ++ (codes "/" ++ decimal id.size)

abbrev pub trial_text : Bool → List ℕ
trial_text true = codes "trial"
trial_text false = codes "settled"

-- How a boot ended: the result, the type, and how many operations happened.
abbrev pub outcome_text : Option Report → List ℕ
outcome_text None = []
outcome_text (Some o) = codes " " ++ (result_text o.result ++ (codes " " ++ (type_text o.kind ++ (codes " " ++ decimal o.ops))))

-- The primary's image, and whether it is on trial; the secondary's; and the type that the next boot will have.
abbrev pub state_text : DeviceState → List ℕ
state_text x = codes " " ++ (slot_text x.primary ++ (codes " " ++ (trial_text x.trial ++ (codes " " ++ (slot_text x.secondary ++ (codes " " ++ type_text x.next))))))

-- The number of the event, its words, how a boot ended, and the state that it leads to.
abbrev pub event_line : ℕ → List ℕ → Option Report → DeviceState → List ℕ
event_line number words outcome state = (decimal number ++ codes " ") ++ (words ++ ((outcome_text outcome ++ state_text state) ++ 10 ∷ []))

-- What an event of a script is, where it can happen, and what is refused of it.

-- It leads from where a device stands to e: the events of the law that it is, and the operations that happen, of which those that erase nothing are
-- left out where it is no boot.
abbrev pub LeadsTo : List Named → Event → Standing → Standing → Type 0
LeadsTo files (events.Download file count) d e =
    Goes d (store (filled d.seen.geometry Secondary (loaded (held (file_of files file.now)) count)) ∷ []) (wipes d.seen.geometry.secondary) e
LeadsTo files (events.Request request) d e = Goes d (store (asked d.seen.geometry request d.seen.content.secondary) ∷ []) [] e
LeadsTo files (events.Store file) d e = Goes d (store (held (file_of files file.now)) ∷ []) (wipes d.seen.geometry.secondary) e
LeadsTo files (events.Write file from count) d e =
    Goes d (store (with_part d.seen.geometry (held (file_of files file.now)) from count d.seen.content.secondary) ∷ []) [] e
LeadsTo files (events.Erase sector) d e =
    Goes d (store (erased d.seen.geometry.sector sector d.seen.content.secondary) ∷ []) (Erase Secondary sector ∷ []) e
LeadsTo files events.Confirm d e = Goes d (confirm ∷ []) [] e
LeadsTo files (events.Mark bytes) d e = Goes d (mark bytes ∷ []) [] e
LeadsTo files (events.Boot cuts) d e = Goes d (boots cuts) (boot_ops (powered d.rules d.seen) cuts) e
LeadsTo files (events.Cut count) d e = Goes d (cut count ∷ []) (cut_ops (powered d.rules d.seen) (count ∷ [])) e
LeadsTo files (events.Tear count reading) d e = IsTornTo d count reading e

-- A boot ends with an outcome, and no other event does.
abbrev pub EndsBoot : PowerOn → List ℕ → Option Report → Type 0
EndsBoot x cuts None = ⊥
EndsBoot x cuts (Some o) = EndsAs x cuts o

abbrev pub Ends : Standing → Event → Option Report → Type 0
Ends d (events.Download file count) o = o ≡ None
Ends d (events.Request request) o = o ≡ None
Ends d (events.Store file) o = o ≡ None
Ends d (events.Write file from count) o = o ≡ None
Ends d (events.Erase sector) o = o ≡ None
Ends d events.Confirm o = o ≡ None
Ends d (events.Mark bytes) o = o ≡ None
Ends d (events.Boot cuts) o = EndsBoot (powered d.rules d.seen) cuts o
Ends d (events.Cut count) o = o ≡ None
Ends d (events.Tear count reading) o = o ≡ None

-- A file that is not there, or what is refused of what it holds.
abbrev pub WithFile : Option (List ℕ) → (List ℕ → EventError → Type 0) → EventError → Type 0
WithFile None P errors.NoFile = ⊤
WithFile None P _ = ⊥
WithFile (Some bytes) P why = P bytes why

-- Why it can't happen.
abbrev pub RefusesEvent : List Named → Standing → Event → EventError → Type 0
RefusesEvent files d (events.Download file count) why = WithFile (file_of files file.now) (λ bytes. RefusesDownload d bytes count) why
RefusesEvent files d (events.Request request) why = RefusesRequest d request why
RefusesEvent files d (events.Store file) why = WithFile (file_of files file.now) (RefusesStore d) why
RefusesEvent files d (events.Write file from count) why = WithFile (file_of files file.now) (λ bytes. RefusesWrite d bytes from count) why
RefusesEvent files d (events.Erase sector) why = RefusesErase d sector why
RefusesEvent files d events.Confirm why = RefusesConfirm d why
RefusesEvent files d (events.Mark bytes) why = RefusesMark d bytes why
RefusesEvent files d (events.Boot cuts) why = RefusesCuts (powered d.rules d.seen) cuts why
RefusesEvent files d (events.Cut count) why = RefusesCuts (powered d.rules d.seen) (count ∷ []) why
RefusesEvent files d (events.Tear count reading) why = RefusesTear (powered d.rules d.seen) count reading why

-- What allows it to happen, where it is a download or a write.
abbrev pub AllowsEvent : List Named → Standing → Event → Type 0
AllowsEvent files d (events.Download file count) = AllowsDownload d (held (file_of files file.now)) count
AllowsEvent files d (events.Write file from count) = AllowsWrite d (held (file_of files file.now)) from count
AllowsEvent files d _ = ⊤

-- A script replayed line by line. Of each line only what it says counts, and that is called the line here.

-- The line states an event, which may happen and leads from d to e, and a boot ends so.
pub record Happens (files : List Named) (line : List ℕ) (d e : Standing) (outcome : Option Report) : Type 0 where
  pub event : Event
  pub states : States line event
  pub allowed : AllowsEvent files d event
  pub leads : LeadsTo files event d e
  pub ends : Ends d event outcome

-- What is printed of it.
abbrev pub line_text : ℕ → List ℕ → Option Report → Standing → List ℕ
line_text number line outcome e = event_line number line outcome (device_state e.rules e.seen.geometry e.seen.content)

-- These lines lead from d to e, so many of them state events, and this is the text of them all. The first event has that number.
abbrev pub Replays : List Named → ℕ → Standing → List (List ℕ) → ℕ → Standing → List ℕ → Type 0
Replays files number d [] count e text = (e ≡ d) × (count ≡ 0) × (text ≡ [])
Replays files number d (line ∷ more) count e text =
    Either (is_skipped line) (Replays files number d more count e text)
    ((k : Standing) × (o : Option Report) × (rest : List ℕ) × (others : ℕ) × Happens files line d k o × Replays files (number + 1) k more others e rest
    × (count ≡ others + 1) × (text ≡ line_text number line o k ++ rest))

-- No line states that power is lost within an operation.
abbrev pub HasNoTear : List (List ℕ) → Type 0
HasNoTear [] = ⊤
HasNoTear (line ∷ lines) = ((count : ℕ) (r : Reading) → States line (events.Tear count r) → ⊥) × HasNoTear lines

-- A line is refused: it states no event, or one that can't happen.
abbrev pub RefusesLine : List Named → List ℕ → Standing → EventError → Type 0
RefusesLine files line d errors.Syntax = (e : Event) → States line e → ⊥
RefusesLine files line d why = (e : Event) × States line e × RefusesEvent files d e why

-- A prefix of the lines was replayed, and led to e: these lines are left.
pub record ReplayedUpTo (files : List Named) (start : Started) (script : List ℕ) (rest : List (List ℕ)) (count : ℕ) (e : Standing) (text : List ℕ) : Type 0 where
  pub new : Standing
  pub is_new : IsNew start new
  pub before : List (List ℕ)
  pub are : sayings script ≡ before ++ rest
  pub replayed : Replays files 1 new before count e text

-- All lines were replayed, and their text is out.
pub record IsReplayed (files : List Named) (start : Started) (script : List ℕ) (old new : Option (List ℕ)) (e : Standing) : Type 0 where
  pub count : ℕ
  pub text : List ℕ
  pub replayed : ReplayedUpTo files start script [] count e text
  pub out : Appends old new text

-- The lines before the one that was refused were replayed, and their text is out.
pub record StopsAt (files : List Named) (start : Started) (script : List ℕ) (old new : Option (List ℕ)) (why : EventError) (number line : ℕ) : Type 0 where
  pub count : ℕ
  pub left : Standing
  pub text : List ℕ
  pub here : List ℕ
  pub beyond : List (List ℕ)
  pub replayed : ReplayedUpTo files start script (here ∷ beyond) count left text
  pub number_is : number ≡ count + 1
  pub line_is : line ≡ length replayed.before + 1
  pub not_skipped : is_skipped here ≡ false
  pub refused : RefusesLine files here left why
  pub out : Appends old new text

-- The lines before one were replayed, and their text is out; the event of that one happened, and some prefix of its text is out.
pub record BreaksOff (files : List Named) (start : Started) (script : List ℕ) (old new : Option (List ℕ)) : Type 0 where
  pub count : ℕ
  pub left : Standing
  pub text : List ℕ
  pub here : List ℕ
  pub beyond : List (List ℕ)
  pub replayed : ReplayedUpTo files start script (here ∷ beyond) count left text
  pub mid : Option (List ℕ)
  pub out : Appends old mid text
  pub next : Standing
  pub outcome : Option Report
  pub happens : Happens files here left next outcome
  pub prefix : AppendsPrefix mid new (line_text (count + 1) here outcome next)

-- What is refused. Where memory fails, nothing is out, or the text of the lines before; where a write fails, a prefix of the text.
abbrev pub FailsLife : List Named → Started → List ℕ → Option (List ℕ) → Option (List ℕ) → LifeError → Type 0
FailsLife files start script old new (failures.Refused why number line) = StopsAt files start script old new why number line
FailsLife files start script old new failures.Memory = Keeps old new ⊎ ((number line : ℕ) × StopsAt files start script old new errors.Memory number line)
FailsLife files start script old new failures.Write = BreaksOff files start script old new

-- What is refused of one line; or its event happened, and some prefix of its text is out.
abbrev pub FailsLine : List Named → ℕ → List ℕ → Standing → Option (List ℕ) → Option (List ℕ) → LineError → Type 0
FailsLine files number line d old new (lines.Event why) = RefusesLine files line d why × Keeps old new
FailsLine files number line d old new lines.Write = (e : Standing) × (o : Option Report) × Happens files line d e o × AppendsPrefix old new (line_text number line o e)

-- What is refused of a life, where that line is not replayed.
abbrev pub life_error : LineError → ℕ → ℕ → LifeError
life_error (lines.Event errors.Memory) number line = failures.Memory
life_error (lines.Event why) number line = failures.Refused why number line
life_error lines.Write number line = failures.Write
