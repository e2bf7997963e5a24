-- How a layout is answered, and what its trailers ask for.
use Rattle.std.specs.Prelude.{Bool, List, Option, codes, false, true, ℕ, ◌++◌, ◌≡◌, ◌⊎◌}
use Rattle.mc_boot.specs.Plan.{PowerOn}
use Rattle.mc_flash.specs.{Geometry.{Geometry}, declared.flash.FlashError.{FlashError}, declared.op.Slot.TheVariants.{Primary, Secondary}}
use Rattle.clap.specs.declared.parser.matches.Found.{Found}
use Rattle.mc_options.specs.{Arguments.{GivesLayout}, Refusals.{InTurn, LacksLayout, LacksTimes}, Requests.{End, IsAnswered, IsDone, IsUnwritten}, declared.refusal.Refusal.{Refusal}}
use Rattle.mc_options.specs.declared.refusal.Refusal.TheVariants as refusals
use Rattle.mc_start.specs.Start.{Started, begun}
use Rattle.mc_trace.specs.{LayoutText.{layout_text}, declared.wear.Times.{Times}}
use Rattle.mc_trace.specs.declared.error.TraceError.TheVariants as errors
use Rattle.mc_trailer.specs.{Tables.{resumes_by, swap_type, trailer_text, type_text}, Trailer.{trailer_of}}

-- The words give no layout, or not how long its flash takes.
abbrev pub LacksTimedLayout : Found → Refusal → Type 0
LacksTimedLayout found = InTurn (GivesLayout found) (LacksLayout found) (λ layout. LacksTimes found)

-- Nothing is refused once the words are read.
abbrev pub AnswersLayout : Geometry → Option Times → Option (List ℕ) → Option (List ℕ) → End → Type 0
AnswersLayout g times = IsAnswered (λ (_ : Unit {0}). layout_text g times) IsDone (λ _. ⊥) (λ e. e ≡ refusals.Trace errors.Write)

abbrev pub yes_or_no : Bool → List ℕ
yes_or_no true = codes "yes"
yes_or_no false = codes "no"

-- Both trailers, whether a boot goes on with a swap, and the type of the swap tables.
abbrev pub trailers_text : PowerOn → List ℕ
trailers_text x =
    let p = trailer_of x.geometry x.content Primary in
    let s = trailer_of x.geometry x.content Secondary in
    codes "primary " ++ (trailer_text p ++ (codes "\nsecondary " ++ (trailer_text s
    ++ (codes "\nresume " ++ (yes_or_no (resumes_by x.rules.profile p s) ++ (codes "\ntable " ++ (type_text (swap_type x.rules.profile p s) ++ codes "\n")))))))

-- It is refused for want of memory alone.
abbrev pub AnswersType : Started → Option (List ℕ) → Option (List ℕ) → End → Type 0
AnswersType s =
    IsAnswered (λ (_ : Unit {0}). trailers_text (begun s)) IsDone (λ e. (e ≡ refusals.Memory) ⊎ ((error : FlashError) × (e ≡ refusals.Flash error))) IsUnwritten
