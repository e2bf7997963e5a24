-- What an engine answers: the text that it is to write for its input, or a refusal. Of a reader and a writer the bytes
-- that are left and that are held are known, or nothing is.
use Rattle.std.specs.{Prelude.{◌≡◌, ℕ, ◌<◌, ◌≤◌, List, length, Option, Result, Ok, Err, IfSome, IsErrAnd, ⊤, ◌⊎◌}, Io.KnownBytes.{Appends, Keeps}}
use Rattle.mc_image.specs.declared.judge.Judged.{Judged}
use Rattle.mc_image.specs.Verdict.{verdict}
use Rattle.mc_imgtool.specs.declared.error.ToolError.{ToolError}
use Rattle.mc_imgtool.specs.declared.error.ToolError.TheVariants.{Image, NotZeros, SlotTooSmall, NeedsSlotSize, InputTooLong, Read, Write, Memory}
use Rattle.mc_output.specs.Text.{AppendsPrefix}

-- when a reader of at most `limit` bytes gives each refusal: the known input, the limit
abbrev pub RefusesReading : Option (List ℕ) → ℕ → ToolError → Type 0
RefusesReading known limit InputTooLong = IfSome known (λ xs. limit < length xs)
RefusesReading known limit Read = ⊤
RefusesReading known limit Memory = ⊤
RefusesReading known limit (Image e) = ⊥
RefusesReading known limit NotZeros = ⊥
RefusesReading known limit SlotTooSmall = ⊥
RefusesReading known limit NeedsSlotSize = ⊥
RefusesReading known limit Write = ⊥

-- an input that is known to be longer is refused as that, unless a read or memory failed: the known input, the limit
abbrev pub RefusesLonger : {A : Type 0} → Option (List ℕ) → ℕ → Result A ToolError → Type 0
RefusesLonger known limit r = IfSome known (λ xs. limit < length xs → IsErrAnd r (λ e. (e ≡ InputTooLong) ⊎ ((e ≡ Read) ⊎ (e ≡ Memory))))

-- when a judge of an input of at most `limit` bytes gives each answer: the known input, the limit
abbrev pub Judges : Option (List ℕ) → ℕ → Result Judged ToolError → Type 0
Judges known limit (Ok j) = IfSome known (λ xs. (length xs ≤ limit) × (verdict xs ≡ Ok j))
Judges known limit (Err (Image e)) = IfSome known (λ xs. (length xs ≤ limit) × (verdict xs ≡ Err e))
Judges known limit (Err InputTooLong) = IfSome known (λ xs. limit < length xs)
Judges known limit (Err Read) = ⊤
Judges known limit (Err Memory) = ⊥
Judges known limit (Err NotZeros) = ⊥
Judges known limit (Err SlotTooSmall) = ⊥
Judges known limit (Err NeedsSlotSize) = ⊥
Judges known limit (Err Write) = ⊥

-- what is made, seen as bytes, is what is wanted, unless memory ran out
abbrev pub Gives : {A : Type 0} → (A → List ℕ) → Result A ToolError → Result (List ℕ) ToolError → Type 0
Gives view (Ok x) wanted = wanted ≡ Ok (view x)
Gives view (Err e) wanted = (e ≡ Memory) ⊎ (wanted ≡ Err e)

-- the refusal is the wanted one, and nothing is written
abbrev pub IsWantedRefusal : (List ℕ → Result (List ℕ) ToolError) → Option (List ℕ) → Option (List ℕ) → Option (List ℕ) → ToolError → Type 0
IsWantedRefusal wanted known old new e = IfSome known (λ xs. wanted xs ≡ Err e) × Keeps old new

-- when an engine gives each refusal, and what it then has written: what is wanted for an input, the known input, the
-- writer before and after
abbrev pub Refuses : (List ℕ → Result (List ℕ) ToolError) → Option (List ℕ) → Option (List ℕ) → Option (List ℕ) → ToolError → Type 0
Refuses wanted known old new Read = Keeps old new
Refuses wanted known old new Memory = Keeps old new
Refuses wanted known old new Write = IfSome known (λ xs. (text : List ℕ) × (wanted xs ≡ Ok text) × AppendsPrefix old new text)
Refuses wanted known old new (Image e) = IsWantedRefusal wanted known old new (Image e)
Refuses wanted known old new NotZeros = IsWantedRefusal wanted known old new NotZeros
Refuses wanted known old new SlotTooSmall = IsWantedRefusal wanted known old new SlotTooSmall
Refuses wanted known old new NeedsSlotSize = IsWantedRefusal wanted known old new NeedsSlotSize
Refuses wanted known old new InputTooLong = IsWantedRefusal wanted known old new InputTooLong

-- a refusal that an engine may give which reads an image: none of a payload, a slot or options
abbrev pub RefusesAnImage : ToolError → Type 0
RefusesAnImage NotZeros = ⊥
RefusesAnImage SlotTooSmall = ⊥
RefusesAnImage NeedsSlotSize = ⊥
RefusesAnImage _ = ⊤

-- the wanted text is out, or it is a refusal
abbrev pub Answers : {A : Type 0} → (List ℕ → Result (List ℕ) ToolError) → Option (List ℕ) → Option (List ℕ) → Option (List ℕ) → Result A ToolError → Type 0
Answers wanted known old new (Ok _) = IfSome known (λ xs. (text : List ℕ) × (wanted xs ≡ Ok text) × Appends old new text)
Answers wanted known old new (Err e) = Refuses wanted known old new e
