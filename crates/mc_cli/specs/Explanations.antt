-- The refusals that are explained, by their numbers (docs/FORMAT.md, "Refusals").
use Rattle.std.specs.Prelude.{List, [], codes, ℕ, ◌++◌, ◌∷◌}
use Rattle.mc_cli.specs.declared.explanations.Explanation.{Explanation}

-- The number of a refusal, its name, and the exit status of a command that ends with it.
abbrev pub Entry : Type 0
Entry = ℕ × List ℕ × ℕ

abbrev pub entry_of : Explanation → Entry
entry_of e = (e.number, e.name.now, e.status)

-- Those of images and versions, of the image tool, of layouts and flashes, of starts and explorations, and of a command line and its files.
abbrev pub of_images : List Entry
of_images =
    (1, codes "Truncated", 1) ∷
    (2, codes "BadMagic", 1) ∷
    (3, codes "BadHeaderSize", 1) ∷
    (4, codes "UnsupportedFlags", 1) ∷
    (5, codes "TruncatedBody", 1) ∷
    (6, codes "BadProtected", 1) ∷
    (7, codes "BadTlvMagic", 1) ∷
    (8, codes "BadTlvLength", 1) ∷
    (9, codes "NoDigest", 1) ∷
    (10, codes "ManyDigests", 1) ∷
    (11, codes "DigestLength", 1) ∷
    (12, codes "WrongDigest", 1) ∷
    (13, codes "TooLarge", 1) ∷
    (14, codes "Memory", 3) ∷
    (15, codes "Syntax", 2) ∷
    (16, codes "Range", 2) ∷ []

abbrev pub of_the_image_tool : List Entry
of_the_image_tool =
    (20, codes "NotZeros", 1) ∷
    (21, codes "SlotTooSmall", 1) ∷
    (22, codes "NeedsSlotSize", 2) ∷
    (23, codes "InputTooLong", 1) ∷
    (24, codes "Read", 3) ∷
    (25, codes "Write", 3) ∷
    (26, codes "Memory", 3) ∷ []

abbrev pub of_flashes : List Entry
of_flashes =
    (30, codes "Unit", 2) ∷
    (31, codes "Sector", 2) ∷
    (32, codes "Chunk", 2) ∷
    (33, codes "Counts", 2) ∷
    (34, codes "NoRoom", 2) ∷
    (40, codes "NotErased", 1) ∷
    (41, codes "Memory", 3) ∷ []

abbrev pub of_explorations : List Entry
of_explorations =
    (50, codes "DoesNotFit", 1) ∷
    (51, codes "FlashSize", 1) ∷
    (52, codes "Memory", 3) ∷
    (53, codes "CannotOccur", 1) ∷
    (54, codes "Failed", 3) ∷
    (55, codes "Syntax", 2) ∷
    (56, codes "OtherStart", 1) ∷
    (57, codes "OtherBound", 1) ∷
    (58, codes "CannotOccur", 1) ∷
    (59, codes "Write", 3) ∷
    (60, codes "ScheduleSyntax", 2) ∷
    (61, codes "OtherRules", 1) ∷
    (62, codes "CampaignSyntax", 2) ∷ []

abbrev pub of_commands : List Entry
of_commands =
    (70, codes "SourceOptions", 2) ∷
    (71, codes "Open", 3) ∷
    (73, codes "CursorOptions", 2) ∷
    (74, codes "NotAllBoot", 1) ∷
    (75, codes "SameFile", 2) ∷
    (76, codes "NotAllRight", 1) ∷
    (77, codes "NotWhole", 1) ∷
    (78, codes "EventSyntax", 1) ∷
    (79, codes "NotRunning", 1) ∷
    (80, codes "NotThatLong", 1) ∷
    (81, codes "NoSector", 1) ∷
    (82, codes "CannotMark", 1) ∷
    (83, codes "DeviceOptions", 2) ∷
    (84, codes "ScriptText", 1) ∷
    (85, codes "NoExpectation", 2) ∷
    (86, codes "InUse", 2) ∷
    (87, codes "MoreCuts", 1) ∷
    (88, codes "LayoutFile", 2) ∷
    (89, codes "NeverSwaps", 2) ∷
    (90, codes "NotAligned", 1) ∷
    (91, codes "LargePicture", 2) ∷
    (92, codes "NoReading", 2) ∷
    (93, codes "NoCase", 1) ∷ []

abbrev pub all_refusals : List Entry
all_refusals = of_images ++ (of_the_image_tool ++ (of_flashes ++ (of_explorations ++ of_commands)))
