-- A flash explained: this project's own text (docs/FORMAT.md, "Inspection").
use Rattle.std.specs.Prelude.{List, None, Option, Some, codes, if◌then◌else◌, slice_get, ℕ, ◌++◌}
use Rattle.mc_boot.specs.{Life.{is_at_rest}, Outcome.{identity_text, outcome_of}, Plan.{PowerOn, plan}}
use Rattle.mc_flash.specs.{Flash.{Content, is_blank, slot_text}, Geometry.{Geometry}, declared.op.Op.{Op}, declared.op.Slot.{Slot}}
use Rattle.mc_flash.specs.declared.op.Slot.TheVariants.{Primary, Secondary}
use Rattle.mc_image.specs.{Valid.{Identity, id_of, image_fault}, declared.error.ImageError.{ImageError}}
use Rattle.mc_image.specs.declared.error.ImageError.TheVariants as faults
use Rattle.mc_trace.specs.{Hints.{hints_text}, SlotWords.{sectors_text}, Trace.{operation_text, outcome_lines}, Verdict.{verdict_text}}
use Rattle.mc_trailer.specs.{Tables.{resumes_by, swap_type, trailer_text, type_text}, Trailer.{trailer_of}, declared.tables.Profile.{Profile}}
use Rattle.mc_trailer.specs.declared.trailer.Trailer.{Trailer}

-- Both trailers, whether a boot goes on with a swap that was cut, and the type that the tables give.
unfoldable pub both_text : Trailer → Trailer → List ℕ
both_text p s = codes "trailer primary " ++ (trailer_text p ++ (codes "\ntrailer secondary " ++ trailer_text s))

unfoldable pub asked_text : Profile → Trailer → Trailer → List ℕ
asked_text profile p s =
    codes "\nresume " ++ ((if resumes_by profile p s then codes "yes" else codes "no") ++ (codes "\ntable " ++ (type_text (swap_type profile p s) ++ codes "\n")))

-- No swap is under way; the next boot goes on with it; or none does.
abbrev pub state_text : Profile → Trailer → Trailer → List ℕ
state_text profile p s =
    if is_at_rest p then codes "state rest\n"
    else if resumes_by profile p s then codes "state resumes\n"
    else codes "state busy\n"

unfoldable pub trailers_text : Profile → Geometry → Content → List ℕ
trailers_text profile g s =
    let p = trailer_of g s Primary in
    let q = trailer_of g s Secondary in
    (both_text p q ++ asked_text profile p q) ++ state_text profile p q

-- Why bytes are no valid image.
abbrev pub fault_text : ImageError → List ℕ
fault_text faults.Truncated = codes "E1 Truncated"
fault_text faults.BadMagic = codes "E2 BadMagic"
fault_text faults.BadHeaderSize = codes "E3 BadHeaderSize"
fault_text faults.UnsupportedFlags = codes "E4 UnsupportedFlags"
fault_text faults.TruncatedBody = codes "E5 TruncatedBody"
fault_text faults.BadProtected = codes "E6 BadProtected"
fault_text faults.BadTlvMagic = codes "E7 BadTlvMagic"
fault_text faults.BadTlvLength = codes "E8 BadTlvLength"
fault_text faults.NoDigest = codes "E9 NoDigest"
fault_text faults.ManyDigests = codes "E10 ManyDigests"
fault_text faults.DigestLength = codes "E11 DigestLength"
fault_text faults.WrongDigest = codes "E12 WrongDigest"
fault_text faults.TooLarge = codes "E13 TooLarge"
fault_text faults.Memory = codes "E14 Memory"

-- What a slot with these bytes holds: nothing at all, its valid image, or none and why.
abbrev pub none_text : Option ImageError → List ℕ
none_text None = codes "none"
none_text (Some fault) = codes "none " ++ fault_text fault

abbrev pub held_text : Option Identity → Option ImageError → List ℕ
held_text (Some image) fault = identity_text image
held_text None fault = none_text fault

abbrev pub bytes_text : List ℕ → List ℕ
bytes_text bytes = if is_blank bytes then codes "blank" else held_text (id_of bytes) (image_fault bytes)

unfoldable pub image_text : Slot → List ℕ → List ℕ
image_text slot bytes = codes "image " ++ (slot_text slot ++ (codes " " ++ (bytes_text bytes ++ codes "\n")))

-- The first operation of a boot, as a trace has it, or none.
abbrev pub first_text : Geometry → Option Op → List ℕ
first_text g None = codes "first none\n"
first_text g (Some op) = codes "first " ++ (operation_text g op ++ codes "\n")

-- The boot from there: its first operation, and its outcome.
unfoldable pub boot_text : PowerOn → List ℕ
boot_text x = first_text x.geometry (slice_get (plan x).list 0) ++ outcome_lines (outcome_of x)

-- The verdict, both trailers, and the hints.
abbrev pub head_text : PowerOn → List ℕ → List ℕ
head_text x hints =
    (verdict_text x.geometry hints (id_of x.content.primary) (outcome_of x) ++ trailers_text x.rules.profile x.geometry x.content) ++ hints

-- What the slots hold, and what lies in their sectors, by those of a named flash, if there is one.
abbrev pub both_slots_text : Geometry → Option Content → Content → List ℕ
both_slots_text g named s =
    ((image_text Primary s.primary ++ image_text Secondary s.secondary) ++ sectors_text g named Primary s.primary) ++ sectors_text g named Secondary s.secondary

-- All of it.
abbrev pub inspection_text : PowerOn → Option Content → List ℕ
inspection_text x named =
    (head_text x (hints_text x.geometry x.content.primary x.content.secondary) ++ both_slots_text x.geometry named x.content) ++ boot_text x
