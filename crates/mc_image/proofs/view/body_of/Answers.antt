use Rattle.std.proofs.{Common.{◌≡◌, ◌+◌, ◌-◌, ◌≤◌, ℕ, List, take, drop, length, None, false, refl, arith}, lemmas.Bool.Decides.{nat_tests}}
use Rattle.std.proofs.lemmas.List.{length-take, length-drop, take_rest}
use Rattle.std.specs.Prelude.{nat_lt}
use Rattle.mc_image.specs.{Image.{u16_at, u32_at, header_end, payload_end, protected_end, header_in, payload_in, protected_in, after_body}, Valid.{body_fault}}
use Rattle.mc_image.proofs.view.body_of.Goals as goal

-- the parts of bytes that are long enough
cut : (bytes : List ℕ) (h p q : ℕ) → h ≡ u16_at 8 bytes → p ≡ u32_at 12 bytes → q ≡ u16_at 10 bytes → h + p + q ≤ length bytes
    → (body_fault bytes ≡ None) × (take h bytes ≡ header_in bytes) × (take (h + p - h) (drop h bytes) ≡ payload_in bytes)
    × (take (h + p + q - (h + p)) (drop (h + p) bytes) ≡ protected_in bytes) × (take (length bytes - (h + p + q)) (drop (h + p + q) bytes) ≡ after_body bytes)
    × (q ≡ length (take (h + p + q - (h + p)) (drop (h + p) bytes)))
unfolding body_fault header_end payload_end protected_end header_in payload_in protected_in after_body
cut bytes h p q head body area fits =
    let low : nat_lt (length bytes) (h + p + q) ≡ false = grind (arith, nat_tests) in
    let payload : h + p - h ≡ p = omega arith in
    let protected : h + p + q - (h + p) ≡ q = omega arith in
    rw (← head, ← body, ← area, low, payload, protected) (
      refl,
      refl,
      refl,
      refl,
      take_rest bytes (h + p + q),
      omega (
        arith,
        length-take q (drop (h + p) bytes),
        length-drop (h + p) bytes,
        fits,
      ),
    )

pub returns : goal.returns
returns c =
    cut c.args.bytes.now c.args.header.now.size c.args.header.now.payload c.args.header.now.protected
    c.requires.size c.requires.payload c.requires.protected c.if-bytes-protected_end.false
