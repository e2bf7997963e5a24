-- Numbers in bytes, and bytes taken piece by piece.
use Rattle.std.proofs.Common.{List, [], ap, append_assoc, arith, drop, length, length-append, min, suc, take, zero, ℕ, ◌++◌, ◌+◌, ◌-◌, ◌<◌, ◌^◌, ◌∙◌, ◌∷◌, ◌≡◌, ◌≤◌}
use Rattle.std.proofs.lemmas.List.{drop-drop, drop_at, get_or-drop, get_or-take, get_or_past, length-drop, length-take, take-append-drop, take_all, take_at, take_min}
use Rattle.std.proofs.lemmas.Nat.{le_bytes_2, le_bytes_4}
use Rattle.byteorder.specs.{Endian.{little_bytes, little_number}, Numbers.{little_from-lt, little_from-take, little_number-reads_back}}
use Rattle.mc_image.specs.Image.{IsBytes, u16_at, u32_at}

-- Numbers that are read are the numbers that are spelled, and the other way round.

pub IsBytes-drop : (n : ℕ) (bytes : List ℕ) → IsBytes bytes → IsBytes (drop n bytes)
IsBytes-drop n bytes h i = rw get_or-drop (h (n + i))

pub IsBytes-take : (n : ℕ) (bytes : List ℕ) → IsBytes bytes → IsBytes (take n bytes)
IsBytes-take n bytes h i = grind (arith, get_or-take, get_or_past, length-take)

pub u16_at-lt : (i : ℕ) (b : List ℕ) → IsBytes b → u16_at i b < 2 ^ 16
unfolding u16_at
u16_at-lt i b h = little_from-lt 0 2 (drop i b) (IsBytes-drop i b h)

pub u32_at-lt : (i : ℕ) (b : List ℕ) → IsBytes b → u32_at i b < 2 ^ 32
unfolding u32_at
u32_at-lt i b h = little_from-lt 0 4 (drop i b) (IsBytes-drop i b h)

-- what stands from an offset on begins with the spelling of the number there
number_back : (n i : ℕ) (b : List ℕ) → little_bytes n (little_number n (drop i b)) ≡ take n (drop i b) → drop i b ≡ little_bytes n (little_number n (drop i b)) ++ drop (i + n) b
number_back n i b back = cc (take-append-drop n (drop i b), drop-drop n i b)

pub u16_back : (i : ℕ) (b : List ℕ) → IsBytes b → i + 2 ≤ length b → drop i b ≡ little_bytes 2 (u16_at i b) ++ drop (i + 2) b
unfolding u16_at
u16_back i b h le =
    let d : List ℕ = drop i b in
    number_back 2 i b (le_bytes_2 (take 2 d) (little_number 2 d) (omega (arith, length-take 2 d, length-drop i b)) (IsBytes-take 2 d (IsBytes-drop i b h))
    (omega (arith, little_from-take 0 2 2 d (omega arith))))

pub u32_back : (i : ℕ) (b : List ℕ) → IsBytes b → i + 4 ≤ length b → drop i b ≡ little_bytes 4 (u32_at i b) ++ drop (i + 4) b
unfolding u32_at
u32_back i b h le =
    let d : List ℕ = drop i b in
    number_back 4 i b (le_bytes_4 (take 4 d) (little_number 4 d) (omega (arith, length-take 4 d, length-drop i b)) (IsBytes-take 4 d (IsBytes-drop i b h))
    (omega (arith, little_from-take 0 4 4 d (omega arith))))

-- a number after some bytes
pub u16_read : (i : ℕ) (prefix : List ℕ) (x : ℕ) (rest : List ℕ) → length prefix ≡ i → x < 2 ^ 16 → u16_at i (prefix ++ (little_bytes 2 x ++ rest)) ≡ x
unfolding u16_at
u16_read i prefix x rest e lt = ap (little_number 2) (drop_at prefix (little_bytes 2 x ++ rest) i e) ∙ little_number-reads_back 2 x rest lt

-- Fronts and rests of lists that were put together from pieces.

pub take_split : (n : ℕ) (xs ys : List ℕ) → take n (xs ++ ys) ≡ take n xs ++ take (n - length xs) ys
take_split zero xs ys = ap (λ (k : ℕ). take k ys) (let e : 0 ≡ 0 - length xs = omega arith in e)
take_split (suc n) [] ys = ap (λ (k : ℕ). take k ys) (let e : suc n ≡ suc n - 0 = omega arith in e)
take_split (suc n) (x ∷ xs) ys = ap (λ (l : List ℕ). x ∷ l) (take_split n xs ys) ∙ ap (λ (k : ℕ). x ∷ (take n xs ++ take k ys)) (let e : n - length xs ≡ suc n - suc (length xs) = omega arith in e)

-- what a room of n bytes holds once a piece was put after its first c
pub gathered : (n c t : ℕ) (xs p r : List ℕ) → length xs ≡ n → c ≤ n → t ≡ min (n - c) (length p) → take (c + t) (take c xs ++ (take t p ++ r)) ≡ take n (take c xs ++ p)
gathered n c t xs p r len le is = grind (arith, length-take, length-append, append_assoc, take_at, take_all, take_min, take_split)
