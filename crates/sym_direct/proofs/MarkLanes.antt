-- Bytes that are looked at together: those before the first mark or 0.
use Rattle.std.proofs.Common.{◌≡◌, ℕ, ◌+◌, ◌-◌, ◌%◌, ◌^◌, ◌<◌, ◌≤◌, ◌==◌, if◌then◌else◌, leb, not, cond, List, map, length, get_or, replicate, w8, ap, ◌∙◌, subst, arith}
use Rattle.std.proofs.lemmas.Bool.{not-true, leb-false}
use Rattle.std.proofs.lemmas.Simd.{bitmask_splat, first_set_mask_l, length-chunk, get_or-chunk}
use Rattle.std.proofs.lemmas.List.Sums.{prefix_len-le-length, prefix_len_passes}
use Rattle.std.specs.Int.{w64, trailing_zeros}
use Rattle.std.specs.List.{prefix_len}
use lib.Lanes.{chunk, zip2, mask_l, top}

-- the lanes before the first that is set are as many as the bytes before the first mark or 0
pub before-mark : (bytes : List ℕ) (at mask size : ℕ) → at + 16 ≤ length bytes
    → mask ≡ mask_l (map (top 7) (zip2 (λ a b. cond (leb a b) 255 0) (chunk at 16 bytes) (replicate 16 2))) % 2 ^ 64
    → size ≡ (if mask == 0 then 16 else trailing_zeros w64 mask)
    → size ≡ prefix_len (λ byte. not (leb byte 2)) (chunk at 16 bytes)
before-mark bytes at mask size room masked counted =
    let long = length-chunk at 16 bytes room in
    counted
    ∙ ap (λ m. if m == 0 then 16 else trailing_zeros w64 m) (masked ∙ bitmask_splat w8 leb (chunk at 16 bytes) 16 2 long (omega arith))
    ∙ first_set_mask_l (λ byte. leb byte 2) (chunk at 16 bytes) 16 long (omega arith)

pub before-few : (bytes : List ℕ) (at size : ℕ) → at + 16 ≤ length bytes → size ≡ prefix_len (λ byte. not (leb byte 2)) (chunk at 16 bytes) → size ≤ 16
before-few bytes at size room counted =
    omega (arith, counted, length-chunk at 16 bytes room, prefix_len-le-length (λ byte. not (leb byte 2)) (chunk at 16 bytes))

-- each byte before the first mark or 0 is greater than the marks
pub before-each : (bytes : List ℕ) (at size : ℕ) → at + 16 ≤ length bytes → size ≡ prefix_len (λ byte. not (leb byte 2)) (chunk at 16 bytes)
    → (k : ℕ) → at ≤ k → k < at + size → 2 < get_or bytes k 0
before-each bytes at size room counted k low high =
    let n = k - at in
    let above : 2 < get_or bytes (at + n) 0 =
    subst (λ byte. 2 < byte) (get_or-chunk at 16 bytes n 0 (omega (arith, low, high, before-few bytes at size room counted)))
    (leb-false _ 2 (not-true _ (prefix_len_passes (λ byte. not (leb byte 2)) (chunk at 16 bytes) n 0 (omega (arith, counted, low, high))))) in
    subst (λ m. 2 < get_or bytes m 0) (omega (arith, low)) above
