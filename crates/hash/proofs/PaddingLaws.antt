-- Laws of a message's padding. Assumes nothing.
use Rattle.std.proofs.Common.{◌≡◌, ℕ, ◌+◌, ◌-◌, ◌*◌, ◌%◌, ◌^◌, ◌≤◌, List, ◌∷◌, ◌++◌, length, take, replicate, ap, ◌∙◌, ap₂, one-add, arith}
use lib.ListN.{length-replicate}
use Rattle.base.specs.Bytes.{big_endian, overlay}
use Rattle.base.proofs.Bytes.{take_overlay, take_replicate}
use Rattle.hash.specs.Sha256.{zero_bytes, padding}

-- a length modulo 2 ^ 64 has the padding of the length
pub padding_modulo : (n : ℕ) → padding (n % 2 ^ 64) ≡ padding n
unfolding padding zero_bytes
padding_modulo n =
    let zeros : (119 - n % 2 ^ 64 % 64) % 64 ≡ (119 - n % 64) % 64 = omega arith in
    let bits : 8 * (n % 2 ^ 64) % 2 ^ 64 ≡ 8 * n % 2 ^ 64 = omega arith in
    λ i. 0x80 ∷ replicate (zeros i) 0 ++ big_endian 8 (bits i)

-- the length in bits, b, written into the byte 0x80 and k zeros, right after as many zeros as there are to be
pub padding_written : (n k : ℕ) (b : List ℕ) → b ≡ big_endian 8 (n * 8 % 2 ^ 64) → length b ≡ 8 → 63 ≤ k
    → take (9 + zero_bytes n) (overlay (0x80 ∷ replicate k 0) (1 + zero_bytes n) b) ≡ padding n
unfolding padding zero_bytes
padding_written n k b e long fits =
    let z : ℕ = (119 - n % 64) % 64 in
    let p : List ℕ = 0x80 ∷ replicate k 0 in
    let size : 9 + z ≡ 1 + z + length b = omega arith in
    let within : 1 + z ≤ length p = omega (arith, length-replicate {A = ℕ} k 0) in
    let bits : n * 8 % 2 ^ 64 ≡ 8 * n % 2 ^ 64 = omega arith in
    ap (λ (l : ℕ). take l (overlay p (1 + z) b)) size
    ∙ take_overlay p (1 + z) b within
    ∙ ap₂ ◌++◌
    (ap (λ (l : ℕ). take l p) (one-add z) ∙ ap (λ (l : List ℕ). 0x80 ∷ l) (take_replicate z k 0 (omega arith)))
    (e ∙ ap (big_endian 8) bits)
