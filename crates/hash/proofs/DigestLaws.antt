-- How long a digest is. Assumes nothing.
use Rattle.std.proofs.Common.{◌≡◌, ℕ, zero, suc, ◌*◌, List, [], ◌∷◌, length, get_or, refl, ◌∙◌, arith, length-append}
use Rattle.base.specs.Bytes.{big_endian, in_bytes}
use Rattle.base.proofs.Bytes.{length_big_endian}
use Rattle.base.proofs.Fill.{length_tabulate}
use Rattle.sha256_block.specs.Block.{◌⊞◌, schedule, words, rounds, sums, compress}
use Rattle.hash.specs.Sha256.{H₀, block, hash_value, digest}

pub length_value : (m : List ℕ) (n : ℕ) → length (hash_value H₀ m n) ≡ 8
unfolding hash_value compress sums H₀
length_value m zero = refl
length_value m (suc n) =
    let h = hash_value H₀ m n in
    length_tabulate (λ i. get_or (rounds 64 (schedule 48 (words (block m n))) h) i 0 ⊞ get_or h i 0) 8

pub length_digest : (h : List ℕ) → length (digest h) ≡ 4 * length h
unfolding digest in_bytes
length_digest [] = refl
length_digest (w ∷ h) = length-append (big_endian 4 w) (in_bytes 4 h) ∙ omega (arith, length_big_endian 4 w, length_digest h)
