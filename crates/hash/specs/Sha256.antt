-- SHA-256 as FIPS 180-4 prints it, in its order and with its names; the numbers in the comments are its sections. Its functions and constants (3 and 4) and
-- what it does with one block are Block.antt of `sha256_block`.
-- Messages are of whole bytes. A byte is a number below 2 ^ 8; a message is a list of them. FIPS stops at messages of 2 ^ 64 bits: from there on the length field
-- here has the length modulo 2 ^ 64.
use Rattle.std.specs.Prelude.{◌≡◌, ℕ, zero, suc, ◌+◌, ◌-◌, ◌*◌, ◌/◌, ◌%◌, ◌^◌, ◌≤◌, List, [], ◌∷◌, ◌++◌, length, take, drop, replicate}
use Rattle.base.specs.Bytes.{big_endian, in_bytes}
use Rattle.sha256_block.specs.Block.{compress}

-- 5.1.1: k zero bits stand between the bit 1 and the length of a message of n bytes: the least k with l + 1 + k ≡ 448 mod 512, l its bits
pub record ZeroBits (n k : ℕ) : Type 0 where
  pub solves : (8 * n + 1 + k) % 512 ≡ 448
  pub least : (j : ℕ) → (8 * n + 1 + j) % 512 ≡ 448 → k ≤ j

-- 5.1.1, in bytes: the bit 1 and seven zero bits are the byte 0x80; then zero bytes (that these and the seven bits are k zero bits is the theorem
-- zero-bits); then the length in bits, in 64 bits
unfoldable pub zero_bytes : ℕ → ℕ
zero_bytes n = (119 - n % 64) % 64

unfoldable pub padding : ℕ → List ℕ
padding n = 0x80 ∷ replicate (zero_bytes n) 0 ++ big_endian 8 (8 * n % 2 ^ 64)

unfoldable pub padded : List ℕ → List ℕ
padded m = m ++ padding (length m)

-- 5.2.1: block i of a message, counted from 0
unfoldable pub block : List ℕ → ℕ → List ℕ
block m i = take 64 (drop (i * 64) m)

-- 5.3.3: the initial hash value
unfoldable pub H₀ : List ℕ
H₀ = 0x6a09_e667 ∷ 0xbb67_ae85 ∷ 0x3c6e_f372 ∷ 0xa54f_f53a ∷ 0x510e_527f ∷ 0x9b05_688c ∷ 0x1f83_d9ab ∷ 0x5be0_cd19 ∷ []

-- 6.2.2: H⁽ⁿ⁾, the hash value after the first n blocks of m, from h
unfoldable pub hash_value : List ℕ → List ℕ → ℕ → List ℕ
hash_value h m zero = h
hash_value h m (suc n) = compress (hash_value h m n) (block m n)

-- 6.2.2, at its end: the digest, the words' bytes one after the other
unfoldable pub digest : List ℕ → List ℕ
digest h = in_bytes 4 h

-- 6.2: SHA-256 of a message
unfoldable pub sha256 : List ℕ → List ℕ
sha256 m = digest (hash_value H₀ (padded m) (length (padded m) / 64))
