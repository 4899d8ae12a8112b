-- A stored block: 480 bytes, and their SHA-256 behind them. Document 02, K5 (docs/RULES.md, 11.1): the check of a block of the book of names.
use Rattle.std.specs.Prelude.{ℕ, ◌≡◌, List, ◌++◌, take}
use Rattle.hash.specs.Sha256.{sha256}

-- the bytes that are checked, and those of a block with its check
abbrev pub body_size : ℕ
body_size = 480

abbrev pub block_size : ℕ
block_size = 512

-- the bytes x with their check
unfoldable pub sealed : List ℕ → List ℕ
sealed x = x ++ sha256 x

-- the check of the block b is that of its first 480 bytes
unfoldable pub IsSealed : List ℕ → Type 0
IsSealed b = b ≡ sealed (take body_size b)
