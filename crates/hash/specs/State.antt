-- What the running hash promises, for every state, and what it then says of a message.
-- Document 01, "DHCID bytes and their text" (docs/RULES.md, 5.4): a state has the eight words of the hash value so far, the bytes that wait for a
-- whole block, and how many were taken.
use Rattle.std.specs.Prelude.{◌≡◌, ℕ, ◌+◌, ◌*◌, ◌/◌, ◌%◌, ◌^◌, List, ◌++◌, length, take, drop}
use Rattle.hash.specs.Sha256.{H₀, hash_value}
use Rattle.hash.specs.declared.Sha256.{Sha256}

-- the bytes that wait for their block to be full; the rest of the block is left free
unfoldable pub waiting : Sha256 → List ℕ
waiting s = take (s.len % 64) s.block

-- the whole blocks of a list of bytes: how many there are, and what stands after them
unfoldable pub blocks : List ℕ → ℕ
blocks x = length x / 64

unfoldable pub remainder : List ℕ → List ℕ
remainder x = drop (blocks x * 64) x

-- what `begin` answers
pub record Begins (r : Sha256) : Type 0 where
  pub words : r.words ≡ H₀
  pub len : r.len ≡ 0

-- what `take` answers of the bytes x: the whole blocks of what waits and x are hashed, and what stands after them waits
pub record Takes (s : Sha256) (x : List ℕ) (r : Sha256) : Type 0 where
  pub words : r.words ≡ hash_value s.words (waiting s ++ x) (blocks (waiting s ++ x))
  pub waits : waiting r ≡ remainder (waiting s ++ x)
  pub len : r.len ≡ (s.len + length x) % 2 ^ 64

-- s is the state of the message m: m's whole blocks are hashed, from FIPS' initial value on, what stands after them waits, and m is counted
pub record StateOf (m : List ℕ) (s : Sha256) : Type 0 where
  pub words : s.words ≡ hash_value H₀ m (blocks m)
  pub waits : waiting s ≡ remainder m
  pub len : s.len ≡ length m % 2 ^ 64
