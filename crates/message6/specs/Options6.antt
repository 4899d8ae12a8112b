-- The options of DHCPv6 messages: which bytes they are, and where their data stand. Document 01, "Messages" (docs/RULES.md, 4.3); RFC 8415, 21.1.
-- Options are told by the bytes that are written for them; that no bytes are those of two lists of options is a theorem.
use Rattle.std.specs.Prelude.{ℕ, ◌+◌, ◌<◌, ◌^◌, ◌≡◌, List, [], ◌∷◌, ◌++◌, length}
use Rattle.base.specs.Bytes.{big_endian}
use Rattle.base.specs.Logic.{Every}
use Rattle.message.specs.Options.{Located}

pub record Option6 : Type 0 where
  pub code : ℕ
  pub bytes : List ℕ

-- code and length are two bytes each, the high byte first
unfoldable pub bytes6 : Option6 → List ℕ
bytes6 o = big_endian 2 o.code ++ big_endian 2 (length o.bytes) ++ o.bytes

unfoldable pub written6 : List Option6 → List ℕ
written6 [] = []
written6 (o ∷ os) = bytes6 o ++ written6 os

-- the bytes b are the options os, and nothing more
pub record Options6 (b : List ℕ) (os : List Option6) : Type 0 where
  pub cut : b ≡ written6 os
  pub codes : Every (λ o. o.code < 2 ^ 16) os
  pub lengths : Every (λ o. length o.bytes < 2 ^ 16) os

-- ---- where they stand

-- the options that start at the offset at
unfoldable pub located6 : ℕ → List Option6 → List Located
located6 at [] = []
located6 at (o ∷ os) = record { code = o.code; start = at + 4; bytes = o.bytes } ∷ located6 (at + 4 + length o.bytes) os
