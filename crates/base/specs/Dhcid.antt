-- Refusal 15's test of a DHCID's data. RFC 4701, 3.1: two bytes of identifier type, high byte first, one byte of digest type, the digest.
-- Document 01 (docs/RULES.md, 5.2) wants just 35 bytes, an identifier type that 3.3 defines (0, 1 or 2), and digest type 1, which 3.4 gives to SHA-256.
use Rattle.std.specs.Prelude.{ℕ, ◌+◌, ◌*◌, Bool, ◌&&◌, List, leb, eqb, length, get_or}

-- the identifier type, in bytes 0 and 1
unfoldable pub identifier_type : List ℕ → ℕ
identifier_type rdata = get_or rdata 0 0 * 256 + get_or rdata 1 0

-- the digest type, in byte 2
unfoldable pub digest_type : List ℕ → ℕ
digest_type rdata = get_or rdata 2 0

unfoldable pub well_formed : List ℕ → Bool
well_formed rdata = eqb (length rdata) 35 && leb (identifier_type rdata) 2 && eqb (digest_type rdata) 1
