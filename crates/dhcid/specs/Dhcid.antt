-- The DHCID of a request. RFC 4701, 3.1 (the data's form), 3.3 (identifier types), 3.4 (digest type 1, SHA-256) and 3.5 (what is hashed); document
-- 01, "DHCID bytes and their text" (docs/RULES.md, 5.1).
use Rattle.std.specs.Prelude.{ℕ, ◌+◌, ◌≤◌, ◌<◌, ◌≡◌, List, ◌∷◌, ◌++◌, length}
use Rattle.base.specs.Bytes.{big_endian, overlay}
use Rattle.base.specs.Refusal.{output_short, hash_input_long}
use Rattle.base.specs.declared.Answer.{Answer}
use Rattle.base.specs.declared.Answer.TheVariants.{Accepted, Refused}
use Rattle.hash.specs.Sha256.{sha256}
use Rattle.name.specs.Name.{canonical}
use Rattle.message.specs.Request.{identifier_bytes}
use Rattle.message.specs.declared.Request.{Request}
use Rattle.dhcid.specs.Chosen.{Says, Chooses, name_bytes}
use Rattle.dhcid.specs.declared.Chosen.{Chosen}

-- the DHCID of an identifier's type and bytes and of a name in wire form: two bytes of type, high byte first, digest type 1, and the digest of the identifier
-- followed by the canonical name
unfoldable pub dhcid : ℕ → List ℕ → List ℕ → List ℕ
dhcid type identifier name = big_endian 2 type ++ 1 ∷ sha256 (identifier ++ canonical name)

-- the DHCID of the request r, which the message m says, under the chosen name
unfoldable pub dhcid_of : List ℕ → List ℕ → Request → Chosen → List ℕ
dhcid_of m site r c = dhcid r.id_type (identifier_bytes m r) (name_bytes m site c)

-- what is answered, and what the output then holds: the refusals of the choice, then 14, then 13, with the output as it was; else 35 bytes in its beginning
pub data WritesDhcid (family setting : ℕ) (m site out : List ℕ) : Answer → List ℕ → Type 0 where
  no_name : {c : Chosen} → Chooses family setting m site c → (c.refusal ≡ 0 → ⊥) → WritesDhcid family setting m site out (Refused c.refusal 0) out
  too_much : {r : Request} {c : Chosen} → Says family m r → Chooses family setting m site c → c.refusal ≡ 0
      → 4096 < length (identifier_bytes m r) + length (name_bytes m site c) → WritesDhcid family setting m site out (Refused hash_input_long 0) out
  no_room : {r : Request} {c : Chosen} → Says family m r → Chooses family setting m site c → c.refusal ≡ 0
      → length (identifier_bytes m r) + length (name_bytes m site c) ≤ 4096 → length out < 35 → WritesDhcid family setting m site out (Refused output_short 0) out
  written : {r : Request} {c : Chosen} → Says family m r → Chooses family setting m site c → c.refusal ≡ 0
      → length (identifier_bytes m r) + length (name_bytes m site c) ≤ 4096 → 35 ≤ length out → WritesDhcid family setting m site out (Accepted 35) (overlay out 0 (dhcid_of m site r c))
