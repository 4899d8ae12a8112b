-- DHCPv6 requests, one level inside another. Document 01, "Messages", DHCPv6, and "Names" (docs/RULES.md, 4.3, 4.4 and 3.4); RFC 8415, 8 and 9
-- (headers), 11.1 (how long a DUID is), 21.2 and 21.10, RFC 4704, 4.
use Rattle.std.specs.Prelude.{ℕ, suc, ◌+◌, ◌-◌, ◌≤◌, ◌<◌, Bool, true, false, cond, ◌&&◌, ◌||◌, ◌≡◌, List, [], ◌∷◌, leb, eqb, length, drop}
use Rattle.std.proofs.Math.Option.{Option, none, some}
use Rattle.base.specs.Refusal.{message_length, options_malformed, option_repeated, not_a_request, too_many_relays}
use Rattle.message.specs.Options.{Located, having, is_repeated, option_of}
use Rattle.message.specs.Request.{refused_request, no_part, Identifier, identified}
use Rattle.message.specs.declared.Part.{Part}
use Rattle.message.specs.declared.Request.{Request}
use Rattle.message6.specs.Options6.{Option6, Options6, located6}

-- ---- one level

-- Request, Renew and Rebind
unfoldable pub is_request_type : ℕ → Bool
is_request_type type = eqb type 3 || eqb type 5 || eqb type 6

-- Relay-forward
abbrev pub relay_forward : ℕ
relay_forward = 12

-- where a level's options begin: after type and transaction id, or after a relay's hop count and two addresses
unfoldable pub header : ℕ → ℕ
header type = cond (eqb type relay_forward) 34 4

-- the level, of this type and of the bytes b, is as long as its header, and its options fill the rest
pub record Filled (type : ℕ) (b : List ℕ) (os : List Option6) : Type 0 where
  pub long : header type ≤ length b
  pub options : Options6 (drop (header type) b) os

-- ---- the client's message

-- option 1 is the DUID, type 2: of 3 to 130 bytes
abbrev pub identifier6 : Option Located → Option Identifier
identifier6 none = none
identifier6 (some l) =
    cond (leb 3 (length l.bytes) && leb (length l.bytes) 130) (some (record { type = 2; head = no_part; rest = record { start = l.start; len = length l.bytes } })) none

-- RFC 4704, 4: option 39 is a byte of flags and the name
abbrev pub name6 : Option Located → Option Part
name6 none = none
name6 (some l) = cond (leb 1 (length l.bytes)) (some (record { start = l.start + 1; len = length l.bytes - 1 })) none

-- 5, then 8; else the request
unfoldable pub judge6 : List Located → Request
judge6 ls =
    cond (is_repeated 1 ls || is_repeated 39 ls) (refused_request option_repeated) (identified (identifier6 (option_of 1 ls)) (name6 (option_of 39 ls)))

-- ---- levels, working inwards

-- a level with k relays around it, whose bytes b start at the offset at of the message, is answered with r: 4 for no bytes, 7, 11 for a ninth relay, 4 for its length
-- and its options; of a relay 4 and 5 for its Relay Message option, 9; and only then what is inside that option, or what the client's options say
pub data Level : ℕ → ℕ → List ℕ → Request → Type 0 where
  no_bytes : {k at : ℕ} → Level k at [] (refused_request options_malformed)
  other_type : {k at : ℕ} {type : ℕ} {b : List ℕ} → is_request_type type ≡ false → eqb type relay_forward ≡ false → Level k at (type ∷ b) (refused_request not_a_request)
  ninth_relay : {k at : ℕ} {b : List ℕ} → 8 ≤ k → Level k at (relay_forward ∷ b) (refused_request too_many_relays)
  malformed_relay : {k at : ℕ} {b : List ℕ} → k < 8 → ((os : List Option6) → Filled relay_forward (relay_forward ∷ b) os → ⊥) → Level k at (relay_forward ∷ b) (refused_request options_malformed)
  nothing_relayed : {k at : ℕ} {b : List ℕ} {os : List Option6} → k < 8 → Filled relay_forward (relay_forward ∷ b) os → having 9 (located6 (at + 34) os) ≡ []
      → Level k at (relay_forward ∷ b) (refused_request options_malformed)
  relayed_twice : {k at : ℕ} {b : List ℕ} {os : List Option6} → k < 8 → Filled relay_forward (relay_forward ∷ b) os → is_repeated 9 (located6 (at + 34) os) ≡ true
      → Level k at (relay_forward ∷ b) (refused_request option_repeated)
  relayed : {k at : ℕ} {b : List ℕ} {os : List Option6} {l : Located} {r : Request} → k < 8 → Filled relay_forward (relay_forward ∷ b) os → having 9 (located6 (at + 34) os) ≡ l ∷ []
      → Level (suc k) l.start l.bytes r → Level k at (relay_forward ∷ b) r
  malformed : {k at : ℕ} {type : ℕ} {b : List ℕ} → is_request_type type ≡ true → ((os : List Option6) → Filled type (type ∷ b) os → ⊥) → Level k at (type ∷ b) (refused_request options_malformed)
  client : {k at : ℕ} {type : ℕ} {b : List ℕ} {os : List Option6} → is_request_type type ≡ true → Filled type (type ∷ b) os → Level k at (type ∷ b) (judge6 (located6 (at + 4) os))

-- ---- the whole message

pub data Reads6 (m : List ℕ) : Request → Type 0 where
  too_short : length m < 4 → Reads6 m (refused_request message_length)
  too_long : 2048 < length m → Reads6 m (refused_request message_length)
  levels : {r : Request} → 4 ≤ length m → length m ≤ 2048 → Level 0 0 m r → Reads6 m r
