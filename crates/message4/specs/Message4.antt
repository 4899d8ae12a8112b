-- DHCPv4 requests. Document 01, "Messages", DHCPv4, and "Names" (docs/RULES.md, 4.1, 4.2 and 3.4); RFC 2131, 2 (the header), RFC 2132, 9.3, 9.6 and
-- 9.14, RFC 4361, 6.1, RFC 4702, 2.
use Rattle.std.specs.Prelude.{ℕ, ◌+◌, ◌-◌, ◌/◌, ◌%◌, ◌≤◌, ◌<◌, Bool, false, cond, ◌&&◌, ◌||◌, ◌≡◌, List, [], ◌∷◌, leb, eqb, length, get_or, take, drop}
use Rattle.std.proofs.Math.Option.{Option, none, some}
use Rattle.base.specs.Refusal.{message_length, not_bootrequest, hardware_address_length, options_malformed, option_repeated, option_overload, not_a_request}
use Rattle.message.specs.Options.{Located, having, is_repeated, option_of}
use Rattle.message.specs.Request.{refused_request, no_part, Identifier, identified}
use Rattle.message.specs.declared.Part.{Part}
use Rattle.message.specs.declared.Request.{Request}
use Rattle.message4.specs.Options4.{Field4, Options4, located4}

-- ---- the header

-- op is 1, BOOTREQUEST, and the magic cookie stands before the options
pub record Bootrequest (m : List ℕ) : Type 0 where
  pub op : get_or m 0 0 ≡ 1
  pub cookie : take 4 (drop 236 m) ≡ 99 ∷ 130 ∷ 83 ∷ 99 ∷ []

-- htype at byte 1, hlen at byte 2, chaddr from byte 28 on
unfoldable pub hlen : List ℕ → ℕ
hlen m = get_or m 2 0

-- refusals 1, 2 and 3 are not given
pub record Header4 (m : List ℕ) : Type 0 where
  pub least : 240 ≤ length m
  pub most : length m ≤ 2048
  pub bootrequest : Bootrequest m
  pub address : hlen m ≤ 16

-- ---- what the options say

-- option 53 is the single byte 3, DHCPREQUEST
abbrev pub is_request : Option Located → Bool
is_request none = false
is_request (some l) = eqb (length l.bytes) 1 && eqb (get_or l.bytes 0 0) 3

-- RFC 4361, 6.1: option 61 that begins with 255 has four bytes of IAID and a DUID; document 01 (docs/RULES.md, 4.2): of 3 to 130 bytes
unfoldable pub has_duid : Located → Bool
has_duid l = eqb (get_or l.bytes 0 0) 255 && leb 8 (length l.bytes) && leb (length l.bytes) 135

-- the identifier: the DUID, type 2; else all of option 61, type 1, if it is two bytes or more; with no option 61 htype and hardware address, type 0, if it has one
abbrev pub identifier4 : List ℕ → Option Located → Option Identifier
identifier4 m (some l) =
    cond (has_duid l) (some (record { type = 2; head = no_part; rest = record { start = l.start + 5; len = length l.bytes - 5 } }))
    (cond (leb 2 (length l.bytes)) (some (record { type = 1; head = no_part; rest = record { start = l.start; len = length l.bytes } })) none)
identifier4 m none =
    cond (eqb (hlen m) 0) none (some (record { type = 0; head = record { start = 1; len = 1 }; rest = record { start = 28; len = hlen m } }))

-- RFC 4702, 2: flags, RCODE1 and RCODE2 (2.2: a server ignores them), the name. Flag 4 (E) says that it is in wire form
unfoldable pub has_wire_name : Located → Bool
has_wire_name l = leb 3 (length l.bytes) && eqb (get_or l.bytes 0 0 / 4 % 2) 1

abbrev pub name4 : Option Located → Option Part
name4 none = none
name4 (some l) = cond (has_wire_name l) (some (record { start = l.start + 3; len = length l.bytes - 3 })) none

-- the options' refusals in their order, 5, 6, 7, 8; else the request
unfoldable pub judge4 : List ℕ → List Located → Request
judge4 m ls =
    cond (is_repeated 52 ls || is_repeated 53 ls || is_repeated 61 ls || is_repeated 81 ls) (refused_request option_repeated)
    (cond (leb 1 (length (having 52 ls))) (refused_request option_overload)
    (cond (is_request (option_of 53 ls)) (identified (identifier4 m (option_of 61 ls)) (name4 (option_of 81 ls))) (refused_request not_a_request)))

-- ---- the whole message

-- the message m is answered with r: 1, 2, 3 and 4 in this order, and then what the options say
pub data Reads4 (m : List ℕ) : Request → Type 0 where
  too_short : length m < 240 → Reads4 m (refused_request message_length)
  too_long : 2048 < length m → Reads4 m (refused_request message_length)
  no_bootrequest : 240 ≤ length m → length m ≤ 2048 → (Bootrequest m → ⊥) → Reads4 m (refused_request not_bootrequest)
  long_address : 240 ≤ length m → length m ≤ 2048 → Bootrequest m → 16 < hlen m → Reads4 m (refused_request hardware_address_length)
  malformed : Header4 m → ((fs : List Field4) → Options4 (drop 240 m) fs → ⊥) → Reads4 m (refused_request options_malformed)
  judged : {fs : List Field4} → Header4 m → Options4 (drop 240 m) fs → Reads4 m (judge4 m (located4 240 fs))
