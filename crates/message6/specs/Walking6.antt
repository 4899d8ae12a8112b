-- What the code keeps while it walks a level's options, and what its functions promise one another. A reader of what `read6` promises need not know it: that is
-- specs/Reading6.antt, and specs/Message6.antt.
-- An example, a Request with one option, the DUID 0 3 1: of the message 3 0 0 0, 0 1 0 3 0 3 1 the `part` from 4 up to 11 has one option, of code 1, whose three bytes start at 8. So
-- `level_seen` is filled, has seen a `duid` at 8 of 3 bytes, and no `relayed` and no `name`; and `judged` makes of it the request with that identifier and without a name.
use Rattle.std.specs.Prelude.{ℕ, ◌+◌, ◌-◌, Bool, true, false, cond, ◌&&◌, ◌||◌, List, [], leb, eqb, take, drop}
use Rattle.std.proofs.Math.Option.{Option, none, some}
use Rattle.base.specs.Refusal.{option_repeated, no_identifier}
use Rattle.message.specs.Options.{Located, having}
use Rattle.message.specs.Request.{refused_request, no_part}
use Rattle.message.specs.Seen.{seen_of, met}
use Rattle.message.specs.declared.Part.{Part}
use Rattle.message.specs.declared.Request.{Request}
use Rattle.message.specs.declared.seen.Seen.{Seen}
use Rattle.message6.specs.Reading6.{client, relay, level}
use Rattle.message6.specs.declared.LevelSeen.{LevelSeen}

-- ---- where a level stands

-- the bytes of a message from one offset up to another
unfoldable pub part : List ℕ → ℕ → ℕ → List ℕ
part m at end = take (end - at) (drop at m)

-- ---- what is kept of its options

-- the options with the codes 9, 1 and 39
unfoldable pub seen_in : List Located → LevelSeen
seen_in ls = record { filled = true; relayed = seen_of (having 9 ls); duid = seen_of (having 1 ls); name = seen_of (having 39 ls) }

-- no option of these
unfoldable pub nothing_seen : Bool → LevelSeen
nothing_seen filled = record { filled = filled; relayed = seen_of []; duid = seen_of []; name = seen_of [] }

unfoldable pub level_seen : Option (List Located) → LevelSeen
level_seen none = nothing_seen false
level_seen (some ls) = seen_in ls

-- one option more
unfoldable pub level_met : LevelSeen → ℕ → Part → LevelSeen
level_met s code p =
    record {
      filled = s.filled;
      relayed = cond (eqb code 9) (met s.relayed p) s.relayed;
      duid = cond (eqb code 1) (met s.duid p) s.duid;
      name = cond (eqb code 39) (met s.name p) s.name;
    }

-- ---- the client's message, by what was seen

abbrev pub accepted_with : Part → Bool → Part → Request
accepted_with id named name = record { refusal = 0; id_type = 2; id_head = no_part; id = id; has_name = named; name = name }

-- option 1 is there, and is a DUID of 3 to 130 bytes
abbrev pub is_duid : Seen → Bool
is_duid s = s.found && leb 3 s.part.len && leb s.part.len 130

-- option 39 is there, and is not empty
abbrev pub is_name : Seen → Bool
is_name s = s.found && leb 1 s.part.len

-- a byte of flags stands before the name
abbrev pub name_in : Part → Part
name_in p = record { start = p.start + 1; len = p.len - 1 }

unfoldable pub judged : LevelSeen → Request
judged s =
    cond (s.duid.again || s.name.again) (refused_request option_repeated)
    (cond (is_duid s.duid) (cond (is_name s.name) (accepted_with s.duid.part true (name_in s.name.part)) (accepted_with s.duid.part false no_part))
    (refused_request no_identifier))

-- ---- one level

-- a level's options, of a relay or of the client's message, where n relays are still allowed inside
unfoldable pub walked : Bool → ℕ → Option (List Located) → Request
walked relaying n os = cond relaying (relay (λ l. level n l.start l.bytes) os) (client os)
