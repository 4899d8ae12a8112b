-- What the steps of reading a DHCPv4 message promise one another: what is kept of the four options that a request is judged by, and the judgement from that.
use Rattle.std.specs.Prelude.{ℕ, ◌+◌, ◌≤◌, ◌<◌, Bool, true, cond, ◌||◌, ◌≡◌, List, eqb, length, take, drop}
use Rattle.std.proofs.Math.Option.{Option, none, some}
use Rattle.base.specs.Logic.{Every}
use Rattle.base.specs.Refusal.{option_repeated, option_overload, not_a_request, no_identifier}
use Rattle.message.specs.Options.{Located, having}
use Rattle.message.specs.Request.{bytes_of, Inside, refused_request, Identifier, has_name, name_part}
use Rattle.message.specs.Seen.{seen_of, met}
use Rattle.message.specs.declared.Part.{Part}
use Rattle.message.specs.declared.Request.{Request}
use Rattle.message.specs.declared.seen.Seen.{Seen}
use Rattle.message4.specs.Message4.{is_request, identifier4, name4}
use Rattle.message4.specs.declared.Wanted.{Wanted}
use Rattle.message4.specs.declared.Name.{Name}

-- ---- the four options

-- what is kept of them once the options ls have been passed
unfoldable pub wanted_of : List Located → Wanted
wanted_of ls = record { overload = seen_of (having 52 ls); message_type = seen_of (having 53 ls); client_id = seen_of (having 61 ls); client_fqdn = seen_of (having 81 ls) }

-- one more option, if it has the code
abbrev pub met_if : Bool → Seen → Part → Seen
met_if t s p = cond t (met s p) s

unfoldable pub noted : Wanted → ℕ → Part → Wanted
noted w code p =
    record {
      overload = met_if (eqb code 52) w.overload p;
      message_type = met_if (eqb code 53) w.message_type p;
      client_id = met_if (eqb code 61) w.client_id p;
      client_fqdn = met_if (eqb code 81) w.client_fqdn p;
    }

-- ---- their data in the message m

-- the first of the options with a code lies within the message
abbrev pub SeenInside : List ℕ → Seen → Type 0
SeenInside m s = s.found ≡ true → Inside m s.part

pub record WantedInside (m : List ℕ) (w : Wanted) : Type 0 where
  pub overload : SeenInside m w.overload
  pub message_type : SeenInside m w.message_type
  pub client_id : SeenInside m w.client_id
  pub client_fqdn : SeenInside m w.client_fqdn

-- an option's data are the bytes of m where it says that they are; and as their length is a byte of m, it is 255 at most if those are bytes
pub record DataIn (m : List ℕ) (l : Located) : Type 0 where
  pub fits : l.start + length l.bytes ≤ length m
  pub «data» : l.bytes ≡ take (length l.bytes) (drop l.start m)
  pub short : Every (λ b. b < 256) m → length l.bytes ≤ 255

-- the option whose data are a part of m
abbrev pub data_at : List ℕ → ℕ → Part → Located
data_at m code p = record { code = code; start = p.start; bytes = bytes_of m p }

abbrev pub data_of : List ℕ → ℕ → Seen → Option Located
data_of m code s = cond s.found (some (data_at m code s.part)) none

-- ---- the judgement

abbrev pub as_name : Option Part → Name
as_name o = record { given = has_name o; part = name_part o }

-- `accepted` and `identified`, with the name as it is handed on
abbrev pub accepted_as : Identifier → Name → Request
accepted_as i name = record { refusal = 0; id_type = i.type; id_head = i.head; id = i.rest; has_name = name.given; name = name.part }

abbrev pub identified_as : Option Identifier → Name → Request
identified_as none name = refused_request no_identifier
identified_as (some i) name = accepted_as i name

unfoldable pub judged_by : List ℕ → Wanted → Request
judged_by m w =
    cond (w.overload.again || w.message_type.again || w.client_id.again || w.client_fqdn.again) (refused_request option_repeated)
    (cond w.overload.found (refused_request option_overload)
    (cond (is_request (data_of m 53 w.message_type))
    (identified_as (identifier4 m (data_of m 61 w.client_id)) (as_name (name4 (data_of m 81 w.client_fqdn))))
    (refused_request not_a_request)))
