-- What a request says: the refusal that it gets; or the client's identifier (RFC 4701, 3.3 and 3.5) and the name that the client asks for, both as parts of the message.
use Rattle.std.specs.Prelude.{ℕ, ◌+◌, ◌≤◌, Bool, true, false, List, ◌++◌, length, take, drop}
use Rattle.std.proofs.Math.Option.{Option, none, some}
use Rattle.base.specs.Refusal.{no_identifier}
use Rattle.message.specs.declared.Part.{Part}
use Rattle.message.specs.declared.Request.{Request}

-- the bytes of a part of the message m
unfoldable pub bytes_of : List ℕ → Part → List ℕ
bytes_of m p = take p.len (drop p.start m)

-- the part lies within the message m
abbrev pub Inside : List ℕ → Part → Type 0
Inside m p = p.start + p.len ≤ length m

abbrev pub no_part : Part
no_part = record { start = 0; len = 0 }

-- on a refusal all else is zero
unfoldable pub refused_request : ℕ → Request
refused_request n = record { refusal = n; id_type = 0; id_head = no_part; id = no_part; has_name = false; name = no_part }

-- ---- the identifier

-- its type code (RFC 4701, 3.3), and its bytes in two parts, one after the other. Only a hardware address has a first part, its type
pub record Identifier : Type 0 where
  pub type : ℕ
  pub head : Part
  pub rest : Part

-- the bytes that are hashed
unfoldable pub identifier_bytes : List ℕ → Request → List ℕ
identifier_bytes m r = bytes_of m r.id_head ++ bytes_of m r.id

-- ---- a request that is accepted

abbrev pub has_name : Option Part → Bool
has_name none = false
has_name (some p) = true

abbrev pub name_part : Option Part → Part
name_part none = no_part
name_part (some p) = p

unfoldable pub accepted : Identifier → Option Part → Request
accepted i name = record { refusal = 0; id_type = i.type; id_head = i.head; id = i.rest; has_name = has_name name; name = name_part name }

-- 8 where there is no identifier
abbrev pub identified : Option Identifier → Option Part → Request
identified none name = refused_request no_identifier
identified (some i) name = accepted i name
