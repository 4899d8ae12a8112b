-- The table that a list of records makes. Document 01, "The table" (docs/RULES.md, 7.7): loading a listing; at most one A, one AAAA and one DHCID a
-- name; names in order of first record. Refusal 35: a name has two records of one type.
use Rattle.std.specs.Prelude.{ℕ, ◌≤◌, Bool, cond, ◌&&◌, List, [], ◌∷◌, map, eqb, length}
use Rattle.base.specs.Bytes.{eq_bytes}
use Rattle.base.specs.Logic.{first_of}
use Rattle.grammar.specs.Listing.{RecordType, ResourceRecord}
use Rattle.entry.specs.Held.{type_number}
use Rattle.slots.specs.Form.{TableEntry}

-- ---- the records of one name

-- the record r has the owner n and the type k
unfoldable pub is_of : List ℕ → RecordType → ResourceRecord → Bool
is_of n k r = eq_bytes r.owner n && eqb (type_number r.rtype) (type_number k)

-- the data of all records that the name n has of the type k, in order
unfoldable pub data_of : List ℕ → RecordType → List ResourceRecord → List (List ℕ)
data_of n k [] = []
data_of n k (r ∷ rs) = cond (is_of n k r) (r.rdata ∷ data_of n k rs) (data_of n k rs)

-- no name has two records of one type: refusal 35 where this does not hold
unfoldable pub Single : List ResourceRecord → Type 0
Single rs = (n : List ℕ) (k : RecordType) → length (data_of n k rs) ≤ 1

-- ---- the table

-- names but for the name n
unfoldable pub except : List ℕ → List (List ℕ) → List (List ℕ)
except n [] = []
except n (m ∷ ns) = cond (eq_bytes m n) (except n ns) (m ∷ except n ns)

-- every owner once, in the order of their first records
unfoldable pub owners : List ResourceRecord → List (List ℕ)
owners [] = []
owners (r ∷ rs) = r.owner ∷ except r.owner (owners rs)

-- what the records rs put under the name n
unfoldable pub gathered : List ResourceRecord → List ℕ → TableEntry
gathered rs n = record { name = n; a = first_of (data_of n RecordType.A rs); aaaa = first_of (data_of n RecordType.AAAA rs); holder = first_of (data_of n RecordType.DHCID rs) }

unfoldable pub table_of : List ResourceRecord → List TableEntry
table_of rs = map (gathered rs) (owners rs)
