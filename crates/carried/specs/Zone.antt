-- A zone, as RFC 2136, section 3, looks at it and changes it: a list of nodes, each a name in use with its records. A record's lifetime is left out, since it
-- is no part of what makes two records the same (1.1.1); so are the zone's SOA and NS, which our messages neither ask for nor change. The RFC gives the names
-- no order; this one is the table's: a name that stands keeps its place, a new one stands last, and one with no record left is not in use.
use Rattle.std.specs.Prelude.{ℕ, zero, suc, Bool, true, false, cond, not, ◌||◌, List, [], ◌∷◌, ◌++◌, eqb}
use Rattle.base.specs.Bytes.{eq_bytes}
use Rattle.name.specs.Name.{canonical}

-- a record of a name
pub record Datum : Type 0 where
  pub rtype : ℕ
  pub rdata : List ℕ

-- a name, in canonical form, and its records
pub record Node : Type 0 where
  pub name : List ℕ
  pub records : List Datum

abbrev pub Zone : Type 0
Zone = List Node

abbrev pub is_empty : {A : Type 0} → List A → Bool
is_empty [] = true
is_empty (x ∷ xs) = false

-- ---- what stands

-- the records of a name
unfoldable pub records_at : List ℕ → Zone → List Datum
records_at n [] = []
records_at n (x ∷ z) = cond (eq_bytes x.name n) x.records (records_at n z)

-- the data of those of one type
unfoldable pub of_type : ℕ → List Datum → List (List ℕ)
of_type t [] = []
of_type t (d ∷ ds) = cond (eqb d.rtype t) (d.rdata ∷ of_type t ds) (of_type t ds)

-- 3.2.5's zone_name<n>: a record of that name stands
unfoldable pub in_use : List ℕ → Zone → Bool
in_use n z = not (is_empty (records_at n z))

-- 3.2.5's zone_rrset<n, t>: the record set of that name and type, by its data
unfoldable pub set_at : List ℕ → ℕ → Zone → List (List ℕ)
set_at n t z = of_type t (records_at n z)

-- ---- what changes

-- one record more at a name
unfoldable pub with_record : List ℕ → Datum → Zone → Zone
with_record n d [] = record { name = n; records = d ∷ [] } ∷ []
with_record n d (x ∷ z) = cond (eq_bytes x.name n) (record { name = n; records = x.records ++ d ∷ [] } ∷ z) (x ∷ with_record n d z)

-- records without those that a test picks out
unfoldable pub less_those : (Datum → Bool) → List Datum → List Datum
less_those those [] = []
less_those those (d ∷ ds) = cond (those d) (less_those those ds) (d ∷ less_those those ds)

-- a node, if there is a record
abbrev pub node_of : List ℕ → List Datum → Zone → Zone
node_of n [] z = z
node_of n (d ∷ ds) z = record { name = n; records = d ∷ ds } ∷ z

-- those records gone from a name
unfoldable pub without_those : List ℕ → (Datum → Bool) → Zone → Zone
without_those n those [] = []
without_those n those (x ∷ z) = cond (eq_bytes x.name n) (node_of n (less_those those x.records) z) (x ∷ without_those n those z)

-- ---- names in the zone

-- the rest of a name, from one of its labels on, or its last byte, is the zone; k bytes are to come of a label that was begun
unfoldable pub ends_in : List ℕ → ℕ → List ℕ → Bool
ends_in zone k [] = false
ends_in zone zero (b ∷ n) = eq_bytes (b ∷ n) zone || ends_in zone b n
ends_in zone (suc k) (b ∷ n) = ends_in zone k n

-- 1.2: a name is in the zone if it is the zone's name or below it; letters in either case (1.1.2). `Theorems` says that this is `Within`
unfoldable pub in_zone : List ℕ → List ℕ → Bool
in_zone zone n = ends_in zone 0 (canonical n)
