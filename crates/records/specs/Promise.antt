-- What the functions below a load promise one another.
use Rattle.std.specs.Prelude.{ℕ, List, [], ◌∷◌, ◌++◌}
use Rattle.std.proofs.Math.Option.{Option, none, some}
use Rattle.grammar.specs.Listing.{RecordType, ResourceRecord}
use Rattle.slots.specs.Fields.{bare, with_field}
use Rattle.slots.specs.Form.{TableEntry}
use Rattle.slots.specs.declared.Rtype.{Rtype}
use Rattle.slots.specs.declared.Rtype.TheVariants as rtype
use Rattle.table.specs.Steps.{find, changed}

-- the type by the name that `slots` has for it
abbrev pub rtype_of : RecordType → Rtype
rtype_of RecordType.A = rtype.A
rtype_of RecordType.AAAA = rtype.Aaaa
rtype_of RecordType.DHCID = rtype.Dhcid

-- a table with the bytes x in a field under the name n, which stands last if it is new
abbrev pub written_by : Option TableEntry → List ℕ → Rtype → List ℕ → List TableEntry → List TableEntry
written_by none n k x t = t ++ with_field k x (bare n) ∷ []
written_by (some e) n k x t = changed n (with_field k x) t

unfoldable pub written : List ℕ → Rtype → List ℕ → List TableEntry → List TableEntry
written n k x t = written_by (find n t) n k x t

-- a table with the record r under its owner
unfoldable pub stored : ResourceRecord → List TableEntry → List TableEntry
stored r t = written r.owner (rtype_of r.rtype) r.rdata t
